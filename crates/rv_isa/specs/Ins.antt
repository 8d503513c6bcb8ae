use Rattle.std.specs.Prelude.{ℕ, suc, Bool, true, pos, Option, Some, None}
use Rattle.rv_isa.specs.declared.ins.Ins.{Ins}
use Rattle.rv_isa.specs.declared.kind.Kind.TheVariants.{Addi}
use Rattle.rv_isa.specs.Kind.{class_of, writes_rd, reads_rs1, reads_rs2}

-- addi x0, x0, 0
abbrev pub nop : Ins
nop = record { kind = Addi; rd = 0; rs1 = 0; rs2 = 0; imm = pos 0 }

-- a register that an instruction names, where it has the field, other than x0
abbrev pub named_register : Bool → ℕ → Option ℕ
named_register true (suc r) = Some (suc r)
named_register _ _ = None

-- the register that an instruction writes
abbrev pub writes : Ins → Option ℕ
writes i = named_register (writes_rd (class_of i.kind)) i.rd

-- the registers that an instruction reads
abbrev pub reads : Ins → Option ℕ × Option ℕ
reads i = (named_register (reads_rs1 (class_of i.kind) i.kind) i.rs1, named_register (reads_rs2 (class_of i.kind) i.kind) i.rs2)
