-- What a step does to registers and pc where it touches no memory, by class (RISC-V unprivileged manual, "RV64I").
use Rattle.std.specs.Prelude.{◌≡◌, ℕ, ◌+◌, ◌*◌, ◌/◌, ◌%◌, ◌^◌, ◌⊎◌, cond, List, slice_index}
use Rattle.rv_isa.specs.declared.class.Class.TheVariants as class
use Rattle.rv_isa.specs.declared.kind.Kind.{Kind}
use Rattle.rv_isa.specs.declared.kind.Kind.TheVariants.{Jalr}
use Rattle.machine.specs.Values.{holds}
use Rattle.machine.specs.Step.{imm, target, computed_value, Class, Ins, set_reg}

-- the address of the next word
abbrev pub following : Ins → ℕ → List ℕ → ℕ
following i pc regs = (pc + 4) % 2 ^ 64

-- the registers after a computing instruction
abbrev pub computed : Ins → ℕ → List ℕ → List ℕ
computed i pc regs = set_reg i.rd (computed_value i.kind i pc regs) regs

-- the registers after an instruction that writes none
abbrev pub no_write : Ins → ℕ → List ℕ → List ℕ
no_write i pc regs = regs

-- the registers after a jump: rd has the address behind it
abbrev pub linked : Ins → ℕ → List ℕ → List ℕ
linked i pc regs = set_reg i.rd ((pc + 4) % 2 ^ 64) regs

-- where a branch goes: to the next word, where it is not taken
abbrev pub branched : Ins → ℕ → List ℕ → ℕ
branched i pc regs = cond (holds i.kind (slice_index regs i.rs1) (slice_index regs i.rs2)) (target i pc) ((pc + 4) % 2 ^ 64)

-- where a jump goes: JALR to rs1 + immediate with bit 0 cleared, where rs1 is what it was before rd was written
abbrev pub jump_target : Kind → Ins → ℕ → List ℕ → ℕ
jump_target Jalr i pc regs = (slice_index regs i.rs1 + imm i) % 2 ^ 64 / 2 * 2
jump_target _ i pc regs = target i pc

-- where a jump of the instruction's own kind goes
abbrev pub landed : Ins → ℕ → List ℕ → ℕ
landed i pc regs = jump_target i.kind i pc regs

-- ---- the classes of each operation
abbrev pub IsComputing : Class → Type 0
IsComputing c = c ≡ class.Compute

abbrev pub IsBranching : Class → Type 0
IsBranching c = c ≡ class.Branch

abbrev pub IsJumping : Class → Type 0
IsJumping c = (c ≡ class.Jump) ⊎ (c ≡ class.JumpReg)

abbrev pub IsPassing : Class → Type 0
IsPassing c = c ≡ class.Fence
