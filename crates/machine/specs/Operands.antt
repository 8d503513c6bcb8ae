-- Registers that an instruction reads and writes (RISC-V unprivileged manual, "Base Instruction Formats").
use Rattle.std.specs.Prelude.{◌≡◌, Bool, true, false, not, ◌&&◌}
use Rattle.rv_isa.specs.Ins.{named_register, writes, reads}
use Rattle.machine.specs.Table.{Ins, Auipc, Fence, Kind, Format, R, S, B, U, J, N, row_of}

-- the formats with each field
abbrev pub has_rd : Format → Bool
has_rd S = false
has_rd B = false
has_rd N = false
has_rd _ = true

abbrev pub has_rs1 : Format → Bool
has_rs1 U = false
has_rs1 J = false
has_rs1 N = false
has_rs1 _ = true

abbrev pub has_rs2 : Format → Bool
has_rs2 R = true
has_rs2 S = true
has_rs2 B = true
has_rs2 _ = false

-- FENCE has the fields of format I, and names no register
abbrev pub is_fence : Kind → Bool
is_fence Fence = true
is_fence _ = false

-- what is read and written is what the format has, but for x0 and for FENCE
pub record OperandsGoByFormat : Type 0 where
  pub written : (i : Ins) → writes i ≡ named_register (has_rd (row_of i.kind).format && not (is_fence i.kind)) i.rd
  pub read :
      (i : Ins)
      → reads i
      ≡ (named_register (has_rs1 (row_of i.kind).format && not (is_fence i.kind)) i.rs1, named_register (has_rs2 (row_of i.kind).format && not (is_fence i.kind)) i.rs2)

-- AUIPC, whose value is a constant
abbrev pub is_auipc : Kind → Bool
is_auipc Auipc = true
is_auipc _ = false
