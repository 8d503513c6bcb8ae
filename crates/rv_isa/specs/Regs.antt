use Rattle.std.specs.Prelude.{ℕ, zero, suc, List, slice_set}

-- the registers after register r was given the number v; x0 stays
abbrev pub set_reg : ℕ → ℕ → List ℕ → List ℕ
set_reg zero v regs = regs
set_reg (suc r) v regs = slice_set regs (suc r) v
