-- What the registers hold after one was set.
use Rattle.std.proofs.Common.{◌≡◌, ℕ, zero, suc, ◌<◌, List, length, refl, arith, get_or-set_same, get_or-set_other}
use Rattle.std.specs.Prelude.{slice_index}
use Rattle.std.proofs.lemmas.List.{length-set}
use Rattle.rv_isa.specs.Regs.{set_reg}

-- the register itself
pub slice_index-set_reg_same : (regs : List ℕ) (r v : ℕ) → 0 < r → r < length regs → slice_index (set_reg r v regs) r ≡ v
slice_index-set_reg_same regs zero v p h = absurd (omega (arith, p))
slice_index-set_reg_same regs (suc r) v p h = get_or-set_same regs (suc r) v 0 h

-- another register
pub slice_index-set_reg_other : (regs : List ℕ) (d v r : ℕ) → (r ≡ d → ⊥) → slice_index (set_reg d v regs) r ≡ slice_index regs r
slice_index-set_reg_other regs zero v r h = refl
slice_index-set_reg_other regs (suc d) v r h = get_or-set_other regs (suc d) r v 0 h

-- x0
pub slice_index-set_reg_zero : (regs : List ℕ) (r v : ℕ) → slice_index (set_reg r v regs) 0 ≡ slice_index regs 0
slice_index-set_reg_zero regs zero v = refl
slice_index-set_reg_zero regs (suc r) v = get_or-set_other regs (suc r) 0 v 0 (λ e. absurd (omega (arith, e)))

pub length-set_reg : (regs : List ℕ) (r v : ℕ) → length (set_reg r v regs) ≡ length regs
length-set_reg regs zero v = refl
length-set_reg regs (suc r) v = length-set regs (suc r) v
