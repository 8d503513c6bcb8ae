-- The registers that an instruction reads and writes, under other names too.
use Rattle.std.proofs.Common.{◌≡◌, ℕ, zero, suc, ◌<◌, ◌≤◌, Bool, true, false, List, length, Some, inl, inr, refl, sym, ap, ◌∙◌, arith}
use Rattle.std.specs.Prelude.{slice_index}
use Rattle.rv_isa.specs.declared.profile.TheConstants.{LAST_ORIGINAL}
use Rattle.rv_isa.specs.declared.ins.Ins.{Ins}
use Rattle.rv_isa.specs.Kind.{class_of, writes_rd, reads_rs1, reads_rs2}
use Rattle.rv_isa.specs.Ins.{named_register, writes}
use Rattle.rv_isa.specs.Regs.{set_reg}
use Rattle.rv_isa.specs.Operation.{AreRegs, ReadsRegister, pair}
use Rattle.rv_isa.proofs.RegsLaws.{slice_index-set_reg_same, slice_index-set_reg_other, length-set_reg}

-- a register with the field is named, and a named register is the one of the field
pub named-some : (b : Bool) (r : ℕ) → b ≡ true → 0 < r → named_register b r ≡ Some r
named-some true zero e h = absurd (omega (arith, h))
named-some true (suc r) e h = refl
named-some false r e h = absurd (cc)

pub some-named : (b : Bool) (n r : ℕ) → named_register b n ≡ Some r → (n ≡ r) × (0 < r) × (b ≡ true)
some-named true zero r e = absurd (cc)
some-named true (suc n) r e = let h : suc n ≡ r = cc in (h, omega (arith, h), refl)
some-named false n r e = absurd (cc)

-- ---- what is read
-- a source register that equals its other name where it is read, equals it also at x0
module _ (f : ℕ → ℕ) (regs others : List ℕ) (i : Ins) where
  at : (r : ℕ) → f 0 ≡ 0 → AreRegs regs → AreRegs others → (0 < r → slice_index others (f r) ≡ slice_index regs r) → slice_index others (f r) ≡ slice_index regs r
  at zero z a b h = ap (slice_index others) z ∙ b.first ∙ sym a.first
  at (suc r) z a b h = h (omega arith)

  pub same_rs1 : f 0 ≡ 0 → AreRegs regs → AreRegs others → ((r : ℕ) → ReadsRegister i r → slice_index others (f r) ≡ slice_index regs r) → reads_rs1 (class_of i.kind) i.kind ≡ true → slice_index others (f i.rs1) ≡ slice_index regs i.rs1
  same_rs1 z a b same e = at i.rs1 z a b (λ p. same i.rs1 (inl (named-some _ i.rs1 e p)))

  pub same_rs2 : f 0 ≡ 0 → AreRegs regs → AreRegs others → ((r : ℕ) → ReadsRegister i r → slice_index others (f r) ≡ slice_index regs r) → reads_rs2 (class_of i.kind) i.kind ≡ true → slice_index others (f i.rs2) ≡ slice_index regs i.rs2
  same_rs2 z a b same e = at i.rs2 z a b (λ p. same i.rs2 (inr (named-some _ i.rs2 e p)))

-- ---- what is written
-- where rd alone is set, every other register stays
pub set_frame : (i : Ins) (v : ℕ) (regs : List ℕ) → writes_rd (class_of i.kind) ≡ true → (length (set_reg i.rd v regs) ≡ length regs) × ((r : ℕ) → (writes i ≡ Some r → ⊥) → slice_index (set_reg i.rd v regs) r ≡ slice_index regs r)
set_frame i v regs w = (length-set_reg regs i.rd v, λ r out. kept i.rd r (λ p e. out (named-some _ i.rd w p ∙ ap Some e))) where
  kept : (d r : ℕ) → (0 < d → d ≡ r → ⊥) → slice_index (set_reg d v regs) r ≡ slice_index regs r
  kept zero r h = refl
  kept (suc d) r h = slice_index-set_reg_other regs (suc d) v r (λ e. h (omega arith) (sym e))

-- where rd is set to equal numbers, the written register holds equal numbers
pub set_same : (f : ℕ → ℕ) (i : Ins) (v w : ℕ) (regs others : List ℕ) → ((r : ℕ) → 0 < r → 0 < f r) → i.rd < length regs → f i.rd < length others → w ≡ v → (r : ℕ) → writes i ≡ Some r → slice_index (set_reg (f i.rd) w others) (f r) ≡ slice_index (set_reg i.rd v regs) r
set_same f i v w regs others above h k e r is = let s = some-named _ i.rd r is in from i.rd r s.0 s.1 h k where
  from : (d r : ℕ) → d ≡ r → 0 < r → d < length regs → f d < length others → slice_index (set_reg (f d) w others) (f r) ≡ slice_index (set_reg d v regs) r
  from d r s p h k =
      let low : 0 < d = omega (arith, s, p) in
      rw (← s) (slice_index-set_reg_same others (f d) w (above d low) k ∙ (e ∙ sym (slice_index-set_reg_same regs d v low h)))

-- pairs of registers
pub pair-above : (r : ℕ) → 0 < r → 0 < pair r
pair-above zero h = h
pair-above (suc r) h = omega arith

pub pair-lt : (r : ℕ) → r ≤ LAST_ORIGINAL → pair r < 32
pair-lt zero h = omega arith
pair-lt (suc r) h = omega (arith, h)

pub pair-le : (r : ℕ) → r ≤ LAST_ORIGINAL → pair r ≤ 29
pair-le zero h = omega arith
pair-le (suc r) h = omega (arith, h)
