-- The tests of the signature and of the distance: each passes, or fires.
use Rattle.std.proofs.Common.{◌≡◌, ℕ, ◌+◌, ◌%◌, ◌^◌, ◌<◌, List, [], ◌∷◌, ◌++◌, length, refl, sym, ◌∙◌, subst, arith}
use Rattle.std.specs.Prelude.{pos}
use Rattle.machine.specs.Step.{State, reg, moved, run, ins, Lui, Beq}
use Rattle.qed_model.specs.Weave.Sequences.{Reads, fired_check, check_sign, DISTANCE, SIGNATURE, TEMPORARY}
use Rattle.qed_model.specs.Weave.Lean.{check_distance}
use Rattle.machine.proofs.Lemmas.{Over, over_moved, Walk}
use Rattle.weave_core.specs.World.{World, Quiet, Item, Plain, Fired}
use Rattle.weave_core.proofs.Lemmas.{form_guarded, sign_walk, Sets, sets_compute, sets_equal, sets_on, writes}
use Rattle.lean.proofs.Weave.Chain.{read_back}
use Rattle.lean.proofs.Weave.Turn.{lui_value}

-- ---- the signature
-- in three steps to behind the test, with the address in x30
pub record Passes (w : World) (u : State) (a : ℕ) (rest : List Item) : Type 0 where
  pub walk : Walk (Quiet w) u 3 (moved (writes ((30, a) ∷ []) u.regs) (u.pc + 16) u)
  pub reads : Reads w.form.far w.code w.entry (u.pc + 16) rest

module _ (w : World) (u : State) (a : ℕ) (rest : List Item) (low : a < 2 ^ 64) (o : Over w.code u) (long : length u.regs ≡ 32) (h : Reads w.form.far w.code w.entry u.pc (check_sign a ++ rest)) where
  pub passes : reg u SIGNATURE ≡ a → Passes w u a rest
  passes sign =
      let e : u.pc + 8 + 8 ≡ u.pc + 16 = omega arith in
      let f : u.pc + 8 + 4 + 4 ≡ u.pc + 16 = omega arith in
      record {
        walk = subst (λ p. Walk (Quiet w) u 3 (moved (writes ((30, a) ∷ []) u.regs) p u)) e (sign_walk w u a rest o long sign low h);
        reads = subst (λ p. Reads w.form.far w.code w.entry p rest) f h.2.1.1;
      }

  pub fires : (reg u SIGNATURE ≡ a → ⊥) → (run u 4).outcome ≡ Fired
  fires ne = (form_guarded w 0 [] 0 0).fires u a rest low h o long ne

-- ---- the distance
-- it passes where x14 is the distance
pub distance_set :
    (w : World) (u : State) (d : ℕ) (rest : List Item) → Over w.code u → length u.regs ≡ 32 → reg u DISTANCE ≡ d → d < 2 ^ 64 → Reads w.form.far w.code w.entry u.pc (check_distance d ++ rest)
    → Sets w u 2 rest (writes ((30, d) ∷ []) u.regs)
distance_set w u d rest o long at low h =
    let ws : List (ℕ × ℕ) = (30, d) ∷ [] in
    let l = writes ws u.regs in
    let tail = Plain (ins Beq 0 DISTANCE TEMPORARY (pos 8)) ∷ fired_check ∷ rest in
    sets_on w u 1 1 tail rest l l (sets_compute w u (ins Lui TEMPORARY 0 0 (pos d)) d tail o h refl (λ e. absurd (cc)) (lui_value u 30 (pos d) ∙ small d low))
    (λ p k. sets_equal w (moved l p u) 14 30 rest (over_moved w.code u l p o) k (read_back ws u.regs 14 long refl ∙ at ∙ sym (read_back ws u.regs 30 long refl))) where
      small : (d : ℕ) → d < 2 ^ 64 → d % 2 ^ 64 ≡ d
      small d h = omega (arith, h)
