-- Rows of the signature: straight words that change x16 and x30 alone.
use Rattle.std.proofs.Common.{◌≡◌, ℕ, ◌+◌, ◌%◌, ◌^◌, ◌<◌, ◌≤◌, Bool, true, false, cond, List, [], ◌∷◌, ◌++◌, length, refl, sym, ap, ◌∙◌, subst, arith}
use Rattle.std.specs.Prelude.{◌==◌, ℤ, pos, ◌+ℤ◌, ◌-ℤ◌, slice_index}
use Rattle.std.proofs.lemmas.Bool.{eqb-true}
use Rattle.std.proofs.lemmas.Int.{ints}
use Rattle.machine.specs.Offsets.{distance_between, upper_part, lower_part}
use Rattle.qed_model.specs.Weave.Sequences.{Reads, SIGNATURE, TEMPORARY}
use Rattle.qed_model.specs.Weave.Lean.{is_short, turn_by, turn, cost}
use Rattle.weave_core.specs.World.{World, Quiet, Item, Plain, wrapped, State, reg, moved, result, computed_value, set_reg, ins, Lui, Addi, Add}
use Rattle.lean.proofs.Weave.Carry.{slice_index-set_reg_other, slice_index-set_reg_same, length-set_reg, Over, over_moved, walk_none, wrapped-add, difference, addi_value, Sets, sets_on, sets_compute, add_result}

-- what LUI gives
pub lui_value : (u : State) (r : ℕ) (z : ℤ) → result Lui (ins Lui r 0 0 z) u ≡ wrapped z
unfolding computed_value
lui_value u r z = refl

-- both parts together
parts_sum : (d : ℤ) → (wrapped (upper_part d) + wrapped (lower_part d)) % 2 ^ 64 ≡ wrapped d
parts_sum d = sym (wrapped-add (upper_part d) (lower_part d)) ∙ ap wrapped (both d (upper_part d)) where
  both : (x y : ℤ) → y +ℤ (x -ℤ y) ≡ x
  both x y = omega (arith, ints)

-- in `least` to `most` steps to the same state with x16 at a number, and some x30
pub record Signed (w : World) (u : State) (rest : List Item) (least most number : ℕ) : Type 0 where
  pub steps : ℕ
  pub regs : List ℕ
  pub at_least : least ≤ steps
  pub within : steps ≤ most
  pub long : length regs ≡ 32
  pub same : (q : ℕ) → (q ≡ 16 → ⊥) → (q ≡ TEMPORARY → ⊥) → slice_index regs q ≡ reg u q
  pub sign : slice_index regs 16 ≡ number
  pub sets : Sets w u steps rest regs

module _ (w : World) (u : State) (rest : List Item) (o : Over w.code u) (long : length u.regs ≡ 32) where
  -- a distance is added
  turn_short : (d : ℤ) → Reads w.form.far w.code w.entry u.pc (Plain (ins Addi SIGNATURE SIGNATURE 0 d) ∷ rest) → Signed w u rest 1 1 ((reg u SIGNATURE + wrapped d) % 2 ^ 64)
  turn_short d h =
      let v = (reg u SIGNATURE + wrapped d) % 2 ^ 64 in
      record {
        steps = 1;
        regs = set_reg SIGNATURE v u.regs;
        at_least = omega arith;
        within = omega arith;
        long = length-set_reg u.regs 16 v ∙ long;
        same = λ q a b. slice_index-set_reg_other u.regs 16 v q a;
        sign = slice_index-set_reg_same u.regs 16 v (omega arith) (omega (arith, long));
        sets = sets_compute w u (ins Addi SIGNATURE SIGNATURE 0 d) v rest o h refl (λ e. absurd (cc)) (addi_value u 16 16 (reg u SIGNATURE) v d refl refl);
      }

  turn_far :
      (d : ℤ) → Reads w.form.far w.code w.entry u.pc (Plain (ins Lui TEMPORARY 0 0 (upper_part d)) ∷ Plain (ins Addi TEMPORARY TEMPORARY 0 (lower_part d)) ∷ Plain (ins Add SIGNATURE SIGNATURE TEMPORARY (pos 0)) ∷ rest)
      → Signed w u rest 1 3 ((reg u SIGNATURE + wrapped d) % 2 ^ 64)
  turn_far d h =
      let x = wrapped (upper_part d) in
      let y = wrapped d in
      let v = (reg u SIGNATURE + wrapped d) % 2 ^ 64 in
      let r1 = set_reg TEMPORARY x u.regs in
      let r2 = set_reg TEMPORARY y r1 in
      let long1 : length r1 ≡ 32 = length-set_reg u.regs 30 x ∙ long in
      let long2 : length r2 ≡ 32 = length-set_reg r1 30 y ∙ long1 in
      let tail2 = Plain (ins Add SIGNATURE SIGNATURE TEMPORARY (pos 0)) ∷ rest in
      let tail1 = Plain (ins Addi TEMPORARY TEMPORARY 0 (lower_part d)) ∷ tail2 in
      let at1 : slice_index r1 30 ≡ x = slice_index-set_reg_same u.regs 30 x (omega arith) (omega (arith, long)) in
      let at2 : slice_index r2 30 ≡ y = slice_index-set_reg_same r1 30 y (omega arith) (omega (arith, long1)) in
      let keeps : slice_index r2 16 ≡ reg u SIGNATURE = slice_index-set_reg_other r1 30 y 16 (λ e. absurd (omega arith)) ∙ slice_index-set_reg_other u.regs 30 x 16 (λ e. absurd (omega arith)) in
      record {
        steps = 3;
        regs = set_reg SIGNATURE v r2;
        at_least = omega arith;
        within = omega arith;
        long = length-set_reg r2 16 v ∙ long2;
        same = λ q a b. slice_index-set_reg_other r2 16 v q a ∙ slice_index-set_reg_other r1 30 y q b ∙ slice_index-set_reg_other u.regs 30 x q b;
        sign = slice_index-set_reg_same r2 16 v (omega arith) (omega (arith, long2));
        sets = sets_on w u 1 2 tail1 rest r1 (set_reg SIGNATURE v r2) (sets_compute w u (ins Lui TEMPORARY 0 0 (upper_part d)) x tail1 o h refl (λ e. absurd (cc)) (lui_value u 30 (upper_part d))) (λ p k.
            sets_on w (moved r1 p u) 1 1 tail2 rest r2 (set_reg SIGNATURE v r2) (sets_compute w (moved r1 p u) (ins Addi TEMPORARY TEMPORARY 0 (lower_part d)) y tail2 (over_moved w.code u r1 p o) k refl (λ e. absurd (cc)) (addi_value (moved r1 p u) 30 30 x y (lower_part d) at1 (parts_sum d))) (λ p2 k2.
            sets_compute w (moved r2 p2 u) (ins Add SIGNATURE SIGNATURE TEMPORARY (pos 0)) v rest (over_moved w.code u r2 p2 o) k2 refl (λ e. absurd (cc)) (add_result (moved r2 p2 u) 16 16 30 (reg u SIGNATURE) y v keeps at2 refl)));
      }

  turn_by_row : (d : ℤ) → Reads w.form.far w.code w.entry u.pc (turn_by d ++ rest) → Signed w u rest 1 (cost (turn_by d)) ((reg u SIGNATURE + wrapped d) % 2 ^ 64)
  turn_by_row d h = by (is_short d) h where
    by :
        (b : Bool) → Reads w.form.far w.code w.entry u.pc (cond b (Plain (ins Addi SIGNATURE SIGNATURE 0 d) ∷ []) (Plain (ins Lui TEMPORARY 0 0 (upper_part d)) ∷ Plain (ins Addi TEMPORARY TEMPORARY 0 (lower_part d)) ∷ Plain (ins Add SIGNATURE SIGNATURE TEMPORARY (pos 0)) ∷ []) ++ rest)
        → Signed w u rest 1 (cost (cond b (Plain (ins Addi SIGNATURE SIGNATURE 0 d) ∷ []) (Plain (ins Lui TEMPORARY 0 0 (upper_part d)) ∷ Plain (ins Addi TEMPORARY TEMPORARY 0 (lower_part d)) ∷ Plain (ins Add SIGNATURE SIGNATURE TEMPORARY (pos 0)) ∷ []))) ((reg u SIGNATURE + wrapped d) % 2 ^ 64)
    by true h = turn_short d h
    by false h = turn_far d h

  -- what a turn leaves
  abbrev pub turned : ℕ → ℕ → ℕ
  turned a t = cond (a == t) (reg u SIGNATURE) ((reg u SIGNATURE + wrapped (distance_between a t)) % 2 ^ 64)

  pub turn_any : (a t : ℕ) → Reads w.form.far w.code w.entry u.pc (turn a t ++ rest) → Signed w u rest (cond (a == t) 0 1) (cost (turn a t)) (turned a t)
  turn_any a t h = by (a == t) h where
    by :
        (b : Bool) → Reads w.form.far w.code w.entry u.pc (cond b [] (turn_by (distance_between a t)) ++ rest)
        → Signed w u rest (cond b 0 1) (cost (cond b [] (turn_by (distance_between a t)))) (cond b (reg u SIGNATURE) ((reg u SIGNATURE + wrapped (distance_between a t)) % 2 ^ 64))
    by true h = record { steps = 0; regs = u.regs; at_least = omega arith; within = omega arith; long = long; same = λ q x y. refl; sign = refl; sets = record { pc = u.pc; walk = walk_none (Quiet w) u; reads = h } }
    by false h = turn_by_row (distance_between a t) h

  -- from one input address to another
  pub turn_row :
      (a t : ℕ) → a < 2 ^ 64 → t < 2 ^ 64 → reg u SIGNATURE ≡ a → Reads w.form.far w.code w.entry u.pc (turn a t ++ rest) → Signed w u rest (cond (a == t) 0 1) (cost (turn a t)) t
  turn_row a t ha ht sign h = subst (Signed w u rest (cond (a == t) 0 1) (cost (turn a t))) (is (a == t) refl) (turn_any a t h) where
    is : (b : Bool) → (a == t) ≡ b → cond b (reg u SIGNATURE) ((reg u SIGNATURE + wrapped (distance_between a t)) % 2 ^ 64) ≡ t
    is true e = sign ∙ eqb-true a t e
    is false e = ap (λ y. (y + wrapped (distance_between a t)) % 2 ^ 64) sign ∙ difference a t ha ht
