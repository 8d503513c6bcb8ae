-- Where blocks begin that ascend.
use Rattle.std.proofs.Common.{◌≡◌, ⊎_elim, ℕ, zero, suc, ◌<◌, ◌≤◌, Bool, true, false, List, [], ◌∷◌, length, map, refl, sym, ap, ◌∙◌, arith}
use Rattle.std.specs.Prelude.{get_or, nat_lt, AllPairs, ◌==◌, ◌||◌}
use Rattle.std.specs.List.Sorted.{IsNonDecreasingBy, IsPartitionPoint}
use Rattle.std.proofs.lemmas.Bool.{ltb-true, ltb-false, eq-eqb, eqb-true, eqb-false, ne_eqb, or_left, or_right, cases_lt}
use Rattle.qed_model.specs.Weave.Blocks.{begins_at}
use Rattle.block_split.specs.declared.block.CodeBlock.{CodeBlock}
use Rattle.block_split.specs.Listed.{block_of}

found : (bs : List CodeBlock) (a i : ℕ) (d : CodeBlock) → i < length bs → (get_or bs i d).start ≡ a → begins_at (map block_of bs) a ≡ true
found [] a i d l here = absurd (omega (arith, l))
found (b ∷ bs) a zero d l here = or_left (b.start == a) (begins_at (map block_of bs) a) (eq-eqb b.start a here)
found (b ∷ bs) a (suc i) d l here = or_right (b.start == a) (begins_at (map block_of bs) a) (found bs a i d (omega (arith, l)) here)

not_found : (bs : List CodeBlock) (a : ℕ) → ((k : ℕ) (d : CodeBlock) → k < length bs → (get_or bs k d).start ≡ a → ⊥) → begins_at (map block_of bs) a ≡ false
not_found [] a h = refl
not_found (b ∷ bs) a h = let no : (b.start == a) ≡ false = ne_eqb b.start a (h 0 b (omega arith)) in ap (λ x. x || begins_at (map block_of bs) a) no ∙ not_found bs a (λ k d l. h (suc k) d (omega (arith, l)))

same_block : (bs : List CodeBlock) (k : ℕ) (x y : CodeBlock) → k < length bs → get_or bs k x ≡ get_or bs k y
same_block [] k x y h = absurd (omega (arith, h))
same_block (b ∷ bs) zero x y h = refl
same_block (b ∷ bs) (suc k) x y h = same_block bs k x y (omega (arith, h))

module _ (bs : List CodeBlock) (ascend : AllPairs (λ (b c : CodeBlock). b.start < c.start) bs) where
  pub non_decreasing : IsNonDecreasingBy (λ (b : CodeBlock). b.start) bs
  non_decreasing i j d le lt =
      ⊎_elim
      (λ x. let p = ascend i j d x lt in omega (arith, p))
      (λ x. let e : i ≡ j = omega (arith, x, le) in let s : (get_or bs i d).start ≡ (get_or bs j d).start = ap (λ k. (get_or bs k d).start) e in omega (arith, s))
      (cases_lt i j)

  module _ (a place : ℕ) (point : IsPartitionPoint (λ (b : CodeBlock). nat_lt b.start a ≡ true) (λ (b : CodeBlock). nat_lt b.start a ≡ false) bs place) where
    here : (d : CodeBlock) → place < length bs → (get_or bs place d).start ≡ a → begins_at (map block_of bs) a ≡ true
    here d lt e = found bs a place d lt e

    pub past : length bs ≤ place → begins_at (map block_of bs) a ≡ false
    past le = not_found bs a (λ k d lt e. let b = ltb-true (get_or bs k d).start a (point.0 k d (omega arith) (omega (arith, le, lt))) in omega (arith, b, e))

    other : (d : CodeBlock) → place < length bs → ((get_or bs place d).start ≡ a → ⊥) → begins_at (map block_of bs) a ≡ false
    other d lt ne =
        not_found bs a
        (λ k x l e.
        ⊎_elim (λ y. let b = ltb-true (get_or bs k x).start a (point.0 k x (omega arith) y) in omega (arith, b, e))
        (λ y. ⊎_elim (later k x l e) (λ z. let p : place ≡ k = omega (arith, y, z) in ne (ap (λ (b : CodeBlock). b.start) (same_block bs place d x lt) ∙ ap (λ n. (get_or bs n x).start) p ∙ e)) (cases_lt place k))
        (cases_lt k place)) where
          later : (k : ℕ) (x : CodeBlock) → k < length bs → (get_or bs k x).start ≡ a → place < k → ⊥
          later k x l e y = let p = ascend place k x y l in let q = ltb-false (get_or bs place x).start a (point.1 place x (omega arith) lt) in omega (arith, p, q, e)

    -- one begins at the address, if the one at the place does
    pub at_place : (d : CodeBlock) → place < length bs → ((get_or bs place d).start == a) ≡ begins_at (map block_of bs) a
    at_place d lt = by ((get_or bs place d).start == a) refl where
      by : (b : Bool) → ((get_or bs place d).start == a) ≡ b → b ≡ begins_at (map block_of bs) a
      by true e = sym (here d lt (eqb-true (get_or bs place d).start a e))
      by false e = sym (other d lt (eqb-false (get_or bs place d).start a e))
