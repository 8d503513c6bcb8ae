-- The laws of the visits.
use Rattle.std.proofs.Common.{◌≡◌, ℕ, zero, suc, ◌+◌, ◌-◌, ◌<◌, ◌≤◌, Bool, List, [], ◌∷◌, ◌++◌, length, refl, sym, ap, subst, arith}
use Rattle.std.specs.Prelude.{pos, slice_index_or, drop}
use Rattle.std.proofs.lemmas.List.{append-nil}
use Rattle.tests.specs.declared.range.Range.{Range}
use Rattle.rv_isa.specs.declared.class.Class.TheVariants as class
use Rattle.machine.specs.Table.{Addi, Bne, ins}
use Rattle.qed_model.specs.declared.item.Item.{Item}
use Rattle.qed_model.specs.declared.item.Item.TheVariants.{Plain, Constant}
use Rattle.qed_model.specs.Weave.Sequences.{wraps, visit_word, times, visit, CURSOR, TEMPORARY}
use Rattle.weave_core.proofs.Lemmas.{visits_items, land_visits}
use Rattle.passes.specs.Honest.{HonestItems}
use Rattle.passes.specs.Pass.{Honest, Lockstep}
use Rattle.passes.specs.Compose.{honest_items_then, honest_items_none}
use Rattle.passes.proofs.HonestWords.{honest_on, honest_constant, honest_skip, honest_head, visit_head}
use Rattle.passes.specs.Emitted.{AppendsPart, Done, done_more, done_all, done_part}
pub use Rattle.weave_core.specs.Parts.{any}
pub use Rattle.weave_core.proofs.Lemmas.{quiet_visit}

-- ---- Lockstep
pub lockstep_visit : (round : ℕ) (spans : List (ℕ × ℕ)) → Lockstep any [] (visit round spans)
lockstep_visit round spans = record { locks = λ far s. visits_items far round spans; lands = λ far s. land_visits far round spans }

-- ---- Honest
module _ (far : Bool) where
  skip : (v : ℕ) → HonestItems far (Plain (ins Bne 0 CURSOR TEMPORARY (pos 12)) ∷ Constant CURSOR v ∷ [])
  skip v = honest_skip far (ins Bne 0 CURSOR TEMPORARY (pos 12)) 15 v refl refl

  wraps_honest : (rs : List (ℕ × ℕ)) (first : ℕ) → HonestItems far (wraps rs first)
  wraps_honest [] first = honest_items_none far
  wraps_honest (r ∷ []) first = honest_items_then far (Constant TEMPORARY r.1 ∷ [])
      (Plain (ins Bne 0 CURSOR TEMPORARY (pos 12)) ∷ Constant CURSOR first ∷ []) (honest_constant far 30 r.1) (skip first)
  wraps_honest (r ∷ n ∷ rs) first =
      honest_items_then far (Constant TEMPORARY r.1 ∷ [])
      (Plain (ins Bne 0 CURSOR TEMPORARY (pos 12)) ∷ Constant CURSOR n.0 ∷ wraps (n ∷ rs) first)
      (honest_constant far 30 r.1)
      (honest_items_then far (Plain (ins Bne 0 CURSOR TEMPORARY (pos 12)) ∷ Constant CURSOR n.0 ∷ []) (wraps (n ∷ rs) first) (skip n.0)
      (wraps_honest (n ∷ rs) first))

  word_honest : (spans : List (ℕ × ℕ)) → HonestItems far (visit_word spans)
  word_honest [] = honest_items_none far
  word_honest (r ∷ rs) =
      honest_items_then far (visit_head far) (Plain (ins Addi CURSOR CURSOR 0 (pos 8)) ∷ wraps (r ∷ rs) r.0)
      (honest_head far)
      (honest_items_then far (Plain (ins Addi CURSOR CURSOR 0 (pos 8)) ∷ []) (wraps (r ∷ rs) r.0)
      (honest_on far (ins Addi CURSOR CURSOR 0 (pos 8)) class.Compute refl tt)
      (wraps_honest (r ∷ rs) r.0))

  times_honest : (n : ℕ) (is : List Item) → HonestItems far is → HonestItems far (times n is)
  times_honest zero is h = honest_items_none far
  times_honest (suc n) is h = honest_items_then far is (times n is) h (times_honest n is h)

pub honest_visit : (round : ℕ) (spans : List (ℕ × ℕ)) → Honest any (visit round spans)
honest_visit round spans = record { honest = λ far s. times_honest far round (visit_word spans) (word_honest far spans) }

-- ---- what the code makes
-- the last of several lists of items
pub done_last : (old now new all x : List Item) → Done old now all x → new ≡ now ++ x → new ≡ old ++ all
done_last old now new all x d e = done_all old new all (done_more old now new all x [] (subst (Done old now all) (sym (append-nil x)) d) e)

-- the first of some ranges, and the others
pub head_tail : (xs : List Range) (d : Range) → 1 ≤ length xs → xs ≡ slice_index_or xs 0 d ∷ drop 1 xs
head_tail [] d h = absurd (omega arith)
head_tail (x ∷ xs) d h = refl

-- one of the repetitions, and those left
pub times_left : (n k : ℕ) (is : List Item) → k < n → times (n - k) is ≡ is ++ times (n - (k + 1)) is
times_left n k is h = let e : n - k ≡ suc (n - (k + 1)) = omega arith in ap (λ m. times m is) e

-- no repetition is left
pub times_end : (n : ℕ) (is : List Item) → times (n - n) is ≡ []
times_end n is = let e : n - n ≡ 0 = omega arith in ap (λ m. times m is) e

-- a part of one repetition
pub times_part : (old now new all : List Item) (n k : ℕ) (is : List Item)
    → k < n → Done old now all (times (n - k) is) → AppendsPart now new is → AppendsPart old new all
times_part old now new all n k is h d p = done_part old now new all is (times (n - (k + 1)) is) (subst (Done old now all) (times_left n k is h) d) p
