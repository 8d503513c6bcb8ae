-- Strikes that are drawn one after another.
use Rattle.std.proofs.Common.{◌≡◌, ◌⊎◌, inl, inr, ℕ, zero, suc, ◌+◌, ◌*◌, ◌<◌, ◌≤◌, true, false, cond, List, [], ◌∷◌, map, refl, sym, ap, ◌∙◌, subst, arith, nat_le, nat_lt}
use Rattle.std.specs.Prelude.{fold, if◌then◌else◌, All, IsSome, Option, None, Some}
use Rattle.std.proofs.lemmas.Bool.{cases_lt, or_parts}
use Rattle.std.proofs.lemmas.Bool.Decides.{nat_tests}
use Rattle.std.proofs.lemmas.List.Sums.{fold-append}
use Rattle.std.proofs.Math.Nat.{mul-suc, mul-zero}
use Rattle.rv_isa.specs.declared.profile.TheConstants.{ORIGINALS}
use Rattle.rand_pcg.specs.Lcg.{Lcg}
use Rattle.qed_model.specs.declared.aim.Aim.{Aim}
use Rattle.qed_model.specs.declared.aim.Draws.{Draws}
use Rattle.qed_model.specs.declared.aim.Places.{Places}
use Rattle.qed_model.specs.declared.aim.Places.TheVariants.{Registers, Words}
use Rattle.qed_model.specs.declared.bounds.Bounds.{Bounds}
use Rattle.qed_model.specs.declared.change.Change.{Change}
use Rattle.machine.specs.Below.{each}
use Rattle.qed_model.specs.Promise.Caught.{bound_of}
pub use Rattle.machine.proofs.Lemmas.{All-each, each_none, length-each, push_each}
use Rattle.qed_model.proofs.Lemmas.{in_order_ordered}
pub use Rattle.test_gen.proofs.RandomWords.{after-more}
use Rattle.campaign.specs.Draw.{numbered_place, has_place, drawn_place, drawn_change, drawn_strike, strike_count, drawn_strikes, HasWords, range_of, word_count, seeded, drawn, next_state, after, Plan, has_word, is_word, with_change, in_order}
use Rattle.campaign.specs.Struck.{IsStrike}

-- ---- words among the places
-- changes with no place that is a word, and one more change of none
with_change_none : (ds : List Change) (c : Change) → has_word ds ≡ false → is_word c.place ≡ false → has_word (with_change ds c) ≡ false
with_change_none [] c h e = rw e refl
with_change_none (d ∷ ds) c h e =
    let p : (is_word d.place ≡ false) × (has_word ds ≡ false) = or_parts (is_word d.place) (has_word ds) h in
    elim (nat_le d.step c.step) as (λ t. has_word (if t then d ∷ with_change ds c else c ∷ d ∷ ds) ≡ false)
    [ true ↦ rw (p.0, with_change_none ds c p.1 e) refl | false ↦ rw (e, h) refl ]

-- without data words no drawn place is a word
no_place : (spans : List (ℕ × ℕ)) (q : ℕ) → q < ORIGINALS → is_word (numbered_place spans q) ≡ false
unfolding numbered_place
no_place spans q h = let t : nat_lt q ORIGINALS ≡ true = grind (arith, nat_tests) in rw t refl

no_drawn_word : (only : Option Places) (spans : List (ℕ × ℕ)) (word : ℕ) → has_place only (word_count spans) ≡ true → word_count spans ≡ 0 → is_word (drawn_place only spans word) ≡ false
unfolding drawn_place
no_drawn_word None spans word place none = no_place spans _ (rw none (omega arith))
no_drawn_word (Some Registers) spans word place none = refl
no_drawn_word (Some Words) spans word place none = let e : nat_lt 0 0 ≡ true = subst (λ n. nat_lt 0 n ≡ true) none place in cc

no_word : (spans : List (ℕ × ℕ)) (reach : ℕ) (aim : Aim) (g : Lcg) → has_place aim.only (word_count spans) ≡ true → word_count spans ≡ 0 → is_word (drawn_change spans reach aim g).place ≡ false
unfolding drawn_change
no_word spans reach aim g place none = no_drawn_word aim.only spans (drawn (next_state g)) place none

fold_none :
    (spans : List (ℕ × ℕ)) (reach : ℕ) (aim : Aim) (n : ℕ) (g : Lcg) → has_place aim.only (word_count spans) ≡ true → word_count spans ≡ 0
    → has_word (fold with_change [] (each n (λ k. drawn_change spans reach aim (after (3 * k) g)))) ≡ false
unfolding each
fold_none spans reach aim zero g place none = refl
fold_none spans reach aim (suc n) g place none =
    let f : ℕ → Change = λ k. drawn_change spans reach aim (after (3 * k) g) in
    ap has_word (fold-append with_change [] (each n f) (f n ∷ []))
    ∙ with_change_none (fold with_change [] (each n f)) (f n) (fold_none spans reach aim n g place none) (no_word spans reach aim (after (3 * n) g) place none)

-- ---- a drawn strike
bounded : (bounds : Bounds) (cs : List Change) → (has_word cs ≡ false) ⊎ IsSome bounds.word → IsSome (bound_of bounds cs)
bounded bounds cs (inl h) = rw h refl
bounded bounds cs (inr s) = elim (has_word cs) as (λ b. IsSome (cond b bounds.word (Some bounds.register))) [ true ↦ s | false ↦ refl ]

pub drawn_fits :
    (plan : Plan) (reach : ℕ) (aim : Aim) (n : ℕ) (g : Lcg) → HasWords plan → has_place aim.only (word_count (map range_of plan.span)) ≡ true
    → IsStrike plan.bounds (drawn_strike (map range_of plan.span) reach aim n g)
unfolding drawn_strike
drawn_fits plan reach aim n g has place = record {
  ordered = in_order_ordered (each n (λ k. drawn_change (map range_of plan.span) reach aim (after (3 * k) g)));
  bounded = bounded plan.bounds (in_order (each n (λ k. drawn_change (map range_of plan.span) reach aim (after (3 * k) g)))) (by_count (cases_lt 0 plan.words));
} where
  by_count :
      (0 < plan.words) ⊎ (plan.words ≤ 0)
      → (has_word (fold with_change [] (each n (λ k. drawn_change (map range_of plan.span) reach aim (after (3 * k) g)))) ≡ false) ⊎ IsSome plan.bounds.word
  by_count (inl x) = inr (has.bound (omega (arith, x)))
  by_count (inr x) = inl (fold_none (map range_of plan.span) reach aim n g place (omega (arith, x, has.count)))

-- if there is a strike, there is a place
pub place_of_some : (d : Draws) (words i : ℕ) → i < strike_count d words → has_place d.aim.only words ≡ true
place_of_some d words i h =
    elim (has_place d.aim.only words) as (λ t. i < (if t then d.count else 0) → t ≡ true) [ true ↦ λ _. refl | false ↦ λ l. absurd (omega (arith, l)) ] h

-- all drawn strikes are strikes
pub drawn_all_fit : (plan : Plan) (reach : ℕ) (d : Draws) → HasWords plan → All (IsStrike plan.bounds) (drawn_strikes (map range_of plan.span) reach d)
unfolding drawn_strikes
drawn_all_fit plan reach d has =
    All-each (IsStrike plan.bounds) (strike_count d (word_count (map range_of plan.span)))
    (λ i. drawn_strike (map range_of plan.span) reach d.aim d.changes (after (3 * d.changes * i) (seeded d.seed)))
    (λ i less. drawn_fits plan reach d.aim d.changes (after (3 * d.changes * i) (seeded d.seed)) has (place_of_some d (word_count (map range_of plan.span)) i less))

-- ---- one more change, and one more strike
-- one more change is drawn
pub one_change :
    (spans : List (ℕ × ℕ)) (reach : ℕ) (aim : Aim) (k : ℕ) (g : Lcg) (made next_state : List Change) (c : Change) → made ≡ in_order (each k (λ j. drawn_change spans reach aim (after (3 * j) g)))
    → c ≡ drawn_change spans reach aim (after (3 * k) g) → next_state ≡ with_change made c → next_state ≡ in_order (each (k + 1) (λ j. drawn_change spans reach aim (after (3 * j) g)))
unfolding each
one_change spans reach aim k g made next_state c e is added =
    let f : ℕ → Change = λ j. drawn_change spans reach aim (after (3 * j) g) in
    let n : k + 1 ≡ suc k = omega arith in
    added ∙ ap (λ ds. with_change ds c) e ∙ ap (with_change (in_order (each k f))) is ∙ sym (fold-append with_change [] (each k f) (f k ∷ [])) ∙ sym (ap (λ m. in_order (each m f)) n)

-- ---- the words of strikes
-- no word is drawn before the first strike
pub none_drawn : (m : ℕ) (g : Lcg) → g ≡ after (3 * m * 0) g
none_drawn m g = let e : 3 * m * 0 ≡ 0 = mul-zero (3 * m) in sym (ap (λ n. after n g) e)

-- the words of one more strike
pub more_words : (m i : ℕ) (g : Lcg) → after (3 * m) (after (3 * m * i) g) ≡ after (3 * m * (i + 1)) g
more_words m i g =
    let n : i + 1 ≡ suc i = omega arith in
    let e : 3 * m * i + 3 * m ≡ 3 * m * (i + 1) = sym (ap (λ k. 3 * m * k) n ∙ mul-suc (3 * m) i) in
    after-more (3 * m) (3 * m * i) g ∙ ap (λ k. after k g) e
