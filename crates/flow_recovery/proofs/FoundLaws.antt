-- What constants lead to: one step behind another, and one more constant.
use Rattle.std.proofs.Common.{◌≡◌, ℕ, zero, suc, Option, Some, None, ◌+◌, ◌<◌, ◌≤◌, ⊎_elim, Bool, true, false, List, [], ◌∷◌, ◌++◌, length, take, get_or, refl, sym, ap, ◌∙◌, subst}
use Rattle.std.specs.Prelude.{◌==◌, ◌||◌, ◌&&◌, slice_set}
use Rattle.std.specs.List.{list_any}
use Rattle.std.specs.BTreeSet.{BTreeSet}
use Rattle.std.proofs.Math.Bool.{or_assoc}
use Rattle.std.proofs.lemmas.Bool.{false≢true, eqb-true, eq-eqb, or_left, or_right, or_cases, and_parts, and_from}
use Rattle.std.proofs.lemmas.List.{take_all}
use Rattle.std.proofs.lemmas.List.Folds.{list_any_more, list_any-append}
use Rattle.machine.specs.Numbers.{is_at}
use Rattle.machine.specs.Sets.{has_address}
use Rattle.machine.proofs.Lemmas.{any_passing, passing}
use Rattle.tests.specs.declared.test.CodeWord.{CodeWord}
use Rattle.tests.specs.declared.test.Test.{Test}
use Rattle.machine.specs.Step.{imm}
use Rattle.tests.specs.Admission.Reached.{leads, one_pass, is_by_table, adds_to}
use Rattle.flow_recovery.specs.declared.found.Code.{Code}
use Rattle.flow_recovery.specs.declared.found.Found.{Found}
use Rattle.flow_recovery.specs.Sets.{lists, Gains, has_word_at}
use Rattle.flow_recovery.specs.Found.{is_recent, IsAdded, covers, CoversFound, is_offset, sum_leads_on, sums_lead_on}
use Rattle.flow_recovery.proofs.OrderLaws.{listed, among_listed}

-- ---- tests
pub both : (a b : Bool) → (a ≡ true → b ≡ true) → (b ≡ true → a ≡ true) → a ≡ b
both true true f g = refl
both true false f g = sym (f refl)
both false true f g = g refl
both false false f g = refl

or_false : (a : Bool) → (a || false) ≡ a
or_false true = refl
or_false false = refl

or_swap : (a b c : Bool) → ((a || b) || c) ≡ ((a || c) || b)
or_swap true b c = refl
or_swap false true true = refl
or_swap false true false = refl
or_swap false false true = refl
or_swap false false false = refl

-- ---- one step behind another
pub covers_then : (c : Code) (s t u : Found) (p q : ℕ → Bool) → CoversFound c s t p → CoversFound c t u q → CoversFound c s u (λ a. p a || q a)
covers_then c s t u p q h g = record {
  kept = λ k. g.kept (h.kept k);
  each = λ k a at. g.each (h.kept k) a at ∙ ap (λ b. b || q a) (h.each k a at) ∙ or_assoc (covers c s a) (p a) (q a);
}

pub covers_none : (c : Code) (s : Found) → CoversFound c s s (λ a. false)
covers_none c s = record { kept = λ k. k; each = λ k a at. sym (or_false (covers c s a)) }

-- one step, with equal tests
pub covers_as : (c : Code) (s t : Found) (p q : ℕ → Bool) → ((a : ℕ) → p a ≡ q a) → CoversFound c s t p → CoversFound c s t q
covers_as c s t p q same h = record { kept = h.kept; each = λ k a at. h.each k a at ∙ ap (λ b. covers c s a || b) (same a) }

-- one more element of a list, by its place
pub covers_next : {X : Type 0} (c : Code) (p : X → ℕ → Bool) (xs : List X) (k : ℕ) (d : X) (s t u : Found) → k < length xs → CoversFound c s t (λ a. list_any (λ y. p y a) (take k xs)) → CoversFound c t u (p (get_or xs k d)) → CoversFound c s u (λ a. list_any (λ y. p y a) (take (k + 1) xs))
covers_next c p xs k d s t u lt h g =
    covers_as c s u (λ a. list_any (λ y. p y a) (take k xs) || p (get_or xs k d) a) (λ a. list_any (λ y. p y a) (take (k + 1) xs))
    (λ a. sym (list_any_more (λ y. p y a) xs k d lt))
    (covers_then c s t u (λ b. list_any (λ y. p y b) (take k xs)) (p (get_or xs k d)) h g)

-- one more element of a list, by itself
pub covers_more : {X : Type 0} (c : Code) (p : X → ℕ → Bool) (xs : List X) (k : ℕ) (x : X) (s t u : Found) → k < length xs → x ≡ get_or xs k x → CoversFound c s t (λ a. list_any (λ y. p y a) (take k xs)) → CoversFound c t u (p x) → CoversFound c s u (λ a. list_any (λ y. p y a) (take (k + 1) xs))
covers_more c p xs k x s t u lt is h g = covers_next c p xs k x s t u lt h (subst (λ y. CoversFound c t u (p y)) is g)

-- behind a step, all elements of a list
pub covers_all :
    {X : Type 0} (c : Code) (p : X → ℕ → Bool) (q : ℕ → Bool) (xs : List X) (k : ℕ) (s t u : Found)
    → length xs ≤ k → CoversFound c s t q → CoversFound c t u (λ a. list_any (λ y. p y a) (take k xs)) → CoversFound c s u (λ a. q a || list_any (λ y. p y a) xs)
covers_all c p q xs k s t u all h g =
    covers_as c s u (λ a. q a || list_any (λ y. p y a) (take k xs)) (λ a. q a || list_any (λ y. p y a) xs)
    (λ a. ap (λ ys. q a || list_any (λ y. p y a) ys) (take_all k xs all))
    (covers_then c s t u q (λ b. list_any (λ y. p y b) (take k xs)) h g)

-- ---- a constant
-- a constant that is remembered
pub recent_covers : (c : Code) (f : Found) (u : ℕ) → is_recent f.recent.items u ≡ true → CoversFound c f f (leads c.test.now u)
recent_covers c f u r = record { kept = λ k. k; each = λ k a at. by k a at (leads c.test.now u a) refl } where
  by : IsAdded c f → (a : ℕ) → has_address c.places.now a ≡ true → (b : Bool) → leads c.test.now u a ≡ b → covers c f a ≡ (covers c f a || b)
  by k a at false e = sym (or_false (covers c f a))
  by k a at true e =
      let is : covers c f a ≡ true = or_left (has_address f.reached a) (list_any (λ v. one_pass c.test.now c.test.now.code 3 v a) f.pointers.items) (k u a r at e) in
      is ∙ sym (or_right (covers c f a) true refl)

-- one place remembers another constant
pub set_recent : (xs : List (Option ℕ)) (i v u : ℕ) → is_recent (slice_set xs i (Some v)) u ≡ true → (is_recent xs u || (v == u)) ≡ true
set_recent [] i v u e = absurd (false≢true e)
set_recent (x ∷ xs) zero v u e = ⊎_elim (λ h. or_right (is_at x u || is_recent xs u) (v == u) h) (λ h. or_left (is_at x u || is_recent xs u) (v == u) (or_right (is_at x u) (is_recent xs u) h)) (or_cases (v == u) (is_recent xs u) e)
set_recent (x ∷ xs) (suc i) v u e =
    ⊎_elim (λ h. or_left (is_at x u || is_recent xs u) (v == u) (or_left (is_at x u) (is_recent xs u) h))
    (λ h. ⊎_elim (λ k. or_left (is_at x u || is_recent xs u) (v == u) (or_right (is_at x u) (is_recent xs u) k)) (λ k. or_right (is_at x u || is_recent xs u) (v == u) k) (or_cases (is_recent xs u) (v == u) (set_recent xs i v u h)))
    (or_cases (is_at x u) (is_recent (slice_set xs i (Some v)) u) e)

-- one more free place remembers nothing
pub none_more : (xs : List (Option ℕ)) → ((u : ℕ) → is_recent xs u ≡ false) → (u : ℕ) → is_recent (xs ++ None ∷ []) u ≡ false
none_more xs h u = list_any-append (λ s. is_at s u) xs (None ∷ []) ∙ ap (λ b. b || false) (h u)

-- a constant that is added
module _ (c : Code) (old new : Found) (value : ℕ) (middle : BTreeSet ℕ) (same : new.pointers ≡ old.pointers)
    (place : Gains old.reached middle (λ a. has_address c.places.now value && (value == a)))
    (tables : Gains middle new.reached (λ a. list_any (is_by_table c.test.now value a) c.test.now.segments))
    (remembers : (u : ℕ) → is_recent new.recent.items u ≡ true → (is_recent old.recent.items u || (value == u)) ≡ true) where
  by_place : (a : ℕ) → has_address c.places.now a ≡ true → (b : Bool) → (value == a) ≡ b → (has_address c.places.now value && b) ≡ b
  by_place a at true e = ap (λ x. x && true) (ap (has_address c.places.now) (eqb-true value a e) ∙ at)
  by_place a at false e = and_false (has_address c.places.now value) where
    and_false : (x : Bool) → (x && false) ≡ false
    and_false true = refl
    and_false false = refl

  added : (a : ℕ) → has_address c.places.now a ≡ true → has_address new.reached a ≡ (has_address old.reached a || leads c.test.now value a)
  unfolding leads
  added a at =
      let by_table = list_any (is_by_table c.test.now value a) c.test.now.segments in
      tables.each a
      ∙ ap (λ b. b || by_table) (place.each a)
      ∙ or_assoc (has_address old.reached a) (has_address c.places.now value && (value == a)) by_table
      ∙ ap (λ b. has_address old.reached a || (b || by_table)) (by_place a at (value == a) refl)

  pub constant_covers : CoversFound c old new (leads c.test.now value)
  constant_covers = record {
    kept = λ k u a r at l.
        added a at
        ∙ ⊎_elim
        (λ e. or_left (has_address old.reached a) (leads c.test.now value a) (k u a e at l))
        (λ e. or_right (has_address old.reached a) (leads c.test.now value a) (ap (λ x. leads c.test.now x a) (eqb-true value u e) ∙ l))
        (or_cases (is_recent old.recent.items u) (value == u) (remembers u r));
    each = λ k a at.
        ap (λ b. b || far new a) (added a at)
        ∙ or_swap (has_address old.reached a) (leads c.test.now value a) (far new a)
        ∙ ap (λ ps. (has_address old.reached a || list_any (λ v. one_pass c.test.now c.test.now.code 3 v a) ps.items) || leads c.test.now value a) same;
  } where
    far : Found → ℕ → Bool
    far f a = list_any (λ v. one_pass c.test.now c.test.now.code 3 v a) f.pointers.items

-- ---- lists of numbers
-- a list that has the numbers of another list's elements
pub told_any : {X : Type 0} (f : X → Bool) (g : X → ℕ) (xs : List ℕ) (ys : List X) → ((a : ℕ) → lists xs a ≡ list_any (λ y. f y && (g y == a)) ys) → (p : ℕ → Bool) → list_any p xs ≡ list_any (λ y. f y && p (g y)) ys
told_any f g xs ys told p = both (list_any p xs) (list_any (λ y. f y && p (g y)) ys) there back where
  there : list_any p xs ≡ true → list_any (λ y. f y && p (g y)) ys ≡ true
  there e =
      let m = passing p xs e in
      let n = passing (λ y. f y && (g y == m.member)) ys (sym (told m.member) ∙ listed xs m.member m.among) in
      let t = and_parts (f n.member) (g n.member == m.member) n.passes in
      any_passing (λ y. f y && p (g y)) n.member ys n.among (and_from (f n.member) (p (g n.member)) t.0 (ap p (eqb-true (g n.member) m.member t.1) ∙ m.passes))

  back : list_any (λ y. f y && p (g y)) ys ≡ true → list_any p xs ≡ true
  back e =
      let n = passing (λ y. f y && p (g y)) ys e in
      let t = and_parts (f n.member) (p (g n.member)) n.passes in
      let is = told (g n.member) ∙ any_passing (λ y. f y && (g y == g n.member)) n.member ys n.among (and_from (f n.member) (g n.member == g n.member) t.0 (eq-eqb (g n.member) (g n.member) refl)) in
      any_passing p (g n.member) xs (among_listed xs (g n.member) is) t.1

-- two lists that hold equal addresses
pub same_any : (xs ys : List ℕ) → ((a : ℕ) → lists xs a ≡ lists ys a) → (p : ℕ → Bool) → list_any p xs ≡ list_any p ys
same_any xs ys same p = told_any (λ y. true) (λ y. y) xs ys same p

-- ---- the global pointer
-- what one value leads to, by the offsets
value_leads : (t : Test) (offsets : List ℕ) → ((a : ℕ) → lists offsets a ≡ list_any (λ d. is_offset d a) t.code) → (v a : ℕ) → sums_lead_on t offsets a v ≡ one_pass t t.code 3 v a
unfolding one_pass
value_leads t offsets told v a = ap (λ b. leads t v a || b) (told_any (λ (d : CodeWord). adds_to 3 d.ins) (λ d. imm d.ins) offsets t.code told (sum_leads_on t a v))

pub summed_is :
    (c : Code) (f all new : Found) (vs os values offsets : List ℕ) (words : List CodeWord) → vs ≡ values → os ≡ offsets → words ≡ c.test.now.code → all.reached ≡ f.reached → all.recent ≡ f.recent → all.pointers.items ≡ [] → new.pointers ≡ all.pointers
    → ((a : ℕ) → lists values a ≡ lists f.pointers.items a) → ((a : ℕ) → lists offsets a ≡ list_any (λ d. is_offset d a) words)
    → CoversFound c all new (λ a. list_any (sums_lead_on c.test.now os a) vs) → IsAdded c f → (a : ℕ) → has_address c.places.now a ≡ true → has_address new.reached a ≡ covers c f a
summed_is c f all new vs os values offsets words by_values by_offsets by_words reached recent none same values_are offsets_are covered k a at =
    let t = c.test.now in
    let told : (b : ℕ) → lists offsets b ≡ list_any (λ d. is_offset d b) t.code = λ b. offsets_are b ∙ ap (λ (ws : List CodeWord). list_any (λ d. is_offset d b) ws) by_words in
    let far : List ℕ → Bool = λ vs. list_any (λ v. one_pass t t.code 3 v a) vs in
    let kept : IsAdded c all = λ u b r has_word_at l. ap (λ s. has_address s b) reached ∙ k u b (ap (λ xs. is_recent xs.items u) (sym recent) ∙ r) has_word_at l in
    sym (or_false (has_address new.reached a))
    ∙ ap (λ xs. has_address new.reached a || far xs) (sym none)
    ∙ ap (λ xs. has_address new.reached a || far xs.items) (sym same)
    ∙ covered.each kept a at
    ∙ ap (λ xs. (has_address all.reached a || far xs) || list_any (sums_lead_on t os a) vs) none
    ∙ ap (λ b. b || list_any (sums_lead_on t os a) vs) (or_false (has_address all.reached a))
    ∙ ap (λ s. has_address s a || list_any (sums_lead_on t os a) vs) reached
    ∙ (λ i. has_address f.reached a || list_any (sums_lead_on t (by_offsets i) a) (by_values i))
    ∙ (λ i. has_address f.reached a || list_any (λ v. value_leads t offsets told v a i) values)
    ∙ ap (λ b. has_address f.reached a || b) (same_any values f.pointers.items values_are (λ v. one_pass t t.code 3 v a))

-- ---- starting from nothing
pub made_is :
    (c : Code) (f found : Found) (set : BTreeSet ℕ) (test : ℕ → Bool) → ((a : ℕ) → has_address f.reached a ≡ false) → f.pointers.items ≡ [] → ((u : ℕ) → is_recent f.recent.items u ≡ false)
    → CoversFound c f found test → (IsAdded c found → (a : ℕ) → has_address c.places.now a ≡ true → has_address set a ≡ covers c found a)
    → ((a : ℕ) → has_address c.places.now a ≡ has_word_at c.test.now.code a) → (a : ℕ) → has_word_at c.test.now.code a ≡ true → has_address set a ≡ test a
made_is c f found set test empty none fresh covered summed places a at =
    let here = places a ∙ at in
    let kept : IsAdded c f = λ u b r stood l. absurd (false≢true (sym (fresh u) ∙ r)) in
    summed (covered.kept kept) a here
    ∙ covered.each kept a here
    ∙ ap (λ b. (b || list_any (λ v. one_pass c.test.now c.test.now.code 3 v a) f.pointers.items) || test a) (empty a)
    ∙ ap (λ vs. list_any (λ v. one_pass c.test.now c.test.now.code 3 v a) vs || test a) none
