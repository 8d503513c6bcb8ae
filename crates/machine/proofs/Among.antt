-- Members of lists, whatever their order.
use Rattle.std.proofs.Common.{◌≡◌, ◌⊎◌, inl, inr, ⊎_elim, ◌<◌, Bool, true, false, cond, List, [], ◌∷◌, ◌++◌, length, get_or, refl, sym, ap, ◌∙◌, subst, arith}
use Rattle.std.specs.Prelude.{All, map, filter, ℕ, zero, suc, Some, slice_get, Contains}
use Rattle.std.specs.List.{list_any}
use Rattle.std.proofs.lemmas.Bool.{or_cases, or_left, or_right, or_from, false≢true}
use Rattle.std.proofs.lemmas.List.Elements.{All-head, All-tail}
use Rattle.machine.specs.Members.{Among}

pub among-left : {A : Type 0} (x : A) (xs ys : List A) → Among x xs → Among x (xs ++ ys)
among-left x [] ys m = absurd m
among-left x (y ∷ xs) ys m = ⊎_elim (λ e. inl e) (λ r. inr (among-left x xs ys r)) m

pub among-right : {A : Type 0} (x : A) (xs ys : List A) → Among x ys → Among x (xs ++ ys)
among-right x [] ys m = m
among-right x (y ∷ xs) ys m = inr (among-right x xs ys m)

pub among-either : {A : Type 0} (x : A) (xs ys : List A) → Among x (xs ++ ys) → Among x xs ⊎ Among x ys
among-either x [] ys m = inr m
among-either x (y ∷ xs) ys m = ⊎_elim (λ e. inl (inl e)) (λ r. ⊎_elim (λ l. inl (inr l)) (λ k. inr k) (among-either x xs ys r)) m

pub among-map : {A B : Type 0} (f : A → B) (x : A) (xs : List A) → Among x xs → Among (f x) (map f xs)
among-map f x [] m = absurd m
among-map f x (y ∷ xs) m = ⊎_elim (λ e. inl (ap f e)) (λ r. inr (among-map f x xs r)) m

-- what is mapped to a member
pub record Source {A B : Type 0} (f : A → B) (xs : List A) (y : B) : Type 0 where
  pub source : A
  pub among : Among source xs
  pub is : y ≡ f source

later_source : {A B : Type 0} (f : A → B) (x : A) (xs : List A) (y : B) → Source f xs y → Source f (x ∷ xs) y
later_source f x xs y s = record { source = s.source; among = inr s.among; is = s.is }

pub source_of : {A B : Type 0} (f : A → B) (xs : List A) (y : B) → Among y (map f xs) → Source f xs y
source_of f [] y m = absurd m
source_of f (x ∷ xs) y m = ⊎_elim (λ e. record { source = x; among = inl refl; is = e }) (λ r. later_source f x xs y (source_of f xs y r)) m

-- ---- filters
kept_step :
    {A : Type 0} (test : A → Bool) (y : A) (ys : List A) (x : A) → (test y ≡ true → (x ≡ y) ⊎ Among x (filter test ys))
    → (test y ≡ false → Among x (filter test ys)) → Among x (filter test (y ∷ ys))
kept_step test y ys x here later = elim (test y) as (λ b. test y ≡ b → Among x (cond b (y ∷ filter test ys) (filter test ys))) [ true ↦ λ e. here e | false ↦ λ e. later e ] refl

different : (C : Type 0) (b : Bool) → b ≡ true → b ≡ false → C
different C true h e = absurd (cc)
different C false h e = absurd (cc)

pub among-filter : {A : Type 0} (test : A → Bool) (x : A) (xs : List A) → test x ≡ true → Among x xs → Among x (filter test xs)
among-filter test x [] h m = absurd m
among-filter test x (y ∷ xs) h m =
    kept_step test y xs x
    (λ e. ⊎_elim (λ s. inl s) (λ r. inr (among-filter test x xs h r)) m)
    (λ e. ⊎_elim (λ s. different (Among x (filter test xs)) (test y) (sym (ap test s) ∙ h) e) (λ r. among-filter test x xs h r) m)

tested_step :
    {A : Type 0} (test : A → Bool) (y : A) (ys : List A) (x : A) → (Among x (filter test ys) → Among x ys × (test x ≡ true)) → (b : Bool) → test y ≡ b
    → Among x (cond b (y ∷ filter test ys) (filter test ys)) → Among x (y ∷ ys) × (test x ≡ true)
tested_step test y ys x rec true e m = ⊎_elim (λ s. (inl s, ap test s ∙ e)) (λ r. let p = rec r in (inr p.0, p.1)) m
tested_step test y ys x rec false e m = let p = rec m in (inr p.0, p.1)

-- what is kept passed the test
pub among-kept : {A : Type 0} (test : A → Bool) (x : A) (xs : List A) → Among x (filter test xs) → Among x xs × (test x ≡ true)
among-kept test x [] m = absurd m
among-kept test x (y ∷ xs) m = tested_step test y xs x (among-kept test x xs) (test y) refl m

-- ---- tests of some member
-- a member that passes a test
pub record Passing {A : Type 0} (test : A → Bool) (xs : List A) : Type 0 where
  pub member : A
  pub among : Among member xs
  pub passes : test member ≡ true

passing_later : {A : Type 0} (test : A → Bool) (x : A) (xs : List A) → Passing test xs → Passing test (x ∷ xs)
passing_later test x xs p = record { member = p.member; among = inr p.among; passes = p.passes }

pub passing : {A : Type 0} (test : A → Bool) (xs : List A) → list_any test xs ≡ true → Passing test xs
passing test [] e = absurd (false≢true e)
passing test (x ∷ xs) e = ⊎_elim (λ h. record { member = x; among = inl refl; passes = h }) (λ r. passing_later test x xs (passing test xs r)) (or_cases (test x) (list_any test xs) e)

pub any_passing : {A : Type 0} (test : A → Bool) (x : A) (xs : List A) → Among x xs → test x ≡ true → list_any test xs ≡ true
any_passing test x [] m e = absurd m
any_passing test x (y ∷ xs) m e = ⊎_elim (λ s. or_left (test y) (list_any test xs) (sym (ap test s) ∙ e)) (λ r. or_right (test y) (list_any test xs) (any_passing test x xs r e)) m

-- what no member passes
pub none_passing : {A : Type 0} (test : A → Bool) (xs : List A) → ((x : A) → Among x xs → test x ≡ false) → list_any test xs ≡ false
none_passing test [] h = refl
none_passing test (x ∷ xs) h = or_from (test x) (list_any test xs) (h x (inl refl)) (none_passing test xs (λ y m. h y (inr m)))

-- ---- places
-- where a member stands
pub record PlaceOf {A : Type 0} (xs : List A) (x : A) : Type 0 where
  pub place : ℕ
  pub stands : slice_get xs place ≡ Some x

place_later : {A : Type 0} (y : A) (xs : List A) (x : A) → PlaceOf xs x → PlaceOf (y ∷ xs) x
place_later y xs x p = record { place = suc p.place; stands = p.stands }

pub place_of : {A : Type 0} (x : A) (xs : List A) → Among x xs → PlaceOf xs x
place_of x [] m = absurd m
place_of x (y ∷ xs) m = ⊎_elim (λ e. record { place = 0; stands = ap Some (sym e) }) (λ r. place_later y xs x (place_of x xs r)) m

-- by its place, with a default
at_place : {A : Type 0} (x : A) (xs : List A) (k : ℕ) → k < length xs → get_or xs k x ≡ x → Among x xs
at_place x [] k lt e = absurd (omega (arith, lt))
at_place x (y ∷ ys) zero lt e = inl (sym e)
at_place x (y ∷ ys) (suc k) lt e = inr (at_place x ys k (omega (arith, lt)) e)

pub among_of : {A : Type 0} (x : A) (xs : List A) → Contains xs x → Among x xs
among_of x xs c = at_place x xs c.0 c.1 c.2

pub contains_of : {A : Type 0} (x : A) (xs : List A) → Among x xs → Contains xs x
contains_of x [] m = absurd m
contains_of x (y ∷ ys) m = ⊎_elim (λ e. (0, omega arith, sym e)) (λ r. let p = contains_of x ys r in (suc p.0, omega (arith, p.1), p.2)) m

-- what holds of all holds of each
pub all_among : {A : Type 0} (P : A → Type 0) (x : A) (xs : List A) → All P xs → Among x xs → P x
all_among P x [] h m = absurd m
all_among P x (y ∷ xs) h m = ⊎_elim (λ e. subst P (sym e) (All-head P y xs h)) (λ r. all_among P x xs (All-tail P y xs h) r) m
