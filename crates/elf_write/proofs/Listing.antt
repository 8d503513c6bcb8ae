-- Records of a table that is known as a list.
use Rattle.std.proofs.Common.{◌≡◌, ℕ, zero, suc, ◌+◌, ◌<◌, List, [], ◌∷◌, ◌++◌, length, map, get_or, refl, sym, ap, subst, ◌∙◌, inl, inr, arith}
use Rattle.std.specs.Prelude.{All, AllPairs}
use Rattle.std.proofs.lemmas.Bool.{cases_lt}
use Rattle.std.proofs.lemmas.List.{get_or_append_left, get_or_at, same_lists, map-append}
use Rattle.machine.specs.Below.{sum_below, each}
use Rattle.machine.proofs.Lemmas.{length-each}

-- ---- what is listed of each number below a bound
pub get_each : {A : Type 0} (n : ℕ) (g : ℕ → A) (k : ℕ) (d : A) → k < n → get_or (each n g) k d ≡ g k
unfolding each
get_each zero g k d lt = absurd (omega arith)
get_each (suc n) g k d lt =
    elim (cases_lt k n) [
      | inl below ↦ get_or_append_left (each n g) (g n ∷ []) d k (omega (arith, length-each n g)) ∙ get_each n g k d below
      | inr past ↦ let e : k ≡ n = omega arith in rw e (get_or_at (each n g) (g n) [] d n (length-each n g))
    ]

-- where each is an item of a list, it is that list
pub each_are : {A : Type 0} (n : ℕ) (g : ℕ → A) (xs : List A) → n ≡ length xs → ((i : ℕ) (d : A) → i < length xs → g i ≡ get_or xs i d) → each n g ≡ xs
each_are n g xs e at =
    let long = length-each n g in
    same_lists (each n g) xs (long ∙ e) (λ k d lt. get_each n g k d (omega (arith, long)) ∙ at k d (omega (arith, long)))

-- what holds of each item of the list, and of each two in their order
pub each_has : {A : Type 0} (P : A → Type 0) (n : ℕ) (g : ℕ → A) (xs : List A) → each n g ≡ xs → All P xs → (i : ℕ) → i < n → P (g i)
each_has P n g xs are all i lt =
    let item : P (get_or (each n g) i (g i)) = subst (All P) (sym are) all i (g i) (omega (arith, length-each n g)) in
    subst P (get_each n g i (g i) lt) item

pub each_pair : {A : Type 0} (R : A → A → Type 0) (n : ℕ) (g : ℕ → A) (xs : List A) → each n g ≡ xs → AllPairs R xs → (i j : ℕ) → i < j → j < n → R (g i) (g j)
each_pair R n g xs are pairs i j before lt =
    let d = g i in
    let both : R (get_or (each n g) i d) (get_or (each n g) j d) = subst (AllPairs R) (sym are) pairs i j d before (omega (arith, length-each n g)) in
    subst (λ y. R (g i) y) (get_each n g j d lt) (subst (λ x. R x (get_or (each n g) j d)) (get_each n g i d (omega arith)) both)

pub each_same : {A : Type 0} (n : ℕ) (f g : ℕ → A) → ((i : ℕ) → i < n → f i ≡ g i) → each n f ≡ each n g
unfolding each
each_same zero f g h = refl
each_same (suc n) f g h = rw (each_same n f g (λ i lt. h i (omega arith)), h n (omega arith)) refl

pub each_map : {A B : Type 0} (h : A → B) (n : ℕ) (g : ℕ → A) → each n (λ i. h (g i)) ≡ map h (each n g)
unfolding each
each_map h zero g = refl
each_map h (suc n) g = ap (λ xs. xs ++ h (g n) ∷ []) (each_map h n g) ∙ sym (map-append h (each n g) (g n ∷ []))

-- ---- sums
-- the sum of what a function gives of each item of a list
abbrev pub total : {X : Type 0} → (X → ℕ) → List X → ℕ
total h [] = 0
total h (x ∷ xs) = h x + total h xs

pub total-map : {X Y : Type 0} (g : X → Y) (h : Y → ℕ) (xs : List X) → total (λ x. h (g x)) xs ≡ total h (map g xs)
total-map g h [] = refl
total-map g h (x ∷ xs) = ap (λ n. h (g x) + n) (total-map g h xs)

pub total-append : {X : Type 0} (h : X → ℕ) (xs ys : List X) → total h (xs ++ ys) ≡ total h xs + total h ys
total-append h [] ys = omega arith
total-append h (x ∷ xs) ys = omega (arith, total-append h xs ys)

-- of each number below a bound
pub sum_each : {A : Type 0} (h : A → ℕ) (n : ℕ) (g : ℕ → A) → sum_below n (λ i. h (g i)) ≡ total h (each n g)
unfolding each
sum_each h zero g = refl
sum_each h (suc n) g = omega (arith, sum_each h n g, total-append h (each n g) (g n ∷ []))
