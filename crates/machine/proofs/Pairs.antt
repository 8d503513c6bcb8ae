-- What holds of each member of a list, and of each two.
use Rattle.std.proofs.Common.{inl, inr, ⊎_elim, Bool, true, false, cond, List, [], ◌∷◌, ◌++◌, refl, sym, subst, arith}
use Rattle.std.specs.Prelude.{All, AllPairs, map, filter}
use Rattle.std.proofs.lemmas.List.Elements.{All-nil, All-cons}
use Rattle.std.proofs.lemmas.List.Kept.{AllPairs-cons}
use Rattle.machine.specs.Members.{Among, Every, Pairs}

pub every_all : {A : Type 0} (P : A → Type 0) (xs : List A) → Every P xs → All P xs
every_all P [] h = All-nil P
every_all P (x ∷ xs) h = All-cons P x xs h.0 (every_all P xs h.1)

pub pairs_all : {A : Type 0} (R : A → A → Type 0) (xs : List A) → Pairs R xs → AllPairs R xs
pairs_all R [] h = λ i j d l m. absurd (omega (arith, m))
pairs_all R (x ∷ xs) h = AllPairs-cons R x xs (every_all (R x) xs h.0) (pairs_all R xs h.1)

pub every_among : {A : Type 0} (P : A → Type 0) (x : A) (xs : List A) → Every P xs → Among x xs → P x
every_among P x [] h m = absurd m
every_among P x (y ∷ xs) h m = ⊎_elim (λ e. subst P (sym e) h.0) (λ r. every_among P x xs h.1 r) m

pub among_every : {A : Type 0} (P : A → Type 0) (xs : List A) → ((x : A) → Among x xs → P x) → Every P xs
among_every P [] h = tt
among_every P (x ∷ xs) h = (h x (inl refl), among_every P xs (λ y m. h y (inr m)))

pub every-append : {A : Type 0} (P : A → Type 0) (xs ys : List A) → Every P xs → Every P ys → Every P (xs ++ ys)
every-append P [] ys a b = b
every-append P (x ∷ xs) ys a b = (a.0, every-append P xs ys a.1 b)

-- two lists, and each of one with each of the other
pub pairs-append : {A : Type 0} (R : A → A → Type 0) (xs ys : List A) → Pairs R xs → Pairs R ys → ((x y : A) → Among x xs → Among y ys → R x y) → Pairs R (xs ++ ys)
pairs-append R [] ys a b c = b
pairs-append R (x ∷ xs) ys a b c = (every-append (R x) xs ys a.0 (among_every (R x) ys (λ y m. c x y (inl refl) m)), pairs-append R xs ys a.1 b (λ u v m n. c u v (inr m) n))

pub every-map : {A B : Type 0} (P : B → Type 0) (f : A → B) (xs : List A) → Every (λ x. P (f x)) xs → Every P (map f xs)
every-map P f [] h = tt
every-map P f (x ∷ xs) h = (h.0, every-map P f xs h.1)

pub pairs-map : {A B : Type 0} (R : B → B → Type 0) (f : A → B) (xs : List A) → Pairs (λ x y. R (f x) (f y)) xs → Pairs R (map f xs)
pairs-map R f [] h = tt
pairs-map R f (x ∷ xs) h = (every-map (R (f x)) f xs h.0, pairs-map R f xs h.1)

pub every-filter : {A : Type 0} (P : A → Type 0) (test : A → Bool) (xs : List A) → Every P xs → Every P (filter test xs)
every-filter P test [] h = tt
every-filter P test (x ∷ xs) h = elim (test x) as (λ b. Every P (cond b (x ∷ filter test xs) (filter test xs))) [ true ↦ (h.0, every-filter P test xs h.1) | false ↦ every-filter P test xs h.1 ]

pub pairs-filter : {A : Type 0} (R : A → A → Type 0) (test : A → Bool) (xs : List A) → Pairs R xs → Pairs R (filter test xs)
pairs-filter R test [] h = tt
pairs-filter R test (x ∷ xs) h = elim (test x) as (λ b. Pairs R (cond b (x ∷ filter test xs) (filter test xs))) [ true ↦ (every-filter (R x) test xs h.0, pairs-filter R test xs h.1) | false ↦ pairs-filter R test xs h.1 ]

-- from one relation to another, for members
every_weaker : {A : Type 0} (P Q : A → Type 0) (xs : List A) → ((x : A) → Among x xs → P x → Q x) → Every P xs → Every Q xs
every_weaker P Q [] h e = tt
every_weaker P Q (x ∷ xs) h e = (h x (inl refl) e.0, every_weaker P Q xs (λ y m. h y (inr m)) e.1)

pub pairs_weaker : {A : Type 0} (R S : A → A → Type 0) (xs : List A) → ((x y : A) → Among x xs → Among y xs → R x y → S x y) → Pairs R xs → Pairs S xs
pairs_weaker R S [] h p = tt
pairs_weaker R S (x ∷ xs) h p = (every_weaker (R x) (S x) xs (λ y m. h x y (inl refl) (inr m)) p.0, pairs_weaker R S xs (λ u v m n. h u v (inr m) (inr n)) p.1)
