-- The labels of one line more.
use Rattle.std.proofs.Common.{◌≡◌, ℕ, ◌+◌, Bool, true, false, cond, Option, Some, None, List, [], ◌∷◌, ◌++◌, length, refl, sym, ap, subst, ◌∙◌, arith}
use Rattle.std.specs.List.{position_from}
use Rattle.std.specs.Option.{option_map, option_or}
use Rattle.std.specs.Str.{bytes_eq}
use Rattle.std.proofs.lemmas.Bool.{false≢true}
use Rattle.std.proofs.lemmas.Slice.Eq.{bytes_eq-Decides}

position_push : {A : Type 0} (p : A → Bool) (k : ℕ) (xs : List A) (y : A) → position_from p k (xs ++ y ∷ []) ≡ option_or (position_from p k xs) (cond (p y) (Some (k + length xs)) None)
position_push p k [] y = ap (λ n. cond (p y) (Some n) None) (omega arith)
position_push p k (x ∷ xs) y =
    let rest = position_push p (k + 1) xs y ∙ ap (λ n. option_or (position_from p (k + 1) xs) (cond (p y) (Some n) None)) (let e : k + 1 + length xs ≡ k + length (x ∷ xs) = omega arith in e) in
    elim (p x) as (λ b. cond b (Some k) (position_from p (k + 1) (xs ++ y ∷ [])) ≡ option_or (cond b (Some k) (position_from p (k + 1) xs)) (cond (p y) (Some (k + length (x ∷ xs))) None))
    [ true ↦ refl | false ↦ rest ]

map_or : {A B : Type 0} (f : A → B) (o p : Option A) → option_map f (option_or o p) ≡ option_or (option_map f o) (option_map f p)
map_or f None p = refl
map_or f (Some x) p = refl

map_cond : {A B : Type 0} (f : A → B) (b : Bool) (x : A) → option_map f (cond b (Some x) None) ≡ cond b (Some (f x)) None
map_cond f true x = refl
map_cond f false x = refl

-- what a test finds first among one more, mapped
pub first_push : {A B : Type 0} (f : ℕ → B) (p : A → Bool) (xs : List A) (y : A) → option_map f (position_from p 0 (xs ++ y ∷ [])) ≡ option_or (option_map f (position_from p 0 xs)) (cond (p y) (Some (f (length xs))) None)
first_push f p xs y =
    ap (option_map f) (position_push p 0 xs y) ∙ (map_or f (position_from p 0 xs) (cond (p y) (Some (0 + length xs)) None)
    ∙ ap (option_or (option_map f (position_from p 0 xs))) (map_cond f (p y) (0 + length xs) ∙ ap (λ n. cond (p y) (Some (f n)) None) (omega arith)))

or_none : {A : Type 0} (o : Option A) → option_or o None ≡ o
or_none None = refl
or_none (Some x) = refl

-- a value that is put where none was, for a name
pub put_first : {A : Type 0} (name q : List ℕ) (old : List ℕ → Option A) (x : A) → old name ≡ None → cond (bytes_eq name q) (Some x) (old q) ≡ option_or (old q) (cond (bytes_eq q name) (Some x) None)
put_first name q old x absent =
    elim (bytes_eq name q) as (λ b. bytes_eq name q ≡ b → cond b (Some x) (old q) ≡ option_or (old q) (cond (bytes_eq q name) (Some x) None)) [
      | true ↦ λ e. subst (λ k. Some x ≡ option_or (old k) (cond (bytes_eq k name) (Some x) None)) ((bytes_eq-Decides name q).0 e) here
      | false ↦ λ e. elim (bytes_eq q name) as (λ b. bytes_eq q name ≡ b → old q ≡ option_or (old q) (cond b (Some x) None))
          [ true ↦ λ f. absurd (false≢true (sym e ∙ (bytes_eq-Decides name q).1 (sym ((bytes_eq-Decides q name).0 f)))) | false ↦ λ f. sym (or_none (old q)) ] refl
    ]
    refl where
      here : Some x ≡ option_or (old name) (cond (bytes_eq name name) (Some x) None)
      here = sym (ap (λ o. option_or o (cond (bytes_eq name name) (Some x) None)) absent ∙ ap (λ b. cond b (Some x) None) ((bytes_eq-Decides name name).1 refl))

-- no value is put where one is
pub put_later : {A : Type 0} (name q : List ℕ) (old : List ℕ → Option A) (x y : A) → old name ≡ Some y → old q ≡ option_or (old q) (cond (bytes_eq q name) (Some x) None)
put_later name q old x y there =
    elim (bytes_eq q name) as (λ b. bytes_eq q name ≡ b → old q ≡ option_or (old q) (cond b (Some x) None))
    [ true ↦ λ e. let same : old q ≡ Some y = ap old ((bytes_eq-Decides q name).0 e) ∙ there in same ∙ sym (ap (λ o. option_or o (Some x)) same) | false ↦ λ e. sym (or_none (old q)) ]
    refl
