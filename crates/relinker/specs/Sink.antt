-- What takes the items of new code part by part.
use Rattle.std.specs.Prelude.{ℕ, Bool, List, ◌++◌}

-- some parts were taken, and these are the first of those still to come
abbrev pub ComeNext : {A : Type 0} → (Bool × ℕ → List A → List A → Type 0) → List A → Type 0
ComeNext {A} took parts = (form : Bool × ℕ) × (done : List A) × (rest : List A) × took form done (parts ++ rest)

-- if these parts are the next to come, they are taken
abbrev pub Takes : {A : Type 0} → (Bool × ℕ → List A → List A → Type 0) → (Bool × ℕ → List A → List A → Type 0) → List A → Type 0
Takes {A} old new parts = (form : Bool × ℕ) (done rest : List A) → old form done (parts ++ rest) → new form (done ++ parts) rest
