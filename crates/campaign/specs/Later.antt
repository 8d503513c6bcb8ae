-- Changes as they are counted from a later step, and changes of one word.
use Rattle.std.specs.Prelude.{◌≡◌, ℕ, ◌-◌, ◌==◌, if◌then◌else◌, List, [], ◌∷◌, map, Option, None, Some}
use Rattle.machine.specs.declared.place.Place.{Place}
use Rattle.machine.specs.declared.place.Place.TheVariants.{Reg, Word}
pub use Rattle.machine.specs.Step.{State, run}
use Rattle.machine.specs.Struck.{struck}
use Rattle.qed_model.specs.declared.change.Change.{Change}

-- a change whose steps are counted from a later one
abbrev pub counted_from : ℕ → Change → Change
counted_from start c = record { step = c.step - start; place = c.place; value = c.value }

abbrev pub all_from : ℕ → List Change → List Change
all_from start cs = map (counted_from start) cs

-- the step of the first change; 0 if there is none
abbrev pub first_step : List Change → ℕ
first_step [] = 0
first_step (c ∷ cs) = c.step

-- ---- one word
-- the address and the value of a single change of a word at step 0
abbrev pub word_changed : Place → ℕ → ℕ → Option (ℕ × ℕ)
word_changed (Word a) step x = if step == 0 then Some (a, x) else None
word_changed (Reg r) step x = None

abbrev pub one_word : List Change → Option (ℕ × ℕ)
one_word [] = None
one_word (c ∷ []) = word_changed c.place c.step c.value
one_word (c ∷ d ∷ cs) = None

-- a state that differs from another at that word alone, if there is one
abbrev pub IsChangedAt : State → Option (ℕ × ℕ) → State → Type 0
IsChangedAt s None t = Unit {0}
IsChangedAt s (Some w) t = t ≡ struck (Word w.0) w.1 s
