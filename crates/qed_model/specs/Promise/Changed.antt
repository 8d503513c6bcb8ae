-- Runs with changes.
use Rattle.std.specs.Prelude.{◌≡◌, ℕ, zero, suc, ◌+◌, ◌%◌, ◌≤◌, ◌⊎◌, Bool, true, false, cond, ◌||◌, ◌==◌, List, [], ◌∷◌, nat_le, if◌then◌else◌, fold}
use Rattle.rv_isa.specs.declared.profile.TheConstants.{LAST_ORIGINAL}
use Rattle.machine.specs.declared.place.Place.{Place}
use Rattle.machine.specs.declared.place.Place.TheVariants.{Reg, Word}
use Rattle.qed_model.specs.declared.change.Change.{Change}
use Rattle.machine.specs.declared.outcome.Outcome.TheVariants.{Going, Ended, Fired, Trapped}
use Rattle.machine.specs.declared.outcome.Outcome.{Outcome}
use Rattle.machine.specs.Step.{State, reg, step}
use Rattle.machine.specs.Memory.{number}
use Rattle.machine.specs.Struck.{struck}

-- ---- the changed run
-- a state with an outcome after a change: one that does not go on is not changed
abbrev pub changed_as : Outcome → Change → State → State
changed_as Going c s = struck c.place c.value s
changed_as Ended c s = s
changed_as Fired c s = s
changed_as (Trapped cause pc) c s = s

-- a state after a change
abbrev pub changed : Change → State → State
changed c s = changed_as s.outcome c s

-- the changes of a list whose step is n, in the order of the list
unfoldable pub with_changes : List Change → ℕ → State → State
with_changes [] n s = s
with_changes (c ∷ cs) n s = with_changes cs n (cond (c.step == n) (changed c s) s)

-- the state after n steps; a change with the step k is made after k steps, for each k up to n
unfoldable pub changed_run : State → List Change → ℕ → State
changed_run s cs zero = with_changes cs 0 s
changed_run s cs (suc n) = with_changes cs (suc n) (step (changed_run s cs n))

-- ---- lists of changes
-- steps do not fall
abbrev pub Ordered : List Change → Type 0
Ordered [] = Unit {0}
Ordered (c ∷ []) = Unit {0}
Ordered (c ∷ d ∷ cs) = (c.step ≤ d.step) × Ordered (d ∷ cs)

-- changes with one more, which stands behind those whose step is not greater
abbrev pub with_change : List Change → Change → List Change
with_change [] c = c ∷ []
with_change (d ∷ ds) c = if nat_le d.step c.step then d ∷ with_change ds c else c ∷ d ∷ ds

-- changes in the order of their steps, those of equal steps in their own order
abbrev pub in_order : List Change → List Change
in_order changes = fold with_change [] changes

-- the step of the last change; 0 where there is none
abbrev pub last_step : List Change → ℕ
last_step [] = 0
last_step (c ∷ []) = c.step
last_step (c ∷ d ∷ cs) = last_step (d ∷ cs)

-- a place is a word
abbrev pub is_word : Place → Bool
is_word (Reg r) = false
is_word (Word a) = true

-- some place is a word
abbrev pub has_word : List Change → Bool
has_word [] = false
has_word (c ∷ cs) = is_word c.place || has_word cs

-- ---- what is original
-- a data word: eight aligned bytes of one of the data ranges
abbrev pub IsDataWord : List (ℕ × ℕ) → ℕ → Type 0
IsDataWord [] a = ⊥
IsDataWord (r ∷ rs) a = ((a % 8 ≡ 0) × (r.0 ≤ a) × (a + 8 ≤ r.1)) ⊎ IsDataWord rs a

-- x1 to x13, and the data words
abbrev pub IsOriginal : List (ℕ × ℕ) → Place → Type 0
IsOriginal spans (Reg r) = (1 ≤ r) × (r ≤ LAST_ORIGINAL)
IsOriginal spans (Word a) = IsDataWord spans a

-- two states of the output have the same values in the original half
pub record SameOriginal (spans : List (ℕ × ℕ)) (u v : State) : Type 0 where
  pub regs : (r : ℕ) → 1 ≤ r → r ≤ LAST_ORIGINAL → reg u r ≡ reg v r
  pub words : (a : ℕ) → IsDataWord spans a → number u.memory a 8 ≡ number v.memory a 8
