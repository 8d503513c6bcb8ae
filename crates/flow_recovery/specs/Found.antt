-- What constants lead to, while sums of the global pointer's values are still to come.
use Rattle.std.specs.Prelude.{◌≡◌, ℕ, ◌+◌, ◌%◌, ◌^◌, ◌==◌, ◌&&◌, ◌||◌, Bool, true, Option, List}
use Rattle.std.specs.List.{list_any}
use Rattle.machine.specs.Numbers.{is_at}
use Rattle.machine.specs.Sets.{has_address}
use Rattle.machine.specs.Step.{imm}
use Rattle.tests.specs.declared.test.CodeWord.{CodeWord}
use Rattle.tests.specs.declared.test.Test.{Test}
use Rattle.tests.specs.Admission.Reached.{leads, one_pass, adds_to}
use Rattle.flow_recovery.specs.declared.found.Code.{Code}
use Rattle.flow_recovery.specs.declared.found.Found.{Found}

-- the constant is remembered
abbrev pub is_recent : List (Option ℕ) → ℕ → Bool
is_recent recent u = list_any (λ s. is_at s u) recent

-- all that remembered constants lead to was added
abbrev pub IsAdded : Code → Found → Type 0
IsAdded c f = (u a : ℕ) → is_recent f.recent.items u ≡ true → has_address c.places.now a ≡ true → leads c.test.now u a ≡ true → has_address f.reached a ≡ true

-- the address was added, or a value of the global pointer leads to it
abbrev pub covers : Code → Found → ℕ → Bool
covers c f a = has_address f.reached a || list_any (λ v. one_pass c.test.now c.test.now.code 3 v a) f.pointers.items

-- at the addresses of words: the new finds cover what the old ones did and what passes the test, and no more
pub record CoversFound (c : Code) (old new : Found) (test : ℕ → Bool) : Type 0 where
  pub kept : IsAdded c old → IsAdded c new
  pub each : IsAdded c old → (a : ℕ) → has_address c.places.now a ≡ true → covers c new a ≡ (covers c old a || test a)

-- at the addresses of words: with `rest`, the new finds cover what the old ones did and what passes the test
pub record CoversBut (c : Code) (old new : Found) (test rest : ℕ → Bool) : Type 0 where
  pub kept : IsAdded c old → IsAdded c new
  pub each : IsAdded c old → (a : ℕ) → has_address c.places.now a ≡ true → (covers c new a || rest a) ≡ (covers c old a || test a)

-- the word adds the number to the global pointer
abbrev pub is_offset : CodeWord → ℕ → Bool
is_offset c a = adds_to 3 c.ins && (imm c.ins == a)

-- a value with an offset leads to the address
abbrev pub sum_leads_on : Test → ℕ → ℕ → ℕ → Bool
sum_leads_on t a value offset = leads t ((value + offset) % 2 ^ 64) a

-- a value leads to the address, itself or with one of the offsets
abbrev pub sums_lead_on : Test → List ℕ → ℕ → ℕ → Bool
sums_lead_on t offsets a value = leads t value a || list_any (sum_leads_on t a value) offsets
