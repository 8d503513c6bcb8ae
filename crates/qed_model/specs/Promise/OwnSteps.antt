-- When the output comes to each state of the input: promises that count the test's own steps.
use Rattle.std.specs.Prelude.{◌≡◌, ◌≢◌, ◌↔◌, ℕ, zero, suc, ◌+◌, ◌-◌, ◌*◌, ◌^◌, ◌<◌, ◌≤◌, Bool, true, false, not, cond, ◌&&◌, ◌||◌, ◌==◌, List, is_some}
use Rattle.rv_isa.specs.declared.profile.TheConstants.{LAST_ORIGINAL, PAIR_DISTANCE}
use Rattle.machine.specs.declared.outcome.Outcome.{Outcome}
use Rattle.machine.specs.declared.outcome.Outcome.TheVariants.{Ended, Fired}
use Rattle.machine.specs.Memory.{get, byte_at}
use Rattle.machine.specs.Program.{Program, AreStartRegs}
use Rattle.machine.specs.Step.{State, reg}
use Rattle.qed_model.specs.Promise.Kept.{after_input, after_output, is_mapped, NotTrapped, Halves, Steady}

-- ---- when the output comes to a state of the input
-- a test holds of each number below n
unfoldable pub each_below : ℕ → (ℕ → Bool) → Bool
each_below zero test = true
each_below (suc n) test = each_below n test && test n

-- the first of n numbers from k on that passes a test, or the one behind them
unfoldable pub first_from : (ℕ → Bool) → ℕ → ℕ → ℕ
first_from test zero k = k
first_from test (suc n) k = cond (test k) k (first_from test n (suc k))

abbrev pub has_ended : Outcome → Bool
has_ended Ended = true
has_ended _ = false

-- an address that the input does not map, or one that the output maps, with the same byte
abbrev pub has_byte : Program → State → State → ℕ → Bool
has_byte f s u q = not (is_mapped f q) || (is_some (get u.memory q) && (byte_at u.memory q == byte_at s.memory q))

-- the output's state u has the values of the input's s in x1 to x13 and at each address, and has ended exactly if s has
unfoldable pub has_values : Program → State → State → Bool
has_values f s u = (each_below LAST_ORIGINAL (λ r. reg u (r + 1) == reg s (r + 1)) && each_below (2 ^ 64) (has_byte f s u))
    && cond (has_ended s.outcome) (has_ended u.outcome) (not (has_ended u.outcome))

-- the output's first step behind that of n - 1 with the values of n input steps, if within first + (n + 1) * bound
unfoldable pub arrival : Program → Program → ℕ → ℕ → List ℕ → ℕ → ℕ
arrival f g first bound regs zero = first_from (λ m. has_values f (after_input f 0) (after_output g regs m)) (first + bound) 0
arrival f g first bound regs (suc n) =
    first_from (λ m. has_values f (after_input f (suc n)) (after_output g regs m))
    (first + (suc n + 1) * bound - (arrival f g first bound regs n + 1)) (arrival f g first bound regs n + 1)

-- ---- Kept, in step
-- the duplicate half has the input's values: x17 to x29, and the bytes at this distance from those that the input maps
pub record Duplicates (f : Program) (distance : ℕ) (s u : State) : Type 0 where
  pub regs : (r : ℕ) → 1 ≤ r → r ≤ LAST_ORIGINAL → reg u (r + PAIR_DISTANCE) ≡ reg s r
  pub bytes : (q : ℕ) → is_mapped f q ≡ true → byte_at u.memory (q + distance) ≡ byte_at s.memory q

-- the output comes to the input's states in their order, to each within the bound; up to there no check fires and
-- nothing traps; it ends exactly if the input does, and then both halves have the input's values
pub record Follows (f g : Program) (reached : ℕ → Bool) (distance first bound : ℕ) (regs : List ℕ) : Type 0 where
  pub grows : (n : ℕ) → arrival f g first bound regs n < arrival f g first bound regs (suc n)
  pub within : (n : ℕ) → arrival f g first bound regs n ≤ first + (n + 1) * bound
  pub halves : (n : ℕ) → Steady f reached n → Halves f (after_input f n) (after_output g regs (arrival f g first bound regs n))
  pub ends : (n : ℕ) → Steady f reached n → ((after_output g regs (arrival f g first bound regs n)).outcome ≡ Ended) ↔ ((after_input f n).outcome ≡ Ended)
  pub quiet : (n m : ℕ) → Steady f reached n → m ≤ arrival f g first bound regs n
      → ((after_output g regs m).outcome ≢ Fired) × NotTrapped (after_output g regs m)
  pub twice : (n : ℕ) → Steady f reached n → (after_input f n).outcome ≡ Ended
      → Duplicates f distance (after_input f n) (after_output g regs (arrival f g first bound regs n))

-- for any registers of the output's start
abbrev pub KeptInStep : Program → Program → (ℕ → Bool) → ℕ → ℕ → ℕ → Type 0
KeptInStep f g reached distance first bound = (regs : List ℕ) → AreStartRegs regs → Follows f g reached distance first bound regs

-- the input is steady for as many of its own steps as the output has made of them by its step m
pub record Covers (f g : Program) (reached : ℕ → Bool) (first bound : ℕ) (regs : List ℕ) (m : ℕ) : Type 0 where
  pub steps : ℕ
  pub steady : Steady f reached steps
  pub until : m ≤ arrival f g first bound regs steps
