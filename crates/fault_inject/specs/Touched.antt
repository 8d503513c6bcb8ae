-- What steps touch in memory, and steps that touch no byte of a word.
use Rattle.std.specs.Prelude.{◌≡◌, ℕ, ◌+◌, ◌<◌, ◌≤◌, [], ◌∷◌, ◌++◌, length, Option, None, Some}
use Rattle.rv_isa.specs.declared.class.Class.TheVariants as class
use Rattle.machine.specs.Below.{each}
pub use Rattle.machine.specs.declared.outcome.Outcome.TheVariants.{Going, Ended, Fired, Trapped}
use Rattle.machine.specs.Memory.{offset, wrap}
pub use Rattle.machine.specs.Step.{State, place, run, Class, Ins, class_of, step}
use Rattle.rv_step.specs.Known.{known_at}
use Rattle.fault_inject.specs.declared.trace.Trace.{Trace}

-- the address that an instruction of a class loads from or stores to; 0 if it does neither
abbrev pub touched_as : Class → Ins → State → ℕ
touched_as class.Load i s = place i s
touched_as class.Store i s = place i s
touched_as _ i s = 0

abbrev pub touched_by : Option Ins → State → ℕ
touched_by None s = 0
touched_by (Some i) s = touched_as (class_of i.kind) i s

-- the address that the next step loads from or stores to; 0 if it does neither
abbrev pub touched : State → ℕ
touched s = touched_by (known_at s s.pc) s

-- the n bytes from b on are none of the eight from a on
abbrev pub IsFar : ℕ → ℕ → ℕ → Type 0
IsFar a b n = (i : ℕ) → i < n → 8 ≤ offset a (wrap (b + i))

-- the next step touches no byte of the word at an address: it fetches, loads and stores others
pub record IsSpared (a : ℕ) (s : State) : Type 0 where
  pub fetched : IsFar a s.pc 4
  pub touched : IsFar a (touched s) 8

-- what the first steps of a run touch, and between which addresses they are fetched; each from a state that goes on
pub record IsTrace (s : State) (t : Trace) : Type 0 where
  pub places : t.places.items ≡ each (length t.places.items) (λ k. touched (run s k))
  pub going : (k : ℕ) → k < length t.places.items → (run s k).outcome ≡ Going
  pub low : (k : ℕ) → k < length t.places.items → t.low ≤ (run s k).pc
  pub high : (k : ℕ) → k < length t.places.items → (run s k).pc ≤ t.high

-- a trace longer by one step, made from this state
pub record IsLonger (before : Trace) (s : State) (after : Trace) : Type 0 where
  pub places : after.places.items ≡ before.places.items ++ touched s ∷ []
  pub low : (after.low ≤ before.low) × (after.low ≤ s.pc)
  pub high : (before.high ≤ after.high) × (s.pc ≤ after.high)

-- behind the first `from` steps of a run, the next n touch no byte of a word
pub record AreSpared (a from n : ℕ) (s : State) : Type 0 where
  pub going : (k : ℕ) → k < n → (run s (from + k)).outcome ≡ Going
  pub spared : (k : ℕ) → k < n → IsSpared a (run s (from + k))
