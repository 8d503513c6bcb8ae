-- What calls that carry out an order require of it.
use Rattle.std.specs.Prelude.{ℕ, ◌+◌, ◌^◌, ◌≤◌, ◌<◌, List, Option, IfSome, All, length}
use Rattle.qed_model.specs.declared.change.Change.{Change}
use Rattle.qed_words.specs.declared.orders.Order.{Order}
use Rattle.qed_words.specs.declared.orders.Order.TheVariants as order
use Rattle.qed_words.specs.declared.orders.Order.TheVariants.{Transform, Plan, Explain, Run, Campaign, Slips, Gen, Asm, Harts, Tell}
use Rattle.qed_model.specs.Promise.Changed.{Ordered}
use Rattle.qed_model.specs.Weave.SoundOptions.{AreSoundOptions}

-- the steps of changes do not fall, and a dump has 1 to 65,536 bytes and ends at 2^64 or below
pub record IsSoundRun (steps : ℕ) (changes : List Change) (dump : Option (ℕ × ℕ)) : Type 0 where
  pub few : steps ≤ 1000000000000
  pub ordered : Ordered changes
  pub shown : IfSome dump (λ d. (1 ≤ d.1) × (d.1 ≤ 65536) × (d.0 + d.1 ≤ 2 ^ 64))

-- there are 1 to 8 files, and each hart that makes a turn has one
pub record IsSoundSchedule (files : List (List ℕ)) (turns : Option (List ℕ)) (steps : ℕ) : Type 0 where
  pub some : 1 ≤ length files
  pub most : length files ≤ 8
  pub few : steps ≤ 1000000000000
  pub some_turns : IfSome turns (λ harts. 1 ≤ length harts)
  pub below : IfSome turns (All (λ hart. hart < length files))

abbrev pub IsSoundOrder : Order → Type 0
IsSoundOrder (Transform input output options) = AreSoundOptions options
IsSoundOrder (Plan input options) = AreSoundOptions options
IsSoundOrder (Explain input options at) = AreSoundOptions options
IsSoundOrder (Run file steps changes dump watch) = IsSoundRun steps changes dump
IsSoundOrder (Campaign input options draws results) =
    AreSoundOptions options × ((1 ≤ draws.count) × (draws.count ≤ 10000)) × ((1 ≤ draws.changes) × (draws.changes ≤ 16))
IsSoundOrder (Slips input options draws results) = AreSoundOptions options × ((1 ≤ draws.count) × (draws.count ≤ 10000))
IsSoundOrder (Gen output seed size) = (1 ≤ size) × (size ≤ 60000)
IsSoundOrder (order.List file) = Unit {0}
IsSoundOrder (Asm text output) = Unit {0}
IsSoundOrder (Harts files turns steps) = IsSoundSchedule files turns steps
IsSoundOrder (Tell topic) = Unit {0}
