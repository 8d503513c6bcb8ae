-- What lockstep of a pass means: each of its words is of a kind, and no register is closed at the first.
use Rattle.std.specs.Prelude.{◌≡◌, ℕ, ◌+◌, ◌*◌, ◌^◌, ◌<◌, Bool, true, List, ◌++◌, length}
use Rattle.machine.specs.Step.{class_of, Ins, Fetched, Known, HasAt}
use Rattle.qed_model.specs.declared.item.Item.{Item}
use Rattle.qed_model.specs.Weave.Placed.{instructions_from}
use Rattle.weave_core.specs.Lock.{Opens, HasKind}
use Rattle.weave_core.specs.Kinds.{opens}
use Rattle.weave_core.specs.KindItems.{LockItems, LandItems, LandsAs, OpenEntries}

-- the words of the items stand from a on; no register is closed at the words behind them, nor at an entry
pub record Before (far : Bool) (items : List Item) (c : ℕ → Fetched) (entry : ℕ → ℕ) (a : ℕ) (behind : List Ins) : Type 0 where
  pub near : a + 4 * length (instructions_from far entry a items) + 72 < 2 ^ 64
  pub words : HasAt c a (instructions_from far entry a items ++ behind)
  pub open_behind : opens behind ≡ true
  pub open_entries : OpenEntries c entry

-- the word at an address is of a kind, and leads to addresses at which no register is closed
pub record KindAt (c : ℕ → Fetched) (a : ℕ) : Type 0 where
  pub ins : Ins
  pub known : c a ≡ Known ins
  pub fits : HasKind c a ins
  pub lands : LandsAs (class_of ins.kind) c a ins

abbrev pub KindsHold : Type 0
KindsHold = (far : Bool) (items : List Item) → LockItems far items → LandItems far items
    → (c : ℕ → Fetched) (entry : ℕ → ℕ) (a : ℕ) (behind : List Ins) → Before far items c entry a behind
    → Opens c a × ((k : ℕ) → k < length (instructions_from far entry a items) → KindAt c (a + 4 * k))
