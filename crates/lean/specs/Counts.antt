-- What is counted of blocks, from the last to the first: which have a tick, and the steps that it counts.
use Rattle.std.specs.Prelude.{◌≡◌, ℕ, ◌||◌, Bool, true, cond, Option, Some, None, List, map}
use Rattle.std.specs.BTreeMap.{BTreeMap, get}
use Rattle.std.specs.BTreeSet.{BTreeSet}
use Rattle.std.specs.Ordering.{nat_cmp}
use Rattle.machine.specs.Sets.{has_address}
use Rattle.qed_model.specs.Weave.Blocks.{begins_at}
use Rattle.qed_model.specs.Weave.LeanCode.{Counting, leads_in, has_tick, most_at, tick_rows}
use Rattle.qed_model.specs.Weave.Sequences.{Block}
use Rattle.block_split.specs.Listed.{block_of}
use Rattle.lean.specs.declared.counts.Counted.{Counted}
use Rattle.lean.specs.declared.counts.Terms.{Terms}

-- ---- what is counted, by where blocks begin
abbrev pub ticks_of : Option Counted → Bool
ticks_of None = true
ticks_of (Some k) = k.ticks

abbrev pub most_of : Option Counted → ℕ
most_of None = 0
most_of (Some k) = k.most

abbrev pub ticks_in : BTreeMap ℕ Counted → ℕ → Bool
ticks_in counts a = ticks_of (get nat_cmp counts a)

abbrev pub most_in : BTreeMap ℕ Counted → ℕ → ℕ
most_in counts a = most_of (get nat_cmp counts a)

-- the steps behind an entry that the tick before it has to count
abbrev pub owed_in : BTreeMap ℕ Counted → ℕ → ℕ
owed_in counts a = cond (ticks_in counts a) 0 (most_in counts a)

-- ---- where blocks go on

-- the new set has what the old one has, and what passes the test
pub record AddsTo (old new : BTreeSet ℕ) (test : ℕ → Bool) : Type 0 where
  pub each : (a : ℕ) → has_address new a ≡ (test a || has_address old a)

-- ---- both, of the last blocks of a test
abbrev pub counting : Terms → Counting
counting t = record { diverse = t.diverse; land = t.land; leader = begins_at (map block_of t.blocks.now); entry = t.entry; room = t.room }

pub record AreCounts (c : Counting) (bs : List Block) (counts : BTreeMap ℕ Counted) (goals : BTreeSet ℕ) : Type 0 where
  pub ticks : (a : ℕ) → ticks_in counts a ≡ has_tick (tick_rows c bs) a
  pub most : (a : ℕ) → most_in counts a ≡ most_at (tick_rows c bs) a
  pub led : (a : ℕ) → has_address goals a ≡ leads_in bs a
