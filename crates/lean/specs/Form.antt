-- The lean form that a weaver makes, and the blocks that it is for.
use Rattle.std.specs.Prelude.{◌≡◌, ℕ, ◌+◌, ◌*◌, true, false, List, length, map}
use Rattle.qed_model.specs.Weave.Blocks.{begins_at}
use Rattle.qed_model.specs.Weave.Bounds.{cost_of}
use Rattle.qed_model.specs.Weave.Code.{Sequences}
use Rattle.qed_model.specs.Weave.Parts.{Parts}
use Rattle.qed_model.specs.Weave.LeanBounds.{lean_bounds_of}
use Rattle.qed_model.specs.Weave.LeanParts.{worded_parts}
use Rattle.qed_model.specs.Weave.Placed.{leads_to}
use Rattle.qed_model.specs.Weave.Sequences.{Form, Block}
use Rattle.qed_model.specs.Weave.Forms.{mirror_of}
use Rattle.qed_model.specs.Weave.LeanCode.{start_at, Lean, worded}
use Rattle.block_split.specs.declared.block.CodeBlock.{CodeBlock}
use Rattle.block_split.specs.Listed.{block_of, end_of}
use Rattle.plc_rounds.specs.Spans.{spans_of}
use Rattle.weave.specs.Kind.{CodeKind}
use Rattle.lean.specs.declared.weaver.LeanWeaver.{LeanWeaver}
use Rattle.lean.specs.Counts.{ticks_in, most_in}
use Rattle.lean.specs.Leaves.{Turns}

-- ---- of a weaver
abbrev pub lean_form : LeanWeaver → Form
lean_form w = record {
  spans = spans_of w.visits.span;
  round = w.visits.round;
  far = false;
  sweep = w.sweeps;
  mirror = mirror_of w.diverse;
  cost = cost_of w.diverse;
}

abbrev pub lean_kind : LeanWeaver → CodeKind
lean_kind w = record { far = false; table = true; bounds = λ s. lean_bounds_of s w.every }

abbrev pub blocks_in : LeanWeaver → List Block
blocks_in w = map block_of w.blocks.now

-- the most instructions of a piece are not asked for
abbrev pub lean_of_weaver : LeanWeaver → Lean
lean_of_weaver w = record {
  every = w.every;
  inst_max = 0;
  diverse = w.diverse;
  land = w.land;
  distance = w.distance;
  check = w.check;
  ticks = ticks_in w.counts;
  most = most_in w.counts;
  start_of = start_at (blocks_in w);
}

-- the sequences of a weaver, by where an input address has its entry
abbrev pub code_at : LeanWeaver → (ℕ → ℕ) → Sequences
code_at w entry = worded (lean_form w) w.base entry (lean_of_weaver w) (begins_at (blocks_in w))

abbrev pub lean_code_of : LeanWeaver → Sequences
lean_code_of w = code_at w (leads_to w.entries.items w.last)

-- the parts of its sequences
abbrev pub parts_at : LeanWeaver → (ℕ → ℕ) → Parts
parts_at w entry = worded_parts (lean_form w) w.base entry (lean_of_weaver w) (begins_at (blocks_in w))

abbrev pub lean_parts_of : LeanWeaver → Parts
lean_parts_of w = parts_at w (leads_to w.entries.items w.last)

-- one of its blocks: its leave is found by where it stands, and the signature turns to where it goes on
pub record IsOwn (w : LeanWeaver) (b : CodeBlock) : Type 0 where
  pub starts : start_at (blocks_in w) (end_of b.end) (b.start + 4 * length b.body) ≡ b.start
  pub near : Turns (end_of b.end) b.start (b.start + 4 * length b.body)
