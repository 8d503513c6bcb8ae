-- The form of the code that a weaver makes, and its code for blocks.
use Rattle.std.specs.Prelude.{ℕ, Bool, false, List, ◌++◌, is_some}
use Rattle.tests.specs.declared.options.Options.{Options}
use Rattle.qed_model.specs.declared.item.Item.{Item}
use Rattle.qed_model.specs.Weave.Sequences.{Form, Block}
use Rattle.qed_model.specs.Weave.Code.{Sequences, entries_of, sequences}
use Rattle.qed_model.specs.Weave.Bounds.{bounds_of, cost_of}
use Rattle.qed_model.specs.Weave.Forms.{mirror_of}
use Rattle.plc_rounds.specs.Spans.{spans_of}
use Rattle.weave.specs.declared.weaver.Weaver.{Weaver}
use Rattle.weave.specs.Kind.{CodeKind}

-- the form of code with these ranges and options
abbrev pub form_with : List (ℕ × ℕ) → Options → Bool → Form
form_with spans o far = record { spans = spans; round = o.round; far = far; sweep = o.sweep; mirror = mirror_of o.diverse; cost = cost_of o.diverse }

-- the form of the code that a weaver makes
abbrev pub form : Weaver → Form
form w = record {
  spans = spans_of w.pieces.second.second.pass.second.span;
  round = w.pieces.second.second.pass.second.round;
  far = w.far;
  sweep = is_some w.sweep;
  mirror = mirror_of w.pieces.second.first.pass.diverse;
  cost = cost_of w.pieces.second.first.pass.diverse;
}

abbrev pub kind : Weaver → CodeKind
kind w = record { far = w.far; table = false; bounds = bounds_of }

-- the new code up to the stub: what runs first, and the entries of the blocks
abbrev pub code_to_stub : Sequences → ℕ → ℕ → List Block → List Item
code_to_stub s d entry blocks = s.first d entry ++ entries_of s blocks

-- the new code of a form up to the stub
abbrev pub items_to_stub : ℕ → ℕ → Form → List Block → List Item
items_to_stub d entry form blocks = code_to_stub (sequences form) d entry blocks
