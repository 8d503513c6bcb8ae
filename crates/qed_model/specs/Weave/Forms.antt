-- What the new code of a file depends on besides its blocks, and what its bounds depend on (this project's profile).
use Rattle.std.specs.Prelude.{ℕ, Bool, cond, List, length}
use Rattle.qed_model.specs.declared.bounds.Shape.{Shape}
use Rattle.tests.specs.Admission.DataRanges.{data_ranges, word_count}
use Rattle.qed_model.specs.Weave.Sequences.{Item, Ins, Form, mirrored}
use Rattle.qed_model.specs.Weave.Diverse.{diverse}
use Rattle.tests.specs.declared.options.Options.{Options}
use Rattle.tests.specs.Admission.Places.{ElfFile, image_of}
use Rattle.qed_model.specs.Weave.Bounds.{cost_of}

-- the mirror part of an instruction: the same on the pairs, or where it is asked for of other kinds
abbrev pub mirror_of : Bool → Ins → ℕ → List Item
mirror_of other = cond other diverse mirrored

-- what the new code depends on besides the blocks, in the near or in the far form
abbrev pub form_of : ElfFile → Options → Bool → Form
form_of f o far = record {
  spans = data_ranges (image_of f);
  round = o.round;
  far = far;
  sweep = o.sweep;
  mirror = mirror_of o.diverse;
  cost = cost_of o.diverse;
}

-- what the bounds depend on
abbrev pub shape_of : ElfFile → Options → Bool → Shape
shape_of f o far = record {
  words = word_count (data_ranges (image_of f));
  ranges = length (data_ranges (image_of f));
  round = o.round;
  inst_max = o.inst_max;
  far = far;
  sweep = o.sweep;
  diverse = o.diverse;
  land = o.land;
}
