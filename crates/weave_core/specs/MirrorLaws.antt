-- The laws of both kinds of mirror part: with its original part an instruction takes at most 5 steps if the mirror part
-- is its own kind on the pairs, and at most 8 with other kinds.
use Rattle.std.specs.Prelude.{◌≡◌, ℕ, Bool, List}
use Rattle.qed_model.specs.Promise.OwnSteps.{KeptInStep}
use Rattle.qed_model.specs.Weave.Bounds.{cost_of}
use Rattle.qed_model.specs.Weave.Sequences.{Block}
use Rattle.qed_model.specs.Weave.Diverse.{diverse}
use Rattle.qed_model.specs.Weave.Forms.{mirror_of}
use Rattle.weave_core.specs.World.{World, Program}
use Rattle.weave_core.specs.Rows.{Mirrors}
use Rattle.weave_core.specs.KindItems.{MirrorsFit}
use Rattle.weave_core.specs.Promise.{piece_of, start_of}
use Rattle.weave_core.specs.WeavePromise.{PlanOf}
use Rattle.weave_core.specs.WeaveForms.{weave_of}

-- each does in the duplicate half what its instruction does in the input; its words are of the kinds and do not jump
abbrev pub MirrorsHold : Type 0
MirrorsHold = (other : Bool) (w : World) → w.form.mirror ≡ mirror_of other → w.form.cost ≡ cost_of other → Mirrors w × MirrorsFit w.form.far w.form.mirror

-- any plan with those of other kinds keeps the values
abbrev pub DiverseKept : Type 0
DiverseKept = (f g : Program) (w : World) (most : ℕ) (blocks : List Block) → PlanOf f g w (weave_of w.form most) blocks → w.form.mirror ≡ diverse
    → w.form.cost ≡ 8 → KeptInStep f g w.reached w.distance (start_of w.form) (piece_of w.form most)
