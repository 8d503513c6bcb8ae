-- The new code with the pass, and its promises.
use Rattle.std.specs.Prelude.{ℕ, ◌+◌, ◌*◌, ◌≤◌, List, ◌++◌, length}
use Rattle.qed_model.specs.declared.bounds.Bounds.{Bounds}
use Rattle.qed_model.specs.Promise.InStep.{CaughtInStep}
use Rattle.qed_model.specs.Promise.OwnSteps.{KeptInStep}
use Rattle.tests.specs.Admission.DataRanges.{word_count}
use Rattle.qed_model.specs.Weave.Bounds.{visit_bound}
use Rattle.qed_model.specs.Weave.Sequences.{Form, Block, guard, compare, visit, ORIGINALS}
use Rattle.weave_core.specs.World.{Item, World, Program}
use Rattle.weave_core.specs.Rows.{Mirrors}
use Rattle.weave_core.specs.KindItems.{MirrorsFit}
use Rattle.weave_core.specs.Weave.{Weave, most_before_start, stage_steps}
use Rattle.weave_core.specs.WeaveForms.{weave_with}
use Rattle.weave_core.specs.WeavePromise.{PlanOf, OnlyCode, BoundsOf}

-- the comparison of x10 before the checks of a form
abbrev pub checks_of : Form → List Item
checks_of form = guard 10 ++ (compare ++ visit form.round form.spans)

-- the steps of a piece's checks, one more than without the pass
abbrev pub steps_of : Form → ℕ
steps_of form = 1 + (ORIGINALS + visit_bound (word_count form.spans) (length form.spans) * form.round)

abbrev pub with_one : Form → ℕ → Weave
with_one form most = weave_with form most (checks_of form) 1 (steps_of form)

abbrev pub OneKept : Type 0
OneKept =
    (f g : Program) (w : World) (most : ℕ) (blocks : List Block) → PlanOf f g w (with_one w.form most) blocks → Mirrors w
    → KeptInStep f g w.reached w.distance (most_before_start (with_one w.form most)) (stage_steps (with_one w.form most))

abbrev pub OneCaught : Type 0
OneCaught =
    (f g : Program) (w : World) (most : ℕ) (blocks : List Block) (bounds : Bounds) → PlanOf f g w (with_one w.form most) blocks → Mirrors w
    → MirrorsFit w.form.far w.form.mirror → OnlyCode f g w (with_one w.form most).code blocks → 1 ≤ w.form.round
    → BoundsOf w (with_one w.form most) bounds
    → CaughtInStep f g w.reached w.form.spans bounds (most_before_start (with_one w.form most)) (stage_steps (with_one w.form most))
