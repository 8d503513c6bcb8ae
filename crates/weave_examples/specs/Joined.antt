-- Joined pieces: several runs, each with its original and its mirror parts, make one piece, with one comparison and one
-- round of visits behind them. Entry, leave and what runs first are those of a form.
use Rattle.std.specs.Prelude.{◌≡◌, ◌≤◌, ℕ, ◌+◌, ◌*◌, Bool, true, cond, ◌&&◌, nat_le, List, [], ◌∷◌, ◌++◌, length}
use Rattle.qed_model.specs.declared.bounds.Bounds.{Bounds}
use Rattle.qed_model.specs.declared.plan.EntryRow.{EntryRow}
use Rattle.qed_model.specs.Promise.InStep.{CaughtInStep, CleanInStep, LandedInStep}
use Rattle.qed_model.specs.Promise.Kept.{Kept}
use Rattle.qed_model.specs.Promise.Landed.{IsEntry}
use Rattle.qed_model.specs.Weave.Blocks.{begins_at}
use Rattle.qed_model.specs.Weave.Pieces.{is_run, whole}
use Rattle.qed_model.specs.Weave.Code.{sequences}
use Rattle.qed_model.specs.Weave.Sequences.{Ins, Form, Block, original, each_part, compare, visit}
use Rattle.weave_core.specs.World.{Item, World, Program}
use Rattle.weave_core.specs.Rows.{Mirrors}
use Rattle.weave_core.specs.KindItems.{MirrorsFit}
use Rattle.weave_core.specs.Weave.{Weave, most_before_start, stage_steps}
use Rattle.weave_core.specs.WeaveForms.{weave_of}
use Rattle.weave_core.specs.WeavePromise.{PlanOf, OnlyCode, BoundsOf}

-- each list is a run
abbrev pub all_runs : List (List Ins) → Bool
all_runs [] = true
all_runs (r ∷ rs) = is_run r && all_runs rs

-- the parts of all runs, one run behind another
abbrev pub runs_items : Form → List (List Ins) → ℕ → List Item
runs_items form [] at = []
runs_items form (r ∷ rs) at = (each_part original r at ++ each_part form.mirror r at) ++ runs_items form rs (at + 4 * length r)

-- the weave with a way of cutting instructions into runs, and at most `most` instructions in a piece
abbrev pub joined_weave : (List Ins → List (List Ins)) → Form → ℕ → Weave
joined_weave cut form most = record (weave_of form most) {
  code = record (sequences form) { piece = λ is at. runs_items form (cut is) at ++ (compare ++ visit form.round form.spans) };
  fits = λ is. all_runs (cut is) && nat_le (length is) most;
}

-- a way of cutting: from the end on, each run as long as it can be
abbrev pub put_first : Ins → List (List Ins) → List (List Ins)
put_first i [] = (i ∷ []) ∷ []
put_first i (r ∷ rs) = cond (is_run (i ∷ r)) ((i ∷ r) ∷ rs) ((i ∷ []) ∷ r ∷ rs)

abbrev pub cut_runs : List Ins → List (List Ins)
cut_runs [] = []
cut_runs (i ∷ is) = put_first i (cut_runs is)

-- ---- what is promised of joined pieces, with any way of cutting that keeps the instructions
abbrev pub JoinedKept : (List Ins → List (List Ins)) → Type 0
JoinedKept cut =
    (f g : Program) (w : World) (most : ℕ) (blocks : List Block) → PlanOf f g w (joined_weave cut w.form most) blocks → Mirrors w
    → Kept f g w.reached (most_before_start (joined_weave cut w.form most)) (stage_steps (joined_weave cut w.form most))

abbrev pub JoinedLanded : (List Ins → List (List Ins)) → Type 0
JoinedLanded cut =
    (f g : Program) (w : World) (most : ℕ) (blocks : List Block) (entries : List EntryRow) → PlanOf f g w (joined_weave cut w.form most) blocks → Mirrors w
    → ((a e : ℕ) → IsEntry entries a e → (begins_at blocks a ≡ true) × (e ≡ w.entry a))
    → LandedInStep 4 f g w.reached entries (most_before_start (joined_weave cut w.form most)) (stage_steps (joined_weave cut w.form most))

abbrev pub JoinedCaught : (List Ins → List (List Ins)) → Type 0
JoinedCaught cut =
    (f g : Program) (w : World) (most : ℕ) (blocks : List Block) (bounds : Bounds) → PlanOf f g w (joined_weave cut w.form most) blocks → Mirrors w
    → MirrorsFit w.form.far w.form.mirror → OnlyCode f g w (joined_weave cut w.form most).code blocks → 1 ≤ w.form.round
    → BoundsOf w (joined_weave cut w.form most) bounds
    → CaughtInStep f g w.reached w.form.spans bounds (most_before_start (joined_weave cut w.form most)) (stage_steps (joined_weave cut w.form most))

abbrev pub JoinedClean : (List Ins → List (List Ins)) → Type 0
JoinedClean cut =
    (f g : Program) (w : World) (most : ℕ) (blocks : List Block) → PlanOf f g w (joined_weave cut w.form most) blocks → Mirrors w
    → MirrorsFit w.form.far w.form.mirror → OnlyCode f g w (joined_weave cut w.form most).code blocks → 1 ≤ w.form.round → w.form.sweep ≡ true
    → CleanInStep f g w.reached w.form.spans ((joined_weave cut w.form most).sweep_steps + 14)
    (most_before_start (joined_weave cut w.form most)) (stage_steps (joined_weave cut w.form most))

-- the cut above keeps the instructions and gives runs: so each list of at most `most` instructions is one piece
abbrev pub CutsRuns : Type 0
CutsRuns = (is : List Ins) → (whole (cut_runs is) ≡ is) × (all_runs (cut_runs is) ≡ true)
