-- Today's forms meet the laws of the words and the entry, so the promises of a plan follow from those of any weave.
use Rattle.std.proofs.Common.{◌≡◌, ℕ, zero, suc, ◌+◌, ◌*◌, ◌≤◌, true, List, [], ◌∷◌, ◌++◌, length, refl, sym, ap, ◌∙◌, subst, arith}
use Rattle.std.proofs.Math.Nat.{mul-le-mul}
use Rattle.qed_model.specs.Weave.Bounds.{visit_bound, word_bound}
use Rattle.tests.specs.Admission.DataRanges.{word_count}
use Rattle.weave_core.specs.Promise.{piece_of, start_of}
use Rattle.qed_model.specs.Weave.Blocks.{begins_at}
use Rattle.qed_model.specs.Weave.Sequences.{Form, Block, compare, visit, ORIGINALS}
use Rattle.weave_core.specs.KindItems.{MirrorsFit}
use Rattle.weave_core.proofs.Lemmas.{enter_items, end_items, prologue_items, land_enter, land_end, land_prologue, lockstep_piece, both, both_steps, form_checks, rows_with, starts_with, form_rows, form_starts}
use Rattle.lockstep.specs.Closes.{Closes}
use Rattle.lockstep.specs.Promise.{IsBoundsOf, PlanCaught, PlanClean}
use Rattle.weave_core.specs.Leaving.{sweep_cost}
use Rattle.weave_core.specs.Weave.{stage_steps, most_before_start}
use Rattle.weave_core.specs.WeaveLaws.{Words}
use Rattle.qed_model.specs.declared.bounds.Bounds.{Bounds}
use Rattle.qed_model.specs.Promise.InStep.{CaughtInStep, CleanInStep}
use Rattle.weave_core.specs.World.{World, Item, Program}
use Rattle.weave_core.specs.Rows.{Mirrors}
use Rattle.weave_core.specs.WeavePromise.{PlanOf, OnlyCode, BoundsOf}
use Rattle.weave_core.specs.WeaveForms.{weave_with, weave_of, ChecksLaws}
use Rattle.lockstep.proofs.Cleaned.{CleanAll}
use Rattle.lockstep.proofs.Weaves.{catches_all, cleans_all, weave_caught, weave_clean}
use Rattle.lockstep.proofs.Promise.{CaughtAll}

-- ---- the words
-- of a form with any checks
pub words_with : (form : Form) (most : ℕ) (checks : List Item) (first steps : ℕ) → ChecksLaws form checks first steps → MirrorsFit form.far form.mirror → Words form.far (weave_with form most checks first steps)
words_with form most checks first steps laws m = let piece = lockstep_piece form checks m (record { locks = λ far e. laws.lockstep.locks far tt; lands = λ far e. laws.lockstep.lands far tt }) in record {
  first_locks = λ d a. prologue_items form.far d form.spans a;
  first_lands = λ d a. land_prologue form.far d form.spans a;
  enter_locks = λ a. enter_items form.far a;
  enter_lands = λ a. land_enter form.far a;
  piece_locks = λ is at h. (piece is at h).locks form.far refl;
  piece_lands = λ is at h. (piece is at h).lands form.far refl;
  leave_locks = λ e at h. end_items form m e at h;
  leave_lands = λ e at h. land_end form m e at h;
}

pub form_words : (form : Form) (most : ℕ) → MirrorsFit form.far form.mirror → Words form.far (weave_of form most)
form_words form most m = words_with form most (compare ++ visit form.round form.spans) 0 (ORIGINALS + visit_bound (word_count form.spans) (length form.spans) * form.round) (form_checks form) m

-- ---- the promises
-- with any checks that have the laws changes are caught
pub caught_with :
    (f g : Program) (w : World) (most : ℕ) (checks : List Item) (first steps : ℕ) (blocks : List Block) (bounds : Bounds) → ChecksLaws w.form checks first steps
    → PlanOf f g w (weave_with w.form most checks first steps) blocks → Mirrors w → MirrorsFit w.form.far w.form.mirror
    → OnlyCode f g w (weave_with w.form most checks first steps).code blocks → 1 ≤ w.form.round → first + 17 ≤ steps
    → BoundsOf w (weave_with w.form most checks first steps) bounds
    → CaughtInStep f g w.reached w.form.spans bounds (most_before_start (weave_with w.form most checks first steps)) (stage_steps (weave_with w.form most checks first steps))
caught_with f g w most checks first steps blocks bounds laws p law fit closed some room b =
    weave_caught f g w (weave_with w.form most checks first steps) blocks bounds p (rows_with w most checks first steps laws (begins_at blocks) law) (starts_with w most checks first steps laws (begins_at blocks) f g) (words_with w.form most checks first steps laws fit) closed some (omega arith) (omega (arith, room)) b

-- the visits of a piece take ten steps at least
pub visits_ten : (spans : List (ℕ × ℕ)) (n : ℕ) → 1 ≤ n → 10 ≤ visit_bound (word_count spans) (length spans) * n
visits_ten spans n h = mul-le-mul (ten spans) h where
  some : (words ranges : ℕ) → 1 ≤ ranges → 10 ≤ visit_bound words ranges
  some zero ranges h = omega arith
  some (suc n) ranges h = omega (arith, h)

  ten : (spans : List (ℕ × ℕ)) → 10 ≤ visit_bound (word_count spans) (length spans)
  ten [] = omega arith
  ten (r ∷ rs) = some (word_count (r ∷ rs)) (length (r ∷ rs)) (omega arith)

-- the steps of a form are those of its weave
pub stage_is : (w : World) (most : ℕ) → piece_of w.form most ≡ stage_steps (weave_of w.form most)
stage_is w most = omega arith

pub start_is : (w : World) (most : ℕ) → start_of w.form ≡ most_before_start (weave_of w.form most)
start_is w most = omega arith

-- the bounds of a form are those of its weave
pub bounds_in : (w : World) (most : ℕ) (bounds : Bounds) → IsBoundsOf w.form most bounds → BoundsOf w (weave_of w.form most) bounds
bounds_in w most bounds b = record {
  register = b.register ∙ ap (λ n. start_of w.form + 2 * n) (stage_is w most);
  word = b.word ∙ ap (λ n. word_bound (word_count w.form.spans) w.form.round (start_of w.form) n) (stage_is w most);
}

-- changes in a plan are caught
pub plan_caught : PlanCaught
plan_caught f g w most blocks bounds p law closes some b =
    let ten = visits_ten w.form.spans w.form.round some in
    subst (λ n. CaughtInStep f g w.reached w.form.spans bounds n (piece_of w.form most)) (sym (start_is w most))
    (subst (λ n. CaughtInStep f g w.reached w.form.spans bounds (most_before_start (weave_of w.form most)) n) (sym (stage_is w most))
    (caught_with f g w most (both w most) 0 (both_steps w most) blocks bounds (form_checks w.form) p law closes.mirrors closes.only some (omega (arith, ten)) (bounds_in w most bounds b)))

-- changes in a plan at places that are open for Lock alone are caught too
pub plan_caught_all :
    (f g : Program) (w : World) (most : ℕ) (blocks : List Block) (bounds : Bounds) → PlanOf f g w (weave_of w.form most) blocks → Mirrors w → Closes f g w blocks → 1 ≤ w.form.round → IsBoundsOf w.form most bounds
    → CaughtAll f g w (most_before_start (weave_of w.form most)) (stage_steps (weave_of w.form most)) bounds
plan_caught_all f g w most blocks bounds p law closes some b =
    let ten = visits_ten w.form.spans w.form.round some in
    catches_all f g w (weave_of w.form most) blocks p (form_rows w most (begins_at blocks) law) (form_starts w most (begins_at blocks) f g) (form_words w.form most closes.mirrors) closes.only some (omega arith) (omega (arith, ten)) bounds (bounds_in w most bounds b)

-- the sweep lets no change end silently
pub plan_clean : PlanClean
plan_clean f g w most blocks p law closes some sweeps =
    let ten = visits_ten w.form.spans w.form.round some in
    let last = sweep_cost w.form.spans + 14 in
    subst (λ n. CleanInStep f g w.reached w.form.spans last n (piece_of w.form most)) (sym (start_is w most))
    (subst (λ n. CleanInStep f g w.reached w.form.spans last (most_before_start (weave_of w.form most)) n) (sym (stage_is w most))
    (weave_clean f g w (weave_of w.form most) blocks p (form_rows w most (begins_at blocks) law) (form_starts w most (begins_at blocks) f g) (form_words w.form most closes.mirrors) closes.only some (omega arith) (omega (arith, ten)) sweeps))

-- nor at places that are open for Lock alone
pub plan_clean_all :
    (f g : Program) (w : World) (most : ℕ) (blocks : List Block) → PlanOf f g w (weave_of w.form most) blocks → Mirrors w → Closes f g w blocks → 1 ≤ w.form.round → w.form.sweep ≡ true
    → CleanAll f g w (most_before_start (weave_of w.form most)) (stage_steps (weave_of w.form most)) (sweep_cost w.form.spans + 14)
plan_clean_all f g w most blocks p law closes some sweeps =
    let ten = visits_ten w.form.spans w.form.round some in
    cleans_all f g w (weave_of w.form most) blocks p (form_rows w most (begins_at blocks) law) (form_starts w most (begins_at blocks) f g) (form_words w.form most closes.mirrors) closes.only some (omega arith) (omega (arith, ten)) sweeps
