-- The forms of the code are a weave: near and far, with or without the sweep, with either kind of mirror part, and with
-- other checks behind the parts of a piece.
use Rattle.std.specs.Prelude.{◌≡◌, ℕ, ◌+◌, ◌*◌, Bool, true, ◌&&◌, ◌==◌, nat_le, cond, List, [], ◌++◌, length}
use Rattle.tests.specs.Admission.DataRanges.{word_count}
use Rattle.qed_model.specs.Weave.Bounds.{visit_bound, end_bound}
use Rattle.qed_model.specs.Weave.Pieces.{is_run}
use Rattle.qed_model.specs.Weave.Sequences.{Form, original, each_part, compare, visit, ORIGINALS, CURSOR, SIGNATURE}
use Rattle.qed_model.specs.Weave.Code.{sequences}
use Rattle.weave_core.specs.World.{Item, World, IsCursor, is_cursor, State, reg}
use Rattle.weave_core.specs.Pass.{Quiet, Lockstep}
use Rattle.weave_core.specs.Parts.{any, ChecksMade}
use Rattle.weave_core.specs.Weave.{Weave}

-- the signature is an input address, and the cursor is at a word
abbrev pub is_signed_at : World → State → ℕ → Bool
is_signed_at w u a = (reg u SIGNATURE == a) && is_cursor w.form.spans (reg u CURSOR)

-- `checks` are woven behind the parts of a piece: at most `steps` steps, at most `first` before registers are compared
abbrev pub weave_with : Form → ℕ → List Item → ℕ → ℕ → Weave
weave_with form most checks first steps = record {
  code = record (sequences form) { piece = λ is at. each_part original is at ++ (each_part form.mirror is at ++ checks) };
  fits = λ is. is_run is && nat_le (length is) most;
  first_steps = cond form.far 33 32;
  enter_steps = 3;
  piece_steps = form.cost * most + steps;
  compare_steps = form.cost * most + first;
  leave_steps = 14;
  end_steps = end_bound form.sweep (length form.spans) (word_count form.spans);
  sweeps = form.sweep;
  sweep_steps = 2 * length form.spans + 8 * word_count form.spans;
  round = form.round;
  ends_at = λ e b at. true;
  held = is_signed_at;
}

-- the checks of a form are the comparison of all registers and the visits
abbrev pub weave_of : Form → ℕ → Weave
weave_of form most = weave_with form most (compare ++ visit form.round form.spans) 0
    (ORIGINALS + visit_bound (word_count form.spans) (length form.spans) * form.round)

-- what is asked of others: the laws of a pass that, where both halves are equal, makes the checks of a round
pub record ChecksLaws (form : Form) (checks : List Item) (first steps : ℕ) : Type 0 where
  pub quiet : Quiet any checks (λ w v. (v.original ≡ v.shadow) × (w.form ≡ form) × IsCursor w.form.spans (reg v.now CURSOR))
      (λ w. ChecksMade w first form.round) (λ w v n z. ⊥) steps
  pub lockstep : Lockstep any [] checks
