-- Both promises, each by one call.
use Rattle.std.proofs.Common.{◌+◌, ◌*◌, ◌++◌, length, arith}
use Rattle.tests.specs.Admission.DataRanges.{word_count}
use Rattle.qed_model.specs.Weave.Bounds.{visit_bound}
use Rattle.qed_model.specs.Weave.Sequences.{Form, guard, compare, visit, ORIGINALS}
use Rattle.weave_core.specs.WeaveForms.{ChecksLaws}
use Rattle.weave_core.proofs.Lemmas.{checks_after, form_checks, kept_with}
use Rattle.lockstep.proofs.Lemmas.{visits_ten, caught_with}
use Rattle.weave_examples.specs.Laws.{quiet_one, lockstep_one}
use Rattle.weave_examples.specs.Promise.{checks_of, steps_of, OneKept, OneCaught}

-- the laws of the pass imply those of the checks
one_checks : (form : Form) → ChecksLaws form (checks_of form) 1 (steps_of form)
one_checks form = checks_after form (guard 10) (compare ++ visit form.round form.spans) 1 0 (ORIGINALS + visit_bound (word_count form.spans) (length form.spans) * form.round) quiet_one lockstep_one (form_checks form)

pub kept : OneKept
kept f g w most blocks p law = kept_with f g w most (checks_of w.form) 1 (steps_of w.form) blocks (one_checks w.form) p law

pub caught : OneCaught
caught f g w most blocks bounds p law fit closed some b =
    let ten = visits_ten w.form.spans w.form.round some in
    caught_with f g w most (checks_of w.form) 1 (steps_of w.form) blocks bounds (one_checks w.form) p law fit closed some (omega (arith, ten)) b
