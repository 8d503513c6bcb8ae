use Rattle.std.proofs.Common.{ap, ◌∙◌, ◌++◌}
use Rattle.qed_words.specs.Text.Run.{outcome_line}
use Rattle.rv_step.specs.Harts.{with_memory}
use Rattle.report.proofs.run.lines_with.Goals as goal

pub returns : goal.returns
returns c m =
    let first = outcome_line (with_memory c.args.hart.now m) in
    let second = c.args.second.now in
    c.in_ok-extend_from_slice-2.ensures.items
    ∙ ap (λ xs. xs ++ c.deref.result.now) (c.in_ok-extend_from_slice.ensures.items ∙ ap (λ xs. xs ++ second) (ap (λ v. v.items) c.into_bytes-text.ensures.value ∙ c.in_ok-outcome_text.ensures m))
    ∙ ap (λ xs. (first ++ second) ++ xs) (c.deref.ensures.value ∙ c.in_ok-registers.ensures m)
