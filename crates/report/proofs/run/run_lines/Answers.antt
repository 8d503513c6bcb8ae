use Rattle.std.proofs.Common.{ap, ◌∙◌, ◌++◌}
use Rattle.std.proofs.lemmas.List.{append-nil}
use Rattle.qed_words.specs.Text.Run.{outcome_line, register_lines}
use Rattle.rv_step.specs.Harts.{with_memory}
use Rattle.report.proofs.run.run_lines.Goals as goal

pub returns : goal.returns
returns c m =
    let p = with_memory c.args.hart.now m in
    c.in_ok-text.ensures m ∙ ap (λ xs. xs ++ register_lines p.state 31) (append-nil (outcome_line p))
