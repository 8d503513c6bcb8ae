use Rattle.std.proofs.Common.{sym, ap, ◌∙◌, ◌-◌, ◌++◌}
use Rattle.qed_words.specs.Text.Run.{register_lines}
use Rattle.rv_step.specs.Harts.{with_memory}
use Rattle.report.proofs.RegisterLines.{no_lines, more_lines}
use Rattle.report.proofs.run.registers_text.Goals as goal

pub loop-number-init : goal.loop-number-init
loop-number-init c m = c.new-text.ensures.items ∙ sym (no_lines (with_memory c.args.hart.now m).state)

pub loop-number-preserved : goal.loop-number-preserved
loop-number-preserved c m =
    let s = (with_memory c.args.hart.now m).state in
    let n = c.loop-number.number in
    c.in_ok-extend_from_slice.ensures.items
    ∙ ap (λ xs. xs ++ c.as_bytes.result.now) (c.loop-number.invariant m)
    ∙ ap (λ xs. register_lines s (n - 1) ++ xs) (c.as_bytes.ensures.value ∙ c.in_ok-line.ensures m)
    ∙ more_lines s n c.loop-number.auto.number
