use Rattle.std.proofs.Common.{sym, ap, ◌∙◌, arith}
use Rattle.rv_step.specs.Harts.{HartState, with_memory}
use Rattle.rv_step.specs.Known.{does_step}
use Rattle.rv_step.proofs.Running.{all_made, made_counted}
use Rattle.rv_step.proofs.hart.Hart.run_made.Goals as goal
use Rattle.mem_image.proofs.WholeLaws.{any_err}

pub returns-clause-run : goal.returns-clause-run
returns-clause-run c =
    let made = c.run_uncounted-made in
    made_counted (with_memory c.args.self.now c.args.image.now) made.result.0 _ _ _ made.new.image made.ensures.made c.self.view_is (omega arith) c.saturating_add-self-inside.ensures
    ∙ all_made (with_memory c.args.self.now c.args.image.now) (with_memory made.new.self made.new.image) made.result.0 c.args.n made.ensures.made made.ensures.within (rw c.in_ok-done.was at made.ensures.stopped)

pub returns-in_err-done-clause-part : goal.returns-in_err-done-clause-part
returns-in_err-done-clause-part c = any_err c.from_residual.result _ (record {
  count = c.run_uncounted-made.result.0;
  most = rw c.in_err-done.was at c.run_uncounted-made.ensures.part;
  made = made_counted (with_memory c.args.self.now c.args.image.now) c.run_uncounted-made.result.0 _ _ _ c.run_uncounted-made.new.image c.run_uncounted-made.ensures.made c.self.view_is (omega arith) c.saturating_add-self-inside.ensures;
})

pub returns-clause-made : goal.returns-clause-made
returns-clause-made c =
    let made = c.run_uncounted-made in
    record {
      within = made.ensures.within;
      all = all_made (with_memory c.args.self.now c.args.image.now) (with_memory made.new.self made.new.image) made.result.0 c.args.n made.ensures.made made.ensures.within (rw c.in_ok-done.was at made.ensures.stopped);
      going = made.ensures.made.going;
      stopped = λ less. ap (λ q. does_step q.state.outcome) (sym (returns-clause-run c)) ∙ ap (λ (h : HartState). does_step h.outcome) c.self.view_is ∙ (rw c.in_ok-done.was at made.ensures.stopped) less;
    }
