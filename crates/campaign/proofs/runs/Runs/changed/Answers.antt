use Rattle.std.proofs.Common.{◌≡◌, ap, ◌∙◌, sym, subst, arith}
use Rattle.qed_model.specs.Promise.Changed.{Ordered, changed_run, last_step}
use Rattle.campaign.specs.Later.{all_from, run}
use Rattle.campaign.proofs.Shifting.{not_before_all, ordered_later, behind_later}
use Rattle.campaign.proofs.Stopping.{progress_state}
use Rattle.campaign.proofs.runs.Runs.changed.Goals as goal

pub all_from-requires : goal.all_from-requires
all_from-requires c =
    let first = c.first_step-start.ensures in
    not_before_all c.args.changes.now c.first_step-start.result c.requires (omega (arith, first))

pub run_changed-requires : goal.run_changed-requires
run_changed-requires c =
    let later : c.deref.result.now ≡ all_from c.first_step-start.result c.args.changes.now = c.deref.ensures.value ∙ c.in_ok-later.ensures in
    subst Ordered (sym later) (ordered_later c.args.changes.now c.first_step-start.result c.requires)

pub returns : goal.returns
returns c =
    let m = c.first_step-start.result in
    let ds = c.deref.result.now in
    let later : ds ≡ all_from m c.args.changes.now = c.deref.ensures.value ∙ c.in_ok-later.ensures in
    let there : c.in_ok-output.output.state ≡ run c.args.self.now.output m = c.in_ok-output.ensures ∙ ap (λ p. run p.output m) c.self.view_is in
    let last : c.last_step.result ≡ last_step ds = c.last_step.ensures ∙ ap last_step (c.deref-2.ensures.value ∙ sym c.deref.ensures.value) in
    let made : c.run_changed.new.machine.state ≡ changed_run c.in_ok-output.output.state ds (last_step ds) =
    c.in_ok-run_changed.ensures.state ∙ ap (changed_run c.in_ok-output.output.state ds) last in
    let more : c.run.new.self.state ≡ run c.run_changed.new.machine.state c.args.steps = ap (λ p. p.state) c.in_ok-run.ensures.run ∙ progress_state c.run_changed.new.machine c.args.steps in
    behind_later c.args.self.now.output c.in_ok-output.output.state c.run_changed.new.machine.state c.run.new.self.state c.args.changes.now ds m c.args.steps c.requires c.first_step-start.ensures there later made more
