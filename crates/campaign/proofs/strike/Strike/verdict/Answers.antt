use Rattle.std.proofs.Common.{◌≡◌, ap, ◌∙◌, subst}
use Rattle.std.specs.Prelude.{MatchOption}
use Rattle.campaign.specs.Found.{IsStill, ShowsUnchanged, Stops, run}
use Rattle.campaign.specs.Verdict.{IsTried, changed_run, last_step}
use Rattle.campaign.proofs.Showing.{shown_all, where_none}
use Rattle.campaign.proofs.Untouched.{changed_word}
use Rattle.campaign.proofs.strike.Strike.verdict.Goals as goal

pub later_verdict-requires-clause-there : goal.later_verdict-requires-clause-there
later_verdict-requires-clause-there c =
    let cs = c.args.self.now.changes.now in
    let tried : IsTried c.args.output.state cs = where_none c.in_ok-verdict.field-0 (IsTried c.args.output.state cs) (ShowsUnchanged c.args.output.state cs) c.in_default.not-Some c.in_ok-verdict.ensures.shown in
    let there : c.run_changed.new.machine.state ≡ changed_run c.args.output.state cs (last_step cs) =
    c.in_ok-run_changed.ensures.state ∙ ap (λ s. changed_run s cs c.last_step-last.result) c.in_ok-verdict.ensures.same ∙ ap (changed_run c.args.output.state cs) c.last_step-last.ensures in
    changed_word cs c.args.output.state (run c.args.self.now.way.now.start c.args.self.now.start) c.run_changed.new.machine.state tried.reached c.requires.there there

pub returns : goal.returns
returns c =
    let cs = c.args.self.now.changes.now in
    let tried : IsTried c.args.output.state cs = where_none c.in_ok-verdict.field-0 (IsTried c.args.output.state cs) (ShowsUnchanged c.args.output.state cs) c.in_default.not-Some c.in_ok-verdict.ensures.shown in
    let there : c.run_changed.new.machine.state ≡ changed_run c.args.output.state cs (last_step cs) =
    c.in_ok-run_changed.ensures.state ∙ ap (λ s. changed_run s cs c.last_step-last.result) c.in_ok-verdict.ensures.same ∙ ap (changed_run c.args.output.state cs) c.last_step-last.ensures in
    shown_all c.args.output.state c.args.self.now.bound cs c.in_ok-verdict-2.verdict c.requires.ordered tried
    (subst (λ s. MatchOption c.in_ok-verdict-2.verdict (IsStill s c.args.self.now.bound) (Stops s c.args.self.now.bound)) there c.in_ok-verdict-2.ensures)
