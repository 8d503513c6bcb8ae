use Rattle.std.proofs.Common.{◌≡◌, ◌-◌, ◌*◌, ◌≤◌, ap, sym, ◌∙◌, subst, arith}
use Rattle.std.specs.Slice.{IsItemAt}
use Rattle.machine.specs.Step.{run}
use Rattle.machine.proofs.Lemmas.{run-none}
use Rattle.campaign.proofs.Copying.{copy_got}
use Rattle.campaign.proofs.snapshots.Snapshots.at.Goals as goal

pub returns-then-number-eq0-clause-there : goal.returns-then-number-eq0-clause-there
returns-then-number-eq0-clause-there c =
    let none : 0 ≡ 4096 * c.args.number = omega arith in
    ap (λ s. s.start) c.self.view_is ∙ sym (run-none c.args.self.now.start) ∙ ap (run c.args.self.now.start) none

pub returns-clause-there : goal.returns-clause-there
returns-clause-there c =
    let some : 1 ≤ c.args.number = omega arith in
    copy_got c.self.inside.first c.args.self.now.start c.self.inside.reach c.self.inside.later.items c.args.number c.get.result c.self.invariant (ap (λ s. s.start) c.self.view_is) some
    (subst (λ xs. IsItemAt xs (c.args.number - 1) c.get.result) c.deref.ensures.value c.get.ensures.lookup)
