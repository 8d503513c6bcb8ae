use Rattle.std.proofs.Common.{◌+◌, ◌-◌, drop, ap, ◌∙◌, arith}
use Rattle.qed_model.specs.Promise.Changed.{changed}
use Rattle.fault_inject.proofs.Changing.{AllFrom, any_err, started, left_before, left_none, next_later, reached_next, ends, part_made}
use Rattle.fault_inject.proofs.runs.run_changed.Goals as goal
use Rattle.fault_inject.proofs.runs.run_changed.Goals.{else-loop-change-test, then-loop-change-test+then-change-n}

pub loop-change-init : goal.loop-change-init
loop-change-init g c = record {
  reached = started c.args.machine.now c.args.changes.now;
  within = omega arith;
  told = c.begin.ensures.0;
  all = c.begin.ensures.1;
}

pub run_on-requires-clause-order : goal.run_on-requires-clause-order
run_on-requires-clause-order g c =
    next_later c.args.machine.now c.args.changes.now c.loop-change.change-index c.loop-change.steps c.loop-change.machine c.change-item.result c.loop-change-test.true c.change-item.is c.loop-change.invariant.reached

pub run_on-requires-2-clause-order : goal.run_on-requires-2-clause-order
run_on-requires-2-clause-order g c = c.loop-change.invariant.within

pub loop-change-preserved : goal.loop-change-preserved
loop-change-preserved g c =
    let change = c.change-item.result in
    let state = c.in_ok-make_change.ensures.state ∙ ap (λ p. changed change p.state) c.in_ok-run_on.ensures.run in
    let steps = c.in_ok-make_change.ensures.steps ∙ ap (λ p. p.steps) c.in_ok-run_on.ensures.run in
    record {
      reached = reached_next c.args.machine.now c.args.changes.now c.loop-change.change-index c.loop-change.steps c.loop-change.machine c.make_change.new.machine change c.requires c.loop-change-test.true c.change-item.is c.loop-change.invariant.reached state steps;
      within = c.if-change-n.false;
      told = c.in_ok-run_on.ensures.told;
      all = c.in_ok-run_on.ensures.all ∙ c.loop-change.invariant.all;
    }

pub returns : goal.returns
returns g c =
    let cs = c.args.changes.now in
    let k = c.loop-change.change-index in
    let left : AllFrom (c.args.n + 1) (drop k cs) = elim c.loop-change-test.branch [
      | else-loop-change-test w ↦ left_none cs k (c.args.n + 1) w.loop-change-test.false
      | then-loop-change-test+then-change-n w ↦ left_before cs k (c.args.n + 1) w.change-item.result c.requires w.loop-change-test.true w.change-item.is (let late = w.if-change-n.true in omega (arith, late))
    ] in
    let there = c.in_ok-outcome.ensures.run ∙ ends c.args.machine.now cs k c.loop-change.steps c.args.n c.loop-change.machine c.loop-change.invariant.reached c.loop-change.invariant.within left in
    record {
      state = ap (λ p. p.state) there;
      steps = ap (λ p. p.steps) there;
      outcome = c.in_ok-outcome.ensures.outcome;
      part = tt;
      told = (c.in_ok-outcome.ensures.told, c.in_ok-outcome.ensures.all ∙ c.loop-change.invariant.all);
    }

pub returns-in_err-outcome-clause-part : goal.returns-in_err-outcome-clause-part
returns-in_err-outcome-clause-part g c =
    let cs = c.args.changes.now in
    let k = c.loop-change.change-index in
    let left : AllFrom (c.args.n + 1) (drop k cs) = elim c.loop-change-test.branch [
      | else-loop-change-test w ↦ left_none cs k (c.args.n + 1) w.loop-change-test.false
      | then-loop-change-test+then-change-n w ↦ left_before cs k (c.args.n + 1) w.change-item.result c.requires w.loop-change-test.true w.change-item.is (let late = w.if-change-n.true in omega (arith, late))
    ] in
    let part = c.in_err-outcome.ensures.part in
    let most = part.most in
    let within = c.loop-change.invariant.within in
    any_err c.from_residual-in_err-outcome.result _ (part_made c.args.machine.now cs k c.loop-change.steps c.args.n part.count (c.args.n + 1) c.loop-change.machine c.run_on-2.new.machine c.loop-change.invariant.reached (omega (arith, most, within)) (omega (arith, most, within)) left part.made)

pub returns-in_err-run_on-clause-part : goal.returns-in_err-run_on-clause-part
returns-in_err-run_on-clause-part g c =
    let cs = c.args.changes.now in
    let k = c.loop-change.change-index in
    let change = c.change-item.result in
    let part = c.in_err-run_on.ensures.part in
    let most = part.most in
    let later = next_later c.args.machine.now cs k c.loop-change.steps c.loop-change.machine change c.loop-change-test.true c.change-item.is c.loop-change.invariant.reached in
    let due = c.if-change-n.false in
    let left = left_before cs k change.step change c.requires c.loop-change-test.true c.change-item.is (omega arith) in
    any_err c.from_residual.result _ (part_made c.args.machine.now cs k c.loop-change.steps c.args.n part.count change.step c.loop-change.machine c.run_on.new.machine c.loop-change.invariant.reached (omega (arith, most, later, due)) (omega (arith, most, later)) left part.made)

pub returns-in_err-make_change-clause-part : goal.returns-in_err-make_change-clause-part
returns-in_err-make_change-clause-part g c =
    let cs = c.args.changes.now in
    let k = c.loop-change.change-index in
    let change = c.change-item.result in
    let later = next_later c.args.machine.now cs k c.loop-change.steps c.loop-change.machine change c.loop-change-test.true c.change-item.is c.loop-change.invariant.reached in
    let due = c.if-change-n.false in
    let left = left_before cs k change.step change c.requires c.loop-change-test.true c.change-item.is (omega arith) in
    any_err c.from_residual-in_err-make_change.result _ (part_made c.args.machine.now cs k c.loop-change.steps c.args.n (change.step - c.loop-change.steps) change.step c.loop-change.machine c.make_change.new.machine c.loop-change.invariant.reached (omega (arith, later, due)) (omega (arith, later)) left
    (c.in_err-make_change.ensures.kept ∙ c.in_ok-run_on.ensures.run))
