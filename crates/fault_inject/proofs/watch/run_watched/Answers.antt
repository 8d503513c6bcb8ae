use Rattle.std.proofs.Common.{◌+◌, drop, ap, ◌∙◌, sym, arith}
use Rattle.qed_model.specs.Promise.Changed.{changed, changed_run}
use Rattle.machine.specs.Sets.{has_address}
use Rattle.fault_inject.proofs.Changing.{AllFrom, from_less, started, left_before, left_none, next_later, reached_next, ends}
use Rattle.fault_inject.proofs.Straying.{in_none, astray_on}
use Rattle.fault_inject.proofs.watch.run_watched.Goals as goal
use Rattle.fault_inject.proofs.watch.run_watched.Goals.{else-loop-change-test, then-loop-change-test+then-change-n}

pub loop-change-init : goal.loop-change-init
loop-change-init g c = record {
  made = started c.args.machine.now c.args.changes.now;
  within = omega arith;
  told = c.begin.ensures.0;
  all = c.begin.ensures.1;
  astray = sym (in_none (has_address c.args.reached.now) (changed_run c.args.machine.now.state c.args.changes.now));
}

pub watch_on-requires-clause-order : goal.watch_on-requires-clause-order
watch_on-requires-clause-order g c =
    next_later c.args.machine.now c.args.changes.now c.loop-change.change-index c.loop-change.steps c.loop-change.machine c.change-item.result c.loop-change-test.true c.change-item.is c.loop-change.invariant.made

pub watch_on-requires-2-clause-order : goal.watch_on-requires-2-clause-order
watch_on-requires-2-clause-order g c = c.loop-change.invariant.within

pub loop-change-preserved : goal.loop-change-preserved
loop-change-preserved g c =
    let m = c.args.machine.now in
    let cs = c.args.changes.now in
    let change = c.change-item.result in
    let h = c.loop-change.invariant in
    let later = next_later m cs c.loop-change.change-index c.loop-change.steps c.loop-change.machine change c.loop-change-test.true c.change-item.is h.made in
    let left = left_before cs c.loop-change.change-index change.step change c.requires c.loop-change-test.true c.change-item.is (omega arith) in
    let state = c.in_ok-make_change.ensures.state ∙ ap (λ p. changed change p.state) c.in_ok-more.ensures.run in
    let steps = c.in_ok-make_change.ensures.steps ∙ ap (λ p. p.steps) c.in_ok-more.ensures.run in
    record {
      made = reached_next m cs c.loop-change.change-index c.loop-change.steps c.loop-change.machine c.make_change.new.machine change c.requires c.loop-change-test.true c.change-item.is h.made state steps;
      within = c.if-change-n.false;
      told = c.in_ok-more.ensures.told;
      all = c.in_ok-more.ensures.all ∙ h.all;
      astray = c.or-found.ensures ∙ astray_on (has_address c.args.reached.now) m cs c.loop-change.change-index c.loop-change.steps change.step c.loop-change.machine c.loop-change.found c.in_ok-more.more h.made later left h.astray c.in_ok-more.ensures.astray;
    }

pub returns : goal.returns
returns g c =
    let m = c.args.machine.now in
    let cs = c.args.changes.now in
    let k = c.loop-change.change-index in
    let h = c.loop-change.invariant in
    let left : AllFrom (c.args.n + 1) (drop k cs) = elim c.loop-change-test.branch [
      | else-loop-change-test w ↦ left_none cs k (c.args.n + 1) w.loop-change-test.false
      | then-loop-change-test+then-change-n w ↦ left_before cs k (c.args.n + 1) w.change-item.result c.requires w.loop-change-test.true w.change-item.is (let late = w.if-change-n.true in omega (arith, late))
    ] in
    let there = c.in_ok-more-2.ensures.run ∙ ends m cs k c.loop-change.steps c.args.n c.loop-change.machine h.made h.within left in
    record {
      state = ap (λ p. p.state) there;
      steps = ap (λ p. p.steps) there;
      told = (c.in_ok-more-2.ensures.told, c.in_ok-more-2.ensures.all ∙ h.all);
      astray = c.or.ensures ∙ astray_on (has_address c.args.reached.now) m cs k c.loop-change.steps c.args.n c.loop-change.machine c.loop-change.found c.in_ok-more-2.more h.made h.within (from_less (c.args.n + 1) c.args.n (drop k cs) (omega arith) left) h.astray c.in_ok-more-2.ensures.astray;
    }
