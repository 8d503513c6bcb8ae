use Rattle.std.proofs.Common.{◌-◌, refl, sym, ◌∙◌, arith}
use Rattle.machine.specs.Sets.{has_address}
use Rattle.fault_inject.proofs.Straying.{states, in_none, made_next, step_next, stopped_all, stopped_first}
use Rattle.fault_inject.proofs.watch.watch_on.Goals as goal
use Rattle.rv_step.proofs.Running.{none_made}

pub loop-made-init : goal.loop-made-init
loop-made-init g c = record {
  made = none_made c.args.machine.now;
  astray = sym (in_none (has_address c.args.reached.now) (states c.args.machine.now));
  told = let told = c.requires.told in omega (arith, told);
  all = refl;
}

pub loop-made-preserved : goal.loop-made-preserved
loop-made-preserved g c =
    let h = c.loop-made.invariant in
    record {
      made = made_next c.args.machine.now c.loop-made.machine c.watched_step.new.machine c.loop-made.made h.made c.in_ok-jump.ensures.step;
      astray = c.or-found.ensures ∙ step_next (has_address c.args.reached.now) c.args.machine.now c.loop-made.machine c.loop-made.made c.loop-made.found c.in_ok-jump.jump h.made h.astray c.in_ok-jump.ensures.astray;
      told = let told = c.tell_at.ensures.told in omega (arith, told);
      all = c.tell_at.ensures.all ∙ h.all;
    }

pub returns-then-not-is_going-clause-run : goal.returns-then-not-is_going-clause-run
returns-then-not-is_going-clause-run g c =
    stopped_all c.args.machine.now c.loop-made.machine c.loop-made.made (c.args.to - c.args.from) (omega arith) c.loop-made.invariant.made (sym c.is_going.ensures ∙ c.if-not-is_going.true)

pub returns-then-not-is_going-clause-astray : goal.returns-then-not-is_going-clause-astray
returns-then-not-is_going-clause-astray g c =
    let h = c.loop-made.invariant in
    stopped_first (has_address c.args.reached.now) c.args.machine.now c.loop-made.machine c.loop-made.made (c.args.to - c.args.from) c.loop-made.found (omega arith) h.made (sym c.is_going.ensures ∙ c.if-not-is_going.true) h.astray
