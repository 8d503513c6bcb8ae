use Rattle.std.proofs.Common.{Option, sym, ap, ◌∙◌, Bor}
use Rattle.std.specs.Option.{option_copied}
use Rattle.machine.specs.Sets.{has_address}
use Rattle.fault_inject.specs.Slipped.{what_slipped}
use Rattle.qed_top.specs.Run.{jumps_of, jumps_line, slipped_line, Test}
use Rattle.qed_top.proofs.Meanings.{has_run, has_slipped, was_told}
use Rattle.qed_top.proofs.run.run_machine.Goals as goal

pub returns-in_ok-run_changed-in-Nothing-clause-run :
    goal.returns-in_ok-run_changed-in-Nothing-clause-run
returns-in_ok-run_changed-in-Nothing-clause-run g c =
    let way = c.args.way.now in
    let did = rw c.as_slice-changes.ensures at c.in_ok-run_changed-in-Nothing.ensures in
    rw c.in-Nothing.is (has_run c.args.file.now way.steps way.changes c.in_ok-machine.machine c.run_changed.new.machine c.in_ok-machine.ensures did.state did.steps)

pub returns-in_ok-line-in-Slip-clause-run : goal.returns-in_ok-line-in-Slip-clause-run
returns-in_ok-line-in-Slip-clause-run g c =
    let way = c.args.way.now in
    let did = rw c.as_slice-changes.ensures at c.in_ok-slipped-in-Slip.ensures in
    rw c.in-Slip.is (has_slipped c.args.file.now way.steps way.changes c.in-Slip.at c.in_ok-machine.machine c.run_slipped.new.machine c.in_ok-machine.ensures did.state did.steps)

pub returns-in_ok-line-in-Slip-clause-second : goal.returns-in_ok-line-in-Slip-clause-second
returns-in_ok-line-in-Slip-clause-second g c =
    let way = c.args.way.now in
    let did = rw c.as_slice-changes.ensures at c.in_ok-slipped-in-Slip.ensures in
    rw c.in-Slip.is (c.in_ok-line-in-Slip.ensures ∙ ap slipped_line (did.slipped ∙ ap (λ m. what_slipped m.state way.changes c.in-Slip.at way.steps) c.in_ok-machine.ensures))

pub returns-in_default-clause-run : goal.returns-in_default-clause-run
returns-in_default-clause-run g c =
    let way = c.args.way.now in
    let did = rw c.as_slice-changes.ensures at c.in_ok-run_changed-in-Jumps.ensures in
    rw c.in-Jumps.is (has_run c.args.file.now way.steps way.changes c.in_ok-machine.machine c.run_changed-in_default.new.machine c.in_ok-machine.ensures did.state did.steps)

pub returns-in_ok-line-in-Jumps-clause-run : goal.returns-in_ok-line-in-Jumps-clause-run
returns-in_ok-line-in-Jumps-clause-run g c =
    let way = c.args.way.now in
    let did = rw c.as_slice-changes.ensures at c.in_ok-astray-in-Jumps.ensures in
    rw c.in-Jumps.is (has_run c.args.file.now way.steps way.changes c.in_ok-machine.machine c.run_watched.new.machine c.in_ok-machine.ensures did.state did.steps)

pub returns-in_ok-line-in-Jumps-clause-second : goal.returns-in_ok-line-in-Jumps-clause-second
returns-in_ok-line-in-Jumps-clause-second g c =
    let f = c.args.file.now in
    let steps = c.args.way.now.steps in
    let changes = c.args.way.now.changes in
    let told = was_told f c.in-Some.test.now steps changes (has_address c.in_ok-reached-in-Jumps.reached) c.in_ok-machine.machine c.in_ok-astray-in-Jumps.astray c.in_ok-reached-in-Jumps.ensures c.in_ok-machine.ensures (rw c.as_slice-changes.ensures at c.in_ok-astray-in-Jumps.ensures.astray) in
    rw c.in-Jumps.is (c.in_ok-line-in-Jumps.ensures ∙ ap jumps_line told ∙ ap (λ (o : Option (Bor Test)). jumps_of f (option_copied o) steps changes) (sym c.in-Some.is))
