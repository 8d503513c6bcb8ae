use Rattle.std.proofs.Common.{◌+◌, ◌%◌, ◌^◌, false, refl, sym, ap, ◌∙◌, arith}
use Rattle.machine.specs.Step.{fetched_at}
use Rattle.qed_model.specs.Promise.Closed.{guards_other, guard_bytes, is_checked}
use Rattle.fault_inject.proofs.Closing.{used, unused, unguarded, known, closes_by}
use Rattle.rv_step.specs.Known.{instruction_of}
use Rattle.fault_inject.proofs.places.register_closed.Goals as goal

pub returns-in-Some : goal.returns-in-Some
returns-in-Some c =
    let s = c.args.machine.now.state in
    let r = c.args.r in
    let f = fetched_at s.memory s.ranges s.pc in
    let n = fetched_at s.memory s.ranges ((s.pc + 4) % 2 ^ 64) in
    let g = fetched_at s.memory s.ranges ((s.pc + guard_bytes f) % 2 ^ 64) in
    let at = sym c.in-Some.is ∙ c.next.ensures in
    let is = known f c.in-Some.ins at in
    let use_here = c.uses.ensures ∙ used f r c.in-Some.ins at in
    let check_here = c.is_checked_by-checked.ensures n c.ahead.ensures ∙ ap (λ k. is_checked k n) is in
    let guard_here = c.guards_another.ensures ∙ ap (guards_other r) is in
    let length = c.guard_length.ensures ∙ ap guard_bytes is in
    let use_behind = c.is_used_by-used_behind.ensures g (c.ahead-in-Some.ensures ∙ ap (λ k. instruction_of (fetched_at s.memory s.ranges ((s.pc + k) % 2 ^ 64))) length) in
    c.closes.ensures ∙ closes_by r f n g _ _ _ _ (omega arith) (omega arith) use_here check_here guard_here use_behind

pub returns-in-None : goal.returns-in-None
returns-in-None c =
    let s = c.args.machine.now.state in
    let r = c.args.r in
    let f = fetched_at s.memory s.ranges s.pc in
    let none = sym c.in-None.is ∙ c.next.ensures in
    closes_by r f _ _ false _ false _ (omega arith) (omega arith) (unused f r none) refl (unguarded f r none) refl
