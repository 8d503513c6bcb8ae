use Rattle.std.proofs.Common.{◌≡◌, ◌≤◌, length, ◌∙◌, subst, arith}
use Rattle.qed_top.specs.Run.{memory_limit}
use Rattle.harts.proofs.Keeping.{turns_keep}
use Rattle.qed_top.specs.Turns.{TellsTurns}
use Rattle.qed_top.specs.World.{bytes_of_files, takers, turns_of, programs, counted_start}
use Rattle.qed_top.specs.World as world
use Rattle.qed_top.proofs.Turning.{takers_below, takers_some}
use Rattle.qed_top.proofs.world.play.Goals as goal

pub tell-requires-clause-some : goal.tell-requires-clause-some
tell-requires-clause-some c =
    takers_some (length c.args.files.now) c.args.turns c.deref.result.now c.requires.some c.requires.turns (c.deref.ensures.value ∙ c.in_ok-harts-in-Ok.ensures)

pub tell-requires-clause-harts : goal.tell-requires-clause-harts
tell-requires-clause-harts c =
    takers_below (length c.args.files.now) (length c.in-Ok.world.world.harts) c.args.turns c.deref.result.now c.requires.turns
    (c.deref.ensures.value ∙ c.in_ok-harts-in-Ok.ensures) c.in-Ok.ensures.count

pub returns-in-Err-Shared : goal.returns-in-Err-Shared
returns-in-Err-Shared c =
    let same = c.memory_sizes-size.ensures in
    let small : bytes_of_files c.args.files.now ≤ memory_limit = omega (arith, c.if-size-from.false, c.from.ensures, same) in
    world.shared c.in-Err-Shared.first c.in-Err-Shared.second small (rw c.in-Err-Shared.field-0-is at c.in-Err-Shared.ensures.error) (record {
      status = c.plain.ensures.status;
      text = c.plain.ensures.text ∙ c.in_ok-text-in-Err-Shared.ensures;
      stored = c.plain.ensures.stored;
    })

pub returns-in-Ok : goal.returns-in-Ok
returns-in-Ok c =
    let same = c.memory_sizes-size.ensures in
    let small : bytes_of_files c.args.files.now ≤ memory_limit = omega (arith, c.if-size-from.false, c.from.ensures, same) in
    let keeps = turns_keep (programs c.args.files.now) (turns_of c.args.files.now c.args.turns c.args.steps) c.requires.sound c.in-Ok.ensures.apart in
    let harts : c.deref.result.now ≡ takers (length c.args.files.now) c.args.turns = c.deref.ensures.value ∙ c.in_ok-harts-in-Ok.ensures in
    let first : TellsTurns (counted_start (programs c.args.files.now)) c.deref.result.now c.args.steps c.in_ok-tell-in-Ok.field-0 = subst (λ w. TellsTurns w c.deref.result.now c.args.steps c.in_ok-tell-in-Ok.field-0) c.in-Ok.ensures.started c.in_ok-tell-in-Ok.ensures in
    let told : TellsTurns (counted_start (programs c.args.files.now)) (takers (length c.args.files.now) c.args.turns) c.args.steps c.in_ok-tell-in-Ok.field-0 = subst (λ hs. TellsTurns (counted_start (programs c.args.files.now)) hs c.args.steps c.in_ok-tell-in-Ok.field-0) harts first in
    world.told small c.in-Ok.ensures.apart told keeps
