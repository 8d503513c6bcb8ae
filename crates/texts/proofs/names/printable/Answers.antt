use Rattle.std.proofs.Common.{rules, ◌≡◌, ◌∙◌, false, length}
use Rattle.std.specs.Prelude.{◌==◌}
use Rattle.texts.proofs.Cut.{printed_on, printed_cut}
use Rattle.texts.proofs.names.printable.Goals as goal

pub loop-preserved : goal.loop-preserved
loop-preserved c =
    let some : (length c.loop.rest.now == 0) ≡ false = search rules in
    let e = c.first_character-character.ensures in
    printed_on c.args.most c.loop.counter c.loop.rest.now _ c.loop-test.true some e.char e.front e.rest c.in_ok-push_character.ensures c.loop.invariant

pub returns : goal.returns
returns c =
    let some : (length c.loop.rest.now == 0) ≡ false = search rules in
    c.in_ok-push_str.ensures.bytes ∙ printed_cut c.args.most c.loop.counter c.loop.rest.now _ _ c.loop-test.false some c.loop.invariant
