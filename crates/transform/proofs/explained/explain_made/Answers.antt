use Rattle.std.proofs.Common.{◌+◌, ◌*◌, refl}
use Rattle.transform.specs.Unwritten.{IsUnwritten}
use Rattle.transform.proofs.Explaining.{explained_of}
use Rattle.transform.proofs.explained.explain_made.Goals as goal

pub output_of-requires-clause-coded : goal.output_of-requires-clause-coded
output_of-requires-clause-coded c = (c.args.options.now, c.in_ok-cut.ensures.cut, c.in_ok-code.ensures.code)

pub finish-requires : goal.finish-requires
finish-requires c =
    let cut = c.in_ok-cut.cut in
    let o = c.args.options.now in
    (c.args.bytes.now, cut.file, o, cut.blocks, c.in_ok-cut.ensures.read, c.in_ok-made.ensures.made o c.in_ok-cut.ensures.cut c.in_ok-code.ensures.code)

pub returns-clause-done : goal.returns-clause-done
returns-clause-done c =
    let input = c.args.bytes.now in
    let o = c.args.options.now in
    let cut = c.in_ok-cut.cut in
    let read = c.in_ok-cut.ensures.read in
    let is = c.in_ok-cut.ensures.cut in
    let code = c.in_ok-code.code in
    let coded = c.in_ok-code.ensures.code in
    let output = c.in_ok-finish.field-0 in
    explained_of input o cut.test cut.blocks output.file output.plan
    (record { file = cut.file; base = cut.test.base + 3 * cut.test.distance; words = code.linked.words; roles = code.roles })
    code (c.in_ok-finish.ensures.done input cut.file o cut.blocks read (c.in_ok-made.ensures.made o is coded)) read.file is coded refl refl (c.in_ok-code.ensures.roles refl)
