use Rattle.std.proofs.lemmas.Result.{IfOk-weaker, IfErr-weaker}
use Rattle.transform.proofs.whole.make_output.Goals as goal

pub output_of-requires-clause-coded : goal.output_of-requires-clause-coded
output_of-requires-clause-coded c = (c.args.options.now, c.in_ok-cut.ensures.cut, c.in_ok-code.ensures.code)

pub finish-requires : goal.finish-requires
finish-requires c =
    let cut = c.in_ok-cut.cut in
    let o = c.args.options.now in
    (c.args.bytes.now, cut.file, o, cut.blocks, c.in_ok-cut.ensures.read, c.in_ok-made.ensures.made o c.in_ok-cut.ensures.cut c.in_ok-code.ensures.code)

pub returns-clause-done : goal.returns-clause-done
returns-clause-done c =
    let cut = c.in_ok-cut.cut in
    let o = c.args.options.now in
    IfOk-weaker c.finish.result _ _ (λ output is. is c.args.bytes.now cut.file o cut.blocks c.in_ok-cut.ensures.read (c.in_ok-made.ensures.made o c.in_ok-cut.ensures.cut c.in_ok-code.ensures.code)) c.finish.ensures.done

pub returns-clause-refused : goal.returns-clause-refused
returns-clause-refused c =
    let cut = c.in_ok-cut.cut in
    let o = c.args.options.now in
    IfErr-weaker c.finish.result _ _ (λ e is. is c.args.bytes.now cut.file o cut.blocks c.in_ok-cut.ensures.read (c.in_ok-made.ensures.made o c.in_ok-cut.ensures.cut c.in_ok-code.ensures.code)) c.finish.ensures.refused
