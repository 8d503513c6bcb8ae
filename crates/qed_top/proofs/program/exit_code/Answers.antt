use Rattle.std.proofs.Common.{ap, ◌∙◌}
use Rattle.qed_words.specs.Words.{texts}
use Rattle.qed_top.specs.Program.{words_after}
use Rattle.qed_top.proofs.Exits.{ended_exits, soon_exits}
use Rattle.qed_top.proofs.program.exit_code.Goals as goal

pub returns-in-Ok-clause-exits : goal.returns-in-Ok-clause-exits
returns-in-Ok-clause-exits g c =
    ended_exits g.S.Shelf g.K.Sink (words_after c.args.arguments) c.from.result c.args.shelf.now c.args.out.now c.qed-status.new.shelf c.qed-status.new.out (texts c.deref.result.now)
    c.qed-status.result (ap texts c.deref.ensures.value ∙ c.in-Ok.ensures.words) (c.from.ensures ∙ c.code.ensures) c.qed-status.ensures

pub returns-in-Err-clause-exits : goal.returns-in-Err-clause-exits
returns-in-Err-clause-exits g c =
    soon_exits g.S.Shelf g.K.Sink (words_after c.args.arguments) c.from-in-Err.result c.args.shelf.now c.args.out.now (c.from-in-Err.ensures ∙ c.code-in-Err.ensures)
