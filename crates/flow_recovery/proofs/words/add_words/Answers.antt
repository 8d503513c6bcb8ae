use Rattle.std.proofs.Common.{subst, ◌<◌, ◌^◌}
use Rattle.std.proofs.lemmas.List.Elements.{All-more}
use Rattle.tests.specs.declared.test.CodeWord.{CodeWord}
use Rattle.flow_recovery.specs.Words.{begins_by}
use Rattle.flow_recovery.proofs.SetLaws.{adds_more}
use Rattle.flow_recovery.proofs.words.add_words.Goals as goal

pub loop-word-preserved : goal.loop-word-preserved
loop-word-preserved c = record {
  added = adds_more (begins_by c.args.options.now) _ _ _ _ _ _ c.loop-word-test.true c.word-item.is c.loop-word.invariant.added c.in_ok-add_word.ensures.adds;
  small = All-more (λ (w : CodeWord). w.at < 2 ^ 64) c.args.words.now c.loop-word.word-index c.word-item.result c.loop-word-test.true c.loop-word.invariant.small (subst (λ (w : CodeWord). w.at < 2 ^ 64) c.word-item.is c.in_ok-add_word.ensures.small);
}
