use Rattle.std.proofs.Common.{sym, subst}
use Rattle.machine.specs.Progress.{Progress}
use Rattle.rv_step.specs.Harts.{with_memory}
use Rattle.rv_step.specs.Windows.{IsWindow}
use Rattle.rv_step.proofs.WindowLaws.{window_acted}
use Rattle.rv_step.proofs.source.WordsSource.take_step.Goals as goal

pub returns-clause-stands : goal.returns-clause-stands
returns-clause-stands c =
    let here = with_memory c.word_in-word.new.self c.word_in-word.new.image in
    subst (λ (p : Progress). IsWindow p.state c.word_in-word.new.window) (sym c.in_ok-on.ensures.advanced) (window_acted here.state c.word_in-word.new.window c.word_in-word.ensures.window)
