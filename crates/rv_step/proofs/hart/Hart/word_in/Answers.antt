use Rattle.std.proofs.Common.{sym, ap, ◌∙◌}
use Rattle.rv_step.specs.Harts.{with_memory}
use Rattle.rv_step.specs.Known.{state_word}
use Rattle.rv_step.proofs.hart.Hart.word_in.Goals as goal

pub returns-in-Some-clause-word : goal.returns-in-Some-clause-word
returns-in-Some-clause-word c =
    let s = (with_memory c.args.self.now c.args.image.now).state in
    sym (ap (state_word s) (sym c.pc.ensures) ∙ c.in-Some.ensures.word s c.requires c.pc.ensures)
