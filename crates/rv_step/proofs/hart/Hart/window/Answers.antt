use Rattle.mem_image.specs.Fixed.{IsFixedCode}
use Rattle.rv_step.specs.Harts.{with_memory}
use Rattle.rv_step.proofs.hart.Hart.window.Goals as goal

pub returns-then-not-more : goal.returns-then-not-more
returns-then-not-more c = c.none.ensures (with_memory c.args.self.now c.args.image.now).state

pub returns-in_default : goal.returns-in_default
returns-in_default c = c.none-in_default.ensures (with_memory c.args.self.now c.args.image.now).state

pub returns : goal.returns
returns c =
    let fixed : IsFixedCode c.args.image.now c.in-Ok-Some.code = rw c.in-Ok-Some.field-0-is at c.in-Ok-Some.ensures.fixed in
    c.of.ensures.window (with_memory c.args.self.now c.args.image.now).state c.requires fixed c.near-first.ensures
