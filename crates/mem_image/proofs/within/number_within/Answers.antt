use Rattle.std.proofs.Common.{refl, sym, ◌∙◌}
use Rattle.machine.specs.Program.{memory_of}
use Rattle.mem_image.specs.Access.{needs}
use Rattle.mem_image.proofs.WholeLaws.{here_whole, whole_refused, refused_number}
use Rattle.mem_image.proofs.within.number_within.Goals as goal

pub returns-then-not-allows-clause-number : goal.returns-then-not-allows-clause-number
returns-then-not-allows-clause-number c =
    let here = here_whole c.args.pages.now c.args.pages.now c.args.address c.args.width c.args.at c.index-pages-at.result refl c.requires.whole c.requires.below c.index-pages-at.is in
    refused_number (needs c.args.access) (memory_of c.args.pages.now) c.args.address c.args.width
    (whole_refused (needs c.args.access) c.args.pages.now c.args.at c.index-pages-at.result c.args.address c.args.width c.requires.sound here.0 here.1 c.requires.some (sym c.allows.ensures ∙ c.if-not-allows.true))
