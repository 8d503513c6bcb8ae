use Rattle.std.proofs.Common.{sym, ◌∙◌}
use Rattle.mem_image.proofs.WholeLaws.{here_at, whole_granted, whole_refused, sound_like}
use Rattle.mem_image.proofs.within.put_within.Goals as goal

pub returns-then-not-allows-clause-granted : goal.returns-then-not-allows-clause-granted
returns-then-not-allows-clause-granted c =
    let here = here_at c.args.pages.now c.args.address c.args.width c.args.at c.index-pages-at.result c.requires.whole c.requires.below in
    sym (whole_refused (λ f. f.write) c.args.pages.now c.args.at _ c.args.address c.args.width c.requires.sound here.0 here.1 c.requires.some (sym c.allows.ensures ∙ c.if-not-allows.true))

pub returns-clause-granted : goal.returns-clause-granted
returns-clause-granted c =
    let here = here_at c.args.pages.now c.args.address c.args.width c.args.at c.index-pages-at.result c.requires.whole c.requires.below in
    sym (whole_granted (λ f. f.write) c.args.pages.now c.args.at _ c.args.address c.args.width c.requires.sound here.0 here.1 (sym c.allows.ensures ∙ c.if-not-allows.false))

pub returns-clause-sound : goal.returns-clause-sound
returns-clause-sound c =
    let here = here_at c.args.pages.now c.args.address c.args.width c.args.at c.index-pages-at-2.result c.requires.whole c.requires.below in
    sound_like c.args.pages.now c.args.at _ c.put.new.self c.requires.sound here.0 c.put.ensures.shape
