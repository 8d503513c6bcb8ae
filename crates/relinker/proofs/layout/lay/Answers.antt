use Rattle.std.proofs.Common.{ap, ◌∙◌, map, arith}
use Rattle.relinker.specs.Link.{moved_entry}
use Rattle.relinker.proofs.Laying.{laid_first}
use Rattle.relinker.proofs.layout.lay.Goals as goal

pub returns-clause-laid : goal.returns-clause-laid
returns-clause-laid c =
    laid_first c.args.count c.args.base c.in_ok-entries.entries c.in_ok-words.words c.requires.base
    (omega (arith, c.saturating_add-size.ensures, c.if-size-limit.false, c.limit.ensures))
    (c.in_ok-entries.ensures ∙ ap (λ rows. map (moved_entry c.args.base) rows) c.deref.ensures.value)
    c.in_ok-words.ensures.items c.in_ok-words.ensures.len
    (omega (arith, c.in_ok-words.ensures.capacity, c.saturating_add-size.ensures, c.if-size-limit.false, c.limit.ensures))
