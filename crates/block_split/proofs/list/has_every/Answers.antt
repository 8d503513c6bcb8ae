use Rattle.block_split.proofs.list.has_every.Goals as goal

pub returns-in-All : goal.returns-in-All
returns-in-All c = λ f words. let e = c.has_indirect.ensures.exact f words in (λ t. (c.in-All.is, e.0 t), λ h. e.1 h.1)
