use Rattle.listing.proofs.Texts.Whole as laws
use Rattle.listing.proofs.laws.words_assemble.Goals as goal

pub returns-clause-assembled : goal.returns-clause-assembled
returns-clause-assembled c = laws.words_assemble

pub returns-clause-short : goal.returns-clause-short
returns-clause-short c = laws.texts_short

pub returns-clause-answered : goal.returns-clause-answered
returns-clause-answered c = λ words text answer are is exact. exact.assembled _ (laws.words_assemble words text are is)
