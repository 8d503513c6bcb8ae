use Rattle.test_admission.specs.Stretches.{stretch_parts}
use Rattle.test_admission.proofs.Listing.{passes_words}
use Rattle.test_admission.proofs.words.check_words.Goals as goal

pub returns : goal.returns
returns c = passes_words c.args.file.now c.args.options.now (stretch_parts c.args.code.now) c.requires.code c.requires.passed c.word_count-count.result c.word_count-count.ensures c.if-count-gt-MAX_CODE_WORDS.false
