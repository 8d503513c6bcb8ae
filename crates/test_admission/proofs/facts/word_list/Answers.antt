use Rattle.std.proofs.Common.{subst, sym}
use Rattle.tests.specs.Admission.Test.{AreCodeWords}
use Rattle.test_admission.specs.Stretches.{stretch_parts}
use Rattle.test_admission.proofs.Listing.{are_words}
use Rattle.test_admission.proofs.facts.word_list.Goals as goal

pub returns : goal.returns
returns c =
    let h = are_words c.args.file.now (stretch_parts c.args.code.now) c.in_ok-words.words.items c.requires.code c.in_ok-words.ensures.words c.in_ok-words.ensures.decoded in
    subst (AreCodeWords c.args.file.now) (sym c.of.ensures) h
