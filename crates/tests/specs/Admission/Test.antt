-- The facts of a test that was admitted.
use Rattle.std.specs.Prelude.{◌≡◌, Some, List, map, All}
use Rattle.tests.specs.declared.test.CodeWord.{CodeWord}
use Rattle.tests.specs.declared.test.Test.{Test}
use Rattle.machine.specs.Table.{decode_of}
use Rattle.tests.specs.Admission.Places.{base_of, low_of, high_of, Options, ElfFile, image_of, half_of}
use Rattle.tests.specs.Admission.CodeWords.{ranges_of, word_at, AreCodeAddresses}
use Rattle.tests.specs.Admission.DataRanges.{range_of, data_ranges}

-- the word at its address, and the instruction of the word
pub record IsCodeWord (f : ElfFile) (c : CodeWord) : Type 0 where
  pub word : c.word ≡ word_at f c.at
  pub instruction : decode_of c.word ≡ Some c.ins

-- all words of the code, in ascending order
pub record AreCodeWords (f : ElfFile) (code : List CodeWord) : Type 0 where
  pub addresses : AreCodeAddresses f (map (λ c. c.at) code)
  pub each : All (IsCodeWord f) code

-- each field is what the file has
pub record IsTestOf (f : ElfFile) (o : Options) (t : Test) : Type 0 where
  pub entry : t.entry ≡ f.entry
  pub ranges : map range_of t.ranges ≡ ranges_of f
  pub code : AreCodeWords f t.code
  pub base : t.base ≡ base_of (image_of f)
  pub distance : t.distance ≡ half_of o.half (image_of f)
  pub low : t.low ≡ low_of (image_of f)
  pub high : t.high ≡ high_of (image_of f)
  pub span : map range_of t.span ≡ data_ranges (image_of f)
  pub segments : t.segments ≡ image_of f
