-- The blocks of an admitted test can be woven.
use Rattle.std.specs.Prelude.{ℕ, ◌+◌, ◌≤◌, List, All, map}
use Rattle.tests.specs.declared.test.CodeWord.{CodeWord}
use Rattle.tests.specs.Elf.Sound.{IsSound}
use Rattle.tests.specs.Admission.Refusals.{IsAdmitted}
use Rattle.tests.specs.Admission.Test.{AreCodeWords}
use Rattle.qed_model.specs.Weave.SoundOptions.{AreSoundOptions}
use Rattle.qed_model.specs.Weave.Blocks.{ElfFile, AreBlocks, Options}
use Rattle.block_split.specs.declared.block.CodeBlock.{CodeBlock}
use Rattle.block_split.specs.Listed.{block_of, IsWithinTop}
use Rattle.weave.specs.Fits.{FitsBlock}

-- the file is an admitted test with these words of its code, and these are its blocks; their bodies are in pieces and
-- end where the words end, at the latest
pub record IsTestInBlocks (f : ElfFile) (o : Options) (code : List CodeWord) (blocks : List CodeBlock) : Type 0 where
  pub file : IsSound f
  pub sound : AreSoundOptions o
  pub admitted : IsAdmitted f o
  pub words : AreCodeWords f code
  pub are : AreBlocks f o (map block_of blocks)
  pub within : (top : ℕ) → All (λ c. c.at + 4 ≤ top) code → All (IsWithinTop top) blocks

abbrev pub BlocksFit : Type 0
BlocksFit = (f : ElfFile) (o : Options) (code : List CodeWord) (blocks : List CodeBlock) → IsTestInBlocks f o code blocks → All FitsBlock blocks
