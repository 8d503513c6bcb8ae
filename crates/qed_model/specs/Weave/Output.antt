-- The output of an input: the bytes of both, and the file between them.
use Rattle.std.specs.Prelude.{◌≡◌, ℕ, List}
use Rattle.elf_types.specs.declared.output.OutFile.{OutFile}
use Rattle.qed_model.specs.Weave.Sequences.{Block}
use Rattle.tests.specs.Elf.Layout.{written}
use Rattle.tests.specs.Admission.Refusals.{IsAdmitted}
use Rattle.qed_model.specs.Weave.Blocks.{AreBlocks, ElfFile, Options}
use Rattle.qed_model.specs.Weave.Woven.{new_code, IsCodeFor, file_with}
use Rattle.tests.specs.Files.File.{File}

-- the input is admitted, these are its blocks, and the words are its new code in the form that is asked for
pub record HasNewCode (input : List ℕ) (o : Options) (f : ElfFile) (blocks : List Block) (words : List ℕ) : Type 0 where
  pub read : File input f
  pub admitted : IsAdmitted f o
  pub are : AreBlocks f o blocks
  pub code : IsCodeFor (new_code f o blocks) f o words

-- this is the file with the new code of the input
pub record WovenFile (input : List ℕ) (o : Options) (out : OutFile) : Type 0 where
  pub file : ElfFile
  pub blocks : List Block
  pub words : List ℕ
  pub has : HasNewCode input o file blocks words
  pub woven : out ≡ file_with (new_code file o blocks) file o words

-- the output is that file, written
pub record Woven (input : List ℕ) (o : Options) (output : List ℕ) : Type 0 where
  pub out : OutFile
  pub file : WovenFile input o out
  pub bytes : output ≡ written out

-- an input has one output
abbrev pub InputHasOneOutput : Type 0
InputHasOneOutput = (input : List ℕ) (o : Options) (a b : List ℕ) → Woven input o a → Woven input o b → a ≡ b
