-- The output of a test with its blocks, before it is written.
use Rattle.std.specs.Prelude.{◌≡◌, ℕ, ◌<◌, ◌≤◌, List, length, map}
use Rattle.elf_types.specs.declared.file.ElfFile.{ElfFile}
use Rattle.elf_types.specs.declared.output.OutFile.{OutFile}
use Rattle.machine.specs.declared.limits.Limit.TheVariants as limit
use Rattle.tests.specs.declared.options.Options.{Options}
use Rattle.qed_model.specs.declared.plan.Plan.{Plan}
use Rattle.machine.specs.Limits.{limit_of}
use Rattle.tests.specs.Elf.Layout.{written}
use Rattle.qed_model.specs.Weave.Woven.{NewCode, new_code, size_of_code, entries_in, IsCodeFor, file_with, IsPlanOf}
use Rattle.block_split.specs.declared.block.CodeBlock.{CodeBlock}
use Rattle.block_split.specs.Listed.{block_of}
use Rattle.weave_core.specs.Tests.{IsTest}
use Rattle.transform.specs.declared.code.Coded.{Coded}
use Rattle.transform.specs.declared.error.TransformError.{TransformError}
use Rattle.transform.specs.declared.error.TransformError.TheVariants as error

-- the new code in the form that is asked for
abbrev pub code_for : ElfFile → Options → List CodeBlock → NewCode
code_for f o blocks = new_code f o (map block_of blocks)

-- the words and entries of the new code, within its limit, with the table or without, and its bounds
pub record IsCoded (c : NewCode) (f : ElfFile) (o : Options) (made : Coded) : Type 0 where
  pub code : IsCodeFor c f o made.linked.words.items
  pub entries : made.linked.entries.items ≡ entries_in c f o
  pub table : made.table ≡ c.table
  pub bounds : made.bounds ≡ c.bounds
  pub few : size_of_code c ≤ limit_of c.limit

-- the file with the new code of the test, and its plan
pub record IsUnwritten (f : ElfFile) (o : Options) (blocks : List CodeBlock) (out : OutFile) (plan : Plan) : Type 0 where
  pub words : List ℕ
  pub test : IsTest (code_for f o blocks) f o (map block_of blocks) words
  pub file : out ≡ file_with (code_for f o blocks) f o words
  pub told : IsPlanOf (code_for f o blocks) f o (map block_of blocks) plan

-- no more segments and bytes than the limits
pub record IsWithinLimits (out : OutFile) : Type 0 where
  pub segments : length out.segments ≤ limit_of limit.OutputSegments
  pub size : length (written out) ≤ limit_of limit.OutputBytes

-- how a file exceeds the limits
abbrev pub Exceeds : OutFile → TransformError → Type 0
Exceeds out (error.TooManySegments n) = (n ≡ length out.segments) × (limit_of limit.OutputSegments < n)
Exceeds out (error.FileTooLong n) = (length out.segments ≤ limit_of limit.OutputSegments) × (n ≡ length (written out)) × (limit_of limit.OutputBytes < n)
Exceeds out _ = ⊥
