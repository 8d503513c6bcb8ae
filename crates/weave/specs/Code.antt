-- The new code of a test, as words.
use Rattle.std.specs.Prelude.{◌≡◌, ℕ, ◌+◌, ◌*◌, ◌<◌, ◌≤◌, ◌||◌, Bool, List, All, map}
use Rattle.elf_types.specs.declared.file.ElfFile.{ElfFile}
use Rattle.qed_model.specs.declared.item.Item.{Item}
use Rattle.tests.specs.declared.options.Options.{Options}
use Rattle.tests.specs.declared.test.Test.{Test}
use Rattle.tests.specs.Admission.Test.{IsTestOf}
use Rattle.machine.specs.Limits.{limit_of}
use Rattle.qed_model.specs.Weave.Forms.{shape_of}
use Rattle.qed_model.specs.Weave.OutputFile.{has_table}
use Rattle.qed_model.specs.Weave.Parts.{Parts, code_parts}
use Rattle.qed_model.specs.Weave.Woven.{NewCode, size_of_code, entries_in, IsCodeFor}
use Rattle.block_split.specs.declared.block.CodeBlock.{CodeBlock}
use Rattle.block_split.specs.Listed.{block_of}
use Rattle.plc_rounds.specs.Spans.{spans_of}
use Rattle.relinker.specs.declared.error.LinkError.{LinkError}
use Rattle.relinker.specs.declared.error.LinkError.TheVariants as error
use Rattle.relinker.specs.declared.layout.Linked.{Linked}
use Rattle.weave.specs.Admitted.{IsTestInBlocks}
use Rattle.weave.specs.Form.{form_with, items_to_stub}
use Rattle.weave.specs.Kind.{CodeKind}

-- ---- in one form
-- the items in the near or in the far form, all but the stub
abbrev pub items_of : Test → Options → Bool → List CodeBlock → List Item
items_of t o far blocks = items_to_stub t.distance t.entry (form_with (spans_of t.span) o far) (map block_of blocks)

-- the address where the code begins
abbrev pub code_begin : Test → ℕ
code_begin t = t.base + 3 * t.distance

-- ---- of a test
-- the file is admitted as this test, and these are its blocks
pub record IsCut (f : ElfFile) (o : Options) (t : Test) (blocks : List CodeBlock) : Type 0 where
  pub told : IsTestOf f o t
  pub blocked : IsTestInBlocks f o t.code blocks

-- the words and entries of this new code, within its limit; their maker has its kind and parts, and accepts the blocks
pub record IsWoven (c : NewCode) (f : ElfFile) (o : Options) (t : Test)
    (blocks : List CodeBlock) (kind : CodeKind) (made : Parts) (is_for : CodeBlock → Type 0) (linked : Linked) : Type 0 where
  pub code : IsCodeFor c f o linked.words.items
  pub entries : linked.entries.items ≡ entries_in c f o
  pub few : size_of_code c ≤ limit_of c.limit
  pub own : All is_for blocks
  pub parts : code_parts made t.distance t.entry (map block_of blocks) ≡ c.parts
  pub far : kind.far ≡ c.far
  pub table : (kind.table || has_table (map block_of blocks)) ≡ c.table
  pub bounds : kind.bounds (shape_of f o c.far) ≡ c.bounds

-- the new code has n bytes, which is too many
abbrev pub HasCodeCause : NewCode → LinkError → Type 0
HasCodeCause c (error.TooLarge n) = (n ≡ size_of_code c) × (limit_of c.limit < n)
HasCodeCause c error.Memory = Unit {0}
