-- The lean form of a test as words.
use Rattle.std.specs.Prelude.{ℕ, ◌+◌, ◌≤◌, false, List, All, map}
use Rattle.qed_model.specs.declared.item.Item.{Item}
use Rattle.tests.specs.declared.test.Test.{Test}
use Rattle.tests.specs.Admission.Test.{IsTestOf}
use Rattle.qed_model.specs.Weave.Blocks.{begins_at, ElfFile, Options}
use Rattle.qed_model.specs.Weave.Code.{Sequences}
use Rattle.qed_model.specs.Weave.Parts.{Parts}
use Rattle.qed_model.specs.Weave.LeanParts.{worded_parts}
use Rattle.qed_model.specs.Weave.Sequences.{Block}
use Rattle.qed_model.specs.Weave.LeanCode.{lean_in, Lean, worded}
use Rattle.block_split.specs.declared.block.CodeBlock.{CodeBlock}
use Rattle.block_split.specs.Listed.{block_of, IsWithinTop}
use Rattle.plc_rounds.specs.Spans.{spans_of}
use Rattle.weave.specs.Form.{form_with, code_to_stub}
use Rattle.weave.specs.Code.{code_begin}
use Rattle.lean.specs.Tests.{AreLeanBlocks}

-- ---- of a test that was admitted
-- what runs before the check has 124 bytes
abbrev pub lean_with : Test → Options → ℕ → List Block → Lean
lean_with t o every blocks = lean_in o every blocks t.distance (code_begin t + 124) t.entry

-- the sequences of a test, by where an input address has its entry
abbrev pub code_with : Test → Options → ℕ → List Block → (ℕ → ℕ) → Sequences
code_with t o every blocks entry = worded (form_with (spans_of t.span) o false) t.base entry (lean_with t o every blocks) (begins_at blocks)

-- the parts of its sequences
abbrev pub test_parts_with : Test → Options → ℕ → List Block → (ℕ → ℕ) → Parts
test_parts_with t o every blocks entry = worded_parts (form_with (spans_of t.span) o false) t.base entry (lean_with t o every blocks) (begins_at blocks)

-- the items of a test, all but the stub
abbrev pub test_items_with : Test → Options → ℕ → List Block → (ℕ → ℕ) → List Item
test_items_with t o every blocks entry = code_to_stub (code_with t o every blocks entry) t.distance t.entry blocks

-- ---- of a file
-- the file is an admitted test with these facts and these blocks
pub record IsLeanCut (f : ElfFile) (o : Options) (every : ℕ) (t : Test) (blocks : List CodeBlock) : Type 0 where
  pub told : IsTestOf f o t
  pub cut : AreLeanBlocks f o every (map block_of blocks)
  pub within : (top : ℕ) → All (λ c. c.at + 4 ≤ top) t.code → All (IsWithinTop top) blocks
