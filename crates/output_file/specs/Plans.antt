-- The plan of an output.
use Rattle.std.specs.Prelude.{◌≡◌, ℕ, ◌+◌, ◌*◌, ◌^◌, List, [], ◌∷◌}
use Rattle.elf_types.specs.declared.file.ElfFile.{ElfFile}
use Rattle.qed_model.specs.declared.bounds.Bounds.{Bounds}
use Rattle.tests.specs.declared.options.Options.{Options}
use Rattle.qed_model.specs.declared.plan.EntryRow.{EntryRow}
use Rattle.qed_model.specs.declared.plan.PieceRow.{PieceRow}
use Rattle.tests.specs.declared.test.Test.{Test}
use Rattle.tests.specs.Admission.Test.{IsTestOf}
use Rattle.block_split.specs.declared.block.CodeBlock.{CodeBlock}
use Rattle.block_split.specs.Listed.{IsWithinTop}
use Rattle.qed_model.specs.Weave.Woven.{NewCode, size_of_code, entries_in}

-- the parts of a plan: the test, the size of its new code, the entries and the bounds
pub record AreParts (c : NewCode) (f : ElfFile) (o : Options) (t : Test) (entries : List EntryRow) (code_bytes : ℕ) (bounds : Bounds) : Type 0 where
  pub test : IsTestOf f o t
  pub code_bytes_is : code_bytes ≡ size_of_code c
  pub entries_are : entries ≡ entries_in c f o
  pub bounds_are : bounds ≡ c.bounds

-- the pieces make up the body of the block, which ends at 2^63 or before
abbrev pub IsWhole : CodeBlock → Type 0
IsWhole b = IsWithinTop (2 ^ 63) b

-- ---- pieces of known lengths that stand one behind the other
-- the row of each piece
abbrev pub rows_of : ℕ → ℕ → List ℕ → List PieceRow
rows_of entry at [] = []
rows_of entry at (n ∷ ns) = record { entry = entry; first = at; length = n } ∷ rows_of entry (at + 4 * n) ns

-- where the last piece ends
abbrev pub end_of : ℕ → List ℕ → ℕ
end_of at [] = at
end_of at (n ∷ ns) = end_of (at + 4 * n) ns
