-- The entries of a test.
use Rattle.std.specs.Prelude.{◌≡◌, ℕ, ◌+◌, ◌-◌, ◌*◌, ◌%◌, ◌<◌, All, AllPairs, List, map}
use Rattle.qed_model.specs.declared.plan.EntryRow.{EntryRow}
use Rattle.machine.specs.Numbers.{number_bytes}
use Rattle.qed_model.specs.Weave.Placed.{EntriesAscend}
use Rattle.qed_model.specs.Weave.Sequences.{Block}

-- the input addresses ascend, and are multiples of 4 below an address
pub record AreEntries (high : ℕ) (rows : List EntryRow) : Type 0 where
  pub ascend : EntriesAscend rows
  pub aligned : All (λ r. r.input % 4 ≡ 0) rows
  pub below : All (λ r. r.input < high) rows

-- how far an entry is behind its input address's place in the table
abbrev pub entry_distance : ℕ → EntryRow → ℕ
entry_distance d row = row.output - (row.input + 2 * d)

-- the bytes of an entry's word in the table, with the input address
abbrev pub entry_word : ℕ → EntryRow → ℕ × List ℕ
entry_word d row = (row.input, number_bytes 4 (entry_distance d row))

-- ---- entries of blocks
-- the first addresses of blocks make entries if they ascend and are multiples of 4 below an address
abbrev pub EntriesOfBlocks : Type 0
EntriesOfBlocks =
    (rows : List EntryRow) (blocks : List Block) (high : ℕ) → map (λ r. r.input) rows ≡ map (λ b. b.start) blocks → AllPairs (λ b c. b.start < c.start) blocks
    → All (λ b. b.start % 4 ≡ 0) blocks → All (λ b. b.start < high) blocks → AreEntries high rows
