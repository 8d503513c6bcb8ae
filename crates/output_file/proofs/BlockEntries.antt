-- Rows that have the first addresses of blocks are entries.
use Rattle.std.proofs.Common.{◌≡◌, ℕ, ◌%◌, ◌<◌, List, [], length, map, get_or, sym, ap, ◌∙◌, arith, false}
use Rattle.std.proofs.lemmas.List.{get_or-map, length-map}
use Rattle.qed_model.specs.declared.plan.EntryRow.{EntryRow}
use Rattle.qed_model.specs.Weave.Sequences.{Block, Falls}
use Rattle.output_file.specs.Entries.{EntriesOfBlocks}

abbrev input : EntryRow → ℕ
input r = r.input

abbrev start : Block → ℕ
start b = b.start

-- an arbitrary block at an address
block_at : ℕ → Block
block_at a = record { start = a; body = []; end = Falls; reached = false }

module _ (rows : List EntryRow) (blocks : List Block) (same : map input rows ≡ map start blocks) where
  as_many : length rows ≡ length blocks
  as_many = sym (length-map rows input) ∙ ap length same ∙ length-map blocks start

  row_is : (k : ℕ) (d : EntryRow) → k < length rows → (get_or rows k d).input ≡ (get_or blocks k (block_at d.input)).start
  row_is k d lt =
      let n = as_many in
      sym (get_or-map input rows k d d.input lt) ∙ ap (λ xs. get_or xs k d.input) same ∙ get_or-map start blocks k (block_at d.input) d.input (omega (arith, lt, n))

pub entries_are : EntriesOfBlocks
entries_are rows blocks high same ascend grain low = record {
  ascend = λ i j d lt le.
      let n = as_many rows blocks same in
      let a = row_is rows blocks same i d (omega (arith, lt, le)) in
      let b = row_is rows blocks same j d le in
      let c = ascend i j (block_at d.input) lt (omega (arith, le, n)) in
      omega (arith, a, b, c);
  aligned = λ k d lt.
      let n = as_many rows blocks same in
      ap (λ a. a % 4) (row_is rows blocks same k d lt) ∙ grain k (block_at d.input) (omega (arith, lt, n));
  below = λ k d lt.
      let n = as_many rows blocks same in
      let a = row_is rows blocks same k d lt in
      let h = low k (block_at d.input) (omega (arith, lt, n)) in
      omega (arith, a, h);
}
