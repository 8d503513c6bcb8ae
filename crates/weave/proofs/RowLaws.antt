-- The marks of new code stand where its blocks begin, by the bytes of the blocks alone.
use Rattle.std.proofs.Common.{◌≡◌, ℕ, ◌+◌, ◌-◌, ◌^◌, ◌<◌, ◌≤◌, Bool, List, [], ◌∷◌, ◌++◌, length, map, drop, refl, sym, ap, ◌∙◌, subst, arith, get_or}
use Rattle.std.specs.Prelude.{All}
use Rattle.std.proofs.lemmas.List.{append-nil, append_assoc, drop_more, drop_all}
use Rattle.std.proofs.lemmas.List.Elements.{All-head, All-tail}
use Rattle.qed_model.specs.declared.item.Item.{Item}
use Rattle.tests.specs.declared.options.Options.{Options}
use Rattle.qed_model.specs.declared.plan.EntryRow.{EntryRow}
use Rattle.tests.specs.declared.range.Range.{Range}
use Rattle.tests.specs.declared.test.Test.{Test}
use Rattle.qed_model.specs.Weave.Placed.{sum_of_sizes, rows_from}
use Rattle.qed_model.specs.Weave.Sequences.{Form, prologue}
use Rattle.qed_model.specs.Weave.Code.{entries_of, sequences}
use Rattle.block_split.specs.declared.block.CodeBlock.{CodeBlock}
use Rattle.block_split.specs.Listed.{block_of}
use Rattle.plc_rounds.specs.Spans.{spans_of}
use Rattle.relinker.specs.Counted.{capped}
use Rattle.weave.specs.Fits.{FitsBlock}
use Rattle.weave.specs.Form.{form_with}
use Rattle.weave_core.proofs.Lemmas.{unmarked_of, unmarked_prologue, unmarked_form, behind, unmarked_behind, rows_behind}
use Rattle.weave.specs.declared.size.Sizes.{Sizes}
use Rattle.weave.specs.Code.{items_of}
use Rattle.weave.specs.Sizes.{block_bytes, blocks_bytes, prologue_bytes, rows_of, AreSizes}
use Rattle.weave.proofs.Sizing.{block_is, prologue_is}

-- ---- in a loop
-- the bytes so far and those of the rest are all; below 2^64 - 1 bytes so are the rows
pub record RowsUpTo (s : Sizes) (first : ℕ) (all rest : List CodeBlock) (at : ℕ) (rows : List EntryRow) : Type 0 where
  pub fits : at < 2 ^ 64
  pub bytes : capped (at + blocks_bytes s rest) ≡ capped (first + blocks_bytes s all)
  pub same : first + blocks_bytes s all < 2 ^ 64 - 1 → rows ++ rows_of s at rest ≡ rows_of s first all

pub rows_none : (s : Sizes) (first : ℕ) (all : List CodeBlock) → first < 2 ^ 64 → RowsUpTo s first all all first []
rows_none s first all small = record { fits = small; bytes = refl; same = λ small. refl }

rows_next :
    (s : Sizes) (first : ℕ) (all rest : List CodeBlock) (b : CodeBlock) (at now size : ℕ) (rows new : List EntryRow)
    → RowsUpTo s first all (b ∷ rest) at rows → size ≡ capped (block_bytes s b) → now ≡ capped (at + size) → new ≡ rows ++ record { input = b.start; output = at } ∷ []
    → RowsUpTo s first all rest now new
rows_next s first all rest b at now size rows new r e f g =
    let exact : first + blocks_bytes s all < 2 ^ 64 - 1 → now ≡ at + block_bytes s b = λ small. omega (arith, small, r.bytes, e, f) in
    record {
      fits = omega (arith, f);
      bytes = omega (arith, r.bytes, e, f);
      same = λ small.
          ap (λ l. l ++ rows_of s now rest) g
          ∙ append_assoc rows (record { input = b.start; output = at } ∷ []) (rows_of s now rest)
          ∙ ap (λ n. rows ++ record { input = b.start; output = at } ∷ rows_of s n rest) (exact small)
          ∙ r.same small;
    }

pub rows_more :
    (s : Sizes) (first : ℕ) (all : List CodeBlock) (k : ℕ) (b : CodeBlock) (at now size : ℕ) (rows new : List EntryRow)
    → k < length all → get_or all k b ≡ b → RowsUpTo s first all (drop k all) at rows → size ≡ capped (block_bytes s b) → now ≡ capped (at + size)
    → new ≡ rows ++ record { input = b.start; output = at } ∷ [] → RowsUpTo s first all (drop (k + 1) all) now new
rows_more s first all k b at now size rows new lt is r e f g =
    rows_next s first all (drop (k + 1) all) b at now size rows new
    (subst (λ l. RowsUpTo s first all l at rows) (drop_more all k b lt ∙ ap (λ c. c ∷ drop (k + 1) all) is) r) e f g

pub rows_all :
    (s : Sizes) (first : ℕ) (all : List CodeBlock) (k at : ℕ) (rows : List EntryRow) → length all ≤ k → RowsUpTo s first all (drop k all) at rows
    → first + blocks_bytes s all < 2 ^ 64 - 1 → rows ≡ rows_of s first all
rows_all s first all k at rows end r small = sym (append-nil rows) ∙ ap (λ l. rows ++ rows_of s at l) (sym (drop_all k all end)) ∙ r.same small

pub rows_end :
    (s : Sizes) (first : ℕ) (all : List CodeBlock) (k at : ℕ) (rows : List EntryRow) → length all ≤ k → RowsUpTo s first all (drop k all) at rows
    → at ≡ capped (first + blocks_bytes s all)
rows_end s first all k at rows end r = let none = ap (blocks_bytes s) (drop_all k all end) in omega (arith, r.fits, r.bytes, none)

-- ---- the rows of items
module _ (far : Bool) (o : Options) (span : List Range) (s : Sizes) (are : AreSizes s o far span) where
  abbrev form : Form
  form = form_with (spans_of span) o far

  blocks_marked : (bs : List CodeBlock) (at : ℕ) → All FitsBlock bs → rows_from far at (entries_of (sequences form) (map block_of bs)) ≡ rows_of s at bs
  blocks_marked [] at fit = refl
  blocks_marked (b ∷ bs) at fit =
      let law = unmarked_form form (unmarked_of o.diverse) in
      let part : List Item = behind (sequences form) law (block_of b) in
      let rest = entries_of (sequences form) (map block_of bs) in
      let size : sum_of_sizes far part ≡ block_bytes s b = omega (arith, block_is far o span s are b (All-head FitsBlock b bs fit)) in
      ap (λ l. record { input = b.start; output = at } ∷ l)
      (rows_behind far at part rest (unmarked_behind (sequences form) law (block_of b)) ∙ ap (λ n. rows_from far (at + n) rest) size
      ∙ blocks_marked bs (at + block_bytes s b) (All-tail FitsBlock b bs fit))

pub items_marked :
    (far : Bool) (o : Options) (t : Test) (s : Sizes) (blocks : List CodeBlock) → AreSizes s o far t.span → All FitsBlock blocks
    → rows_from far 0 (items_of t o far blocks) ≡ rows_of s (prologue_bytes s.go t.span) blocks
items_marked far o t s blocks are fit =
    let first = prologue t.distance (spans_of t.span) t.entry in
    let size : 0 + sum_of_sizes far first ≡ prologue_bytes s.go t.span = omega (arith, prologue_is far t.distance t.span t.entry, ap (λ g. prologue_bytes g t.span) are.go) in
    rows_behind far 0 first (entries_of (sequences (form_with (spans_of t.span) o far)) (map block_of blocks)) (unmarked_prologue t.distance (spans_of t.span) t.entry)
    ∙ ap (λ n. rows_from far n (entries_of (sequences (form_with (spans_of t.span) o far)) (map block_of blocks))) size
    ∙ blocks_marked far o t.span s are blocks (prologue_bytes s.go t.span) fit
