-- Pieces by their lengths, and the number of data words.
use Rattle.std.proofs.Common.{◌≡◌, ℕ, zero, suc, ◌+◌, ◌-◌, ◌*◌, ◌/◌, ◌^◌, ◌<◌, ◌≤◌, List, [], ◌∷◌, ◌++◌, length, map, get_or, take, drop, refl, sym, ap, ◌∙◌, subst, append_assoc, add-one, length-drop, drop-cons, arith}
use Rattle.std.specs.Prelude.{sum}
use Rattle.std.proofs.lemmas.List.{length-take-le, append-nil, get_or_default, drop_all}
use Rattle.std.proofs.lemmas.List.Sums.{sum_by-cons}
use Rattle.rv_isa.specs.declared.ins.Ins.{Ins}
use Rattle.qed_model.specs.declared.plan.PieceRow.{PieceRow}
use Rattle.tests.specs.declared.range.Range.{Range}
use Rattle.tests.specs.Admission.DataRanges.{range_of, data_ranges, word_count, ElfFile}
use Rattle.tests.specs.Admission.Places.{image_of}
use Rattle.qed_model.specs.Weave.Pieces.{divided}
use Rattle.qed_model.specs.Weave.OutputFile.{rows_of_pieces}
use Rattle.tests.proofs.Lemmas.{Spaced, are_spaced, spaced_data, image_room}
use Rattle.block_split.specs.declared.block.CodeBlock.{CodeBlock}
use Rattle.tests.specs.Ranges.{AreSpaced}
use Rattle.output_file.specs.Plans.{IsWhole, rows_of, end_of}

sum-cons : (n : ℕ) (ns : List ℕ) → sum (n ∷ ns) ≡ n + sum ns
sum-cons n ns = sum_by-cons (λ x. x) n ns

end_sum : (at : ℕ) (ns : List ℕ) → end_of at ns ≡ at + 4 * sum ns
end_sum at [] = omega arith
end_sum at (n ∷ ns) = let h = end_sum (at + 4 * n) ns in let s = sum-cons n ns in omega (arith, h, s)

-- pieces end no lower than they begin
pub end_from : (at : ℕ) (ns : List ℕ) → at ≤ end_of at ns
end_from at ns = let h = end_sum at ns in omega (arith, h)

rows_are : (entry at : ℕ) (ns : List ℕ) (is : List Ins) → sum ns ≤ length is → rows_of entry at ns ≡ rows_of_pieces entry at (divided ns is)
rows_are entry at [] is h = refl
rows_are entry at (n ∷ ns) is h =
    let s = sum-cons n ns in
    let size : length (take n is) ≡ n = length-take-le n is (omega (arith, h, s)) in
    let left = length-drop n is in
    let rest = rows_are entry (at + 4 * n) ns (drop n is) (omega (arith, h, s, left)) in
    (λ i. row (sym size i) ∷ rest i) ∙ (λ i. row (length (take n is)) ∷ rows_of_pieces entry (at + 4 * sym size i) (divided ns (drop n is))) where
      row : ℕ → PieceRow
      row n = record { entry = entry; first = at; length = n }

pub whole_end : (b : CodeBlock) → IsWhole b → end_of b.start b.lengths ≤ 2 ^ 63
whole_end b w = let e = end_sum b.start b.lengths in omega (arith, e, w.whole, w.below)

pub whole_rows : (b : CodeBlock) → IsWhole b → rows_of b.start b.start b.lengths ≡ rows_of_pieces b.start b.start (divided b.lengths b.body)
whole_rows b w = rows_are b.start b.start b.lengths b.body (omega (arith, w.whole))

-- the data ranges of a test
pub test_spaced : (f : ElfFile) (rs : List Range) → map range_of rs ≡ data_ranges (image_of f) → AreSpaced range_of rs
test_spaced f rs e = are_spaced range_of 0 rs (subst (Spaced 0) (sym e) (spaced_data (image_of f) (image_room f.segments)))

-- ---- data words
-- the words of the ranges before number i: at most those before the end of the last of these
pub record Counted (rs : List Range) (i count : ℕ) : Type 0 where
  pub total : count + word_count (map range_of (drop i rs)) ≡ word_count (map range_of rs)
  pub few : (k : ℕ) (d : Range) → i ≡ k + 1 → 8 * count ≤ (get_or rs k d).end
  pub none : i ≡ 0 → count ≡ 0

pub counted_none : (rs : List Range) → Counted rs 0 0
counted_none rs = record { total = omega arith; few = λ k d e. absurd (omega (arith, e)); none = λ e. refl }

pub counted_more :
    (rs : List Range) → AreSpaced range_of rs → (i count x next : ℕ) (d : Range) → i < length rs → x ≡ ((get_or rs i d).end - (get_or rs i d).start) / 8
    → (get_or rs i d).end < 2 ^ 64 → (count + x < 2 ^ 64 → next ≡ count + x) → Counted rs i count → Counted rs (i + 1) next
counted_more rs spaced i count x next d lt x_is fits next_is c = record {
  total = total;
  few = λ k y e. let p : k ≡ i = omega (arith, e) in let q : (get_or rs i d).end ≡ (get_or rs k y).end = ap (λ r. r.end) (get_or_default rs i d y lt) ∙ ap (λ n. (get_or rs n y).end) (sym p) in omega (arith, q, low);
  none = λ e. absurd (omega (arith, e));
} where
  some : (get_or rs i d).start < (get_or rs i d).end
  some = spaced.some i d lt

  before : 8 * count ≤ (get_or rs i d).start
  before = by i refl where
    by : (n : ℕ) → n ≡ i → 8 * count ≤ (get_or rs i d).start
    by zero e = let z = c.none (sym e) in omega (arith, z)
    by (suc n) e = let f = c.few n d (omega (arith, e)) in let g = spaced.gaps n i d (omega (arith, e)) lt in omega (arith, f, g)

  sum_is : next ≡ count + x
  sum_is = next_is (omega (arith, before, some, fits, x_is))

  low : 8 * next ≤ (get_or rs i d).end
  low = omega (arith, before, some, sum_is, x_is)

  total : next + word_count (map range_of (drop (i + 1) rs)) ≡ word_count (map range_of rs)
  total =
      let e : drop i rs ≡ get_or rs i d ∷ drop (i + 1) rs = rw add-one (drop-cons rs i d lt) in
      let w : word_count (map range_of (drop i rs)) ≡ x + word_count (map range_of (drop (i + 1) rs)) = ap (λ ts. word_count (map range_of ts)) e ∙ ap (λ n. n + word_count (map range_of (drop (i + 1) rs))) (sym x_is) in
      let t = c.total in
      omega (arith, t, w, sum_is)

pub counted_all : (rs : List Range) (i count : ℕ) → length rs ≤ i → Counted rs i count → count ≡ word_count (map range_of rs)
counted_all rs i count le c =
    let e : drop i rs ≡ [] = drop_all i rs le in
    let w : word_count (map range_of (drop i rs)) ≡ 0 = ap (λ ts. word_count (map range_of ts)) e in
    let t = c.total in
    omega (arith, t, w)

-- ---- rows
abbrev row_at : ℕ → ℕ → ℕ → PieceRow
row_at entry at n = record { entry = entry; first = at; length = n }

pub rows_more :
    (entry first next i n : ℕ) (ns : List ℕ) (rows new all : List PieceRow) → i < length ns → n ≡ get_or ns i 0 → new ≡ rows ++ row_at entry first n ∷ []
    → (first + 4 * n < 2 ^ 64 → next ≡ first + 4 * n) → (end_of first (drop i ns) ≤ 2 ^ 63) × (rows ++ rows_of entry first (drop i ns) ≡ all)
    → (end_of next (drop (i + 1) ns) ≤ 2 ^ 63) × (new ++ rows_of entry next (drop (i + 1) ns) ≡ all)
rows_more entry first next i n ns rows new all lt n_is new_is next_is inv =
    let e : drop i ns ≡ n ∷ drop (i + 1) ns = rw (add-one, n_is) (drop-cons ns i 0 lt) in
    let low : end_of (first + 4 * n) (drop (i + 1) ns) ≤ 2 ^ 63 = subst (λ xs. end_of first xs ≤ 2 ^ 63) e inv.0 in
    let from = end_from (first + 4 * n) (drop (i + 1) ns) in
    let at : next ≡ first + 4 * n = next_is (omega (arith, low, from)) in (
      subst (λ x. end_of x (drop (i + 1) ns) ≤ 2 ^ 63) (sym at) low,
      (λ j. new_is j ++ rows_of entry (at j) (drop (i + 1) ns))
          ∙ append_assoc rows (row_at entry first n ∷ []) (rows_of entry (first + 4 * n) (drop (i + 1) ns))
          ∙ ap (λ xs. rows ++ rows_of entry first xs) (sym e)
          ∙ inv.1,
    )

pub rows_all :
    (entry first i : ℕ) (ns : List ℕ) (rows all : List PieceRow) → length ns ≤ i → (end_of first (drop i ns) ≤ 2 ^ 63) × (rows ++ rows_of entry first (drop i ns) ≡ all) → rows ≡ all
rows_all entry first i ns rows all le inv = sym (append-nil rows) ∙ ap (λ xs. rows ++ rows_of entry first xs) (sym (drop_all i ns le)) ∙ inv.1
