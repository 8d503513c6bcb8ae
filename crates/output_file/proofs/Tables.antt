-- The words of entries, laid one behind another, are the table.
use Rattle.std.proofs.Common.{◌≡◌, ℕ, zero, suc, ◌+◌, ◌-◌, ◌*◌, ◌/◌, ◌%◌, ◌<◌, ◌≤◌, true, false, List, [], ◌∷◌, ◌++◌, length, map, replicate, None, refl, sym, ap, ◌∙◌, subst, append_assoc, arith}
use Rattle.std.specs.Prelude.{◌==◌, All, AllPairs}
use Rattle.std.proofs.lemmas.Bool.{eq-eqb}
use Rattle.std.proofs.lemmas.Bool.Decides.{nat_tests}
use Rattle.std.proofs.lemmas.List.{append-nil, replicate-append-replicate}
use Rattle.qed_model.specs.declared.plan.EntryRow.{EntryRow}
use Rattle.machine.specs.Below.{gather}
use Rattle.machine.specs.Numbers.{number_bytes}
use Rattle.qed_model.specs.Weave.Placed.{entry_at}
use Rattle.qed_model.specs.Weave.OutputFile.{first_input, last_input, distance_to, table_word, table_bytes, table_segment}
use Rattle.tests.proofs.Lemmas.{length-number_bytes}
use Rattle.machine.proofs.Lemmas.{gather_none}
use Rattle.output_file.specs.Segments.{whole}
use Rattle.output_file.specs.Laid.{laid}
use Rattle.output_file.specs.Entries.{AreEntries, entry_distance, entry_word}

-- ---- lists end to end
gather_add : (m n : ℕ) (f : ℕ → List ℕ) → gather (m + n) f ≡ gather m f ++ gather n (λ k. f (m + k))
unfolding gather
gather_add m zero f = let e : m + 0 ≡ m = omega arith in ap (λ k. gather k f) e ∙ sym (append-nil (gather m f))
gather_add m (suc n) f =
    let e : m + suc n ≡ suc (m + n) = omega arith in
    ap (λ k. gather k f) e ∙ ap (λ xs. xs ++ f (m + n)) (gather_add m n f) ∙ append_assoc (gather m f) (gather n (λ k. f (m + k))) (f (m + n))

gather_same : (n : ℕ) (f g : ℕ → List ℕ) → ((k : ℕ) → k < n → f k ≡ g k) → gather n f ≡ gather n g
unfolding gather
gather_same zero f g h = refl
gather_same (suc n) f g h = λ i. gather_same n f g (λ k lt. h k (omega (arith, lt))) i ++ h n (omega arith) i

gather_one : (f : ℕ → List ℕ) → gather 1 f ≡ f 0
unfolding gather
gather_one f = refl

abbrev zeros : ℕ → List ℕ
zeros n = replicate n 0

zero_word : number_bytes 4 0 ≡ zeros 4
unfolding number_bytes
zero_word = refl

gather_zeros : (m : ℕ) (f : ℕ → List ℕ) → ((k : ℕ) → k < m → f k ≡ zeros 4) → gather m f ≡ zeros (4 * m)
unfolding gather
gather_zeros zero f h = refl
gather_zeros (suc m) f h =
    let e : 4 * m + 4 ≡ 4 * suc m = omega arith in
    (λ i. gather_zeros m f (λ k lt. h k (omega (arith, lt))) i ++ h m (omega arith) i) ∙ replicate-append-replicate (4 * m) 4 0 ∙ ap zeros e

-- ---- entries that ascend by 4 at least, from an address on
abbrev Up : ℕ → List EntryRow → Type 0
Up low [] = Unit {0}
Up low (r ∷ rs) = (low ≤ r.input) × (r.input % 4 ≡ 0) × Up (r.input + 4) rs

pairs_tail : (r : EntryRow) (rows : List EntryRow) → AllPairs (λ r t. r.input < t.input) (r ∷ rows) → AllPairs (λ r t. r.input < t.input) rows
pairs_tail r rows h = λ i j d lt le. h (suc i) (suc j) d (omega (arith, lt)) (omega (arith, le))

up_of : (low : ℕ) (r : EntryRow) (rows : List EntryRow) → AllPairs (λ r t. r.input < t.input) (r ∷ rows) → All (λ r. r.input % 4 ≡ 0) (r ∷ rows) → low ≤ r.input → Up low (r ∷ rows)
up_of low r [] pairs grain le = (le, grain 0 r (omega arith), tt)
up_of low r (t ∷ rows) pairs grain le =
    let lt : r.input < t.input = pairs 0 1 r (omega arith) (omega arith) in
    let a : r.input % 4 ≡ 0 = grain 0 r (omega arith) in
    let b : t.input % 4 ≡ 0 = grain 1 r (omega arith) in
    (le, a, up_of (r.input + 4) t rows (pairs_tail r (t ∷ rows) pairs) (λ k d l. grain (suc k) d (omega (arith, l))) (omega (arith, lt, a, b)))

none_before : (low a : ℕ) (rows : List EntryRow) → Up low rows → a < low → entry_at rows a ≡ None
none_before low a [] u lt = refl
none_before low a (r ∷ rows) u lt =
    let h = u.0 in
    let t : (r.input == a) ≡ false = grind (arith, nat_tests) in
    rw t (none_before (r.input + 4) a rows u.2 (omega (arith, h, lt)))

last_from : (low : ℕ) (r : EntryRow) (rows : List EntryRow) → Up low (r ∷ rows) → (low ≤ last_input (r ∷ rows)) × (last_input (r ∷ rows) % 4 ≡ 0)
last_from low r [] u = (u.0, u.1)
last_from low r (t ∷ rows) u = let p = last_from (r.input + 4) t rows u.2 in (omega (arith, p.0, u.0), p.1)

-- ---- words of a table
abbrev words : ℕ → List EntryRow → ℕ → ℕ → List ℕ
words d rows at c = gather c (λ k. number_bytes 4 (table_word d rows (at + 4 * k)))

word_at : (d a : ℕ) (r : EntryRow) (rows : List EntryRow) → a ≡ r.input → table_word d (r ∷ rows) a ≡ entry_distance d r
word_at d a r rows e = let t : (r.input == a) ≡ true = eq-eqb r.input a (sym e) in rw t (ap (λ n. r.output - (n + 2 * d)) e)

word_later : (d a : ℕ) (r : EntryRow) (rows : List EntryRow) → r.input < a → table_word d (r ∷ rows) a ≡ table_word d rows a
word_later d a r rows h = let t : (r.input == a) ≡ false = grind (arith, nat_tests) in rw t refl

-- zeros up to the first entry, its word, and the words behind it
head_words :
    (d at m c : ℕ) (r : EntryRow) (rows : List EntryRow) → at + 4 * m ≡ r.input → Up (r.input + 4) rows
    → words d (r ∷ rows) at (m + (1 + c)) ≡ zeros (4 * m) ++ (number_bytes 4 (entry_distance d r) ++ words d rows (r.input + 4) c)
head_words d at m c r rows e u =
    let f = λ (k : ℕ). number_bytes 4 (table_word d (r ∷ rows) (at + 4 * k)) in
    let g = λ (k : ℕ). f (m + k) in
    let first : g 0 ≡ number_bytes 4 (entry_distance d r) = let p : at + 4 * (m + 0) ≡ r.input = omega (arith, e) in ap (number_bytes 4) (word_at d (at + 4 * (m + 0)) r rows p) in
    let before : gather m f ≡ zeros (4 * m) = gather_zeros m f (λ k lt.
    let p : at + 4 * k < r.input = omega (arith, e, lt) in
    let t : (r.input == at + 4 * k) ≡ false = grind (arith, nat_tests) in
    let n : entry_at (r ∷ rows) (at + 4 * k) ≡ None = rw t (none_before (r.input + 4) (at + 4 * k) rows u (omega (arith, p))) in
    ap (λ o. number_bytes 4 (distance_to (at + 4 * k + 2 * d) o)) n ∙ zero_word) in
    let later : gather c (λ k. g (1 + k)) ≡ words d rows (r.input + 4) c = gather_same c (λ k. g (1 + k)) (λ k. number_bytes 4 (table_word d rows (r.input + 4 + 4 * k))) (λ k lt.
    let p : at + 4 * (m + (1 + k)) ≡ r.input + 4 + 4 * k = omega (arith, e) in
    ap (λ a. number_bytes 4 (table_word d (r ∷ rows) a)) p ∙ ap (number_bytes 4) (word_later d (r.input + 4 + 4 * k) r rows (omega arith))) in
    gather_add m (1 + c) f ∙ (λ i. before i ++ (gather_add 1 c g ∙ (λ j. (gather_one g ∙ first) j ++ later j)) i)

laid_words :
    (d start n : ℕ) (rows : List EntryRow) (r : EntryRow) → start % 4 ≡ 0 → n % 4 ≡ 0 → Up (start + n) (r ∷ rows)
    → laid start n (map (entry_word d) (r ∷ rows)) ≡ words d (r ∷ rows) (start + n) ((last_input (r ∷ rows) - (start + n)) / 4 + 1)
laid_words d start n [] r a b u =
    let m = (r.input - start - n) / 4 in
    let e : r.input - start - n ≡ 4 * m = omega (arith, a, b, u.1) in
    let p : start + n + 4 * m ≡ r.input = omega (arith, e, u.0) in
    let count : (r.input - (start + n)) / 4 + 1 ≡ m + (1 + 0) = omega (arith, e, u.0) in
    (λ i. zeros (e i) ++ (number_bytes 4 (entry_distance d r) ++ gather_none (λ k. number_bytes 4 (table_word d [] (r.input + 4 + 4 * k))) i)) ∙ sym (ap (words d (r ∷ []) (start + n)) count ∙ head_words d (start + n) m 0 r [] p tt)
laid_words d start n (t ∷ rows) r a b u =
    let m = (r.input - start - n) / 4 in
    let size : length (number_bytes 4 (entry_distance d r)) ≡ 4 = length-number_bytes 4 (entry_distance d r) in
    let next = n + (r.input - start - n) + length (number_bytes 4 (entry_distance d r)) in
    let e : r.input - start - n ≡ 4 * m = omega (arith, a, b, u.1) in
    let p : start + n + 4 * m ≡ r.input = omega (arith, e, u.0) in
    let at : start + next ≡ r.input + 4 = omega (arith, e, u.0, size) in
    let last = last_from (r.input + 4) t rows u.2 in
    let c = (last_input (t ∷ rows) - (r.input + 4)) / 4 + 1 in
    let count : (last_input (t ∷ rows) - (start + n)) / 4 + 1 ≡ m + (1 + c) = omega (arith, p, last.0, last.1, a, b, u.1) in
    let rest : laid start next (map (entry_word d) (t ∷ rows)) ≡ words d (t ∷ rows) (r.input + 4) c =
    laid_words d start next rows t a (omega (arith, e, b, size)) (subst (λ x. Up x (t ∷ rows)) (sym at) u.2) ∙ ap (λ x. words d (t ∷ rows) x ((last_input (t ∷ rows) - x) / 4 + 1)) at in
    (λ i. zeros (e i) ++ (number_bytes 4 (entry_distance d r) ++ rest i)) ∙ sym (ap (words d (r ∷ t ∷ rows) (start + n)) count ∙ head_words d (start + n) m c r (t ∷ rows) p u.2)

-- the words of entries are the table
pub laid_is_table : (d high : ℕ) (rows : List EntryRow) → AreEntries high rows → 1 ≤ length rows → laid (first_input rows) 0 (map (entry_word d) rows) ≡ table_bytes d rows
laid_is_table d high [] are some = absurd (omega (arith, some))
laid_is_table d high (r ∷ rows) are some =
    let e : r.input + 0 ≡ r.input = omega arith in
    let grain : r.input % 4 ≡ 0 = are.aligned 0 r (omega arith) in
    laid_words d r.input 0 rows r grain refl (up_of (r.input + 0) r rows are.ascend are.aligned (omega arith)) ∙ ap (λ x. words d (r ∷ rows) x ((last_input (r ∷ rows) - x) / 4 + 1)) e

no_rows : (d : ℕ) → 0 ∷ 0 ∷ 0 ∷ 0 ∷ [] ≡ table_bytes d []
unfolding gather number_bytes
no_rows d = refl

pub no_entries : (d : ℕ) (rows : List EntryRow) → length rows ≡ 0 → 0 ∷ 0 ∷ 0 ∷ 0 ∷ [] ≡ table_bytes d rows
no_entries d [] e = no_rows d
no_entries d (r ∷ rows) e = absurd (omega (arith, e))

pub first_low : (high : ℕ) (rows : List EntryRow) → AreEntries high rows → first_input rows ≤ high
first_low high [] are = omega arith
first_low high (r ∷ rows) are = let h : r.input < high = are.below 0 r (omega arith) in omega (arith, h)

-- ---- the segment
pub table_made : (d a : ℕ) (bytes : List ℕ) (rows : List EntryRow) → a ≡ first_input rows + 2 * d → bytes ≡ table_bytes d rows → whole 4 a bytes ≡ table_segment d rows
table_made d a bytes rows e g = λ i. whole 4 (e i) (g i)
