-- Look-ups in the memory of segments. If all segments that have an address agree there, their order does not matter.
use Rattle.std.proofs.Common.{◌≡◌, ◌≢◌, ◌⊎◌, inl, inr, ⊎_elim, ℕ, zero, suc, ◌+◌, ◌-◌, ◌^◌, ◌*◌, ◌<◌, ◌≤◌, Bool, true, false, cond, ◌&&◌, List, [], ◌∷◌, ◌++◌, length, Option, Some, None, refl, sym, ap, ◌∙◌, arith}
use Rattle.std.specs.Prelude.{nat_lt, nat_le, ◌==◌, slice_index, replicate, map}
use Rattle.std.specs.FinMap.{get, find}
use Rattle.std.specs.Ordering.{nat_cmp, eq_by_cmp}
use Rattle.std.proofs.lemmas.Bool.Decides.{nat_tests}
use Rattle.std.proofs.lemmas.Bool.{leb-true, ltb-true, eqb-true, eqb-false, and_parts, and_from, le-leb, lt-ltb, false≢true}
use Rattle.std.specs.Option.{option_or}
use Rattle.machine.specs.Memory.{Flags, Cell, byte_in, byte_at, cells_from, number, wrap}
use Rattle.machine.specs.Program.{LoadSegment, memory_of, cells_of}
use Rattle.machine.specs.Cells.{has, cell_at, cell_among, byte_among, number_among}
use Rattle.machine.proofs.CellsLaws.{eq_is, get_memory, byte_of_cell}
use Rattle.machine.proofs.SegmentCells.{AllSized, length-image}
use Rattle.machine.specs.Members.{Among}

-- ---- what a segment has
pub has_from : (s : LoadSegment) (q : ℕ) → s.address ≤ q → q < s.address + s.size → has s q ≡ true
has_from s q a b = and_from (nat_le s.address q) (nat_lt q (s.address + s.size)) (le-leb s.address q a) (lt-ltb q (s.address + s.size) b)

pub has_parts : (s : LoadSegment) (q : ℕ) → has s q ≡ true → (s.address ≤ q) × (q < s.address + s.size)
has_parts s q h = let p = and_parts (nat_le s.address q) (nat_lt q (s.address + s.size)) h in (leb-true s.address q p.0, ltb-true q (s.address + s.size) p.1)

pub has_not : (s : LoadSegment) (q : ℕ) → (q < s.address) ⊎ (s.address + s.size ≤ q) → has s q ≡ false
has_not s q h = by (has s q) refl where
  by : (b : Bool) → has s q ≡ b → has s q ≡ false
  by true e = let p = has_parts s q e in absurd (⊎_elim (λ x. omega (arith, x, p.0)) (λ x. omega (arith, x, p.1)) h)
  by false e = e

-- ---- the memory of segments
-- a cell of a byte and its permissions
abbrev cell : ℕ → Flags → Cell
cell b f = record { byte = b; flags = f }

-- the cell at q of bytes from a on
abbrev window : ℕ → ℕ → Flags → List ℕ → Option Cell
window q a f bs = cond (nat_le a q && nat_lt q (a + length bs)) (Some (cell (slice_index bs (q - a)) f)) None

-- at the first address
window_first : (b : ℕ) (bs : List ℕ) (q a : ℕ) (f : Flags) → q ≡ a → Some (cell b f) ≡ window q a f (b ∷ bs)
window_first b bs q a f e =
    let t : (nat_le a q && nat_lt q (a + suc (length bs))) ≡ true = grind (arith, nat_tests) in
    let z : q - a ≡ 0 = omega arith in
    rw t (rw z refl)

later_test : (q a n : ℕ) → q ≢ a → (nat_le (a + 1) q && nat_lt q (a + 1 + n)) ≡ (nat_le a q && nat_lt q (a + suc n))
later_test q a n ne = grind (arith, nat_tests)

-- at a later one
window_later : (b : ℕ) (bs : List ℕ) (q a : ℕ) (f : Flags) → q ≢ a → window q (a + 1) f bs ≡ window q a f (b ∷ bs)
window_later b bs q a f ne = rw (← later_test q a (length bs) ne) (both (nat_le (a + 1) q) _ (λ e. at (leb-true (a + 1) q e))) where
  at : a + 1 ≤ q → slice_index bs (q - (a + 1)) ≡ slice_index (b ∷ bs) (q - a)
  at h = let e : q - a ≡ suc (q - (a + 1)) = omega arith in rw e refl

  both :
      (x y : Bool) → (x ≡ true → slice_index bs (q - (a + 1)) ≡ slice_index (b ∷ bs) (q - a))
      → cond (x && y) (Some (cell (slice_index bs (q - (a + 1))) f)) None ≡ cond (x && y) (Some (cell (slice_index (b ∷ bs) (q - a)) f)) None
  both true true h = ap (λ n. Some (cell n f)) (h refl)
  both true false h = refl
  both false y h = refl

window_none : (q a : ℕ) (f : Flags) → None ≡ window q a f []
window_none q a f = let t : (nat_le a q && nat_lt q (a + 0)) ≡ false = grind (arith, nat_tests) in rw t refl

-- a look-up in the cells of bytes
find-cells_from : (q a : ℕ) (f : Flags) (bs : List ℕ) → find nat_cmp q (cells_from a f bs) ≡ window q a f bs
find-cells_from q a f [] = window_none q a f
find-cells_from q a f (b ∷ bs) =
    rw (eq_is q a) (elim (q == a) as (λ t. (q == a) ≡ t → cond t (Some (cell b f)) (find nat_cmp q (cells_from (a + 1) f bs)) ≡ window q a f (b ∷ bs)) [
      | true ↦ λ e. window_first b bs q a f (eqb-true q a e)
      | false ↦ λ e. find-cells_from q (a + 1) f bs ∙ window_later b bs q a f (eqb-false q a e)
    ] refl)

pub option_or-cond : (b : Bool) (c : Cell) (o p : Option Cell) → option_or (cond b (Some c) o) p ≡ cond b (Some c) (option_or o p)
option_or-cond true c o p = refl
option_or-cond false c o p = refl

find-append : (q : ℕ) (xs ys : List (ℕ × Cell)) → find nat_cmp q (xs ++ ys) ≡ option_or (find nat_cmp q xs) (find nat_cmp q ys)
find-append q [] ys = refl
find-append q (x ∷ xs) ys = ap (cond (eq_by_cmp nat_cmp q x.0) (Some x.1)) (find-append q xs ys) ∙ sym (option_or-cond (eq_by_cmp nat_cmp q x.0) x.1 _ _)

-- zeros behind bytes read as what is missing
pub index_zeros : (bs : List ℕ) (n i : ℕ) → slice_index (bs ++ replicate n 0) i ≡ slice_index bs i
index_zeros [] zero i = refl
index_zeros [] (suc n) zero = refl
index_zeros [] (suc n) (suc i) = index_zeros [] n i
index_zeros (b ∷ bs) n zero = refl
index_zeros (b ∷ bs) n (suc i) = index_zeros bs n i

window_cell :
    (s : LoadSegment) (q : ℕ) → length s.bytes ≤ s.size
    → window q s.address s.flags (s.bytes ++ replicate (s.size - length s.bytes) 0) ≡ cond (has s q) (Some (cell_at s q)) None
window_cell s q h = rw (length-image s h, index_zeros s.bytes (s.size - length s.bytes) (q - s.address)) refl

find-cells_of : (q : ℕ) (ss : List LoadSegment) → AllSized ss → find nat_cmp q (cells_of ss) ≡ cell_among ss q
find-cells_of q [] h = refl
find-cells_of q (s ∷ ss) h =
    find-append q (cells_from s.address s.flags (s.bytes ++ replicate (s.size - length s.bytes) 0)) (cells_of ss)
    ∙ ap (λ o. option_or o (find nat_cmp q (cells_of ss))) (find-cells_from q s.address s.flags (s.bytes ++ replicate (s.size - length s.bytes) 0) ∙ window_cell s q h.0)
    ∙ option_or-cond (has s q) (cell_at s q) None _
    ∙ ap (cond (has s q) (Some (cell_at s q))) (find-cells_of q ss h.1)

-- the memory has at an address what the segments have
pub get_among : (ss : List LoadSegment) (q : ℕ) → AllSized ss → get (memory_of ss) q ≡ cell_among ss q
get_among ss q h = get_memory ss q ∙ find-cells_of q ss h

pub byte_at-among : (ss : List LoadSegment) (q : ℕ) → AllSized ss → byte_at (memory_of ss) q ≡ byte_among ss q
byte_at-among ss q h = byte_of_cell (memory_of ss) q ∙ ap byte_in (get_among ss q h)

-- below 2^64 the numbers are those of the memory
pub number-among : (ss : List LoadSegment) (a n : ℕ) → AllSized ss → a + n ≤ 2 ^ 64 → number (memory_of ss) a n ≡ number_among ss a n
unfolding number number_among
number-among ss a zero h l = refl
number-among ss a (suc n) h l =
    let here : wrap a ≡ a = omega (arith, l) in
    let first : byte_at (memory_of ss) (wrap a) ≡ byte_among ss a = ap (byte_at (memory_of ss)) here ∙ byte_at-among ss a h in
    let rest : number (memory_of ss) (a + 1) n ≡ number_among ss (a + 1) n = number-among ss (a + 1) n h (omega (arith, l)) in
    ap (λ b. b + 256 * number (memory_of ss) (a + 1) n) first ∙ ap (λ x. byte_among ss a + 256 * x) rest

-- a word is four bytes
pub by_bytes : (ls : List LoadSegment) (a : ℕ) → number_among ls a 4 ≡ byte_among ls a + 256 * (byte_among ls (a + 1) + 256 * (byte_among ls (a + 1 + 1) + 256 * (byte_among ls (a + 1 + 1 + 1) + 256 * 0)))
unfolding number_among
by_bytes ls a = refl

-- ---- look-ups
by_first :
    (t : LoadSegment) (ts : List LoadSegment) (q : ℕ) (o : Option Cell) → (has t q ≡ true → Some (cell_at t q) ≡ o)
    → (has t q ≡ false → cell_among ts q ≡ o) → cell_among (t ∷ ts) q ≡ o
by_first t ts q o here later = elim (has t q) as (λ b. has t q ≡ b → cond b (Some (cell_at t q)) (cell_among ts q) ≡ o) [ true ↦ λ e. here e | false ↦ λ e. later e ] refl

-- where all segments that have the address agree, each of them tells the cell
pub among_agreed :
    (ss : List LoadSegment) (q : ℕ) (c : Cell) → ((s : LoadSegment) → Among s ss → has s q ≡ true → cell_at s q ≡ c) → (s : LoadSegment) → Among s ss
    → has s q ≡ true → cell_among ss q ≡ Some c
among_agreed [] q c all s m h = absurd m
among_agreed (t ∷ ts) q c all s m h =
    by_first t ts q (Some c)
    (λ e. ap Some (all t (inl refl) e))
    (λ e. ⊎_elim (λ is. absurd (false≢true (sym e ∙ ap (λ x. has x q) (sym is) ∙ h))) (λ r. among_agreed ts q c (λ x k. all x (inr k)) s r h) m)

-- a segment that has the address, and the cell that it has there
pub record Found (ss : List LoadSegment) (q : ℕ) (c : Cell) : Type 0 where
  pub segment : LoadSegment
  pub among : Among segment ss
  pub holds : has segment q ≡ true
  pub cell_is : c ≡ cell_at segment q

found_later : (t : LoadSegment) (ts : List LoadSegment) (q : ℕ) (c : Cell) → Found ts q c → Found (t ∷ ts) q c
found_later t ts q c f = record { segment = f.segment; among = inr f.among; holds = f.holds; cell_is = f.cell_is }

found_step :
    (t : LoadSegment) (ts : List LoadSegment) (q : ℕ) (c : Cell) → (cell_among ts q ≡ Some c → Found ts q c) → (b : Bool) → has t q ≡ b
    → cond b (Some (cell_at t q)) (cell_among ts q) ≡ Some c → Found (t ∷ ts) q c
found_step t ts q c rec true e h = record { segment = t; among = inl refl; holds = e; cell_is = cc }
found_step t ts q c rec false e h = found_later t ts q c (rec h)

-- a cell that is found is of one of the segments
pub found_among : (ss : List LoadSegment) (q : ℕ) (c : Cell) → cell_among ss q ≡ Some c → Found ss q c
found_among [] q c e = absurd (cc)
found_among (t ∷ ts) q c e = found_step t ts q c (found_among ts q c) (has t q) refl e

-- there is none where no segment has the address
pub none_among : (ss : List LoadSegment) (q : ℕ) → ((s : LoadSegment) → Among s ss → has s q ≡ false) → cell_among ss q ≡ None
none_among [] q h = refl
none_among (t ∷ ts) q h = by_first t ts q None (λ e. absurd (false≢true (sym (h t (inl refl)) ∙ e))) (λ e. none_among ts q (λ s k. h s (inr k)))

-- ---- one list behind another
pub skip_front : (xs ys : List LoadSegment) (q : ℕ) → ((s : LoadSegment) → Among s xs → has s q ≡ false) → cell_among (xs ++ ys) q ≡ cell_among ys q
skip_front [] ys q h = refl
skip_front (t ∷ xs) ys q h = by_first t (xs ++ ys) q (cell_among ys q) (λ e. absurd (false≢true (sym (h t (inl refl)) ∙ e))) (λ e. skip_front xs ys q (λ s k. h s (inr k)))

pub skip_back : (xs ys : List LoadSegment) (q : ℕ) → ((s : LoadSegment) → Among s ys → has s q ≡ false) → cell_among (xs ++ ys) q ≡ cell_among xs q
skip_back [] ys q h = none_among ys q h
skip_back (t ∷ xs) ys q h = ap (cond (has t q) (Some (cell_at t q))) (skip_back xs ys q h)

-- ---- at a distance
abbrev pub moved_by : ℕ → LoadSegment → LoadSegment
moved_by d s = record { address = s.address + d; size = s.size; flags = s.flags; bytes = s.bytes }

has-moved : (s : LoadSegment) (d q : ℕ) → has (moved_by d s) (q + d) ≡ has s q
has-moved s d q = grind (arith, nat_tests)

cell-moved : (s : LoadSegment) (d q : ℕ) → cell_at (moved_by d s) (q + d) ≡ cell_at s q
cell-moved s d q = let e : (q + d) - (s.address + d) ≡ q - s.address = omega arith in ap (λ k. cell (slice_index s.bytes k) s.flags) e

-- among segments that are moved, cells stand at the distance
pub among-moved : (ss : List LoadSegment) (d q : ℕ) → cell_among (map (moved_by d) ss) (q + d) ≡ cell_among ss q
among-moved [] d q = refl
among-moved (s ∷ ss) d q =
    ap (λ b. cond b (Some (cell_at (moved_by d s) (q + d))) (cell_among (map (moved_by d) ss) (q + d))) (has-moved s d q)
    ∙ ap (λ c. cond (has s q) (Some c) (cell_among (map (moved_by d) ss) (q + d))) (cell-moved s d q)
    ∙ ap (cond (has s q) (Some (cell_at s q))) (among-moved ss d q)
