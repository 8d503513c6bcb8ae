-- The words of a segment are those of the image, if no two segments share a byte.
use Rattle.std.proofs.Common.{◌≡◌, ℕ, ◌+◌, ◌-◌, ◌*◌, ◌/◌, ◌<◌, ◌≤◌, max, true, List, ◌++◌, refl, sym, ap, ◌∙◌, arith}
use Rattle.std.specs.Prelude.{slice_index, nat_le, Contains}
use Rattle.std.proofs.lemmas.Bool.{and_parts, leb-true}
use Rattle.machine.specs.Apart.{AllFitMemory, AreApart}
use Rattle.machine.specs.Memory.{byte_in}
use Rattle.machine.specs.Program.{LoadSegment}
use Rattle.machine.specs.Loading.{load_segment, load_segments, Segment}
use Rattle.machine.specs.Cells.{cell_at, byte_among}
use Rattle.machine.proofs.Lemmas.{among_of, contains_of, alone, fit_among, has_from, among_agreed, by_bytes}
use Rattle.machine.specs.Members.{Among}
use Rattle.tests.proofs.Lemmas.{among_load}
use Rattle.listing.specs.Homes.{holds_range, IsHome, image_word, segment_word}
use Rattle.listing.specs.Listing.{lines}
use Rattle.listing.specs.Addresses.{addresses_from, up, down, range_words}
use Rattle.listing.proofs.Lines.{same_lines}

-- ---- bytes
byte_is : (ls : List LoadSegment) → AreApart ls → (l : LoadSegment) (q k : ℕ) → Among l ls → l.address ≤ q → q < l.address + l.size → k ≡ q - l.address → slice_index l.bytes k ≡ byte_among ls q
byte_is ls apart l q k m from to e =
    let h = has_from l q from to in
    ap (slice_index l.bytes) e
    ∙ sym (ap byte_in (among_agreed ls q (cell_at l q) (λ t i g. ap (λ x. cell_at x q) (alone ls apart t l q i m g h)) l m h))

-- ---- a word
word_is : (ls : List LoadSegment) → AreApart ls → (l : LoadSegment) (a : ℕ) → Among l ls → l.address ≤ a → a + 4 ≤ l.address + l.size → segment_word l a ≡ image_word ls a
word_is ls apart l a m from to =
    let n = by_bytes ls a in
    let b0 = byte_is ls apart l a (a - l.address) m from (omega (arith, to)) refl in
    let b1 = byte_is ls apart l (a + 1) (a - l.address + 1) m (omega (arith, from)) (omega (arith, to)) (omega (arith, from)) in
    let b2 = byte_is ls apart l (a + 1 + 1) (a - l.address + 2) m (omega (arith, from)) (omega (arith, to)) (omega (arith, from)) in
    let b3 = byte_is ls apart l (a + 1 + 1 + 1) (a - l.address + 3) m (omega (arith, from)) (omega (arith, to)) (omega (arith, from)) in
    omega (arith, n, b0, b1, b2, b3)

-- the lines of words of a segment
pub home_lines :
    (ss : List Segment) (r : ℕ × ℕ) (s : Segment) (start count : ℕ) → AreApart (load_segments ss) → IsHome ss r s → s.address ≤ start → start + 4 * count ≤ s.address + s.memory
    → lines (segment_word (load_segment s)) (addresses_from start count) ≡ lines (image_word (load_segments ss)) (addresses_from start count)
home_lines ss r s start count apart h from to =
    same_lines (segment_word (load_segment s)) (image_word (load_segments ss)) start count
    (λ k lt. word_is (load_segments ss) apart (load_segment s) (start + 4 * k) (among_of (load_segment s) (load_segments ss) h.loaded) (omega (arith, from)) (omega (arith, to, lt)))

-- the lines of the words of a range that lies in the segment
pub range_lines :
    (ss : List Segment) (r : ℕ × ℕ) (s : Segment) (first start end done : ℕ) (text more : List ℕ) → AreApart (load_segments ss) → IsHome ss r s → first ≡ up r.0 → start ≡ max first done
    → end ≡ down r.1 → start < end → more ≡ text ++ lines (segment_word (load_segment s)) (addresses_from start ((end - start) / 4))
    → more ≡ text ++ lines (image_word (load_segments ss)) (range_words done r)
range_lines ss r s first start end done text more apart h f b e lt m =
    let w = image_word (load_segments ss) in
    let from = h.from in
    let to = h.to in
    let begins : start ≡ max (up r.0) done = b ∙ ap (λ x. max x done) f in
    m
    ∙ ap (λ t. text ++ t) (home_lines ss r s start ((end - start) / 4) apart h (omega (arith, from, f, b)) (omega (arith, to, e, lt)))
    ∙ ap (λ x. text ++ lines w (addresses_from x ((end - x) / 4))) begins
    ∙ ap (λ x. text ++ lines w (addresses_from (max (up r.0) done) ((x - max (up r.0) done) / 4))) e

-- ---- a segment that was found
pub is_home : (ss : List Segment) (r : ℕ × ℕ) (s : Segment) → AllFitMemory (load_segments ss) → Contains ss s → s.kind ≡ 1 → holds_range (load_segment s) r ≡ true → IsHome ss r s
is_home ss r s fit c k h =
    let p = and_parts (nat_le s.address r.0) (nat_le r.1 (s.address + s.memory)) h in
    let m = among_load s ss k (among_of s ss c) in
    record {
      loaded = contains_of (load_segment s) (load_segments ss) m;
      from = leb-true s.address r.0 p.0;
      to = leb-true r.1 (s.address + s.memory) p.1;
      fit = (fit_among (load_segment s) (load_segments ss) fit m).1;
    }
