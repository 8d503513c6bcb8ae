-- The bytes of a segment are those of the image.
use Rattle.std.proofs.Common.{◌≡◌, ℕ, ◌+◌, ◌-◌, ◌≤◌, true, List, drop, sym, ap, ◌∙◌, arith, get_or-drop}
use Rattle.std.specs.Prelude.{slice_index}
use Rattle.std.proofs.lemmas.Bool.{and_parts, leb-true}
use Rattle.machine.specs.Memory.{byte_in}
use Rattle.machine.specs.Program.{LoadSegment}
use Rattle.machine.specs.Loading.{load_segment, load_segments, Segment}
use Rattle.machine.specs.Cells.{has, cell_at, byte_among}
use Rattle.machine.proofs.Lemmas.{alone, has_from, among_agreed}
use Rattle.machine.specs.Members.{Among}
use Rattle.tests.proofs.Lemmas.{among_load}
use Rattle.test_admission.specs.Read.{AreRead}
use Rattle.test_admission.specs.Stretches.{ReadsImage, holds_code}

byte_read : (ls : List LoadSegment) → AreRead ls → (l : LoadSegment) (q : ℕ) → Among l ls → has l q ≡ true → byte_among ls q ≡ slice_index l.bytes (q - l.address)
byte_read ls r l q m h = ap byte_in (among_agreed ls q (cell_at l q) (λ t k g. ap (λ x. cell_at x q) (alone ls r.apart t l q k m g h)) l m h)

-- ---- a part of a segment
pub reads_of : (ss : List Segment) → AreRead (load_segments ss) → (s : Segment) (start size : ℕ) → Among s ss → s.kind ≡ 1 → s.address ≤ start → start + size ≤ s.address + s.memory → ReadsImage (load_segments ss) (record { start = start; size = size; bytes = drop (start - s.address) s.bytes })
reads_of ss r s start size c k from to = record {
  bytes = λ j lt.
      let q : start - s.address + j ≡ start + j - s.address = omega (arith, from) in
      get_or-drop (start - s.address) s.bytes j 0
      ∙ ap (slice_index s.bytes) q
      ∙ sym (byte_read (load_segments ss) r (load_segment s) (start + j) (among_load s ss k c) (has_from (load_segment s) (start + j) (omega (arith, from)) (omega (arith, to, lt))));
}

-- it is one that lies in an executable segment
pub held_from : (r : ℕ × ℕ) (l : LoadSegment) → holds_code r l ≡ true → (l.address ≤ r.0) × (r.1 ≤ l.address + l.size)
held_from r l h =
    let p = and_parts _ _ (and_parts _ _ h).1 in
    (leb-true l.address r.0 p.0, leb-true r.1 (l.address + l.size) p.1)
