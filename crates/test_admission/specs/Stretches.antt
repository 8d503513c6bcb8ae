-- The code of a file in stretches, each in one segment.
use Rattle.std.specs.Prelude.{◌≡◌, ℕ, ◌+◌, ◌-◌, ◌%◌, ◌^◌, ◌<◌, ◌≤◌, nat_lt, nat_le, ◌&&◌, Bool, cond, max, List, [], ◌∷◌, map, drop, slice_index, All}
use Rattle.std.specs.List.{list_any}
use Rattle.elf_types.specs.declared.file.ElfFile.{ElfFile}
use Rattle.machine.specs.Program.{LoadSegment}
use Rattle.machine.specs.Cells.{byte_among}
use Rattle.tests.specs.Admission.DataRanges.{is_in_any}
use Rattle.tests.specs.Admission.CodeWords.{loads_of, ranges_of}
use Rattle.test_admission.specs.declared.stretches.Stretch.{Stretch}

-- a stretch as plain data
pub record Part : Type 0 where
  pub start : ℕ
  pub size : ℕ
  pub bytes : List ℕ

abbrev pub part_of : Stretch → Part
part_of s = record { start = s.start; size = s.size; bytes = s.bytes.now }

abbrev pub stretch_parts : List Stretch → List Part
stretch_parts ss = map part_of ss

-- no stretch ends past 2^64
abbrev pub AllEndBelow : List Stretch → Type 0
AllEndBelow ss = All (λ s. s.start + s.size ≤ 2 ^ 64) ss

-- by its first address and the one behind its last
abbrev pub part_span : Part → ℕ × ℕ
part_span p = (p.start, p.start + p.size)

-- its bytes are those of the image, where zeros follow them
pub record ReadsImage (ls : List LoadSegment) (p : Part) : Type 0 where
  pub bytes : (k : ℕ) → k < p.size → slice_index p.bytes k ≡ byte_among ls (p.start + k)

-- an executable segment has all addresses of a range
abbrev pub holds_code : ℕ × ℕ → LoadSegment → Bool
holds_code r l = l.flags.execute && (nat_le l.address r.0 && nat_le r.1 (l.address + l.size))

-- one of the segments does
abbrev pub is_held_code : List LoadSegment → ℕ × ℕ → Bool
is_held_code ls r = list_any (holds_code r) ls

-- ---- cut, so that none has an address of another
-- what a part has from an address on, or all of it where it begins behind that
abbrev pub trimmed_part : ℕ → Part → Part
trimmed_part done p = record { start = max done p.start; size = p.start + p.size - max done p.start; bytes = drop (max done p.start - p.start) p.bytes }

-- parts in the order of their starts, without what is done
abbrev pub cut : ℕ → List Part → List Part
cut done [] = []
cut done (p ∷ ps) = cond (nat_lt done (p.start + p.size)) (trimmed_part done p ∷ cut (p.start + p.size) ps) (cut done ps)

-- ---- the code of a file
-- each part begins behind the one before it, and has whole words at multiples of 4
abbrev pub Follow : ℕ → List Part → Type 0
Follow low [] = Unit {0}
Follow low (p ∷ ps) = (low ≤ p.start) × (0 < p.size) × (p.start % 4 ≡ 0) × (p.size % 4 ≡ 0) × (p.start + p.size ≤ 2 ^ 64) × Follow (p.start + p.size) ps

-- the parts are all code of the file, in ascending order
pub record AreCodeOf (f : ElfFile) (ps : List Part) : Type 0 where
  pub follow : Follow 0 ps
  pub read : All (ReadsImage (loads_of f)) ps
  pub same : (q : ℕ) → is_in_any (map part_span ps) q ≡ is_in_any (ranges_of f) q
