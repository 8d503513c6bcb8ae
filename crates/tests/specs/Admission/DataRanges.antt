-- The data of a test: which segments have it, and the ranges of aligned words that they make up. Ranges are by their
-- first address and the one behind their last. The form is this project's own.
use Rattle.std.specs.Prelude.{◌≡◌, ◌↔◌, if◌then◌else◌, ℕ, ◌+◌, ◌-◌, ◌*◌, ◌/◌, ◌<◌, Bool, nat_lt, ◌&&◌, ◌||◌, not, min, max, cond, List, [], ◌∷◌, map, filter}
use Rattle.std.specs.Prelude.{All, AllPairs}
use Rattle.std.specs.List.{list_any}
pub use Rattle.elf_types.specs.declared.file.Segment.{Segment}
pub use Rattle.elf_types.specs.declared.file.ElfFile.{ElfFile}
use Rattle.elf_types.specs.Abi.{may_write, may_execute}
use Rattle.tests.specs.declared.range.Range.{Range}
pub use Rattle.tests.specs.Admission.Terms.{is_in, is_in_any}
use Rattle.tests.specs.Admission.Terms.{image_segments}

-- a range by its first address and the one behind its last
abbrev pub range_of : Range → ℕ × ℕ
range_of r = (r.start, r.end)

-- ---- data segments, among those of the image
-- PF_W
abbrev pub is_written : Segment → Bool
is_written s = may_write s.flags

-- PF_X
abbrev pub is_executed : Segment → Bool
is_executed s = may_execute s.flags

-- its addresses, rounded out to multiples of 8
abbrev pub rounded : Segment → ℕ × ℕ
rounded s = (s.address / 8 * 8, (s.address + s.memory + 7) / 8 * 8)

-- two ranges have an address in common
abbrev pub do_meet : ℕ × ℕ → ℕ × ℕ → Bool
do_meet r t = nat_lt r.0 t.1 && nat_lt t.0 r.1

-- it shares an aligned word of 8 bytes with a segment that is executed
abbrev pub meets_code : List Segment → Segment → Bool
meets_code image s = list_any (λ t. is_executed t && do_meet (rounded s) (rounded t)) image

-- it is written; or it is only read, and shares no aligned word with code
abbrev pub is_data : List Segment → Segment → Bool
is_data image s = is_written s || (not (is_executed s) && not (meets_code image s))

abbrev pub data_segments : List Segment → List Segment
data_segments image = filter (is_data image) image

-- ---- data ranges
-- the data segments, rounded out
abbrev pub data_parts : List Segment → List (ℕ × ℕ)
data_parts image = map rounded (data_segments image)

-- the ranges ascend, each has some address, and there is a gap between any two; together they have the addresses of the
-- parts. So parts that touch or overlap are joined
pub record AreJoined (parts ranges : List (ℕ × ℕ)) : Type 0 where
  pub some : All (λ r. r.0 < r.1) ranges
  pub gaps : AllPairs (λ r t. r.1 < t.0) ranges
  pub same : (q : ℕ) → is_in_any ranges q ≡ is_in_any parts q

-- a range among such ranges, joined with those that it touches or overlaps
abbrev pub join : ℕ × ℕ → List (ℕ × ℕ) → List (ℕ × ℕ)
join r [] = r ∷ []
join r (t ∷ ts) = cond (nat_lt r.1 t.0) (r ∷ t ∷ ts) (cond (nat_lt t.1 r.0) (t ∷ join r ts) (join (min r.0 t.0, max r.1 t.1) ts))

abbrev pub joined_ranges : List (ℕ × ℕ) → List (ℕ × ℕ)
joined_ranges [] = []
joined_ranges (r ∷ rs) = join r (joined_ranges rs)

-- the data ranges of an image; N is how many they are
abbrev pub data_ranges : List Segment → List (ℕ × ℕ)
data_ranges image = joined_ranges (data_parts image)

-- the data ranges of a file are the one list of ranges that its parts are joined to
abbrev pub DataRangesAreJoined : Type 0
DataRangesAreJoined = (f : ElfFile) (ranges : List (ℕ × ℕ))
    → AreJoined (data_parts (image_segments f.segments)) ranges ↔ (ranges ≡ data_ranges (image_segments f.segments))

-- ---- data words
-- how many aligned words a range has
abbrev pub words_in : ℕ × ℕ → ℕ
words_in r = (r.1 - r.0) / 8

-- how many aligned words some ranges have, W
abbrev pub word_count : List (ℕ × ℕ) → ℕ
word_count [] = 0
word_count (r ∷ rs) = words_in r + word_count rs

-- the address of word i, from 0, of ranges that ascend; 0 behind the last
abbrev pub word_address : List (ℕ × ℕ) → ℕ → ℕ
word_address [] i = 0
word_address (r ∷ rs) i = if nat_lt i (words_in r) then r.0 + 8 * i else word_address rs (i - words_in r)
