-- Where the image of a test stands, and where its duplicate and the new code do, by the distance that is asked for.
use Rattle.std.specs.Prelude.{ℕ, ◌+◌, ◌-◌, ◌*◌, ◌/◌, min, max, nat_le, if◌then◌else◌, Option, unwrap_or, List, [], ◌∷◌}
use Rattle.rv_isa.specs.declared.profile.TheConstants.{PAGE}
pub use Rattle.elf_types.specs.declared.file.Segment.{Segment}
pub use Rattle.elf_types.specs.declared.file.ElfFile.{ElfFile}
pub use Rattle.tests.specs.declared.options.Options.{Options}
use Rattle.tests.specs.Admission.Terms.{image_segments}

-- the least address of segments
abbrev pub low_of : List Segment → ℕ
low_of [] = 0
low_of (s ∷ []) = s.address
low_of (s ∷ t ∷ segments) = min s.address (low_of (t ∷ segments))

-- the greatest end of segments
abbrev pub high_of : List Segment → ℕ
high_of [] = 0
high_of (s ∷ segments) = max (s.address + s.memory) (high_of segments)

-- where an image begins, rounded down to a multiple of a page
abbrev pub base_of : List Segment → ℕ
base_of image = low_of image / PAGE * PAGE

-- the distance of the halves: the least multiple of a page that leads from there to the end of the image, or behind it
abbrev pub distance_of : List Segment → ℕ
distance_of image = (high_of image - base_of image + (PAGE - 1)) / PAGE * PAGE

-- a segment among others that ascend by their addresses
abbrev pub insert_segment : Segment → List Segment → List Segment
insert_segment s [] = s ∷ []
insert_segment s (t ∷ ts) = if nat_le s.address t.address then s ∷ t ∷ ts else t ∷ insert_segment s ts

-- segments in ascending order of their addresses
abbrev pub by_address : List Segment → List Segment
by_address [] = []
by_address (s ∷ ss) = insert_segment s (by_address ss)

-- the segments of a file that are its image
abbrev pub image_of : ElfFile → List Segment
image_of f = image_segments f.segments

-- D, the distance of the halves: the one that is asked for, or else the least that fits
abbrev pub half_of : Option ℕ → List Segment → ℕ
half_of half image = unwrap_or half (distance_of image)

-- C, where the new code begins, behind both halves and the room of the table
abbrev pub code_place : Option ℕ → List Segment → ℕ
code_place half image = base_of image + 3 * half_of half image
