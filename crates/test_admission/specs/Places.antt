-- Where the image of a file stands.
use Rattle.std.specs.Prelude.{◌≡◌, ℕ, min, List, [], ◌∷◌, Option, Some, None}
use Rattle.tests.specs.Admission.Places.{low_of, high_of, base_of, distance_of, image_of, Segment, ElfFile}
use Rattle.test_admission.specs.declared.places.ImagePlaces.{ImagePlaces}

-- the lesser of an address and one that may be there
abbrev pub lower : Option ℕ → ℕ → ℕ
lower None a = a
lower (Some m) a = min m a

-- the least of an address that may be there and those of segments
abbrev pub least : Option ℕ → List Segment → ℕ
least None ss = low_of ss
least (Some m) [] = m
least (Some m) (s ∷ ss) = min m (low_of (s ∷ ss))

-- the places of the image of a file
pub record ArePlacesOf (f : ElfFile) (p : ImagePlaces) : Type 0 where
  pub low : p.low ≡ low_of (image_of f)
  pub high : p.high ≡ high_of (image_of f)
  pub base : p.base ≡ base_of (image_of f)
  pub span : p.span ≡ distance_of (image_of f)
