-- The least address of an image, one segment more.
use Rattle.std.proofs.Common.{◌≡◌, ℕ, List, [], ◌∷◌, Option, Some, None, refl, arith}
use Rattle.elf_types.specs.declared.file.Segment.{Segment}
use Rattle.test_admission.specs.Places.{lower, least}

pub least_step : (o : Option ℕ) (s : Segment) (ss : List Segment) → least (Some (lower o s.address)) ss ≡ least o (s ∷ ss)
least_step None s [] = refl
least_step None s (t ∷ ss) = refl
least_step (Some m) s [] = refl
least_step (Some m) s (t ∷ ss) = omega arith
