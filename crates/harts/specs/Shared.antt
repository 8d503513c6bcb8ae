-- Files whose segments share a byte, and what holds if none do.
use Rattle.std.specs.Prelude.{ℕ, List, [], ◌∷◌}
use Rattle.machine.specs.Program.{Program}
use Rattle.mem_image.specs.Overlap.{files_share, IsPair, IsLeastPair}
use Rattle.harts.specs.Harts.{all_segments}
use Rattle.harts.specs.Together.{AreDisjoint as FilesAreApart}
use Rattle.machine.specs.Apart.{AllFitMemory, AreApart}
use Rattle.harts.specs.declared.error.HartsError.{HartsError}
use Rattle.harts.specs.declared.error.HartsError.TheVariants.{Shared, Memory}

-- files i and j share a byte, i before j
abbrev pub IsShared : List Program → ℕ → ℕ → Type 0
IsShared gs = IsPair files_share gs

-- i and j are the least such pair, by i and then j
abbrev pub IsLeastShared : List Program → ℕ → ℕ → Type 0
IsLeastShared gs = IsLeastPair (IsShared gs)

-- no two files share a byte
abbrev pub AreUnshared : List Program → Type 0
AreUnshared gs = (i j : ℕ) → IsShared gs i j → ⊥

-- why there cannot be a world: the least pair that shares a byte, or else a lack of memory
abbrev pub ExplainsHarts : List Program → HartsError → Type 0
ExplainsHarts gs (Shared i j) = IsLeastShared gs i j
ExplainsHarts gs Memory = AreUnshared gs

-- the segments of each file fit, and no two of one file share a byte
abbrev pub AreSound : List Program → Type 0
AreSound [] = Unit {0}
AreSound (g ∷ gs) = AllFitMemory g.segments × AreApart g.segments × AreSound gs

-- files that share no byte: they are apart, and all segments together make one memory
pub record FilesApart (gs : List Program) : Type 0 where
  pub files : FilesAreApart gs
  pub fit : AllFitMemory (all_segments gs)
  pub segments : AreApart (all_segments gs)

abbrev pub NoneShared : Type 0
NoneShared = (gs : List Program) → AreSound gs → AreUnshared gs → FilesApart gs
