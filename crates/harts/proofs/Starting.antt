-- The world that files start.
use Rattle.std.proofs.Common.{◌≡◌, List, [], ◌∷◌, length, refl, ap, ◌∙◌, sym, subst}
use Rattle.std.specs.Prelude.{map}
use Rattle.std.proofs.lemmas.List.{length-map}
use Rattle.machine.specs.Apart.{AllFitMemory, AreApart}
use Rattle.machine.specs.Memory.{Memory}
use Rattle.machine.specs.Program.{LoadSegment, memory_of}
use Rattle.machine.specs.Loading.{loaded_file, ElfFile}
use Rattle.rv_step.specs.Harts.{HartState}
use Rattle.harts.specs.Harts.{all_segments, begin_harts}
use Rattle.harts.specs.HartSteps.{bare, counted_world, counted_start}
use Rattle.harts.specs.Shared.{AreSound, AreUnshared}
use Rattle.harts.specs.Played.{programs, started}
use Rattle.harts.proofs.Files.{none_shared}
use Rattle.harts.proofs.Worlds.{same_counted}

-- the harts that the files start
harts_started : (files : List ElfFile) → map bare (map started files) ≡ (begin_harts (programs files)).harts
harts_started [] = refl
harts_started (f ∷ files) = ap (λ hs. bare (started f) ∷ hs) (harts_started files)

-- the steps of these harts
steps_started : (files : List ElfFile) → map (λ h. h.steps) (map started files) ≡ map (λ g. 0) (programs files)
steps_started [] = refl
steps_started (f ∷ files) = ap (λ ns. 0 ∷ ns) (steps_started files)

-- the world of these harts, and of the memory of all segments
pub world_started : (files : List ElfFile) (hs : List HartState) (m : Memory) (ss : List LoadSegment) → hs ≡ map started files → m ≡ memory_of ss → ss ≡ all_segments (programs files) → counted_world hs m ≡ counted_start (programs files)
world_started files hs m ss h is e =
    same_counted (counted_world hs m) (counted_start (programs files))
    (ap (λ x. map bare x) h ∙ harts_started files)
    (is ∙ ap memory_of e)
    (ap (λ x. map (λ y. y.steps) x) h ∙ steps_started files)

-- a hart for each file
pub length_started : (files : List ElfFile) → length (counted_start (programs files)).world.harts ≡ length files
length_started files = length-map (programs files) _ ∙ length-map files loaded_file

-- all segments make one memory
pub all_fit : (files : List ElfFile) (ss : List LoadSegment) → AreSound (programs files) → AreUnshared (programs files) → ss ≡ all_segments (programs files) → AllFitMemory ss
all_fit files ss sound none e = subst AllFitMemory (sym e) (none_shared (programs files) sound none).fit

pub all_apart : (files : List ElfFile) (ss : List LoadSegment) → AreSound (programs files) → AreUnshared (programs files) → ss ≡ all_segments (programs files) → AreApart ss
all_apart files ss sound none e = subst AreApart (sym e) (none_shared (programs files) sound none).segments
