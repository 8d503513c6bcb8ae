-- Steps on the way to the answer of `harts`.
use Rattle.std.specs.Prelude.{◌<◌, ◌≤◌, ℕ, List, [], All, length, Option, IfSome}
use Rattle.elf_types.specs.declared.file.ElfFile.{ElfFile}
pub use Rattle.machine.specs.declared.limits.Limit.TheVariants.{RunFileBytes}
use Rattle.tests.specs.Files.File.{IsReadAs}
use Rattle.report.specs.World.{world_text}
use Rattle.qed_top.specs.Answer.{PrintsOnly, limit_of, RoseAt}
use Rattle.qed_top.specs.Loads.{OverLoads, Files}
use Rattle.qed_top.specs.World.{FilesCallFor, Plays, world_status, Counted, counted_turns, cycled}
use Rattle.qed_top.specs.declared.answer.Answer.{Answer}

-- there is a turn, and each hart that makes one is below the count
pub record AreTurns (count : ℕ) (turns : Option (List ℕ)) : Type 0 where
  pub some : IfSome turns (λ harts. 1 ≤ length harts)
  pub below : IfSome turns (All (λ hart. hart < count))

-- the world after turns of these harts, again and again, is printed
abbrev pub TellsTurns : Counted → List ℕ → ℕ → Answer → Type 0
TellsTurns c harts steps answer =
    PrintsOnly (world_status (counted_turns c (cycled harts steps))) (world_text (counted_turns c (cycled harts steps))) answer

-- the bytes are within the limit, and are a file
pub record IsTaken (bytes : List ℕ) (file : ElfFile) : Type 0 where
  pub small : length bytes ≤ limit_of RunFileBytes
  pub read : IsReadAs bytes file

-- all files were read, so the answer over them is what the names call for
abbrev pub LeadsFrom : Option Files → (List ℕ → ℕ) → List (List ℕ) → List ElfFile → Type 0
LeadsFrom told before names files =
    (turns : Option (List ℕ)) (steps : ℕ) (after : List ℕ → ℕ) (answer : Answer) → Plays files turns steps answer
    → OverLoads told (λ loads. FilesCallFor names [] turns steps loads (RoseAt before after) answer)
