-- The programs of files, and turns made before memory ran out.
use Rattle.std.specs.Prelude.{◌≡◌, ◌≤◌, ℕ, List, map}
use Rattle.machine.specs.Program.{Program, start, zeros}
use Rattle.machine.specs.Loading.{loaded_file, ElfFile}
use Rattle.machine.specs.Progress.{first_state}
use Rattle.rv_step.specs.Harts.{HartState, hart_state_of}
use Rattle.harts.specs.HartSteps.{Counted, counted_turns, cycled}

-- what the headers of each file describe
abbrev pub programs : List ElfFile → List Program
programs files = map loaded_file files

-- the hart that a file starts, with all registers 0
abbrev pub started : ElfFile → HartState
started file = hart_state_of (first_state (start (loaded_file file) zeros))

-- at most n turns were made, by the harts of a list again and again
pub record IsPartPlayed (c : Counted) (harts : List ℕ) (n : ℕ) (after : Counted) : Type 0 where
  pub count : ℕ
  pub most : count ≤ n
  pub made : after ≡ counted_turns c (cycled harts count)
