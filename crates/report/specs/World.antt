-- What is printed about several harts. Each line ends with a newline.
use Rattle.std.specs.Prelude.{ℕ, List, [], ◌++◌, codes, length, slice_get, Option, Some}
use Rattle.std.specs.Fmt.{decimal}
use Rattle.machine.specs.Below.{gather}
use Rattle.machine.specs.Memory.{Memory}
use Rattle.qed_words.specs.Text.Run.{run_lines}
use Rattle.harts.specs.Harts.{Hart, state_of}
use Rattle.harts.specs.HartSteps.{Counted}

-- two files share a byte, by their numbers
abbrev pub shared_line : ℕ → ℕ → List ℕ
shared_line i j = codes "refused H1: files " ++ (decimal i ++ (codes " and " ++ (decimal j ++ codes "\n")))

-- the number of a hart
abbrev pub hart_line : ℕ → List ℕ
hart_line i = codes "hart " ++ (decimal i ++ codes "\n")

-- the number of a hart, and the lines of a run that ends as the hart stands in the memory, after its steps
abbrev pub hart_lines : ℕ → Option Hart → Memory → Option ℕ → List ℕ
hart_lines i (Some h) m (Some steps) = hart_line i ++ run_lines (record { state = state_of h m; steps = steps })
hart_lines i _ m _ = []

-- hart i of a world
abbrev pub hart_text : Counted → ℕ → List ℕ
hart_text c i = hart_lines i (slice_get c.world.harts i) c.world.memory (slice_get c.steps i)

-- each hart of a world, in the order of their numbers
unfoldable pub world_text : Counted → List ℕ
world_text c = gather (length c.world.harts) (hart_text c)
