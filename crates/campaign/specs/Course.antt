-- A test and its output, made ready to be struck: both run from registers that are all 0.
use Rattle.std.specs.Prelude.{◌≡◌, ℕ, List}
use Rattle.tests.specs.declared.options.Options.{Options}
use Rattle.tests.specs.Files.File.{File}
use Rattle.machine.specs.Loading.{loaded_file, ElfFile}
use Rattle.machine.specs.Program.{start, zeros}
use Rattle.machine.specs.Step.{State}
use Rattle.transform.specs.Transform.{Transforms}
use Rattle.campaign.specs.Prepared.{Prepared}

-- the starting state of the file with these bytes, all registers 0
pub record StartsIn (bytes : List ℕ) (state : State) : Type 0 where
  pub file : ElfFile
  pub read : File bytes file
  pub is : state ≡ start (loaded_file file) zeros

-- the input is transformed to an output with this plan, and the runs are those of both
pub record IsCourse (input : List ℕ) (o : Options) (course : Prepared) : Type 0 where
  pub output : List ℕ
  pub transforms : Transforms input o output course.plan
  pub input_start : StartsIn input course.runs.input
  pub output_start : StartsIn output course.runs.output
