-- What the list of a test's leaders holds.
use Rattle.std.specs.Prelude.{◌≡◌, ℕ, ◌↔◌, IsTrue, List, filter, map}
use Rattle.elf_types.specs.declared.file.ElfFile.{ElfFile}
use Rattle.tests.specs.declared.options.Options.{Options}
use Rattle.tests.specs.declared.test.CodeWord.{CodeWord}
use Rattle.tests.specs.Admission.Leaders.{IsLeader}
use Rattle.flow_recovery.specs.Sets.{lists}

-- the list has exactly the leaders of the file, in the order of the words of the code
pub record AreLeaders (f : ElfFile) (o : Options) (code : List CodeWord) (leaders : List ℕ) : Type 0 where
  pub exact : (a : ℕ) → IsTrue (lists leaders a) ↔ IsLeader f o a
  pub along : leaders ≡ filter (lists leaders) (map (λ c. c.at) code)
