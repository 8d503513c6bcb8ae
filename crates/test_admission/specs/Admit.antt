-- What an admission says of a file.
use Rattle.elf_types.specs.declared.file.ElfFile.{ElfFile}
use Rattle.tests.specs.declared.options.Options.{Options}
use Rattle.tests.specs.declared.test.Test.{Test}
use Rattle.tests.specs.Admission.Refusals.{IsAdmitted}
use Rattle.tests.specs.Admission.Test.{IsTestOf}

-- the file is admitted, and is this test
pub record IsAdmittedAs (f : ElfFile) (o : Options) (t : Test) : Type 0 where
  pub admitted : IsAdmitted f o
  pub test : IsTestOf f o t
