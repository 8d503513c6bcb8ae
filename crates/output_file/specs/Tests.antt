-- A test that was admitted, with its entries.
use Rattle.std.specs.Prelude.{◌+◌, List}
use Rattle.tests.specs.declared.options.Options.{Options}
use Rattle.qed_model.specs.declared.plan.EntryRow.{EntryRow}
use Rattle.tests.specs.declared.test.Test.{Test}
use Rattle.machine.specs.Apart.{AllFitMemory, AreApart}
use Rattle.tests.specs.Admission.CodeWords.{loads_of, ElfFile}
use Rattle.tests.specs.Admission.Refusals.{IsAdmitted}
use Rattle.tests.specs.Admission.Test.{IsTestOf}
use Rattle.output_file.specs.Entries.{AreEntries}

-- the file's segments fit into memory and share no byte; it is admitted with the options, as this test; and the rows
-- are entries of addresses in its original half
pub record IsEntered (f : ElfFile) (o : Options) (t : Test) (rows : List EntryRow) : Type 0 where
  pub fit : AllFitMemory (loads_of f)
  pub apart : AreApart (loads_of f)
  pub admitted : IsAdmitted f o
  pub test : IsTestOf f o t
  pub entries : AreEntries (t.base + t.distance) rows
