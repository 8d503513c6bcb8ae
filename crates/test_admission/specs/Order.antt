-- The rules in their order: how far none of them holds, and what an error says.
use Rattle.std.specs.Prelude.{◌≢◌, ℕ, ◌<◌}
use Rattle.elf_types.specs.declared.file.ElfFile.{ElfFile}
use Rattle.tests.specs.declared.options.Options.{Options}
use Rattle.tests.specs.declared.admit.AdmitError.{AdmitError}
use Rattle.tests.specs.declared.admit.AdmitError.TheVariants as error
use Rattle.tests.specs.Admission.Refusals.{HasFault, place_of, IsRefusedBy}

-- no rule before this place holds
pub record PassesBelow (f : ElfFile) (o : Options) (n : ℕ) : Type 0 where
  pub none : (d : AdmitError) → place_of d < n → HasFault f o d → ⊥

-- the error is the first rule that holds, or want of memory
pub record IsCauseOf (f : ElfFile) (o : Options) (e : AdmitError) : Type 0 where
  pub rule : e ≢ error.Memory → IsRefusedBy f o e
