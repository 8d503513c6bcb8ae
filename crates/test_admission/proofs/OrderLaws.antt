-- The rules in their order: from one rule to the next.
use Rattle.std.proofs.Common.{◌≡◌, ⊎_elim, ℕ, ◌+◌, arith}
use Rattle.std.proofs.lemmas.Bool.{cases_lt}
use Rattle.elf_types.specs.declared.file.ElfFile.{ElfFile}
use Rattle.tests.specs.declared.admit.AdmitError.{AdmitError}
use Rattle.tests.specs.declared.admit.AdmitError.TheVariants as error
use Rattle.tests.specs.declared.options.Options.{Options}
use Rattle.tests.specs.Admission.Refusals.{HasFault, place_of, IsRefusedBy, IsAdmitted}
use Rattle.tests.proofs.Lemmas.{admitted_of}
use Rattle.test_admission.specs.Order.{PassesBelow, IsCauseOf}

-- ---- where the next rule does not hold either
pub passes_more : (f : ElfFile) (o : Options) (n : ℕ) → PassesBelow f o n → ((d : AdmitError) → place_of d ≡ n → HasFault f o d → ⊥) → PassesBelow f o (n + 1)
passes_more f o n p x = record { none = λ d lt h. ⊎_elim (λ l. p.none d l h) (λ g. x d (omega (arith, lt, g)) h) (cases_lt (place_of d) n) }

-- ---- where the next rule holds
pub refused : (f : ElfFile) (o : Options) (n : ℕ) (e : AdmitError) → PassesBelow f o n → place_of e ≡ n → HasFault f o e → IsRefusedBy f o e
refused f o n e p is h = record { fault = h; first = λ d lt x. p.none d (omega (arith, lt, is)) x }

-- ---- all of them
pub admitted : (f : ElfFile) (o : Options) → PassesBelow f o 15 → IsAdmitted f o
admitted f o p = admitted_of f o by where
  by : (e : AdmitError) → HasFault f o e → ⊥
  by error.Memory h = h
  by e h = p.none e (omega arith) h

pub cause_of : (f : ElfFile) (o : Options) (e : AdmitError) → IsRefusedBy f o e → IsCauseOf f o e
cause_of f o e h = record { rule = λ n. h }
