-- The status of each answer.
use Rattle.elf_types.specs.declared.error.ElfError.{ElfError}
use Rattle.elf_types.specs.declared.error.ElfError.TheVariants as error
use Rattle.tests.specs.declared.admit.AdmitError.{AdmitError}
use Rattle.tests.specs.declared.admit.AdmitError.TheVariants as admit
use Rattle.machine.specs.declared.outcome.Outcome.TheVariants as outcome
use Rattle.transform.specs.declared.error.TransformError.{TransformError}
use Rattle.transform.specs.declared.error.TransformError.TheVariants as transform
use Rattle.qed_top.specs.Refused.{error_status, admit_status, refusal_status}
use Rattle.qed_top.specs.Run.{outcome_status, Outcome}
use Rattle.qed_top.specs.declared.status.Status.{Status}
use Rattle.qed_top.specs.declared.status.Status.TheVariants.{Refused, Limit, WriteFault, Memory}

-- ---- refusals
abbrev pub IsRefusal : Status → Type 0
IsRefusal Refused = Unit {0}
IsRefusal Limit = Unit {0}
IsRefusal _ = ⊥

pub error_refuses : (e : ElfError) → IsRefusal (error_status e)
error_refuses error.Magic = tt
error_refuses e = tt

pub admit_refuses : (e : AdmitError) → IsRefusal (admit_status e)
admit_refuses admit.Compressed = tt
admit_refuses e = tt

pub refusal_refuses : (e : TransformError) → IsRefusal (refusal_status e)
refusal_refuses (transform.Elf e) = error_refuses e
refusal_refuses (transform.Admit e) = admit_refuses e
refusal_refuses e = tt

-- ---- a status with a text
abbrev pub Printed : Status → Type 0
Printed WriteFault = ⊥
Printed Memory = ⊥
Printed _ = Unit {0}

pub outcome_printed : (o : Outcome) → Printed (outcome_status o)
outcome_printed outcome.Going = tt
outcome_printed o = tt

pub refusal_printed : (s : Status) → IsRefusal s → Printed s
refusal_printed Refused r = tt
refusal_printed Limit r = tt
refusal_printed status r = absurd r
