-- Files that are refused, or exceed a limit.
use Rattle.std.specs.Prelude.{◌≡◌, ◌≢◌, ℕ, List, []}
use Rattle.elf_types.specs.declared.error.ElfError.{ElfError}
use Rattle.elf_types.specs.declared.error.ElfError.TheVariants as error
pub use Rattle.elf_types.specs.declared.file.ElfFile.{ElfFile}
use Rattle.tests.specs.declared.admit.AdmitError.{AdmitError}
use Rattle.tests.specs.declared.admit.AdmitError.TheVariants as admit
use Rattle.machine.specs.declared.limits.Limit.TheVariants as limit
pub use Rattle.tests.specs.declared.options.Options.{Options}
use Rattle.tests.specs.Admission.Ends.{HasEnds}
use Rattle.tests.specs.Files.File.{IsReadAs}
use Rattle.tests.specs.Files.Refusals as Refusals
use Rattle.report.specs.Admission.{admit_line}
use Rattle.transform.specs.declared.error.TransformError.{TransformError}
use Rattle.transform.specs.declared.error.TransformError.TheVariants as transform
pub use Rattle.transform.specs.Transform.{HasCause, IsNotAdmitted, IsTransformable, Transforms}
use Rattle.qed_top.specs.Answer.{PrintsOnly, error_line, limit_line}
use Rattle.qed_top.specs.declared.answer.Answer.{Answer}
use Rattle.qed_top.specs.declared.status.Status.{Status}
use Rattle.qed_top.specs.declared.status.Status.TheVariants.{Refused, Limit}

-- ---- files that are not read
-- L5 and L10 are limits, all other rules refuse
abbrev pub error_status : ElfError → Status
error_status (error.TooManySections n) = Limit
error_status (error.TooManyBytes n) = Limit
error_status _ = Refused

-- E1 to E13, L5 or L10: the first rule that refuses the bytes, with its place or number
pub record IsUnread (bytes : List ℕ) (answer : Answer) : Type 0 where
  pub error : ElfError
  pub cause : Refusals.IsFileRefused bytes error
  pub plain : PrintsOnly (error_status error) (error_line error) answer

-- the bytes are not read (E1 to E13, L5 or L10), or they are a file with a further property
pub data ReadOn (bytes : List ℕ) (Next : ElfFile → Type 0) (answer : Answer) : Type 0 where
  not_read : IsUnread bytes answer → ReadOn bytes Next answer
  read_on : (f : ElfFile) → IsReadAs bytes f → Next f → ReadOn bytes Next answer

-- the status for bytes, by whether they are read
pub data ReadOnDecides (bytes : List ℕ) (Next : ElfFile → Type 0) (status : Status) : Type 0 where
  is_not_read : (e : ElfError) → Refusals.IsFileRefused bytes e → status ≡ error_status e → ReadOnDecides bytes Next status
  is_read : (f : ElfFile) → IsReadAs bytes f → Next f → ReadOnDecides bytes Next status

-- ---- files that are not admitted
-- L2, L3 and L7 are limits, the rules A1 to A11 refuse
abbrev pub admit_status : AdmitError → Status
admit_status (admit.ImageSpan n) = Limit
admit_status (admit.CodeWords n) = Limit
admit_status (admit.TopAddress n) = Limit
admit_status _ = Refused

-- A1 to A11, L2, L3 or L7: the file is read; this is the first rule of admission that holds, with its place or number
pub record IsUnadmitted (bytes : List ℕ) (o : Options) (answer : Answer) : Type 0 where
  pub error : AdmitError
  pub cause : IsNotAdmitted bytes o error
  pub plain : PrintsOnly (admit_status error) (admit_line error) answer

-- ---- files that are not transformed
-- the status of an error of the transformation, and its line
abbrev pub refusal_status : TransformError → Status
refusal_status (transform.Elf e) = error_status e
refusal_status (transform.Admit e) = admit_status e
refusal_status (transform.TooLarge most n) = Limit
refusal_status (transform.TooManySegments n) = Limit
refusal_status (transform.FileTooLong n) = Limit
refusal_status transform.Memory = Refused

abbrev pub refusal_line : TransformError → List ℕ
refusal_line (transform.Elf e) = error_line e
refusal_line (transform.Admit e) = admit_line e
refusal_line (transform.TooLarge most n) = limit_line most n
refusal_line (transform.TooManySegments n) = limit_line limit.OutputSegments n
refusal_line (transform.FileTooLong n) = limit_line limit.OutputBytes n
refusal_line transform.Memory = []

-- the facts in a line about a test that is not admitted can be printed
abbrev pub TellsEnds : TransformError → Type 0
TellsEnds (transform.Admit e) = HasEnds e
TellsEnds _ = Unit {0}

-- the file is not read (E1 to E13, L5, L10), or not admitted (A1 to A11, L2, L3, L7), or its new code or its output
-- would be too large (L4, L8, L9). The first of these holds, with its place or number.
pub record IsRefused (bytes : List ℕ) (o : Options) (answer : Answer) : Type 0 where
  pub error : TransformError
  pub cause : HasCause bytes o error
  pub known : error ≢ transform.Memory
  pub plain : PrintsOnly (refusal_status error) (refusal_line error) answer

-- the file is refused, or it is transformed with a further property
pub data Makes (bytes : List ℕ) (o : Options) (Uses : Type 0) (answer : Answer) : Type 0 where
  refused : IsRefused bytes o answer → Makes bytes o Uses answer
  made : Uses → Makes bytes o Uses answer

-- the status for bytes, by whether they are transformed
pub data MakesDecides (bytes : List ℕ) (o : Options) (Then : Type 0) (status : Status) : Type 0 where
  not_made : (e : TransformError) → HasCause bytes o e → e ≢ transform.Memory → status ≡ refusal_status e → MakesDecides bytes o Then status
  is_made : IsTransformable bytes o → Then → MakesDecides bytes o Then status
