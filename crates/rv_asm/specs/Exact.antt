-- What is answered, by what is true of the text.
use Rattle.std.specs.Prelude.{◌≡◌, ◌⊎◌, ℕ, Result, Ok, Err, List}
use Rattle.rv_asm.specs.declared.assembly.Assembly.{Assembly}
use Rattle.rv_asm.specs.declared.error.AsmError.{AsmError}
use Rattle.rv_asm.specs.declared.error.AsmError.TheVariants.{Line, NoCode, Memory}
use Rattle.rv_asm.specs.declared.error.Fault.{Fault}
use Rattle.rv_asm.specs.Assembled.{Assembled, IsFirstFault, HasNoCode}

-- the file alone
abbrev pub file_in : Result Assembly AsmError → Result (List ℕ) AsmError
file_in (Ok made) = Ok made.file
file_in (Err e) = Err e

-- the wanted answer, or Memory in its place
abbrev pub IsOrMemory : Result (List ℕ) AsmError → Result (List ℕ) AsmError → Type 0
IsOrMemory wanted answer = (answer ≡ wanted) ⊎ (answer ≡ Err Memory)

-- a text that assembles gives its file, a text with a fault the first one and its line, and one without code says so
pub record IsExact (text : List ℕ) (answer : Result (List ℕ) AsmError) : Type 0 where
  pub assembled : (bytes : List ℕ) → Assembled text bytes → IsOrMemory (Ok bytes) answer
  pub refused : (fault : Fault) (n : ℕ) → IsFirstFault text fault n → IsOrMemory (Err (Line fault n)) answer
  pub no_code : HasNoCode text → IsOrMemory (Err NoCode) answer
