-- What `asm` answers.
use Rattle.std.specs.Prelude.{◌≡◌, ◌≢◌, ℕ, List, length, IsSomeAnd}
use Rattle.report.specs.Assembly.{asm_error_line, assembly_line}
use Rattle.rv_asm.specs.declared.error.AsmError.{AsmError}
use Rattle.rv_asm.specs.declared.error.AsmError.TheVariants as errors
use Rattle.rv_asm.specs.Assembled.{Assembled, IsTextRefused}
use Rattle.rv_asm.specs.Counted.{code_words, data_words}
use Rattle.qed_top.specs.Answer.{PrintsOnly}
use Rattle.qed_top.specs.declared.answer.Answer.{Answer}
use Rattle.qed_top.specs.declared.status.Status.{Status}
use Rattle.qed_top.specs.declared.status.Status.TheVariants.{Done, Refused}

-- a line is faulty, or no line gives a code word
pub record IsFaulty (text : List ℕ) (answer : Answer) : Type 0 where
  pub error : AsmError
  pub cause : IsTextRefused text error
  pub known : error ≢ errors.Memory
  pub plain : PrintsOnly Refused (asm_error_line error) answer

-- the file is stored as OUT, and the numbers of its words are printed
pub record IsAssembled (text output : List ℕ) (answer : Answer) : Type 0 where
  pub file : List ℕ
  pub assembled : Assembled text file
  pub status : answer.status ≡ Done
  pub stored : IsSomeAnd answer.stored (λ s. (s.name ≡ output) × (s.bytes ≡ file))
  pub line : answer.text ≡ assembly_line (length (code_words text)) (length (data_words text))

-- the answer over the bytes of the text, which are within the limit
pub data Assembles (text output : List ℕ) (answer : Answer) : Type 0 where
  faulty : IsFaulty text answer → Assembles text output answer
  assembled : IsAssembled text output answer → Assembles text output answer

-- the status, by the facts of the text
pub data AsmDecides (text : List ℕ) (status : Status) : Type 0 where
  has_fault : (e : AsmError) → IsTextRefused text e → e ≢ errors.Memory → status ≡ Refused → AsmDecides text status
  is_file : (file : List ℕ) → Assembled text file → status ≡ Done → AsmDecides text status
