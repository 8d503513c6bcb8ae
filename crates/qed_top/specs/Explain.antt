-- What `explain` answers.
use Rattle.std.specs.Prelude.{◌≡◌, ℕ, ◌-◌, ◌/◌, ◌%◌, ◌==◌, ◌&&◌, nat_le, nat_lt, if◌then◌else◌, List, length, slice_index, Option, None, Some, MatchOption}
use Rattle.std.specs.Prelude.{IsSomeAnd}
use Rattle.listing.specs.Roles.{role_at, role_lines, word_line}
use Rattle.report.specs.Admission.{no_word_line}
use Rattle.transform.specs.declared.explained.Explained.{Explained}
use Rattle.transform.specs.Explained.{IsExplained}
use Rattle.qed_top.specs.Answer.{PrintsOnly}
use Rattle.qed_top.specs.Refused.{Makes, MakesDecides, Options}
use Rattle.qed_top.specs.declared.answer.Answer.{Answer}
use Rattle.qed_top.specs.declared.status.Status.{Status}
use Rattle.qed_top.specs.declared.status.Status.TheVariants.{Done, Refused}

-- the number of the word at an address, among `count` words from `base` on
abbrev pub word_number : ℕ → ℕ → ℕ → Option ℕ
word_number base count a = if (nat_le base a && (a - base) % 4 == 0) && nat_lt ((a - base) / 4) count then Some ((a - base) / 4) else None

-- the number of the word of new code at an address
abbrev pub number_at : Explained → ℕ → Option ℕ
number_at x a = word_number x.base (length x.words.items) a

-- N1: no word stands at the address; else the word there is printed, with its role
abbrev pub TellsWord : Explained → ℕ → Answer → Type 0
TellsWord x a answer =
    MatchOption (number_at x a) (PrintsOnly Refused (no_word_line a) answer)
    (λ n. IsSomeAnd (role_at x.roles.items (a - x.base)) (λ role. PrintsOnly Done (word_line role a (slice_index x.words.items n) x.file.symbols) answer))

-- all words are printed, or the word at an address
abbrev pub TellsRoles : Explained → Option ℕ → Answer → Type 0
TellsRoles x None answer = PrintsOnly Done (role_lines x.roles.items x.words.items x.base) answer
TellsRoles x (Some a) answer = TellsWord x a answer

-- the bytes have new code, and its words are printed
pub record AreTold (bytes : List ℕ) (o : Options) (at : Option ℕ) (answer : Answer) : Type 0 where
  pub code : Explained
  pub is : IsExplained bytes o code
  pub tells : TellsRoles code at answer

-- the answer over the bytes of the file, which are within the limit
abbrev pub Explains : List ℕ → Options → Option ℕ → Answer → Type 0
Explains bytes o at answer = Makes bytes o (AreTold bytes o at answer) answer

-- the status for new code, by whether a word stands at the address
abbrev pub word_status : Option ℕ → Status
word_status None = Refused
word_status (Some n) = Done

abbrev pub told_status : Explained → Option ℕ → Status
told_status x None = Done
told_status x (Some a) = word_status (number_at x a)

-- the status, by the facts of the bytes; for a test that can be transformed it is that of its new code
abbrev pub ExplainDecides : List ℕ → Options → Option ℕ → Status → Type 0
ExplainDecides bytes o at status = MakesDecides bytes o ((x : Explained) → IsExplained bytes o x → status ≡ told_status x at) status
