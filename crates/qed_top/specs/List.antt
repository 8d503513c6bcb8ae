-- What `list` answers.
use Rattle.std.specs.Prelude.{ℕ, List}
use Rattle.listing.specs.Listing.{IsListing}
use Rattle.qed_top.specs.Answer.{PrintsOnly}
use Rattle.qed_top.specs.Refused.{ReadOn, ElfFile}
use Rattle.qed_top.specs.Run.{InMemory}
use Rattle.qed_top.specs.declared.answer.Answer.{Answer}
use Rattle.qed_top.specs.declared.status.Status.TheVariants.{Done}

-- the listing is printed
pub record IsPrinted (f : ElfFile) (answer : Answer) : Type 0 where
  pub text : List ℕ
  pub listing : IsListing f text
  pub plain : PrintsOnly Done text answer

-- the segments of a file have too many bytes in memory, or its code is listed
abbrev pub FileLists : ElfFile → Answer → Type 0
FileLists f answer = InMemory f (IsPrinted f answer) answer

-- the answer over the bytes of the file, which are within the limit
abbrev pub Lists : List ℕ → Answer → Type 0
Lists bytes answer = ReadOn bytes (λ f. FileLists f answer) answer
