-- Answers: what is printed and stored, with the status.
use Rattle.std.specs.Prelude.{◌≡◌, ◌⊎◌, ◌<◌, ◌≤◌, ℕ, List, length, Option, None, Some, IfSome, IsSomeAnd}
use Rattle.std.specs.FinMap.{insert}
use Rattle.qed_io.specs.Files.{Files, StoredInPart}
use Rattle.qed_io.specs.declared.shelf.Shelf.{Ghosts}
pub use Rattle.qed_io.specs.Counts.{NoneChanged, NoneFell, Rose, RoseAt}
use Rattle.machine.specs.declared.limits.Limit as limits
pub use Rattle.machine.specs.Limits.{limit_of}
pub use Rattle.qed_words.specs.Text.Errors.{limit_line, error_line}
use Rattle.qed_words.specs.Text.Plan.{read_fault_line}
use Rattle.qed_top.specs.declared.answer.Answer.{Answer}
use Rattle.qed_top.specs.declared.answer.Stored.{Stored}
use Rattle.qed_top.specs.declared.status.Status.{Status}
use Rattle.qed_top.specs.declared.status.Status.TheVariants.{Limit, ReadFault}

-- an answer that stores nothing
pub record PrintsOnly (wanted : Status) (line : List ℕ) (answer : Answer) : Type 0 where
  pub status : answer.status ≡ wanted
  pub text : answer.text ≡ line
  pub stored : answer.stored ≡ None

-- ---- the file that a command reads
-- a read fault: the count of failed loads of the file rose
pub record IsReadFault (rose : Type 0) (answer : Answer) : Type 0 where
  pub cause : rose
  pub plain : PrintsOnly ReadFault read_fault_line answer

-- L1: the file has too many bytes
pub record IsTooLong (limit : limits.Limit) (bytes : List ℕ) (answer : Answer) : Type 0 where
  pub cause : limit_of limit < length bytes
  pub plain : PrintsOnly Limit (limit_line limit 0) answer

-- what a command answers over the bytes of its file, up to a limit; `rose` says that the count of failed loads of the
-- file rose
pub data CallsFor (limit : limits.Limit) (bytes : List ℕ) (rose : Type 0) (Within : Type 0) (answer : Answer) : Type 0 where
  read_fault : IsReadFault rose answer → CallsFor limit bytes rose Within answer
  too_long : IsTooLong limit bytes answer → CallsFor limit bytes rose Within answer
  within : length bytes ≤ limit_of limit → Within → CallsFor limit bytes rose Within answer

-- ---- what an answer does to the files
abbrev pub with_stored : Option Stored → Files → Files
with_stored None files = files
with_stored (Some s) files = insert files s.name s.bytes

-- the files after an answer, if contracts know them
abbrev pub FilesAfter : Option Stored → Option Files → Option Files → Type 0
FilesAfter stored old new = IfSome old (λ files. new ≡ Some (with_stored stored files))

-- the files after an answer whose store failed, if contracts know them
abbrev pub FilesInPart : Option Stored → Option Files → Option Files → Type 0
FilesInPart None old new = ⊥
FilesInPart (Some s) old new = IfSome old (λ files. IsSomeAnd new (StoredInPart files s.name s.bytes))

-- the count of failed stores of the answer's file rose
abbrev pub StoreRose : Option Stored → (List ℕ → Type 0) → Type 0
StoreRose None rose = ⊥
StoreRose (Some s) rose = rose s.name

-- ---- counts of faults
-- no count of the shelf's faults changed
pub record ShelfSteady (load_before load_now store_before store_now : List ℕ → ℕ) : Type 0 where
  pub load : NoneChanged load_before load_now
  pub store : NoneChanged store_before store_now

-- no count of faults changed from one state of a shelf to another
abbrev pub IsFaultless : {S : Type 0} → Ghosts S → S → S → Type 0
IsFaultless shelf old new = ShelfSteady (shelf.load_faults old) (shelf.load_faults new) (shelf.store_faults old) (shelf.store_faults new)

-- the count of failed loads of a name rose from one state to another
abbrev pub LoadRose : {S : Type 0} → Ghosts S → S → S → List ℕ → Type 0
LoadRose shelf old new = RoseAt (shelf.load_faults old) (shelf.load_faults new)

-- no count of the shelf's faults changed, or the answer reports a read fault
abbrev pub SteadyOrReadFault : Type 0 → Answer → Type 0
SteadyOrReadFault Steady answer = Steady ⊎ PrintsOnly ReadFault read_fault_line answer
