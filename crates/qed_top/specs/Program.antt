-- How the program ends.
use Rattle.std.specs.Prelude.{◌≡◌, ℕ, List, [], drop, None, Result, Ok, Err, String}
use Rattle.std.specs.Process.{exit_status}
use Rattle.std.specs.Vec.Iter.{into_iter_items}
use Rattle.std.specs.declared.io.Error.{Error}
use Rattle.std.specs.declared.process.ExitCode.{ExitCode}
use Rattle.std.specs.declared.vec.IntoIter.{IntoIter}
use Rattle.qed_words.specs.Words.{texts}
use Rattle.qed_top.specs.Codes.{status_code}
use Rattle.qed_top.specs.Ends.{Call}
use Rattle.qed_top.specs.Headline.{Answers}
use Rattle.qed_top.specs.declared.status.Status.{Status}

-- the words behind the program's name; none if the arguments cannot be read
abbrev pub words_after : {A B : Type 0} → Result (IntoIter (String A) B) Error → List (List ℕ)
words_after (Ok arguments) = texts (drop 1 (into_iter_items arguments))
words_after (Err error) = []

-- the code is that of a status with which the call ends
pub record Exits (call : Call) (code : ExitCode) : Type 0 where
  pub status : Status
  pub code_of : exit_status code ≡ status_code status
  pub answers : Answers call status

-- the code is that of a status with which some call ends, on any words; contracts know neither files nor text, and no
-- fault was counted before
pub record ExitsUntold (code : ExitCode) : Type 0 where
  pub call : Call
  pub exits : Exits call code
  pub old_untold : call.old ≡ None
  pub new_untold : call.new ≡ None
  pub was_untold : call.was ≡ None
  pub now_untold : call.now ≡ None
  pub no_loads : (name : List ℕ) → call.before.load name ≡ 0
  pub no_stores : (name : List ℕ) → call.before.store name ≡ 0
  pub no_writes : call.before.sink ≡ 0
