-- From how a call ends to how the program exits.
use Rattle.std.proofs.Common.{◌≡◌, ℕ, List, refl, subst}
use Rattle.std.specs.Process.{exit_status}
use Rattle.std.specs.declared.process.ExitCode.{ExitCode}
use Rattle.qed_io.specs.declared.shelf.Shelf as shelves
use Rattle.qed_io.specs.declared.sink.Sink as sinks
use Rattle.qed_top.specs.Codes.{status_code}
use Rattle.qed_top.specs.Ends.{call_on}
use Rattle.qed_top.specs.Headline.{Answers}
use Rattle.qed_top.specs.Program.{Exits}
use Rattle.qed_top.specs.declared.status.Status.{Status}
use Rattle.qed_top.specs.declared.status.Status.TheVariants.{Memory}
use Rattle.qed_top.proofs.Endings.{soon_ended}

module _ {S K : Type 0} (shelf : shelves.Ghosts S) (sink : sinks.Ghosts K) (words : List (List ℕ)) (code : ExitCode) (start : S) (first : K) where
  -- the call was made, with other names for these words
  pub ended_exits :
      (end : S) (last : K) (called : List (List ℕ)) (status : Status) → called ≡ words → exit_status code ≡ status_code status
      → Answers (call_on shelf sink called start end first last) status → Exits (call_on shelf sink words start end first last) code
  ended_exits end last called status same is answers = record {
    status = status;
    code_of = is;
    answers = subst (λ (w : List (List ℕ)). Answers (call_on shelf sink w start end first last) status) same answers;
  }

  -- the call was not made, for want of memory
  pub soon_exits : exit_status code ≡ status_code Memory → Exits (call_on shelf sink words start start first first) code
  soon_exits is = record {
    status = Memory;
    code_of = is;
    answers = soon_ended shelf sink words start start first refl (record { load = λ name. refl; store = λ name. refl });
  }
