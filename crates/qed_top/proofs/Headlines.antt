-- From how a call ends to its headline.
use Rattle.std.proofs.Common.{◌≡◌, ◌≤◌, ℕ, List, length, Option, None, Some, IfSome, sym, ap, ◌∙◌, subst}
use Rattle.std.specs.Prelude.{MatchResult, Result, Ok, IsSomeAnd}
use Rattle.std.specs.FinMap.{insert}
use Rattle.machine.specs.declared.limits.Limit.TheVariants.{FileBytes}
use Rattle.tests.specs.Elf.FileRead.{file_read}
use Rattle.qed_top.specs.Answer.{CallsFor, read_fault, too_long, within, FilesAfter, limit_of}
use Rattle.qed_top.specs.Loads.{LoadedFiles, Files, file_bytes}
use Rattle.qed_top.specs.Makes.{IsMade, MakesOutput, Delivers}
use Rattle.qed_top.specs.Refused.{refused, made, Options}
use Rattle.qed_top.specs.Orders.{IsUsage, OrderCallsFor, WordsCallFor, Order, Transform, asked, Reason}
use Rattle.qed_top.specs.Ends.{Call, load_rose, EndsOver}
use Rattle.qed_top.specs.Headline.{IsPromised, IsDelivered, HoldsHeadline}
use Rattle.qed_top.specs.declared.answer.Answer.{Answer}
use Rattle.qed_top.specs.declared.answer.Stored.{Stored}
use Rattle.qed_top.specs.declared.status.Status.{Status}
use Rattle.qed_top.specs.declared.status.Status.TheVariants.{Done}
use Rattle.qed_top.proofs.Statuses.{IsRefusal, refusal_refuses}

-- ---- what Done means
module _ (input output : List ℕ) (o : Options) where
  -- the output was made of IN, and stored as OUT
  abbrev MadeOf : List ℕ → Answer → Type 0
  MadeOf bytes answer = (length bytes ≤ limit_of FileBytes) × IsMade bytes o (Delivers output) answer

  made_of : (bytes : List ℕ) (answer : Answer) → answer.status ≡ Done → MakesOutput bytes o (Delivers output) answer → IsMade bytes o (Delivers output) answer
  made_of bytes answer is (refused r) = absurd (subst IsRefusal (sym r.plain.status ∙ is) (refusal_refuses r.error))
  made_of bytes answer is (made m) = m

  within_of : (bytes : List ℕ) (rose : Type 0) (answer : Answer) → answer.status ≡ Done → CallsFor FileBytes bytes rose (MakesOutput bytes o (Delivers output) answer) answer → MadeOf bytes answer
  within_of bytes rose answer is (read_fault f) = let was = f.plain.status in absurd (cc)
  within_of bytes rose answer is (too_long t) = let was = t.plain.status in absurd (cc)
  within_of bytes rose answer is (within small t) = (small, made_of bytes answer is t)

  -- the words are those of `transform`
  meant_of :
      (words : List (List ℕ)) (loads : LoadedFiles) (rose : List ℕ → Type 0) (answer : Answer) → asked words ≡ Ok (Transform input output o)
      → WordsCallFor words loads rose answer → OrderCallsFor (Transform input output o) loads rose answer
  meant_of words loads rose answer is m =
      subst (λ (ask : Result Order Reason). MatchResult ask (λ order. OrderCallsFor order loads rose answer) (λ reason. IsUsage reason answer)) is m

-- ---- what was stored
stored_of :
    (stored : Option Stored) (old new : Option Files) (output file : List ℕ) → IsSomeAnd stored (λ s. (s.name ≡ output) × (s.bytes ≡ file))
    → FilesAfter stored old new → IfSome old (λ f. new ≡ Some (insert f output file))
stored_of None old new output file h after = absurd h
stored_of (Some s) None new output file h after = tt
stored_of (Some s) (Some f) new output file h after = after ∙ ap Some ((λ i. insert f (h.0 i) (h.1 i)))

module _ (call : Call) (files : Files) (input output : List ℕ) (o : Options) where
  promised_of : (answer : Answer) (d : MadeOf input output o (file_bytes files input) answer) → IsPromised (file_bytes files input) o d.1.file answer.text
  promised_of answer d = record {
    test = d.1.made.woven.file.file;
    program = file_read d.1.made.woven.out;
    plan = d.1.plan;
    reads_test = d.1.made.read;
    reads_program = d.1.made.reads;
    woven = d.1.made.woven;
    promises = d.1.made.promised d.1.made.woven.file.file (file_read d.1.made.woven.out) d.1.made.read.file d.1.made.reads.file;
    taken = d.0;
    within = d.1.made.within;
    told = d.1.made.told;
    printed = d.1.uses.text;
  }

-- the files at the first load
delivered_of :
    (call : Call) (loads : LoadedFiles) (input output : List ℕ) (o : Options) → asked call.words ≡ Ok (Transform input output o) → EndsOver call loads Done
    → IsDelivered call (loads 0) input output o
delivered_of call loads input output o is did =
    let m = meant_of input output o call.words loads (load_rose call) did.answer is did.meant in
    let d = within_of input output o (file_bytes (loads 0) input) (load_rose call input) did.answer did.same_status m in
    record {
      file = d.1.file;
      line = did.answer.text;
      stored = stored_of did.answer.stored call.old call.new output d.1.file d.1.uses.stored did.stored;
      printed = did.printed;
      promised = promised_of call (loads 0) input output o did.answer d;
    }

-- a call that ends holds its headline
pub holds_headline : (call : Call) (loads : LoadedFiles) (status : Status) → EndsOver call loads status → HoldsHeadline call (loads 0) status
holds_headline call loads status ends input output o is was = delivered_of call loads input output o is (subst (λ s. EndsOver call loads s) was ends)
