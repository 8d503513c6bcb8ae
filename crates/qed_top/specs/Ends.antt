-- How the top call ends.
use Rattle.std.specs.Prelude.{◌≡◌, ◌≢◌, ◌⊎◌, ℕ, Bool, true, false, List, [], Option, MatchOption, MatchResult, IfOk, IfSome, All}
use Rattle.std.specs.Io.KnownBytes.{Appends}
use Rattle.qed_io.specs.Sink.{AppendsPrefix}
use Rattle.qed_io.specs.declared.shelf.Shelf as shelves
use Rattle.qed_io.specs.declared.sink.Sink as sinks
use Rattle.tests.specs.declared.admit.AdmitError.{AdmitError}
use Rattle.qed_words.specs.declared.orders.Order.TheVariants as order
use Rattle.tests.specs.Files.File.{IsReadAs}
use Rattle.tests.specs.Admission.Refusals.{IsAdmitted}
use Rattle.qed_top.specs.Answer.{FilesAfter, FilesInPart, StoreRose, ShelfSteady, limit_of, Rose, RoseAt}
use Rattle.qed_top.specs.Refused.{MakesDecides, ReadOnDecides, admit_status, ElfFile, Options, IsNotAdmitted}
use Rattle.qed_words.specs.declared.orders.Watch.TheVariants as watch
use Rattle.qed_top.specs.Run.{InMemoryDecides, outcome_status, ran, default_options, Change, Watch}
use Rattle.qed_top.specs.Asm.{AsmDecides}
use Rattle.qed_top.specs.Campaign.{CampaignDecides}
use Rattle.qed_top.specs.Explain.{ExplainDecides}
use Rattle.qed_top.specs.Gen.{GenDecides}
use Rattle.qed_top.specs.Loads.{Decided, LoadedFiles, OverLoads, Files, file_bytes}
use Rattle.qed_top.specs.Orders.{WordsCallFor, source_name, source_names, source_limit, stored_name}
use Rattle.qed_top.specs.Orders.{Order, Transform, Plan, Explain, Run, Campaign, Slips, Gen, Asm}
use Rattle.qed_top.specs.Orders.{Harts, Tell, asked}
use Rattle.qed_top.specs.World.{FilesDecide}
use Rattle.qed_top.specs.declared.answer.Answer.{Answer}
use Rattle.qed_top.specs.declared.status.Status.{Status}
use Rattle.qed_top.specs.declared.status.Status.TheVariants.{Done, Usage, ReadFault, WriteFault, Memory}

-- how often loads and stores of a name have failed, and writes
pub record Faults : Type 0 where
  pub load : List ℕ → ℕ
  pub store : List ℕ → ℕ
  pub sink : ℕ

-- one call: its words; at its start and end the files that the shelf has and the bytes that the sink has, if contracts
-- know them; and the counts of faults
pub record Call : Type 0 where
  pub words : List (List ℕ)
  pub old : Option Files
  pub new : Option Files
  pub was : Option (List ℕ)
  pub now : Option (List ℕ)
  pub before : Faults
  pub after : Faults

-- the counts of faults of a shelf and a sink
abbrev pub faults_of : {S K : Type 0} → shelves.Ghosts S → sinks.Ghosts K → S → K → Faults
faults_of shelf sink kept written = record { load = shelf.load_faults kept; store = shelf.store_faults kept; sink = sink.faults written }

-- the call on a shelf and a sink, by the states of both at its start and at its end
abbrev pub call_on : {S K : Type 0} → shelves.Ghosts S → sinks.Ghosts K → List (List ℕ) → S → S → K → K → Call
call_on shelf sink words start end first last = record {
  words = words;
  old = shelf.files start;
  new = shelf.files end;
  was = sink.written first;
  now = sink.written last;
  before = faults_of shelf sink start first;
  after = faults_of shelf sink end last;
}

-- the count of failed loads of a name rose in the call
abbrev pub load_rose : Call → List ℕ → Type 0
load_rose call = RoseAt call.before.load call.after.load

-- the count of failed stores of a name rose in the call
abbrev pub store_rose : Call → List ℕ → Type 0
store_rose call = RoseAt call.before.store call.after.store

-- the count of failed writes rose in the call
abbrev pub sink_rose : Call → Type 0
sink_rose call = Rose call.before.sink call.after.sink

-- no count of the shelf's faults changed in the call
abbrev pub KeepsShelf : Call → Type 0
KeepsShelf call = ShelfSteady call.before.load call.after.load call.before.store call.after.store

-- the answer that the words and these files call for was stored and printed, with its status
pub record IsAnswered (call : Call) (loads : LoadedFiles) (status : Status) : Type 0 where
  pub answer : Answer
  pub meant : WordsCallFor call.words loads (load_rose call) answer
  pub same_status : answer.status ≡ status
  pub stored : FilesAfter answer.stored call.old call.new
  pub printed : Appends call.was call.now answer.text

-- the answer was stored, and the print stopped before its end
pub record StoppedInPrint (call : Call) (loads : LoadedFiles) : Type 0 where
  pub answer : Answer
  pub meant : WordsCallFor call.words loads (load_rose call) answer
  pub stored : FilesAfter answer.stored call.old call.new
  pub printed : AppendsPrefix call.was call.now answer.text

-- the store of the answer failed, and nothing was printed
pub record StoppedInStore (call : Call) (loads : LoadedFiles) : Type 0 where
  pub answer : Answer
  pub meant : WordsCallFor call.words loads (load_rose call) answer
  pub cause : StoreRose answer.stored (store_rose call)
  pub stored : FilesInPart answer.stored call.old call.new
  pub printed : call.now ≡ call.was

-- nothing was stored or printed, and no count of faults changed
pub record Unchanged (call : Call) : Type 0 where
  pub stored : call.new ≡ call.old
  pub printed : call.now ≡ call.was
  pub shelf : KeepsShelf call
  pub sink : call.after.sink ≡ call.before.sink

-- the print stopped for want of memory; no fault was counted, except by the shelf if a read fault was to be printed
pub record StoppedForMemory (call : Call) (loads : LoadedFiles) : Type 0 where
  pub stopped : StoppedInPrint call loads
  pub shelf : stopped.answer.status ≢ ReadFault → KeepsShelf call
  pub sink : call.after.sink ≡ call.before.sink

-- the end of the call over these files at its loads, by its status
abbrev pub EndsOver : Call → LoadedFiles → Status → Type 0
EndsOver call loads WriteFault = (sink_rose call × StoppedInPrint call loads) ⊎ StoppedInStore call loads
EndsOver call loads Memory = Unchanged call ⊎ StoppedForMemory call loads
EndsOver call loads status = IsAnswered call loads status

abbrev pub Ends : Call → Status → Type 0
Ends call status = OverLoads call.old (λ loads. EndsOver call loads status)

-- ---- what to expect
-- the status of `transform` and `plan` over bytes within the limit, by the facts of the bytes
abbrev pub TransformDecides : List ℕ → Options → Status → Type 0
TransformDecides bytes o status = MakesDecides bytes o (status ≡ Done) status

-- the status of a command that takes each file that is read and fits into memory, with its status for a file
abbrev pub ReadDecides : List ℕ → (ElfFile → Status) → Status → Type 0
ReadDecides bytes done status = ReadOnDecides bytes (λ f. InMemoryDecides f (done f) status) status

-- the status that goes with the end of a run
abbrev pub ran_status : Watch → ℕ → List Change → ElfFile → Status
ran_status look steps changes f = outcome_status (ran look f steps changes).state.outcome

-- the status of `run --reached`: that of the refusal for a file that is read but not admitted, else that of `run`
pub data WatchDecides (bytes : List ℕ) (done : ElfFile → Status) (status : Status) : Type 0 where
  no_test : (e : AdmitError) → IsNotAdmitted bytes default_options e → status ≡ admit_status e → WatchDecides bytes done status
  as_run : ((f : ElfFile) → IsReadAs bytes f → IsAdmitted f default_options) → ReadDecides bytes done status → WatchDecides bytes done status

-- the status of `run`, by what it looks for
abbrev pub RunDecides : Watch → List ℕ → (ElfFile → Status) → Status → Type 0
RunDecides watch.Jumps bytes status_of status = WatchDecides bytes status_of status
RunDecides _ bytes status_of status = ReadDecides bytes status_of status

-- the status of an order that reads no more than one file, over its bytes, which are within the limit
abbrev pub DecidesOver : Order → List ℕ → Status → Type 0
DecidesOver (Transform input output options) bytes status = TransformDecides bytes options status
DecidesOver (Plan input options) bytes status = TransformDecides bytes options status
DecidesOver (Explain input options at) bytes status = ExplainDecides bytes options at status
DecidesOver (Run file steps changes dump look) bytes status = RunDecides look bytes (ran_status look steps changes) status
DecidesOver (Campaign input options draws results) bytes status = CampaignDecides bytes options draws status
DecidesOver (Slips input options draws results) bytes status = TransformDecides bytes options status
DecidesOver (Gen output seed size) bytes status = GenDecides seed size status
DecidesOver (order.List file) bytes status = ReadDecides bytes (λ f. Done) status
DecidesOver (Asm text output) bytes status = AsmDecides bytes status
DecidesOver (Harts files turns steps) bytes status = ⊥
DecidesOver (Tell topic) bytes status = status ≡ Done

-- the status of an order that reads at most one file, with the loading of the file
abbrev pub SourceDecides : Order → Files → Status → Type 0
SourceDecides order files status =
    MatchOption (source_name order) (DecidesOver order [] status)
    (λ name. Decided (limit_of (source_limit order)) (file_bytes files name) (DecidesOver order (file_bytes files name) status) status)

-- the status of any order over the files at each load
abbrev pub OrderDecides : Order → LoadedFiles → Status → Type 0
OrderDecides (Harts files turns steps) loads status = FilesDecide files [] turns steps loads status
OrderDecides order loads status = SourceDecides order (loads 0) status

-- the status that the words and the files decide
abbrev pub Decides : List (List ℕ) → LoadedFiles → Status → Type 0
Decides words loads status = MatchResult (asked words) (λ order. OrderDecides order loads status) (λ reason. status ≡ Usage)

-- no count rose: not the sink's, not of loads of a file that the order reads, not of stores of the file that it stores
pub record NoFault (call : Call) : Type 0 where
  pub sink : sink_rose call → ⊥
  pub load : IfOk (asked call.words) (λ order. All (λ name. load_rose call name → ⊥) (source_names order))
  pub store : IfOk (asked call.words) (λ order. IfSome (stored_name order) (λ name. store_rose call name → ⊥))

-- without faults the status is the decided one over these files at its loads, or memory ran out
abbrev pub IsComplete : Call → LoadedFiles → Status → Type 0
IsComplete call loads status = NoFault call → (decided : Status) → Decides call.words loads decided → (status ≡ decided) ⊎ (status ≡ Memory)
