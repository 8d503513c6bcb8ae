-- What the words and the files call for.
use Rattle.std.specs.Prelude.{Bool, true, false, ℕ, List, [], ◌∷◌, Option, None, Some, MatchOption, MatchResult}
use Rattle.machine.specs.declared.limits.Limit as limits
use Rattle.machine.specs.declared.limits.Limit.TheVariants.{FileBytes, RunFileBytes}
pub use Rattle.qed_words.specs.declared.orders.Order.{Order}
use Rattle.qed_words.specs.declared.orders.Order.TheVariants as order
pub use Rattle.qed_words.specs.declared.orders.Order.TheVariants.{Transform, Plan, Explain, Run, Campaign, Slips, Gen, Asm, Harts, Tell}
pub use Rattle.qed_words.specs.declared.orders.Reason.{Reason}
use Rattle.qed_words.specs.Text.Usage.{reason_line}
pub use Rattle.qed_words.specs.Words.{asked}
use Rattle.report.specs.Help.{help_text}
use Rattle.qed_top.specs.Answer.{PrintsOnly, CallsFor}
use Rattle.qed_top.specs.List.{Lists}
use Rattle.qed_top.specs.Asm.{Assembles}
use Rattle.qed_top.specs.Campaign.{Campaigns, SlipCampaigns}
use Rattle.qed_top.specs.Explain.{Explains}
use Rattle.qed_top.specs.Gen.{Gens}
use Rattle.qed_top.specs.Makes.{MakesOutput, Delivers, TellsPlan}
use Rattle.qed_top.specs.Loads.{LoadedFiles, Files, file_bytes}
use Rattle.qed_top.specs.Run.{RunsAs}
use Rattle.qed_top.specs.World.{FilesCallFor}
use Rattle.qed_top.specs.declared.answer.Answer.{Answer}
use Rattle.qed_top.specs.declared.status.Status.TheVariants.{Done, Usage}

-- ---- files
-- the name of the file that an order reads, if it reads one
abbrev pub source_name : Order → Option (List ℕ)
source_name (Transform input output options) = Some input
source_name (Plan input options) = Some input
source_name (Explain input options at) = Some input
source_name (Run file steps changes dump look) = Some file
source_name (Campaign input options draws results) = Some input
source_name (Slips input options draws results) = Some input
source_name (order.List file) = Some file
source_name (Asm text output) = Some text
source_name _ = None

abbrev pub listed_rest : Option (List ℕ) → List (List ℕ)
listed_rest None = []
listed_rest (Some name) = name ∷ []

-- the names of all files that an order reads, in their order
abbrev pub source_names : Order → List (List ℕ)
source_names (Harts files turns steps) = files
source_names order = listed_rest (source_name order)

-- whether an order reads several files
abbrev pub reads_several : Order → Bool
reads_several (Harts files turns steps) = true
reads_several _ = false

-- the limit on the bytes of an order's file
abbrev pub source_limit : Order → limits.Limit
source_limit (Run file steps changes dump look) = RunFileBytes
source_limit (order.List file) = RunFileBytes
source_limit _ = FileBytes

-- the name of the file that an order stores, if it stores one
abbrev pub stored_name : Order → Option (List ℕ)
stored_name (Transform input output options) = Some output
stored_name (Gen output seed size) = Some output
stored_name (Asm text output) = Some output
stored_name _ = None

-- ---- answers
-- the words ask for nothing, for this reason
abbrev pub IsUsage : Reason → Answer → Type 0
IsUsage reason answer = PrintsOnly Usage (reason_line reason) answer

-- what an order that reads at most one file calls for over its bytes, which are within the limit
abbrev pub AnswersOver : Order → List ℕ → Answer → Type 0
AnswersOver (Transform input output options) bytes answer = MakesOutput bytes options (Delivers output) answer
AnswersOver (Plan input options) bytes answer = MakesOutput bytes options TellsPlan answer
AnswersOver (Explain input options at) bytes answer = Explains bytes options at answer
AnswersOver (Run file steps changes dump look) bytes answer = RunsAs look bytes steps changes dump answer
AnswersOver (Campaign input options draws results) bytes answer = Campaigns bytes options draws results answer
AnswersOver (Slips input options draws results) bytes answer = SlipCampaigns bytes options draws results answer
AnswersOver (Gen output seed size) bytes answer = Gens output seed size answer
AnswersOver (order.List file) bytes answer = Lists bytes answer
AnswersOver (Asm text output) bytes answer = Assembles bytes output answer
AnswersOver (Harts files turns steps) bytes answer = ⊥
AnswersOver (Tell topic) bytes answer = PrintsOnly Done (help_text topic) answer

-- what an order that reads at most one file calls for, with its loading; `rose` holds of a name whose failed loads rose
abbrev pub SourceCallsFor : Order → Files → (List ℕ → Type 0) → Answer → Type 0
SourceCallsFor order files rose answer =
    MatchOption (source_name order) (AnswersOver order [] answer)
    (λ name. CallsFor (source_limit order) (file_bytes files name) (rose name) (AnswersOver order (file_bytes files name) answer) answer)

-- what any order calls for over the files at each load
abbrev pub OrderCallsFor : Order → LoadedFiles → (List ℕ → Type 0) → Answer → Type 0
OrderCallsFor (Harts files turns steps) loads rose answer = FilesCallFor files [] turns steps loads rose answer
OrderCallsFor order loads rose answer = SourceCallsFor order (loads 0) rose answer

-- what the words call for
abbrev pub WordsCallFor : List (List ℕ) → LoadedFiles → (List ℕ → Type 0) → Answer → Type 0
WordsCallFor words loads rose answer = MatchResult (asked words) (λ order. OrderCallsFor order loads rose answer) (λ reason. IsUsage reason answer)
