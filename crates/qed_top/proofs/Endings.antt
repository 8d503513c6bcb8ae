-- From a decided and carried-out answer to how the call ends.
use Rattle.std.proofs.Common.{◌≡◌, ◌≢◌, ℕ, ◌-◌, Bool, true, false, List, [], Option, None, Some, IfSome, ◌⊎◌, inl, inr, refl, sym, ap, ◌∙◌, subst, arith}
use Rattle.std.specs.Prelude.{MatchOption, MatchResult, Result, Ok, Err, IfOk, IsSome, IsSomeAnd, slice_index, All}
use Rattle.std.proofs.lemmas.List.Elements.{All-head, recursion_from_All}
use Rattle.std.specs.Io.KnownBytes.{Appends}
use Rattle.qed_io.specs.Sink.{AppendsPrefix}
use Rattle.qed_io.specs.declared.shelf.Shelf as shelves
use Rattle.qed_io.specs.declared.sink.Sink as sinks
use Rattle.machine.specs.declared.limits.Limit.TheVariants as limit
use Rattle.qed_words.specs.declared.orders.Order.TheVariants as order
use Rattle.qed_model.specs.declared.role.Role.{Role}
use Rattle.listing.specs.Roles.{role_at, word_line}
use Rattle.report.specs.Admission.{no_word_line}
use Rattle.qed_top.specs.Answer.{PrintsOnly, FilesAfter, FilesInPart, StoreRose, IsFaultless, LoadRose, SteadyOrReadFault, limit_of, RoseAt, NoneFell}
use Rattle.qed_top.specs.Refused.{ReadOn, not_read, read_on, admit_status, error_status, refusal_status, ElfFile}
use Rattle.qed_top.specs.Makes.{IsMade, Delivers, TellsPlan}
use Rattle.qed_top.specs.Run.{InMemory, InMemoryDecides, outcome_status, ran, run_of, second_of, HasRun, FileRuns, Watches, unread_test, no_test, watched, RunsAs, jumps_line, astray_in_run, default_options, Change, Outcome, Watch}
use Rattle.qed_words.specs.declared.orders.Watch.TheVariants as watch
use Rattle.machine.specs.Progress.{Progress}
use Rattle.qed_top.specs.List.{FileLists, IsPrinted}
use Rattle.qed_top.specs.Asm.{Assembles, AsmDecides}
use Rattle.qed_top.specs.Asm as asm
use Rattle.qed_top.proofs.Assembling.{never_both}
use Rattle.qed_top.specs.Campaign.{IsStruck, HasSlipped, campaign_status}
use Rattle.qed_top.specs.Explain.{AreTold, TellsRoles, number_at, word_status, told_status}
use Rattle.qed_top.specs.Gen.{Gens, GenDecides, test_bytes}
use Rattle.qed_top.specs.Gen as gens
use Rattle.transform.specs.declared.error.TransformError.TheVariants as transform
use Rattle.transform.specs.declared.explained.Explained.{Explained}
use Rattle.qed_top.specs.Loads.{Decided, LoadedFiles, OverLoads, Files, file_bytes}
use Rattle.qed_top.specs.Orders.{AnswersOver, OrderCallsFor, WordsCallFor, listed_rest, source_limit, source_name, source_names, stored_name, Order, Transform, Plan, Explain, Run, Campaign, Slips, Gen, Asm, Harts, Tell, asked, Reason}
use Rattle.qed_top.specs.Ends.{Call, call_on, load_rose, store_rose, sink_rose, KeepsShelf, IsAnswered, EndsOver, Ends, ReadDecides, RunDecides, ran_status, DecidesOver, OrderDecides, Decides, NoFault, IsComplete}
use Rattle.qed_top.specs.Ends as decide
use Rattle.qed_top.specs.declared.answer.Answer.{Answer}
use Rattle.qed_top.specs.declared.answer.Stored.{Stored}
use Rattle.qed_top.specs.declared.status.Status.{Status}
use Rattle.qed_top.specs.declared.status.Status.TheVariants.{Done, Usage, Refused, Limit, ReadFault, WriteFault, Memory}
use Rattle.tests.proofs.Lemmas.{one_file, read_or_refused, not_refused}
use Rattle.tests.specs.Admission.Refusals.{IsAdmitted}
use Rattle.transform.proofs.OneAnswer.{one_cause, memory_only, transformable_of}
use Rattle.qed_top.proofs.Statuses.{error_refuses, admit_refuses, Printed, outcome_printed}
use Rattle.qed_top.specs.Headline.{HoldsOver, Answers}
use Rattle.qed_top.proofs.Headlines.{holds_headline}
use Rattle.qed_top.proofs.Meanings.{CallsBy, WordsBy, always_loads, loads_map, calls_more}
use Rattle.qed_top.proofs.Calls.{Tells, steady_then, tells, refusal_tells, stores_tells, calls_tells, read_tells, memory_tells, made_tells, calls_settled, read_settled, memory_settled, made_settled, no_store}
use Rattle.qed_top.proofs.WorldEnds.{files_later, files_settled, files_tells}

-- ---- counts
-- a count that rose in a part of the call rose in all of it
pub rose_later : (before middle now : List ℕ → ℕ) → NoneFell middle now → (name : List ℕ) → RoseAt before middle name → RoseAt before now name
rose_later before middle now kept name rose = omega (arith, kept name)

pub rose_since : (before middle now : List ℕ → ℕ) → NoneFell before middle → (name : List ℕ) → RoseAt middle now name → RoseAt before now name
rose_since before middle now kept name rose = omega (arith, kept name)

-- ---- what is meant
-- an answer keeps its meaning if more counts have risen
source_later :
    (order : Order) (source : Option (List ℕ)) (files : Files) (rose later : List ℕ → Type 0) → ((name : List ℕ) → rose name → later name) → (answer : Answer)
    → CallsBy order source files rose answer → CallsBy order source files later answer
source_later order None files rose later h answer m = m
source_later order (Some name) files rose later h answer m =
    calls_more (source_limit order) (file_bytes files name) (rose name) (later name) (AnswersOver order (file_bytes files name) answer) (AnswersOver order (file_bytes files name) answer) answer (h name) (λ a. a) m

order_later :
    (order : Order) (loads : LoadedFiles) (rose later : List ℕ → Type 0) → ((name : List ℕ) → rose name → later name) → (answer : Answer)
    → OrderCallsFor order loads rose answer → OrderCallsFor order loads later answer
order_later (Harts names turns steps) loads rose later h answer m = files_later names [] turns steps loads rose later h answer m
order_later order loads rose later h answer m = source_later order (source_name order) (loads 0) rose later h answer m

words_later :
    (ask : Result Order Reason) (loads : LoadedFiles) (rose later : List ℕ → Type 0) → ((name : List ℕ) → rose name → later name) → (answer : Answer)
    → WordsBy ask loads rose answer → WordsBy ask loads later answer
words_later (Ok order) loads rose later h answer m = order_later order loads rose later h answer m
words_later (Err reason) loads rose later h answer m = m

pub meant_later :
    (words : List (List ℕ)) (loads : LoadedFiles) (rose later : List ℕ → Type 0) → ((name : List ℕ) → rose name → later name) → (answer : Answer)
    → WordsCallFor words loads rose answer → WordsCallFor words loads later answer
meant_later words loads rose later h answer m = words_later (asked words) loads rose later h answer m

-- ---- the meant answer has a status with a text, and stores only the order's file
runs_tells :
    (bytes : List ℕ) (ended : ElfFile → Progress) (second : ElfFile → List ℕ) (dump : Option (ℕ × ℕ)) (answer : Answer)
    → ReadOn bytes (λ f. FileRuns f (ended f) (second f) dump answer) answer → Tells None answer
runs_tells bytes ended second dump answer m =
    let told : ElfFile → Type 0 = λ f. HasRun (ended f) (second f) dump answer in
    let outcome : ElfFile → Outcome = λ f. (ended f).state.outcome in
    read_tells bytes (λ f. InMemory f (told f) answer) answer
    (λ f x. memory_tells f (told f) answer (λ p. tells (outcome_status (outcome f)) None answer (outcome_printed (outcome f)) p) x) m

watches_tells : (bytes : List ℕ) (steps : ℕ) (changes : List Change) (dump : Option (ℕ × ℕ)) (answer : Answer) → Watches bytes steps changes dump answer → Tells None answer
watches_tells bytes steps changes dump answer (unread_test u) = refusal_tells (error_status u.error) None answer (error_refuses u.error) u.plain
watches_tells bytes steps changes dump answer (no_test u) = refusal_tells (admit_status u.error) None answer (admit_refuses u.error) u.plain
watches_tells bytes steps changes dump answer (watched w) = runs_tells bytes (λ f. run_of f steps changes) (λ f. jumps_line (astray_in_run w.file w.test steps changes)) dump answer (read_on w.file w.read w.runs)

run_tells : (look : Watch) (bytes : List ℕ) (steps : ℕ) (changes : List Change) (dump : Option (ℕ × ℕ)) (answer : Answer) → RunsAs look bytes steps changes dump answer → Tells None answer
run_tells watch.Jumps bytes steps changes dump answer m = watches_tells bytes steps changes dump answer m
run_tells watch.Nothing bytes steps changes dump answer m =
    runs_tells bytes (λ f. run_of f steps changes) (λ f. []) dump answer m
run_tells (watch.Slip at) bytes steps changes dump answer m =
    runs_tells bytes (λ f. ran (watch.Slip at) f steps changes) (λ f. second_of (watch.Slip at) f None steps changes) dump answer m

asm_tells : (text output : List ℕ) (answer : Answer) → Assembles text output answer → Tells (Some output) answer
asm_tells text output answer (asm.faulty f) = tells Refused (Some output) answer tt f.plain
asm_tells text output answer (asm.assembled a) = stores_tells output a.file answer a.status a.stored

trapped_printed : (trapped : Option ℕ) → Printed (campaign_status trapped)
trapped_printed None = tt
trapped_printed (Some pc) = tt

-- the answer about the word at an address
abbrev TellsNumber : Explained → ℕ → Answer → Option ℕ → Type 0
TellsNumber x a answer number =
    MatchOption number (PrintsOnly Refused (no_word_line a) answer)
    (λ n. IsSomeAnd (role_at x.roles.items (a - x.base)) (λ role. PrintsOnly Done (word_line role a (slice_index x.words.items n) x.file.symbols) answer))

-- the answer about a word has its status, and stores nothing
role_told :
    (x : Explained) (a n : ℕ) (answer : Answer) (r : Option Role) → IsSomeAnd r (λ role. PrintsOnly Done (word_line role a (slice_index x.words.items n) x.file.symbols) answer)
    → (answer.status ≡ Done) × Tells None answer
role_told x a n answer None t = absurd t
role_told x a n answer (Some role) t = (t.status, tells Done None answer tt t)

word_told : (x : Explained) (a : ℕ) (answer : Answer) (number : Option ℕ) → TellsNumber x a answer number → (answer.status ≡ word_status number) × Tells None answer
word_told x a answer None t = (t.status, tells Refused None answer tt t)
word_told x a answer (Some n) t = role_told x a n answer (role_at x.roles.items (a - x.base)) t

code_told : (x : Explained) (at : Option ℕ) (answer : Answer) → TellsRoles x at answer → (answer.status ≡ told_status x at) × Tells None answer
code_told x None answer t = (t.status, tells Done None answer tt t)
code_told x (Some a) answer t = word_told x a answer (number_at x a) t

gens_tells : (output : List ℕ) (seed size : ℕ) (answer : Answer) → Gens output seed size answer → Tells (Some output) answer
gens_tells output seed size answer (gens.large_code l) = tells Limit (Some output) answer tt l.plain
gens_tells output seed size answer (gens.generates m) = stores_tells output (test_bytes seed size) answer m.uses.status m.uses.stored

over_tells : (order : Order) (bytes : List ℕ) (answer : Answer) → AnswersOver order bytes answer → Tells (stored_name order) answer
over_tells (Transform input output o) bytes answer m = made_tells bytes o (IsMade bytes o (Delivers output) answer) (Some output) answer (λ x. stores_tells output x.file answer x.uses.status x.uses.stored) m
over_tells (Plan input o) bytes answer m = made_tells bytes o (IsMade bytes o TellsPlan answer) None answer (λ x. tells Done None answer tt x.uses) m
over_tells (Explain input o at) bytes answer m = made_tells bytes o (AreTold bytes o at answer) None answer (λ x. (code_told x.code at answer x.tells).1) m
over_tells (Run file steps changes dump look) bytes answer m = run_tells look bytes steps changes dump answer m
over_tells (Campaign input o draws results) bytes answer m =
    made_tells bytes o (IsStruck bytes o draws results answer) None answer (λ x. tells (campaign_status x.tells.trapped) None answer (trapped_printed x.tells.trapped) x.tells.plain) m
over_tells (Slips input o draws results) bytes answer m =
    made_tells bytes o (HasSlipped bytes o draws results answer) None answer (λ x. tells Done None answer tt x.tells.plain) m
over_tells (Gen output seed size) bytes answer m = gens_tells output seed size answer m
over_tells (order.List file) bytes answer m =
    read_tells bytes (λ f. FileLists f answer) answer (λ f x. memory_tells f (IsPrinted f answer) answer (λ p. tells Done None answer tt p.plain) x) m
over_tells (Asm text output) bytes answer m = asm_tells bytes output answer m
over_tells (Harts files turns steps) bytes answer m = absurd m
over_tells (Tell topic) bytes answer m = tells Done None answer tt m

source_tells : (order : Order) (source : Option (List ℕ)) (files : Files) (rose : List ℕ → Type 0) (answer : Answer) → CallsBy order source files rose answer → Tells (stored_name order) answer
source_tells order None files rose answer m = over_tells order [] answer m
source_tells order (Some name) files rose answer m =
    calls_tells (source_limit order) (file_bytes files name) (rose name) (AnswersOver order (file_bytes files name) answer) (stored_name order) answer (over_tells order (file_bytes files name) answer) m

order_tells : (order : Order) (loads : LoadedFiles) (rose : List ℕ → Type 0) (answer : Answer) → OrderCallsFor order loads rose answer → Tells (stored_name order) answer
order_tells (Harts names turns steps) loads rose answer m = files_tells names [] turns steps loads rose answer m
order_tells order loads rose answer m = source_tells order (source_name order) (loads 0) rose answer m

abbrev stored_by : Result Order Reason → Option (List ℕ)
stored_by (Ok order) = stored_name order
stored_by (Err reason) = None

words_tells : (ask : Result Order Reason) (loads : LoadedFiles) (rose : List ℕ → Type 0) (answer : Answer) → WordsBy ask loads rose answer → Tells (stored_by ask) answer
words_tells (Ok order) loads rose answer m = order_tells order loads rose answer m
words_tells (Err reason) loads rose answer m = tells Usage None answer tt m

-- a carried-out answer ends the call with its status
did_ends : (call : Call) (loads : LoadedFiles) (status : Status) → Printed status → IsAnswered call loads status → EndsOver call loads status
did_ends call loads WriteFault p d = absurd p
did_ends call loads Memory p d = absurd p
did_ends call loads status p d = d

-- ---- how the call ends
-- an answer that stores a file reports no read fault
steady_store : (Steady : Type 0) (answer : Answer) → SteadyOrReadFault Steady answer → IsSome answer.stored → Steady
steady_store Steady answer (inl steady) some = steady
steady_store Steady answer (inr plain) some = let none = plain.stored in absurd (cc)

steady_other : (Steady : Type 0) (answer : Answer) → SteadyOrReadFault Steady answer → answer.status ≢ ReadFault → Steady
steady_other Steady answer (inl steady) other = steady
steady_other Steady answer (inr plain) other = absurd (other plain.status)

-- ---- what to expect
-- the answer has the decided status
runs_settled :
    (bytes : List ℕ) (ended : ElfFile → Progress) (second : ElfFile → List ℕ) (dump : Option (ℕ × ℕ)) (answer : Answer) (t : Status)
    → ReadOn bytes (λ f. FileRuns f (ended f) (second f) dump answer) answer → ReadDecides bytes (λ f. outcome_status (ended f).state.outcome) t → answer.status ≡ t
runs_settled bytes ended second dump answer t m d =
    let told : ElfFile → Type 0 = λ f. HasRun (ended f) (second f) dump answer in
    let status : ElfFile → Status = λ f. outcome_status (ended f).state.outcome in
    read_settled bytes (λ f. InMemory f (told f) answer) (λ f. InMemoryDecides f (status f) t) answer t
    (λ f x y. memory_settled f (told f) (status f) answer t (λ p. p.status) x y) m d

run_settled :
    (look : Watch) (bytes : List ℕ) (steps : ℕ) (changes : List Change) (dump : Option (ℕ × ℕ)) (answer : Answer) (t : Status) → RunsAs look bytes steps changes dump answer
    → RunDecides look bytes (ran_status look steps changes) t → answer.status ≡ t
run_settled watch.Nothing bytes steps changes dump answer t m d = runs_settled bytes (λ f. run_of f steps changes) (λ f. []) dump answer t m d
run_settled (watch.Slip at) bytes steps changes dump answer t m d =
    runs_settled bytes (λ f. ran (watch.Slip at) f steps changes) (λ f. second_of (watch.Slip at) f None steps changes) dump answer t m d
run_settled watch.Jumps bytes steps changes dump answer t (unread_test u) (decide.no_test e x b) = absurd (read_or_refused bytes x.file u.error x.read u.cause)
run_settled watch.Jumps bytes steps changes dump answer t (unread_test u) (decide.as_run all r) = runs_settled bytes (λ f. run_of f steps changes) (λ f. []) dump answer t (not_read u) r
run_settled watch.Jumps bytes steps changes dump answer t (no_test u) (decide.no_test e x b) =
    u.plain.status ∙ ap refusal_status (one_cause bytes default_options (transform.Admit u.error) (transform.Admit e) (λ m. absurd (cc)) (λ m. absurd (cc)) u.cause x) ∙ sym b
run_settled watch.Jumps bytes steps changes dump answer t (no_test u) (decide.as_run all r) = absurd (not_refused u.cause.file default_options u.error (all u.cause.file u.cause.read) u.cause.refused)
run_settled watch.Jumps bytes steps changes dump answer t (watched w) (decide.no_test e x b) =
    let admitted = subst (λ g. IsAdmitted g default_options) (one_file bytes w.file x.file w.read.file x.read.file) w.admitted.admitted in
    absurd (not_refused x.file default_options e admitted x.refused)
run_settled watch.Jumps bytes steps changes dump answer t (watched w) (decide.as_run all r) = runs_settled bytes (λ f. run_of f steps changes) (λ f. jumps_line (astray_in_run w.file w.test steps changes)) dump answer t (read_on w.file w.read w.runs) r

code_is_no_memory : (n : ℕ) → transform.TooLarge limit.CodeBytes n ≡ transform.Memory → ⊥
code_is_no_memory n e = absurd (cc)

asm_settled : (text output : List ℕ) (answer : Answer) (t : Status) → Assembles text output answer → AsmDecides text t → answer.status ≡ t
asm_settled text output answer t (asm.faulty f) (asm.has_fault e x n b) = f.plain.status ∙ sym b
asm_settled text output answer t (asm.faulty f) (asm.is_file g x b) = absurd (never_both text g f.error x f.cause f.known)
asm_settled text output answer t (asm.assembled a) (asm.has_fault e x n b) = absurd (never_both text a.file e a.assembled x n)
asm_settled text output answer t (asm.assembled a) (asm.is_file g x b) = a.status ∙ sym b

gens_settled : (output : List ℕ) (seed size : ℕ) (answer : Answer) (t : Status) → Gens output seed size answer → GenDecides seed size t → answer.status ≡ t
gens_settled output seed size answer t (gens.large_code l) (gens.has_large_code n c e) = l.plain.status ∙ sym e
gens_settled output seed size answer t (gens.large_code l) (gens.has_small_code none e) = absurd (none l.bytes l.cause)
gens_settled output seed size answer t (gens.generates m) (gens.has_large_code n c e) =
    let bytes = test_bytes seed size in
    absurd (code_is_no_memory n (memory_only bytes default_options (transform.TooLarge limit.CodeBytes n) c (transformable_of bytes default_options m.file m.plan m.made)))
gens_settled output seed size answer t (gens.generates m) (gens.has_small_code none e) = m.uses.status ∙ sym e

-- an order, over the bytes of its file
over_settled : (order : Order) (bytes : List ℕ) (answer : Answer) (t : Status) → AnswersOver order bytes answer → DecidesOver order bytes t → answer.status ≡ t
over_settled (Transform input output o) bytes answer t m d =
    made_settled bytes o (IsMade bytes o (Delivers output) answer) (t ≡ Done) answer t (λ x. transformable_of bytes o x.file x.plan x.made) (λ x e. x.uses.status ∙ sym e) m d
over_settled (Plan input o) bytes answer t m d =
    made_settled bytes o (IsMade bytes o TellsPlan answer) (t ≡ Done) answer t (λ x. transformable_of bytes o x.file x.plan x.made) (λ x e. x.uses.status ∙ sym e) m d
over_settled (Explain input o at) bytes answer t m d =
    made_settled bytes o (AreTold bytes o at answer) _ answer t (λ x. transformable_of bytes o x.is.output x.is.plan x.is.made)
    (λ x h. (code_told x.code at answer x.tells).0 ∙ sym (h x.code x.is)) m d
over_settled (Run file steps changes dump look) bytes answer t m d = run_settled look bytes steps changes dump answer t m d
over_settled (Campaign input o draws results) bytes answer t m d =
    made_settled bytes o (IsStruck bytes o draws results answer) _ answer t (λ x. transformable_of bytes o x.made.output x.course.plan x.made.transforms)
    (λ x h. x.tells.plain.status ∙ sym (h x.course x.tells.struck x.tells.trapped x.made x.tells.carried_out)) m d
over_settled (Slips input o draws results) bytes answer t m d =
    made_settled bytes o (HasSlipped bytes o draws results answer) (t ≡ Done) answer t (λ x. transformable_of bytes o x.made.output x.course.plan x.made.transforms)
    (λ x e. x.tells.plain.status ∙ sym e) m d
over_settled (Gen output seed size) bytes answer t m d = gens_settled output seed size answer t m d
over_settled (order.List file) bytes answer t m d =
    read_settled bytes (λ f. FileLists f answer) (λ f. InMemoryDecides f Done t) answer t
    (λ f x y. memory_settled f (IsPrinted f answer) Done answer t (λ p. p.plain.status) x y) m d
over_settled (Asm text output) bytes answer t m d = asm_settled bytes output answer t m d
over_settled (Harts files turns steps) bytes answer t m d = absurd m
over_settled (Tell topic) bytes answer t m d = m.status ∙ sym d

-- the status that an order decides by the name of its file
abbrev DecidesBy : Order → Option (List ℕ) → Files → Status → Type 0
DecidesBy order source files status =
    MatchOption source (DecidesOver order [] status)
    (λ name. Decided (limit_of (source_limit order)) (file_bytes files name) (DecidesOver order (file_bytes files name) status) status)

source_settled :
    (order : Order) (source : Option (List ℕ)) (files : Files) (rose : List ℕ → Type 0) (answer : Answer) (t : Status) → IfSome source (λ name. rose name → ⊥)
    → CallsBy order source files rose answer → DecidesBy order source files t → answer.status ≡ t
source_settled order None files rose answer t calm m d = over_settled order [] answer t m d
source_settled order (Some name) files rose answer t calm m d =
    calls_settled (source_limit order) (file_bytes files name) (rose name) (AnswersOver order (file_bytes files name) answer) (DecidesOver order (file_bytes files name) t) answer t (over_settled order (file_bytes files name) answer t) calm m d

-- what holds of all names holds of the one name
calm_one : (source : Option (List ℕ)) (rose : List ℕ → Type 0) → All (λ name. rose name → ⊥) (listed_rest source) → IfSome source (λ name. rose name → ⊥)
calm_one None rose calm = tt
calm_one (Some name) rose calm = All-head (λ name. rose name → ⊥) name [] calm

order_settled :
    (order : Order) (loads : LoadedFiles) (rose : List ℕ → Type 0) (answer : Answer) (t : Status) → All (λ name. rose name → ⊥) (source_names order)
    → OrderCallsFor order loads rose answer → OrderDecides order loads t → answer.status ≡ t
order_settled (Harts names turns steps) loads rose answer t calm m d =
    files_settled names [] turns steps loads rose answer t (recursion_from_All (λ name. rose name → ⊥) names calm) m d
order_settled order loads rose answer t calm m d = source_settled order (source_name order) (loads 0) rose answer t (calm_one (source_name order) rose calm) m d

words_settled :
    (ask : Result Order Reason) (loads : LoadedFiles) (rose : List ℕ → Type 0) (answer : Answer) (t : Status) → IfOk ask (λ order. All (λ name. rose name → ⊥) (source_names order))
    → WordsBy ask loads rose answer → MatchResult ask (λ order. OrderDecides order loads t) (λ reason. t ≡ Usage) → answer.status ≡ t
words_settled (Ok order) loads rose answer t calm m d = order_settled order loads rose answer t calm m d
words_settled (Err reason) loads rose answer t calm m d = m.status ∙ sym d

stores_calm :
    (ask : Result Order Reason) (stores : List ℕ → Type 0) → IfOk ask (λ order. IfSome (stored_name order) (λ name. stores name → ⊥))
    → IfSome (stored_by ask) (λ name. stores name → ⊥)
stores_calm (Ok order) stores calm = calm
stores_calm (Err reason) stores calm = tt

did_decided :
    (call : Call) (loads : LoadedFiles) (status decided : Status) → NoFault call → IsAnswered call loads status → Decides call.words loads decided
    → (status ≡ decided) ⊎ (status ≡ Memory)
did_decided call loads status decided calm d e =
    inl (sym d.same_status ∙ words_settled (asked call.words) loads (load_rose call) d.answer decided calm.load d.meant e)

write_decided : (call : Call) (loads : LoadedFiles) → NoFault call → EndsOver call loads WriteFault → ⊥
write_decided call loads calm (inl p) = calm.sink p.0
write_decided call loads calm (inr p) =
    no_store (stored_by (asked call.words)) p.answer.stored (store_rose call)
    (words_tells (asked call.words) loads (load_rose call) p.answer p.meant).named (stores_calm (asked call.words) (store_rose call) calm.store) p.cause

ends_decided :
    (call : Call) (loads : LoadedFiles) (status decided : Status) → NoFault call → EndsOver call loads status → Decides call.words loads decided
    → (status ≡ decided) ⊎ (status ≡ Memory)
ends_decided call loads WriteFault decided calm e d = absurd (write_decided call loads calm e)
ends_decided call loads Memory decided calm e d = inr refl
ends_decided call loads status decided calm e d = did_decided call loads status decided calm e d

pub ends_complete : (call : Call) (loads : LoadedFiles) (status : Status) → EndsOver call loads status → IsComplete call loads status
ends_complete call loads status e calm decided d = ends_decided call loads status decided calm e d

-- ---- after an answer was decided and carried out
answered : (call : Call) (status : Status) → Ends call status → Answers call status
answered call status e =
    loads_map call.old (λ loads. EndsOver call loads status) (HoldsOver call status)
    (λ loads o. record { headline = holds_headline call loads status o; ends = o; complete = ends_complete call loads status o }) e

-- an answer decided on a shelf, from one state to another, and then carried out
module _ {S K : Type 0} (shelf : shelves.Ghosts S) (sink : sinks.Ghosts K) (words : List (List ℕ)) (start decided end : S) (first last : K) (answer : Answer) (same : shelf.files decided ≡ shelf.files start) (meant : OverLoads (shelf.files start) (λ f. WordsCallFor words f (LoadRose shelf start decided) answer)) (loads : NoneFell (shelf.load_faults decided) (shelf.load_faults end)) (stores : NoneFell (shelf.store_faults start) (shelf.store_faults decided)) where
  abbrev pub this : Call
  this = call_on shelf sink words start end first last

  later : OverLoads this.old (λ f. WordsCallFor words f (load_rose this) answer)
  later =
      loads_map this.old (λ f. WordsCallFor words f (LoadRose shelf start decided) answer) (λ f. WordsCallFor words f (load_rose this) answer)
      (λ f m. meant_later words f (LoadRose shelf start decided) (load_rose this) (rose_later (shelf.load_faults start) (shelf.load_faults decided) (shelf.load_faults end) loads) answer m) meant

  since : (stored : Option Stored) → StoreRose stored (RoseAt (shelf.store_faults decided) (shelf.store_faults end)) → StoreRose stored (store_rose this)
  since None r = r
  since (Some s) r = rose_since (shelf.store_faults start) (shelf.store_faults decided) (shelf.store_faults end) stores s.name r

  ends : (status : Status) → ((loads : LoadedFiles) → WordsCallFor words loads (load_rose this) answer → EndsOver this loads status) → Answers this status
  ends status h = answered this status (loads_map this.old (λ f. WordsCallFor words f (load_rose this) answer) (λ f. EndsOver this f status) h later)

  after : FilesAfter answer.stored (shelf.files decided) this.new → FilesAfter answer.stored this.old this.new
  after stored = subst (λ (o : Option Files). FilesAfter answer.stored o this.new) same stored

  pub done_ended : FilesAfter answer.stored (shelf.files decided) this.new → Appends this.was this.now answer.text → Answers this answer.status
  done_ended stored text =
      ends answer.status
      (λ f m. did_ends this f answer.status (words_tells (asked words) f (load_rose this) answer m).printed (record { answer = answer; meant = m; same_status = refl; stored = after stored; printed = text }))

  pub print_ended : FilesAfter answer.stored (shelf.files decided) this.new → AppendsPrefix this.was this.now answer.text → sink_rose this → Answers this WriteFault
  print_ended stored text rose = ends WriteFault (λ f m. inl (rose, record { answer = answer; meant = m; stored = after stored; printed = text }))

  pub store_ended :
      StoreRose answer.stored (RoseAt (shelf.store_faults decided) (shelf.store_faults end)) → FilesInPart answer.stored (shelf.files decided) this.new
      → this.now ≡ this.was → Answers this WriteFault
  store_ended cause stored text =
      let part = subst (λ (o : Option Files). FilesInPart answer.stored o this.new) same stored in
      ends WriteFault (λ f m. inr (record { answer = answer; meant = m; cause = since answer.stored cause; stored = part; printed = text }))

  short :
      (f : LoadedFiles) → WordsCallFor words f (load_rose this) answer → SteadyOrReadFault (KeepsShelf this) answer → this.after.sink ≡ this.before.sink
      → (IsSome answer.stored × (this.new ≡ shelf.files decided) × (this.now ≡ this.was)) ⊎ (FilesAfter answer.stored (shelf.files decided) this.new × AppendsPrefix this.was this.now answer.text)
      → EndsOver this f Memory
  short f m steady calm (inl none) = inl (record { stored = none.1 ∙ same; printed = none.2; shelf = steady_store (KeepsShelf this) answer steady none.0; sink = calm })
  short f m steady calm (inr part) = inr (record {
    stopped = record { answer = answer; meant = m; stored = after part.0; printed = part.1 };
    shelf = steady_other (KeepsShelf this) answer steady;
    sink = calm;
  })

  pub memory_ended :
      SteadyOrReadFault (IsFaultless shelf start decided) answer → IsFaultless shelf decided end → this.after.sink ≡ this.before.sink
      → (IsSome answer.stored × (this.new ≡ shelf.files decided) × (this.now ≡ this.was)) ⊎ (FilesAfter answer.stored (shelf.files decided) this.new × AppendsPrefix this.was this.now answer.text)
      → Answers this Memory
  memory_ended before carried calm part = ends Memory (λ f m. short f m (steady_then shelf start decided end answer before carried) calm part)

-- no answer was decided
pub soon_ended :
    {S K : Type 0} (shelf : shelves.Ghosts S) (sink : sinks.Ghosts K) (words : List (List ℕ)) (start decided : S) (first : K) → shelf.files decided ≡ shelf.files start
    → IsFaultless shelf start decided → Answers (call_on shelf sink words start decided first first) Memory
soon_ended shelf sink words start decided first same steady =
    let call = call_on shelf sink words start decided first first in
    answered call Memory (always_loads call.old (λ f. EndsOver call f Memory) (λ f. inl (record { stored = same; printed = refl; shelf = steady; sink = refl })))
