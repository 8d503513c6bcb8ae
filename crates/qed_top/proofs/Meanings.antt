-- From what was read and made to the meaning of the words.
use Rattle.std.proofs.Common.{◌≡◌, ◌≤◌, ◌<◌, ◌+◌, ℕ, Bool, false, List, [], length, Option, None, Some, IfSome, refl, ap, sym, ◌∙◌, subst, arith}
use Rattle.std.specs.Prelude.{MatchOption, MatchResult, Result, Ok, Err, replicate, unwrap_or, cond}
use Rattle.std.specs.Cmp.{eq_by_cmp_equiv}
use Rattle.std.specs.Cmp.Lexicographic.{nat_list_cmp_total}
use Rattle.std.specs.FinMap.{empty, get, insert, get-insert}
use Rattle.std.proofs.lemmas.List.{length-replicate}
use Rattle.machine.specs.declared.limits.Limit.{Limit}
use Rattle.qed_words.specs.Text.Plan.{read_fault_line}
use Rattle.machine.specs.Program.{start, zeros}
use Rattle.machine.specs.Loading.{loaded_file, ElfFile}
use Rattle.machine.specs.Progress.{Progress, first_state}
use Rattle.fault_inject.specs.Astray.{changed_run, first_astray}
use Rattle.qed_top.specs.Answer.{PrintsOnly, CallsFor, read_fault, too_long, within, limit_of, limit_line}
use Rattle.fault_inject.specs.Counted.{changed_steps}
use Rattle.fault_inject.specs.Slipped.{slipped_run, slipped_steps}
use Rattle.rv_step.specs.declared.slip.SlipAt.{SlipAt}
use Rattle.qed_top.specs.Run.{memory_bytes, memory_limit, outcome_status, run_of, slipped_of, FileRuns, is_reached_word, astray_in_run, run_text, Test, Change, Outcome}
use Rattle.qed_top.specs.Run as run
use Rattle.qed_top.specs.Orders.{AnswersOver, IsUsage, OrderCallsFor, SourceCallsFor, WordsCallFor, reads_several, source_limit, source_name, Order, Harts, asked, Reason}
use Rattle.qed_top.specs.Loads.{LoadedFiles, OverFiles, OverLoads, Files, file_bytes}
use Rattle.qed_top.specs.declared.answer.Answer.{Answer}
use Rattle.qed_top.specs.declared.status.Status.{Status}
use Rattle.qed_top.specs.declared.status.Status.TheVariants as status

-- ---- files
-- what holds of all files holds of those that contracts know
pub always : (told : Option Files) (P : Files → Type 0) → ((files : Files) → P files) → OverFiles told P
always None P h = record { files = empty; same = tt; holds = h empty }
always (Some f) P h = record { files = f; same = refl; holds = h f }

pub over_map : (told : Option Files) (P Q : Files → Type 0) → ((files : Files) → P files → Q files) → OverFiles told P → OverFiles told Q
over_map told P Q h o = record { files = o.files; same = o.same; holds = h o.files o.holds }

told_or : (told : Option Files) (P : Files → Type 0) (files : Files) → P files → IfSome told P → OverFiles told P
told_or None P files p h = record { files = files; same = tt; holds = p }
told_or (Some f) P files p h = record { files = f; same = refl; holds = h }

-- what holds of the files at all loads holds of those that contracts know
pub always_loads : (told : Option Files) (P : LoadedFiles → Type 0) → ((loads : LoadedFiles) → P loads) → OverLoads told P
always_loads None P h = record { loads = λ k. empty; same = tt; holds = h (λ k. empty) }
always_loads (Some f) P h = record { loads = λ k. f; same = λ k. refl; holds = h (λ k. f) }

pub loads_map : (told : Option Files) (P Q : LoadedFiles → Type 0) → ((loads : LoadedFiles) → P loads → Q loads) → OverLoads told P → OverLoads told Q
loads_map told P Q h o = record { loads = o.loads; same = o.same; holds = h o.loads o.holds }

pub same_each : (told : Option Files) (files : Files) → IfSome told (λ f. f ≡ files) → IfSome told (λ f. ℕ → f ≡ files)
same_each None files e = tt
same_each (Some f) files e = λ k. e

-- equal files at each load
pub over_loads : (told : Option Files) (P : Files → Type 0) → OverFiles told P → OverLoads told (λ loads. P (loads 0))
over_loads told P o = record { loads = λ k. o.files; same = same_each told o.files o.same; holds = o.holds }

-- some files have these bytes under a name
file_bytes-insert : (files : Files) (name bytes : List ℕ) → file_bytes (insert files name bytes) name ≡ bytes
file_bytes-insert files name bytes =
    ap (λ o. unwrap_or o []) (get-insert nat_list_cmp_total files name bytes name)
    ∙ ap (λ b. unwrap_or (cond b (Some bytes) (get files name)) []) ((eq_by_cmp_equiv nat_list_cmp_total).refl name)

-- ---- meanings
-- more counts may have risen, and the answer within the limit may be put otherwise
pub calls_more :
    (limit : Limit) (bytes : List ℕ) (rose later V W : Type 0) (answer : Answer) → (rose → later) → (V → W) → CallsFor limit bytes rose V answer
    → CallsFor limit bytes later W answer
calls_more limit bytes rose later V W answer h w (read_fault r) = read_fault (record { cause = h r.cause; plain = r.plain })
calls_more limit bytes rose later V W answer h w (too_long t) = too_long t
calls_more limit bytes rose later V W answer h w (within small v) = within small (w v)

-- loaded bytes are those under the name
pub over_have :
    (told : Option Files) (name bytes : List ℕ) (P : List ℕ → Type 0) → IfSome told (λ f. bytes ≡ file_bytes f name) → P bytes
    → OverFiles told (λ f. P (file_bytes f name))
over_have told name bytes P loaded p =
    let same = file_bytes-insert empty name bytes in
    over_map told (λ f. bytes ≡ file_bytes f name) (λ f. P (file_bytes f name)) (λ f e. subst P e p)
    (told_or told (λ f. bytes ≡ file_bytes f name) (insert empty name bytes) (sym same) loaded)

-- the meaning of a command with a limit over the bytes under a name; W is the answer over bytes within the limit
module _ (told : Option Files) (name : List ℕ) (limit : Limit) (rose : Type 0) (W : List ℕ → Type 0) (answer : Answer) where
  abbrev pub OverCommand : Type 0
  OverCommand = OverFiles told (λ f. CallsFor limit (file_bytes f name) rose (W (file_bytes f name)) answer)

  -- the bytes were loaded
  pub over_bytes : (bytes : List ℕ) → IfSome told (λ f. bytes ≡ file_bytes f name) → length bytes ≤ limit_of limit → W bytes → OverCommand
  over_bytes bytes loaded small meant = over_have told name bytes (λ b. CallsFor limit b rose (W b) answer) loaded (within small meant)

  -- the load failed
  pub over_fault : rose → PrintsOnly status.ReadFault read_fault_line answer → OverCommand
  over_fault cause plain = always told (λ f. CallsFor limit (file_bytes f name) rose (W (file_bytes f name)) answer) (λ f. read_fault (record { cause = cause; plain = plain }))

  -- the file is too long
  long_file : limit_of limit < length (file_bytes (insert empty name (replicate (limit_of limit + 1) 0)) name)
  long_file = rw (file_bytes-insert empty name (replicate (limit_of limit + 1) 0), length-replicate) (omega arith)

  pub over_limit : IfSome told (λ f. limit_of limit < length (file_bytes f name)) → PrintsOnly status.Limit (limit_line limit 0) answer → OverCommand
  over_limit cause plain =
      over_map told (λ f. limit_of limit < length (file_bytes f name)) (λ f. CallsFor limit (file_bytes f name) rose (W (file_bytes f name)) answer)
      (λ f long. too_long (record { cause = long; plain = plain }))
      (told_or told (λ f. limit_of limit < length (file_bytes f name)) (insert empty name (replicate (limit_of limit + 1) 0)) long_file cause)

  -- the bytes were not loaded, so the answer over them does not matter
  pub over_other : OverFiles told (λ f. CallsFor limit (file_bytes f name) rose ⊥ answer) → OverCommand
  over_other o =
      over_map told (λ f. CallsFor limit (file_bytes f name) rose ⊥ answer) (λ f. CallsFor limit (file_bytes f name) rose (W (file_bytes f name)) answer)
      (λ f m. calls_more limit (file_bytes f name) rose rose ⊥ (W (file_bytes f name)) answer (λ r. r) (λ none. absurd none) m) o

-- ---- orders
-- the meaning of an order, by the name of its file
abbrev pub CallsBy : Order → Option (List ℕ) → Files → (List ℕ → Type 0) → Answer → Type 0
CallsBy order source files rose answer =
    MatchOption source (AnswersOver order [] answer)
    (λ name. CallsFor (source_limit order) (file_bytes files name) (rose name) (AnswersOver order (file_bytes files name) answer) answer)

-- an order that reads no file
pub over_none :
    (told : Option Files) (order : Order) (rose : List ℕ → Type 0) (answer : Answer) → source_name order ≡ None → AnswersOver order [] answer
    → OverFiles told (λ f. SourceCallsFor order f rose answer)
over_none told order rose answer e a = always told (λ f. SourceCallsFor order f rose answer) (λ f. subst (λ (source : Option (List ℕ)). CallsBy order source f rose answer) (sym e) a)

-- an order that reads a file
pub over_source :
    (told : Option Files) (order : Order) (name : List ℕ) (rose : List ℕ → Type 0) (answer : Answer) → source_name order ≡ Some name
    → OverFiles told (λ f. CallsFor (source_limit order) (file_bytes f name) (rose name) (AnswersOver order (file_bytes f name) answer) answer)
    → OverFiles told (λ f. SourceCallsFor order f rose answer)
over_source told order name rose answer e o =
    over_map told (λ f. CallsFor (source_limit order) (file_bytes f name) (rose name) (AnswersOver order (file_bytes f name) answer) answer) (λ f. SourceCallsFor order f rose answer)
    (λ f m. subst (λ (source : Option (List ℕ)). CallsBy order source f rose answer) (sym e) m) o

-- an order that reads at most one file
pub over_one :
    (told : Option Files) (order : Order) (rose : List ℕ → Type 0) (answer : Answer) → reads_several order ≡ false → OverFiles told (λ f. SourceCallsFor order f rose answer)
    → OverLoads told (λ loads. OrderCallsFor order loads rose answer)
over_one told (Harts files turns steps) rose answer e o = cc
over_one told order rose answer e o = over_loads told (λ f. SourceCallsFor order f rose answer) o

-- ---- words
-- the meaning of words, by the order that they ask for
abbrev pub WordsBy : Result Order Reason → LoadedFiles → (List ℕ → Type 0) → Answer → Type 0
WordsBy ask loads rose answer = MatchResult ask (λ order. OrderCallsFor order loads rose answer) (λ reason. IsUsage reason answer)

-- the words ask for an order, or for nothing
pub over_order :
    (told : Option Files) (words : List (List ℕ)) (order : Order) (rose : List ℕ → Type 0) (answer : Answer) → asked words ≡ Ok order
    → OverLoads told (λ loads. OrderCallsFor order loads rose answer) → OverLoads told (λ loads. WordsCallFor words loads rose answer)
over_order told words order rose answer e o =
    loads_map told (λ loads. OrderCallsFor order loads rose answer) (λ loads. WordsCallFor words loads rose answer)
    (λ loads m. subst (λ (ask : Result Order Reason). WordsBy ask loads rose answer) (sym e) m) o

pub over_usage :
    (told : Option Files) (words : List (List ℕ)) (reason : Reason) (rose : List ℕ → Type 0) (answer : Answer) → asked words ≡ Err reason → IsUsage reason answer
    → OverLoads told (λ loads. WordsCallFor words loads rose answer)
over_usage told words reason rose answer e plain =
    always_loads told (λ loads. WordsCallFor words loads rose answer) (λ loads. subst (λ (ask : Result Order Reason). WordsBy ask loads rose answer) (sym e) plain)

-- ---- `run`
-- the text about its jumps, by a set of addresses
pub was_told :
    (f : ElfFile) (t : Test) (steps : ℕ) (changes : List Change) (reached : ℕ → Bool) (machine : Progress) (astray : Option (ℕ × ℕ))
    → ((a : ℕ) → reached a ≡ is_reached_word f t a) → machine ≡ first_state (start (loaded_file f) zeros)
    → astray ≡ first_astray reached machine.state changes steps → astray ≡ astray_in_run f t steps changes
was_told f t steps changes reached machine astray same begins is =
    is
    ∙ ap (λ m. first_astray reached m.state changes steps) begins
    ∙ ap (λ r. first_astray r (start (loaded_file f) zeros) changes steps) (λ i a. same a i)

-- a machine at the start of a file was run with changes, and perhaps a slip
pub has_run :
    (f : ElfFile) (steps : ℕ) (changes : List Change) (begun ended : Progress) → begun ≡ first_state (start (loaded_file f) zeros)
    → ended.state ≡ changed_run begun.state changes steps → ended.steps ≡ changed_steps begun changes steps → ended ≡ run_of f steps changes
has_run f steps changes begun ended begins state made =
    ap (λ s. record { state = s; steps = ended.steps }) state
    ∙ ap (λ n. record { state = changed_run begun.state changes steps; steps = n }) made
    ∙ ap (λ p. record { state = changed_run p.state changes steps; steps = changed_steps p changes steps }) begins

pub has_slipped :
    (f : ElfFile) (steps : ℕ) (changes : List Change) (at : SlipAt) (begun ended : Progress) → begun ≡ first_state (start (loaded_file f) zeros)
    → ended.state ≡ slipped_run begun.state changes at steps → ended.steps ≡ slipped_steps begun changes at steps → ended ≡ slipped_of f steps changes at
has_slipped f steps changes at begun ended begins state made =
    ap (λ s. record { state = s; steps = ended.steps }) state
    ∙ ap (λ n. record { state = slipped_run begun.state changes at steps; steps = n }) made
    ∙ ap (λ p. record { state = slipped_run p.state changes at steps; steps = slipped_steps p changes at steps }) begins

-- the machine of a small enough file was run
pub was_run :
    (f : ElfFile) (meant : Progress) (second : List ℕ) (dump : Option (ℕ × ℕ)) (ended : Progress) (o : Outcome) (text : List ℕ) (s : Status) (answer : Answer)
    → memory_bytes f.segments ≤ memory_limit → ended ≡ meant → o ≡ ended.state.outcome
    → text ≡ run_text ended second dump → s ≡ outcome_status o → PrintsOnly s text answer → FileRuns f meant second dump answer
was_run f meant second dump ended o text s answer small is how lines gives plain =
    run.fits small (record {
      status = plain.status ∙ gives ∙ ap outcome_status (how ∙ ap (λ p. p.state.outcome) is);
      text = plain.text ∙ lines ∙ ap (λ p. run_text p second dump) is;
      stored = plain.stored;
    })
