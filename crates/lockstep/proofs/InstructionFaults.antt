-- A wrong instruction is caught, in any weave, in a plan of a form, and in each woven test.
use Rattle.std.proofs.Common.{◌≡◌, ◌≢◌, ℕ, zero, suc, ◌+◌, ◌-◌, ◌*◌, ◌/◌, ◌<◌, ◌≤◌, ◌⊎◌, Bool, true, cond, List, ◌∷◌, length, Some, refl, sym, ap, ◌∙◌, subst, arith}
use Rattle.std.proofs.Math.Nat.{mul-le-mul}
use Rattle.std.proofs.lemmas.Option.{same_Some}
use Rattle.qed_model.specs.declared.bounds.Bounds.{Bounds}
use Rattle.qed_model.specs.declared.plan.Plan.{Plan}
use Rattle.tests.specs.Admission.DataRanges.{data_ranges, word_count, ElfFile}
use Rattle.tests.specs.Admission.Reached.{AreReached}
use Rattle.qed_model.specs.Promise.Kept.{after_output}
use Rattle.qed_model.specs.Promise.Caught.{Same}
use Rattle.qed_model.specs.Promise.Changed.{changed_run}
use Rattle.qed_model.specs.Promise.OwnSteps.{Covers}
use Rattle.qed_model.specs.Promise.InStep.{SettlesWithin}
use Rattle.qed_model.specs.Weave.Blocks.{begins_at, Options}
use Rattle.qed_model.specs.Weave.Bounds.{end_bound, word_bound}
use Rattle.qed_model.specs.Weave.Sequences.{Block, Ins}
use Rattle.qed_model.specs.Weave.Woven.{compared, IsPlanOf}
use Rattle.weave_core.specs.Leaving.{sweep_cost}
use Rattle.weave_core.specs.Lock.{span_bytes, Undisturbed}
use Rattle.weave_core.specs.Tests.{IsWovenTest}
use Rattle.weave_core.specs.WeavePromise.{PlanOf}
use Rattle.weave_core.specs.WeaveForms.{weave_of}
use Rattle.weave_core.specs.Rows.{Mirrors}
use Rattle.weave_core.specs.Promise.{piece_of, start_of}
use Rattle.weave_core.specs.Weave.{most_before_start, stage_steps}
use Rattle.tests.specs.Admission.Places.{image_of}
use Rattle.weave_core.specs.World.{World, Going, Ended, Fired, Program, start, AreStartRegs, State, Known, next, run}
use Rattle.weave_core.proofs.Lemmas.{mirrors_of, form_rows, form_starts}
use Rattle.weave_core.proofs.TestKept as kept
use Rattle.lockstep.specs.Closes.{Closes}
use Rattle.qed_model.specs.Promise.Faults.{misled, FaultsFound}
use Rattle.lockstep.specs.InstructionFaults.{InstructionFaultsAreCaught, TestsPlaces, TestsFaultsClean}
use Rattle.lockstep.specs.Promise.{IsBoundsOf}
use Rattle.lockstep.specs.WrongOnce.{WrongOnce, results, stores, elsewhere, PlacesFound, FaultsClean}
use Rattle.lockstep.proofs.AsChanges.{AsChanges, as_changes, is_stored, ordered, last_is, before_it, behind_it}
use Rattle.lockstep.proofs.Cleaned.{CleanAll}
use Rattle.lockstep.proofs.FormWords.{form_words, bounds_in, plan_caught_all, plan_clean_all, stage_is, start_is}
use Rattle.lockstep.proofs.Promise.{CaughtAll}
use Rattle.lockstep.proofs.Doom.{fires_break}
use Rattle.lockstep.proofs.Calm.{CalmCode, quiet_run}
use Rattle.lockstep.proofs.Weaves.{calm_plan}
use Rattle.lockstep.proofs.Tests as tests
use Rattle.lockstep.proofs.WrongSteps.{found_out}
use Rattle.lockstep.proofs.WrongWays.{wrong_way}

-- the bound of a word has two pieces
big_word : (words round first piece b : ℕ) → 2 ≤ piece → word_bound words round first piece ≡ Some b → 2 ≤ b
big_word zero round first piece b h e = absurd (cc)
big_word (suc n) round first piece b h e =
    let is : first + ((suc n + round - 1) / round + 2) * piece ≡ b = same_Some _ _ e in
    let one : 1 ≤ (suc n + round - 1) / round + 2 = omega arith in
    let m : 1 * 2 ≤ ((suc n + round - 1) / round + 2) * piece = mul-le-mul one h in
    omega (arith, is, m)

-- ---- in calm code
module _ (f g : Program) (w : World) (before per : ℕ) (code : CalmCode f g w before per) where
  -- the run is quiet at a step before the last two that are covered
  quiet_here :
      (regs : List ℕ) (are : AreStartRegs regs) (n m : ℕ) → n + 2 ≤ m → Covers f g w.reached before per regs m → (after_output g regs n).outcome ≡ Going
      → Undisturbed w.code (span_bytes w.form.spans) (after_output g regs n)
  quiet_here regs are n m h covers go = (quiet_run f g w before per code regs are m covers).each n (omega (arith, h)) go

  -- an instruction that goes wrong once settles as changes do
  settles_once :
      (bounds : Bounds) → CaughtAll f g w before per bounds → (regs : List ℕ) (n b : ℕ) (i : Ins) (o : State) → AreStartRegs regs → (after_output g regs n).outcome ≡ Going → next (after_output g regs n) ≡ Known i
      → (x : WrongOnce w.form.spans i (after_output g regs n) o) → cond (is_stored x) bounds.word (Some bounds.register) ≡ Some b → 2 ≤ b → Covers f g w.reached before per regs (n + 1 + b)
      → SettlesWithin w.form.spans 0 b (run o) (λ k. after_output g regs (n + 1 + k))
  settles_once bounds caught regs n b i o are go at x bound big covers =
      let calm = quiet_here regs are n (n + 1 + b) (omega (arith, big)) covers go in
      by (as_changes f g w before per code regs are n i go at calm o x) where
        by : AsChanges f g w before per code regs are n i go at (quiet_here regs are n (n + 1 + b) (omega (arith, big)) covers go) o (is_stored x) → SettlesWithin w.form.spans 0 b (run o) (λ k. after_output g regs (n + 1 + k))
        by c =
            let calm = quiet_here regs are n (n + 1 + b) (omega (arith, big)) covers go in
            let last = last_is f g w before per code regs are n i go at calm o (is_stored x) c in
            found_out w.form.spans (start g regs) (changed_run (start g regs) (c.head ∷ c.tail)) o (n + 1) b c.going
            (before_it f g w before per code regs are n i go at calm o (is_stored x) c)
            (behind_it f g w before per code regs are n i go at calm o (is_stored x) c)
            (subst (λ t. SettlesWithin w.form.spans t b (changed_run (start g regs) (c.head ∷ c.tail)) (after_output g regs)) last
            (caught.settles regs (c.head ∷ c.tail) b are (ordered f g w before per code regs are n i go at calm o (is_stored x) c) c.free
            (ap (λ q. cond q bounds.word (Some bounds.register)) c.word ∙ bound)
            (subst (λ t. Covers f g w.reached before per regs (t + b)) (sym last) covers)
            (subst (λ t. (after_output g regs t).outcome ≡ Going) (sym last) c.going)))

  pub faults_found :
      (bounds : Bounds) → 2 ≤ bounds.register → ((b : ℕ) → bounds.word ≡ Some b → 2 ≤ b) → CaughtAll f g w before per bounds
      → FaultsFound f g w.reached w.form.spans bounds before per
  faults_found bounds big wide caught = record {
    results = λ regs n i o are go at wr any covers. settles_once bounds caught regs n bounds.register i o are go at (results wr any) refl big covers;
    stores = λ regs n b i o are go at so any bound covers. settles_once bounds caught regs n b i o are go at (stores so any) bound (wide b bound) covers;
    comparisons = λ regs n i go brk. fires_break (misled i (run (start g regs) n)) go brk;
    branches = λ regs n i are go at checked covered. wrong_way f g w before per code regs are n i go at checked covered;
  }

  pub places_found : (bounds : Bounds) → ((b : ℕ) → bounds.word ≡ Some b → 2 ≤ b) → CaughtAll f g w before per bounds → PlacesFound f g w.reached w.form.spans bounds before per
  places_found bounds wide caught = record { found = λ regs n b i o are go at e bound covers. settles_once bounds caught regs n b i o are go at (elsewhere e) bound (wide b bound) covers }

  -- with the sweep none ends silently
  pub faults_clean : (last : ℕ) → 1 ≤ last → CleanAll f g w before per last → FaultsClean f g w.reached w.form.spans last before per
  faults_clean last some clean = record {
    settles = λ regs n e i o are go at x early ended first covers. by regs n e i o are go at x early ended first covers (quiet_here regs are n e (omega (arith, some, early)) covers go);
  } where
    by :
        (regs : List ℕ) (n e : ℕ) (i : Ins) (o : State) (are : AreStartRegs regs) (go : (after_output g regs n).outcome ≡ Going) (at : next (after_output g regs n) ≡ Known i)
        → WrongOnce w.form.spans i (after_output g regs n) o → n + 1 + last ≤ e → (after_output g regs e).outcome ≡ Ended → ((k : ℕ) → k < e → (after_output g regs k).outcome ≢ Ended)
        → Covers f g w.reached before per regs e → Undisturbed w.code (span_bytes w.form.spans) (after_output g regs n)
        → ((run o (e - (n + 1))).outcome ≡ Fired) ⊎ (((run o (e - (n + 1))).outcome ≡ Ended) × Same w.form.spans (run o (e - (n + 1))) (after_output g regs e))
    by regs n e i o are go at x early ended first covers calm =
        let c = as_changes f g w before per code regs are n i go at calm o x in
        let l = last_is f g w before per code regs are n i go at calm o (is_stored x) c in
        let sum : n + 1 + (e - (n + 1)) ≡ e = omega (arith, early) in
        let there : changed_run (start g regs) (c.head ∷ c.tail) e ≡ run o (e - (n + 1)) = ap (changed_run (start g regs) (c.head ∷ c.tail)) (sym sum) ∙ behind_it f g w before per code regs are n i go at calm o (is_stored x) c (e - (n + 1)) in
        subst (λ y. (y.outcome ≡ Fired) ⊎ ((y.outcome ≡ Ended) × Same w.form.spans y (after_output g regs e))) there
        (clean.settles regs (c.head ∷ c.tail) e are (ordered f g w before per code regs are n i go at calm o (is_stored x) c) c.free (omega (arith, early, l)) ended first covers)

-- ---- in a plan of a form
module _ (f g : Program) (w : World) (most : ℕ) (blocks : List Block) (p : PlanOf f g w (weave_of w.form most) blocks) (law : Mirrors w) (closes : Closes f g w blocks) (some : 1 ≤ w.form.round) where
  abbrev first : ℕ
  first = most_before_start (weave_of w.form most)

  abbrev per : ℕ
  per = stage_steps (weave_of w.form most)

  code : CalmCode f g w first per
  code = calm_plan f g w (weave_of w.form most) blocks p (form_rows w most (begins_at blocks) law).rows (form_starts w most (begins_at blocks) f g) (form_words w.form most closes.mirrors) closes.only (omega arith)

  -- what is said of the steps of the weave, of those of the form
  of_form : (P : ℕ → ℕ → Type 0) → P first per → P (start_of w.form) (piece_of w.form most)
  of_form P x = subst (λ n. P n (piece_of w.form most)) (sym (start_is w most)) (subst (P first) (sym (stage_is w most)) x)

  wide : (bounds : Bounds) → IsBoundsOf w.form most bounds → (n : ℕ) → bounds.word ≡ Some n → 2 ≤ n
  wide bounds b n e = let are = bounds_in w most bounds b in big_word (word_count w.form.spans) w.form.round first per n (omega arith) (sym are.word ∙ e)

  pub plan_faults : (bounds : Bounds) → IsBoundsOf w.form most bounds → FaultsFound f g w.reached w.form.spans bounds (start_of w.form) (piece_of w.form most)
  plan_faults bounds b =
      let are = bounds_in w most bounds b in
      of_form (FaultsFound f g w.reached w.form.spans bounds) (faults_found f g w first per code bounds (omega (arith, are.register)) (wide bounds b) (plan_caught_all f g w most blocks bounds p law closes some b))

  pub plan_places : (bounds : Bounds) → IsBoundsOf w.form most bounds → PlacesFound f g w.reached w.form.spans bounds (start_of w.form) (piece_of w.form most)
  plan_places bounds b = of_form (PlacesFound f g w.reached w.form.spans bounds) (places_found f g w first per code bounds (wide bounds b) (plan_caught_all f g w most blocks bounds p law closes some b))

  pub plan_faults_clean : w.form.sweep ≡ true → FaultsClean f g w.reached w.form.spans (sweep_cost w.form.spans + 14) (start_of w.form) (piece_of w.form most)
  plan_faults_clean sweeps =
      of_form (FaultsClean f g w.reached w.form.spans (sweep_cost w.form.spans + 14)) (faults_clean f g w first per code (sweep_cost w.form.spans + 14) (omega arith) (plan_clean_all f g w most blocks p law closes some sweeps))

-- ---- of each test
module _ (f : ElfFile) (o : Options) (blocks : List Block) (words : List ℕ) (t : IsWovenTest f o blocks words) (reached : ℕ → Bool) (aims : AreReached f o reached) where
  abbrev w : World
  w = kept.w f o t.sound t.file.loads t.admitted blocks t.are words t.code t.few reached aims

  abbrev input : Program
  input = tests.input f o t.sound t.file.loads t.admitted blocks t.are words t.code t.few reached aims

  abbrev output : Program
  output = tests.output f o t.sound t.file.loads t.admitted blocks t.are words t.code t.few reached aims

  plan_is : PlanOf input output w (weave_of w.form o.inst_max) blocks
  plan_is = kept.plan f o t.sound t.file.loads t.admitted blocks t.are words t.code t.few reached aims

  mirrors : Mirrors w
  mirrors = mirrors_of o.diverse w refl refl

  closed : Closes input output w blocks
  closed = tests.closes f o t.sound t.file.loads t.admitted blocks t.are words t.code t.few reached aims

  module _ (plan : Plan) (told : IsPlanOf (compared f o blocks) f o blocks plan) where
    test_faults : FaultsFound input output reached (data_ranges (image_of f)) plan.bounds plan.bounds.start plan.bounds.piece
    test_faults = subst (λ b. FaultsFound input output reached (data_ranges (image_of f)) plan.bounds b.start b.piece) (sym told.bounds) (plan_faults input output w o.inst_max blocks plan_is mirrors closed t.sound.visits plan.bounds (tests.told_bounds f o blocks plan told))

    test_places : PlacesFound input output reached (data_ranges (image_of f)) plan.bounds plan.bounds.start plan.bounds.piece
    test_places = subst (λ b. PlacesFound input output reached (data_ranges (image_of f)) plan.bounds b.start b.piece) (sym told.bounds) (plan_places input output w o.inst_max blocks plan_is mirrors closed t.sound.visits plan.bounds (tests.told_bounds f o blocks plan told))

  test_faults_clean :
      o.sweep ≡ true
      → FaultsClean input output reached (data_ranges (image_of f)) (end_bound true (length (data_ranges (image_of f))) (word_count (data_ranges (image_of f)))) (compared f o blocks).bounds.start (compared f o blocks).bounds.piece
  test_faults_clean swept = plan_faults_clean input output w o.inst_max blocks plan_is mirrors closed t.sound.visits swept

pub instruction_faults_are_caught : InstructionFaultsAreCaught
instruction_faults_are_caught f o blocks words plan t told reached aims = test_faults f o blocks words t reached aims plan told

pub tests_places : TestsPlaces
tests_places f o blocks words plan t told reached aims = test_places f o blocks words t reached aims plan told

pub tests_faults_clean : TestsFaultsClean
tests_faults_clean f o blocks words t swept reached aims = test_faults_clean f o blocks words t reached aims swept
