-- With the sweep a run with one wrong instruction that ends has the input's values.
use Rattle.std.proofs.Common.{◌≡◌, ◌≢◌, ℕ, zero, suc, ◌+◌, ◌^◌, ◌<◌, ◌≤◌, ◌⊎◌, inl, inr, ⊎_elim, Bool, true, false, Some, List, [], ◌∷◌, refl, sym, ap, ◌∙◌, subst, arith}
use Rattle.std.specs.Prelude.{◌-◌}
use Rattle.std.proofs.lemmas.Bool.{cases_lt, false≢true}
use Rattle.rv_isa.specs.declared.class.Class.TheVariants as class
use Rattle.machine.specs.declared.outcome.Outcome.{Outcome}
use Rattle.machine.specs.declared.outcome.Outcome.TheVariants.{Fired, Trapped}
use Rattle.machine.specs.Program.{Program, AreStartRegs}
use Rattle.machine.specs.Table.{Ins}
use Rattle.qed_model.specs.declared.bounds.Bounds.{Bounds}
use Rattle.tests.specs.Admission.DataRanges.{word_count}
use Rattle.qed_model.specs.Promise.Changed.{IsDataWord}
use Rattle.qed_model.specs.Weave.LeanBounds.{word_bound}
use Rattle.qed_model.specs.Promise.Faults.{WritesOriginal, StoresOriginal, FaultsFound}
use Rattle.qed_model.specs.Promise.InStep.{IsSettled, SettlesWithin}
use Rattle.qed_model.specs.Promise.Kept.{after_input, after_output, is_mapped, Halves, is_trapped, NotTrapped, Steady}
use Rattle.qed_model.specs.Promise.OwnSteps.{arrival, Covers, KeptInStep}
use Rattle.qed_model.specs.Weave.Sequences.{Block}
use Rattle.weave_core.specs.World.{Going, Ended, Known, next, start, State, step, run, class_of}
use Rattle.lockstep.specs.WrongOnce.{WrongOnce, results, stores, elsewhere, PlacesFound, FaultsClean}
use Rattle.lean.specs.Strayed.{IsOver}
use Rattle.lean.specs.Slips.{Slips, own, duplicates, others, idles, NoWrongEnd}
use Rattle.lean.specs.Undisturbed.{Undisturbed, EndsRight}
use Rattle.lean.proofs.Weave.Carry.{run-last, run-more}
use Rattle.lean.proofs.Weave.EndsRight.{ended_later, ends_not_over}
use Rattle.lean.proofs.Weave.Silent.{idle_same}

-- ---- the first end of a run
-- an outcome is the end, or not
ended_or : (o : Outcome) → (o ≡ Ended) ⊎ (o ≢ Ended)
ended_or Ended = inl refl
ended_or Going = inr (λ e. absurd (cc))
ended_or Fired = inr (λ e. absurd (cc))
ended_or (Trapped c p) = inr (λ e. absurd (cc))

record FirstEnd (s : State) : Type 0 where
  at : ℕ
  ended : (run s at).outcome ≡ Ended
  before : (k : ℕ) → k < at → (run s k).outcome ≢ Ended

first_end : (s : State) (t : ℕ) → (run s t).outcome ≡ Ended → FirstEnd s
first_end s t e = seek t 0 (omega arith) (λ k h. absurd (omega (arith, h))) where
  seek : (fuel k : ℕ) → k + fuel ≡ t → ((j : ℕ) → j < k → (run s j).outcome ≢ Ended) → FirstEnd s
  seek zero k sum none = record { at = t; ended = e; before = λ j h. none j (omega (arith, h, sum)) }
  seek (suc fuel) k sum none =
      ⊎_elim (λ x. record { at = k; ended = x; before = none }) (λ x. seek fuel (suc k) (omega (arith, sum)) (λ j h. ⊎_elim (λ lt. none j lt) (λ ge. let q : j ≡ k = omega (arith, h, ge) in subst (λ z. (run s z).outcome ≢ Ended) (sym q) x) (cases_lt j k))) (ended_or (run s k).outcome)

-- two ends of a run are one
ends_same : (v : State) (j k : ℕ) → (run v j).outcome ≡ Ended → (run v k).outcome ≡ Ended → run v j ≡ run v k
ends_same v j k a b = ⊎_elim (λ lt. sym (ended_later v j k (omega (arith, lt)) a)) (λ ge. ended_later v k j ge b) (cases_lt j k)

-- a run that ends never fires
never_fires : (v : State) (j k : ℕ) → (run v j).outcome ≡ Ended → (run v k).outcome ≡ Fired → ⊥
never_fires v j k e f = ends_not_over v j k e (record { steps = k; within = omega arith; over = inl f })

-- ---- stores into data words
-- where one is, there is a bound of words
some_words : (spans : List (ℕ × ℕ)) (a : ℕ) → IsDataWord spans a → 1 ≤ word_count spans
some_words [] a d = absurd d
some_words (r ∷ rs) a (inl d) = omega (arith, d.1, d.2)
some_words (r ∷ rs) a (inr d) = let n = some_words rs a d in omega (arith, n)

word_some : (land : Bool) (n round ends period : ℕ) → 1 ≤ n → (b : ℕ) × (word_bound land n round ends period ≡ Some b)
word_some land zero round ends period h = absurd (omega (arith, h))
word_some land (suc n) round ends period h = (_, refl)

pub has_bound : (land : Bool) (spans : List (ℕ × ℕ)) (round ends period : ℕ) (i : Ins) (u : State) → StoresOriginal spans i u → (b : ℕ) × (word_bound land (word_count spans) round ends period ≡ Some b)
has_bound land spans round ends period i u s = word_some land (word_count spans) round ends period (some_words spans _ s.first)

module _
    (f g : Program) (reached : ℕ → Bool) (spans : List (ℕ × ℕ)) (base distance : ℕ) (entry : ℕ → ℕ) (blocks : List Block) (bounds : Bounds) (bound ends last : ℕ)
    (kept : KeptInStep f g reached distance bounds.start bounds.piece) (faults : FaultsFound f g reached spans bounds bounds.start bounds.piece) (places : PlacesFound f g reached spans bounds bounds.start bounds.piece)
    (calm : Undisturbed f g reached base distance entry blocks bound ends) (clean : FaultsClean f g reached spans last bounds.start bounds.piece)
    (wide : (i : Ins) (u : State) → StoresOriginal spans i u → (b : ℕ) × (bounds.word ≡ Some b))
    (early : (regs : List ℕ) (m e : ℕ) (i : Ins) → AreStartRegs regs → next (after_output g regs m) ≡ Known i → WritesOriginal i ⊎ (class_of i.kind ≡ class.Store) → ((k : ℕ) → Steady f reached k)
    → m < e → (after_output g regs e).outcome ≡ Ended → ((k : ℕ) → k < e → (after_output g regs k).outcome ≡ Going) → m + 1 + last ≤ e)
    (regs : List ℕ) (are : AreStartRegs regs) (st : (k : ℕ) → Steady f reached k) where
  -- arrival n is not before step n
  at_least : (n : ℕ) → n ≤ arrival f g bounds.start bounds.piece regs n
  at_least zero = omega arith
  at_least (suc n) = let a = at_least n in let b = (kept regs are).grows n in omega (arith, a, b)

  -- any step is covered
  covered : (m : ℕ) → Covers f g reached bounds.start bounds.piece regs m
  covered m = record { steps = m; steady = st m; until = at_least m }

  -- the run without a slip neither fires nor traps
  quiet : (k : ℕ) → IsOver (after_output g regs k).outcome → ⊥
  quiet k o =
      let q = (kept regs are).quiet k k (st k) (at_least k) in
      ⊎_elim (λ x. absurd (q.0 x)) (λ t. absurd (false≢true (sym q.1 ∙ t))) o

  -- where it ends, it has the input's values
  kept_right : (t : ℕ) → (after_output g regs t).outcome ≡ Ended → EndsRight f (after_output g regs t)
  kept_right t e =
      let a = arrival f g bounds.start bounds.piece regs t in
      let same : after_output g regs a ≡ after_output g regs t = ended_later (start g regs) t a (at_least t) e in
      record {
        steps = t;
        ended = ((kept regs are).ends t (st t)).0 (ap (λ z. z.outcome) same ∙ e);
        halves = subst (λ z. Halves f (after_input f t) z) same ((kept regs are).halves t (st t));
      }

  -- an outcome that is neither over nor the end
  going_else : (o : Outcome) → (IsOver o → ⊥) → o ≢ Ended → o ≡ Going
  going_else Going q n = refl
  going_else Ended q n = absurd (n refl)
  going_else Fired q n = absurd (q (inl refl))
  going_else (Trapped c p) q n = absurd (q (inr refl))

  module _ (m j : ℕ) (i : Ins) (v : State) (going : (after_output g regs m).outcome ≡ Going) (known : next (after_output g regs m) ≡ Known i) (ended : (run v j).outcome ≡ Ended) where
    abbrev u : State
    u = after_output g regs m

    calm_next : NotTrapped (step u)
    calm_next = by (is_trapped (step u).outcome) refl where
      by : (c : Bool) → is_trapped (step u).outcome ≡ c → is_trapped (step u).outcome ≡ false
      by true e = absurd (quiet (m + 1) (subst (λ z. IsOver z.outcome) (sym (run-last (start g regs) m)) (inr e)))
      by false e = e

    -- one of the test's own settles
    settled : WrongOnce spans i u v → (b : ℕ) × SettlesWithin spans 0 b (run v) (λ k. after_output g regs (m + 1 + k))
    settled (results wr h) = (bounds.register, faults.results regs m i v are going known wr h (covered (m + 1 + bounds.register)))
    settled (stores so h) = let b = wide i u so in (b.0, faults.stores regs m b.0 i v are going known so h b.1 (covered (m + 1 + b.0)))
    settled (elsewhere h) = let b = wide i u h.store in (b.0, places.found regs m b.0 i v are going known h b.1 (covered (m + 1 + b.0)))

    -- so the run without it ends too
    unslipped : (k : ℕ) → IsSettled spans 0 k (run v) (λ k. after_output g regs (m + 1 + k)) → (t : ℕ) × ((after_output g regs t).outcome ≡ Ended)
    unslipped k (IsSettled.fires e) = absurd (never_fires v j k ended e)
    unslipped k (IsSettled.ends e when beside) = (m + 1 + k, sym (when k (omega arith)) ∙ e)
    unslipped k (IsSettled.gone l same) =
        let more : j ≤ k + j = omega arith in
        let s = start g regs in
        let there : after_output g regs (m + 1 + k + j) ≡ run v (k + j) = run-more s (m + 1 + k) j ∙ ap (λ z. run z j) (sym same.all) ∙ sym (run-more v k j) in
        (m + 1 + k + j, ap (λ z. z.outcome) (there ∙ ended_later v j (k + j) more ended) ∙ ended)

    class_is : WrongOnce spans i u v → WritesOriginal i ⊎ (class_of i.kind ≡ class.Store)
    class_is (results wr h) = inl wr
    class_is (stores so h) = inr so.stores
    class_is (elsewhere h) = inr h.store.stores

    own_right : WrongOnce spans i u v → EndsRight f (run v j)
    own_right x =
        let s = (settled x).1 in
        let t = unslipped s.steps s.settled in
        by (first_end (start g regs) t.0 t.1) where
          by : FirstEnd (start g regs) → EndsRight f (run v j)
          by first =
              let before : (k : ℕ) → k < first.at → (after_output g regs k).outcome ≡ Going = λ k h. going_else (after_output g regs k).outcome (quiet k) (first.before k h) in
              let room = early regs m first.at i are known (class_is x) st (soon first) first.ended before in
              let c = clean.settles regs m first.at i v are going known x room first.ended first.before (covered first.at) in
              let k = first.at - (m + 1) in
              ⊎_elim
              (λ fires. absurd (never_fires v j k ended fires))
              (λ ends. subst (EndsRight f) (sym (ends_same v j k ended ends.0 ∙ ends.1.all)) (kept_right first.at first.ended))
              c where
                soon : (x : FirstEnd (start g regs)) → m < x.at
                soon x =
                    ⊎_elim (λ lt. lt) (λ ge. let e = ended_later (start g regs) x.at m ge x.ended in let o : Going ≡ Ended = sym going ∙ ap (λ z. z.outcome) e ∙ x.ended in absurd (cc)) (cases_lt m x.at)

    -- one that does nothing
    idle_right : step u ≡ v → EndsRight f (run v j)
    idle_right same =
        let s = start g regs in
        let there : run v j ≡ after_output g regs (m + 1 + j) = ap (λ z. run z j) (sym same ∙ sym (run-last s m)) ∙ sym (run-more s (m + 1) j) in
        subst (EndsRight f) (sym there) (kept_right (m + 1 + j) (ap (λ z. z.outcome) (sym there) ∙ ended))

    by_kind : (top : ℕ) → ((q : ℕ) → top ≤ q → is_mapped g q ≡ false) → top + 8 ≤ 2 ^ 64 → Slips g spans base distance i u v → EndsRight f (run v j)
    by_kind top none low (own x) = own_right x
    by_kind top none low (duplicates d) = calm.ends_right regs m j top i v are going known (inl d) (λ k h o. quiet (m + k) o) none low st ended
    by_kind top none low (others o) = calm.ends_right regs m j top i v are going known (inr o) (λ k h o. quiet (m + k) o) none low st ended
    by_kind top none low (idles k e) = idle_right (sym (e ∙ idle_same i u going known calm_next k))

pub no_wrong_end :
    (f g : Program) (reached : ℕ → Bool) (spans : List (ℕ × ℕ)) (base distance : ℕ) (entry : ℕ → ℕ) (blocks : List Block) (bounds : Bounds) (bound ends last : ℕ)
    → KeptInStep f g reached distance bounds.start bounds.piece → FaultsFound f g reached spans bounds bounds.start bounds.piece → PlacesFound f g reached spans bounds bounds.start bounds.piece
    → Undisturbed f g reached base distance entry blocks bound ends → FaultsClean f g reached spans last bounds.start bounds.piece
    → ((i : Ins) (u : State) → StoresOriginal spans i u → (b : ℕ) × (bounds.word ≡ Some b))
    → ((regs : List ℕ) (m e : ℕ) (i : Ins) → AreStartRegs regs → next (after_output g regs m) ≡ Known i → WritesOriginal i ⊎ (class_of i.kind ≡ class.Store) → ((k : ℕ) → Steady f reached k)
    → m < e → (after_output g regs e).outcome ≡ Ended → ((k : ℕ) → k < e → (after_output g regs k).outcome ≡ Going) → m + 1 + last ≤ e)
    → NoWrongEnd f g reached spans base distance
no_wrong_end f g reached spans base distance entry blocks bounds bound ends last kept faults places calm clean wide early = record {
  right = λ regs m j top i v are going known s none low st ended. by_kind f g reached spans base distance entry blocks bounds bound ends last kept faults places calm clean wide early regs are st m j i v going known ended top none low s;
}
