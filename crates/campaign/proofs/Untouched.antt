-- A run with one word changed: it goes the way of the run without changes as long as that touches no byte of the word.
use Rattle.std.proofs.Common.{◌≡◌, ℕ, ◌+◌, ◌^◌, ◌<◌, Bool, true, false, cond, List, [], ◌∷◌, Some, None, refl, sym, ap, ◌∙◌, subst, arith}
use Rattle.std.specs.Prelude.{◌==◌}
use Rattle.std.proofs.lemmas.Bool.{eq-eqb, eqb-true}
use Rattle.machine.specs.declared.place.Place.{Place}
use Rattle.machine.specs.declared.place.Place.TheVariants.{Reg, Word}
use Rattle.machine.specs.declared.outcome.Outcome.TheVariants.{Going}
use Rattle.machine.specs.Struck.{struck}
use Rattle.qed_model.specs.Promise.Changed.{changed, changed_as, with_changes, changed_run, last_step}
use Rattle.machine.proofs.Lemmas.{run-more, run-none}
use Rattle.fault_inject.specs.Touched.{IsSpared, AreSpared}
use Rattle.fault_inject.proofs.Sparing.{spared_run}
use Rattle.campaign.specs.Found.{IsOn, State, run}
use Rattle.campaign.specs.Later.{word_changed, one_word, IsChangedAt}
use Rattle.campaign.specs.Verdict.{GoesPast, Change}

-- ---- steps that touch no byte of the word
spared_to : (a x at n : ℕ) (start : State) → a < 2 ^ 64 → ((k : ℕ) → k < n → IsSpared a (run start (at + k))) → run (struck (Word a) x (run start at)) n ≡ struck (Word a) x (run start (at + n))
spared_to a x at n start ha are =
    spared_run a x (run start at) n ha (λ k l. subst (IsSpared a) (run-more start at k) (are k l)) ∙ ap (struck (Word a) x) (sym (run-more start at n))

same_outcome : (a x : ℕ) (s : State) → (struck (Word a) x s).outcome ≡ s.outcome
unfolding struck
same_outcome a x s = refl

pub spared_on : (a x at n : ℕ) (start s t : State) → a < 2 ^ 64 → AreSpared a at n start → s ≡ struck (Word a) x (run start at) → t ≡ struck (Word a) x (run start (at + n)) → IsOn s n t
spared_on a x at n start s t ha are from to = record {
  there = to ∙ sym (spared_to a x at n start ha are.spared) ∙ ap (λ u. run u n) (sym from);
  before = λ k l.
      ap (λ u. (run u k).outcome) from ∙ ap (λ u. u.outcome) (spared_to a x at k start ha (λ j m. are.spared j (omega (arith, l, m))))
      ∙ same_outcome a x (run start (at + k)) ∙ are.going k l;
}

-- ---- one change of a word
at_once : (c : Change) (s : State) (a : ℕ) → c.step ≡ 0 → c.place ≡ Word a → s.outcome ≡ Going → changed_run s (c ∷ []) c.step ≡ struck (Word a) c.value s
unfolding changed_run with_changes
at_once c s a first word going =
    ap (changed_run s (c ∷ [])) first ∙ ap (λ b. cond b (changed c s) s) (eq-eqb c.step 0 first) ∙ ap (λ o. changed_as o c s) going ∙ ap (λ p. struck p c.value s) word

pub changed_word : (cs : List Change) (output s t : State) → GoesPast output cs → output ≡ s → t ≡ changed_run output cs (last_step cs) → IsChangedAt s (one_word cs) t
changed_word [] output s t reached here made = tt
changed_word (c ∷ d ∷ cs) output s t reached here made = tt
changed_word (c ∷ []) output s t reached here made = by_place c.place refl where
  by_step : (a : ℕ) (b : Bool) → c.place ≡ Word a → (c.step == 0) ≡ b → IsChangedAt s (cond b (Some (a, c.value)) None) t
  by_step a false e f = tt
  by_step a true e f =
      let first : c.step ≡ 0 = eqb-true c.step 0 f in
      let going : output.outcome ≡ Going = ap (λ u. u.outcome) (sym (run-none output) ∙ ap (run output) (sym first)) ∙ reached in
      made ∙ at_once c output a first e going ∙ ap (struck (Word a) c.value) here

  by_place : (p : Place) → c.place ≡ p → IsChangedAt s (word_changed p c.step c.value) t
  by_place (Reg r) e = tt
  by_place (Word a) e = by_step a (c.step == 0) e refl
