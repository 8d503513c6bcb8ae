-- Promises in steps of the output follow from those in the test's own steps.
use Rattle.std.proofs.Common.{◌≡◌, ℕ, zero, suc, ◌+◌, ◌≤◌, ◌<◌, inl, inr, Bool, List, refl, arith, ◌∙◌, ap, sym, subst, ◌-◌}
use Rattle.machine.specs.declared.outcome.Outcome.TheVariants.{Ended}
use Rattle.machine.specs.Step.{State, run, step, step_at}
use Rattle.machine.specs.Program.{Program, start, AreStartRegs}
use Rattle.machine.proofs.Lemmas.{run-more}
use Rattle.qed_model.specs.Promise.Kept.{after_input, after_output, Steady, Halves, NoFalseAlarm}
use Rattle.qed_model.specs.Promise.Caught.{Settles}
use Rattle.qed_model.specs.Promise.OwnSteps.{arrival, Covers, KeptInStep}
use Rattle.qed_model.specs.Promise.InStep.{IsSettled, SettlesWithin, PromisesFollow}
use Rattle.qed_model.proofs.Arrivals.{arrival_grows}

-- fewer steps are covered too
pub covers_less : (f g : Program) (reached : ℕ → Bool) (first bound : ℕ) (regs : List ℕ) (k m : ℕ) → k ≤ m → Covers f g reached first bound regs m → Covers f g reached first bound regs k
covers_less f g reached first bound regs k m l c = record { steps = c.steps; steady = c.steady; until = omega (arith, l, c.until) }

-- the output makes a step for each of the input's
not_before : (f g : Program) (first bound : ℕ) (regs : List ℕ) (n : ℕ) → n ≤ arrival f g first bound regs n
not_before f g first bound regs zero = omega arith
not_before f g first bound regs (suc n) = let h = not_before f g first bound regs n in let x = arrival_grows f g first bound regs n in omega (arith, h, x)

-- while the input is steady for as many steps as the output has made, these steps are covered
pub covers_steady : (f g : Program) (reached : ℕ → Bool) (first bound : ℕ) (regs : List ℕ) (m : ℕ) → Steady f reached m → Covers f g reached first bound regs m
covers_steady f g reached first bound regs m s = record { steps = m; steady = s; until = not_before f g first bound regs m }

settles : (spans : List (ℕ × ℕ)) (t b : ℕ) (changed unchanged : ℕ → State) → SettlesWithin spans t b changed unchanged → Settles spans t b changed unchanged
settles spans t b changed unchanged s = by_case s.steps s.within s.settled where
  by_case : (n : ℕ) → n ≤ t + b → IsSettled spans t n changed unchanged → Settles spans t b changed unchanged
  by_case n w (IsSettled.fires e) = record { steps = n; within = w; settled = inl e }
  by_case n w (IsSettled.ends e k x) = record { steps = n; within = w; settled = inr (inl e) }
  by_case n w (IsSettled.gone l x) = record { steps = n; within = w; settled = inr (inr (l, x)) }

-- a state that has ended stays so
ended_stays : (n : ℕ) (s : State) → s.outcome ≡ Ended → run s n ≡ s
unfolding run step
ended_stays zero s e = refl
ended_stays (suc n) s e = ap (λ x. run x n) (ap (λ o. step_at o s) e) ∙ ended_stays n s e

-- at a step of the output: no check has fired, and if it has ended, so has the input
quiet :
    (f g : Program) (reached : ℕ → Bool) (d first bound : ℕ) → KeptInStep f g reached d first bound → (regs : List ℕ) → AreStartRegs regs → (m : ℕ) → Steady f reached m → NoFalseAlarm f g m regs
quiet f g reached d first bound k regs are m s =
    let w = k regs are in
    let l = not_before f g first bound regs m in
    let q = w.quiet m m s l in
    record {
      no_check = q.0;
      no_trap = q.1;
      ended = λ e.
          let sum : m + (arrival f g first bound regs m - m) ≡ arrival f g first bound regs m = omega (arith, l) in
          let there : after_output g regs (arrival f g first bound regs m) ≡ after_output g regs m = ap (after_output g regs) (sym sum) ∙ run-more (start g regs) m (arrival f g first bound regs m - m) ∙ ended_stays (arrival f g first bound regs m - m) (after_output g regs m) e in
          ((w.ends m s).0 (ap (λ x. x.outcome) there ∙ e), subst (Halves f (after_input f m)) there (w.halves m s));
    }

pub promises_follow : PromisesFollow
promises_follow = record {
  kept = λ f g reached d first bound k. record {
    values = λ regs n are s. let w = k regs are in record { steps = arrival f g first bound regs n; within = w.within n; halves = w.halves n s; ends = w.ends n s };
    quiet = λ regs m are s. quiet f g reached d first bound k regs are m s;
  };
  caught = λ f g reached spans bounds first bound c. record { settles = λ regs cs b are o places is s going. settles spans _ b _ _ (c.settles regs cs b are o places is (covers_steady f g reached first bound regs _ s) going) };
  landed = λ most f g reached entries first bound l. record { fires = λ regs t a c here there are s h e n going at. l.fires regs t a c here there are (inr s) h e n going at };
  clean = λ f g reached spans last first bound c. record { settles = λ regs cs e are o places w ends before s. c.settles regs cs e are o places w ends before (covers_steady f g reached first bound regs e s) };
}
