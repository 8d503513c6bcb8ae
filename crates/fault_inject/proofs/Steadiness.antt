-- A run that does not trap, and in which no indirect jump leads astray, is steady.
use Rattle.std.proofs.Common.{◌≡◌, ℕ, suc, ◌+◌, ◌%◌, ◌≤◌, Bool, true, false, cond, ◌&&◌, Option, Some, None, List, [], refl, sym, ap, ◌∙◌, subst, arith}
use Rattle.std.specs.Prelude.{◌==◌, not}
use Rattle.std.specs.Option.{option_map}
use Rattle.rv_isa.specs.declared.class.Class.TheVariants as class
use Rattle.tests.specs.Admission.Leaders.{is_indirect}
use Rattle.machine.specs.declared.outcome.Cause.TheVariants as cause
use Rattle.machine.specs.declared.outcome.Outcome.TheVariants.{Going}
use Rattle.machine.specs.Step.{State, Known, execute, jumped, moved, trapped, next, step, run, Ins, class_of}
use Rattle.qed_model.specs.Promise.Kept.{is_trapped, NotTrapped, IsSteady}
use Rattle.machine.proofs.Lemmas.{each_fails, step-class, run-last}
use Rattle.qed_model.proofs.Lemmas.{run_unchanged}
use Rattle.weave_core.proofs.Lemmas.{not_trapped_le}
use Rattle.fault_inject.specs.Astray.{is_jalr, is_astray, jump_of, first_jump, first_astray, instruction_of, known_at, does_step, changed_run}

-- ---- indirect jumps
-- a jump that does not trap goes on
either : (b : Bool) (s t : State) → s.outcome ≡ Going → is_trapped t.outcome ≡ true → NotTrapped (cond b s t) → does_step (cond b s t).outcome ≡ true
either true s t going stop calm = ap does_step going
either false s t going stop calm = absurd (cc)

jumped_on : (regs : List ℕ) (target : ℕ) (s : State) → s.outcome ≡ Going → NotTrapped (jumped regs target s) → does_step (jumped regs target s).outcome ≡ true
unfolding jumped
jumped_on regs target s going calm = either (target % 4 == 0) (moved regs target s) (trapped (cause.Target target) s) going refl calm

jalr_on : (s : State) (i : Ins) → s.outcome ≡ Going → next s ≡ Known i → class_of i.kind ≡ class.JumpReg → NotTrapped (step s) → does_step (step s).outcome ≡ true
unfolding execute
jalr_on s i going at jumps calm =
    let is = step-class s i class.JumpReg going at jumps in
    subst (λ t. does_step t.outcome ≡ true) (sym is) (jumped_on _ _ s going (subst NotTrapped is calm))

-- a jump that is not astray has a reached target
third : (a b c : Bool) → a ≡ true → b ≡ true → (a && (b && not c)) ≡ false → c ≡ true
third true true true p q h = refl
third true true false p q h = absurd (cc)
third true false c p q h = absurd (cc)
third false b c p q h = absurd (cc)

leads_on : (r : ℕ → Bool) (s : State) (i : Ins) → is_astray r s ≡ false → s.outcome ≡ Going → next s ≡ Known i → class_of i.kind ≡ class.JumpReg → NotTrapped (step s) → r (step s).pc ≡ true
unfolding is_astray
leads_on r s i never going at jumps calm =
    third (is_jalr (known_at s s.pc)) (does_step (step s).outcome) (r (step s).pc) (ap (λ f. is_jalr (instruction_of f)) at ∙ ap is_indirect jumps) (jalr_on s i going at jumps calm) never

-- ---- a run
none_mapped : {A : Type 0} (g : ℕ → A) (o : Option ℕ) → option_map g o ≡ None → o ≡ None
none_mapped g None h = refl
none_mapped g (Some k) h = absurd (cc)

each_not : (r : ℕ → Bool) (f : ℕ → State) (n : ℕ) → first_jump r f n ≡ None → (k : ℕ) → suc k ≤ n → is_astray r (f k) ≡ false
unfolding first_jump
each_not r f n none k lt = each_fails n (λ j. is_astray r (f j)) (none_mapped (λ j. jump_of (f j)) _ none) k (omega (arith, lt))

pub steady_of : (reached : ℕ → Bool) (s : State) (n : ℕ) → first_astray reached s [] n ≡ None → NotTrapped (run s n) → IsSteady reached s n
steady_of reached s n none calm = record {
  no_trap = calm;
  leads = λ k lt i going at jumps.
      let here : is_astray reached (run s k) ≡ false = ap (is_astray reached) (sym (run_unchanged s k)) ∙ each_not reached (changed_run s []) n none k (omega (arith, lt)) in
      leads_on reached (run s k) i here going at jumps (subst NotTrapped (run-last s k) (not_trapped_le s (k + 1) n (omega (arith, lt)) calm));
}
