-- An instruction that goes wrong once.
use Rattle.std.proofs.Common.{◌≡◌, ℕ, ◌+◌, ◌-◌, ◌%◌, ◌^◌, min, Bool, true, false, cond, Option, Some, None, refl, sym, ap, ◌∙◌}
use Rattle.std.specs.Prelude.{◌==◌, ◌&&◌}
use Rattle.std.proofs.lemmas.Bool.{eqb-true, and_parts}
use Rattle.machine.specs.Memory.{Memory}
use Rattle.machine.specs.Progress.{Progress, advanced, one_more, steps_after}
use Rattle.machine.specs.Step.{State, Fetched, Refused, Ins, fetched_at, step}
use Rattle.rv_step.specs.Harts.{HartState, with_memory}
use Rattle.rv_step.specs.Known.{at_state, does_step, instruction_of, is_code_word, known_at}
use Rattle.rv_step.specs.Slipped.{can_slip, has_slip, known_has, slipped, slipped_as, slipped_known, slipped_step}
use Rattle.rv_step.specs.declared.slip.Slip.{Slip}
use Rattle.rv_step.proofs.Running.{one_counted, stays_step}

some_tested : (b : Bool) (f : Fetched) (i : Ins) → instruction_of (cond b f Refused) ≡ Some i → b ≡ true
some_tested true f i e = refl
some_tested false f i e = absurd (cc)

-- an instruction stands at a multiple of 4
pub known_grain : (s : State) (a : ℕ) (i : Ins) → known_at s a ≡ Some i → a % 4 ≡ 0
unfolding fetched_at
known_grain s a i e = eqb-true (a % 4) 0 (and_parts (a % 4 == 0) _ (some_tested (is_code_word s a) _ i e)).0

-- ---- without the slip it is a step
without_has : (b : Bool) (x y : State) → b ≡ false → cond b x y ≡ y
without_has true x y e = absurd (cc)
without_has false x y e = refl

without_known : (how : Slip) (o : Option Ins) (s : State) → known_has how o ≡ false → slipped_known how o s ≡ step s
without_known how None s e = refl
without_known how (Some i) s e = without_has (has_slip how i) (slipped_as how i s) (step s) e

without_goes : (b h : Bool) (x s t : State) → (b && h) ≡ false → (h ≡ false → x ≡ t) → (b ≡ false → t ≡ s) → cond b x s ≡ t
without_goes true h x s t e known stays = known e
without_goes false h x s t e known stays = sym (stays refl)

without_step : (how : Slip) (s : State) → can_slip how s ≡ false → slipped_step how s ≡ step s
unfolding slipped_step
without_step how s e = without_goes (does_step s.outcome) (known_has how (known_at s s.pc)) (slipped_known how (known_at s s.pc) s) s (step s) e (without_known how (known_at s s.pc) s) (stays_step s)

pub steps_without : (how : Slip) (p : Progress) → can_slip how p.state ≡ false → advanced p ≡ slipped how p
unfolding advanced slipped
steps_without how p e = ap (λ s. record { state = s; steps = steps_after p.state.outcome p.steps }) (sym (without_step how p.state e))

-- ---- with it
slips_has : (b : Bool) (x y : State) → b ≡ true → cond b x y ≡ x
slips_has true x y e = refl
slips_has false x y e = absurd (cc)

slips_step : (how : Slip) (i : Ins) (s : State) → does_step s.outcome ≡ true → known_at s s.pc ≡ Some i → has_slip how i ≡ true → slipped_step how s ≡ slipped_as how i s
unfolding slipped_step
slips_step how i s goes known has =
    slips_has (does_step s.outcome) (slipped_known how (known_at s s.pc) s) s goes
    ∙ ap (λ o. slipped_known how o s) known
    ∙ slips_has (has_slip how i) (slipped_as how i s) (step s) has

-- the hart h, which contracts see as k, is left by the slip and then counts one step
pub slips_counted :
    (how : Slip) (i : Ins) (p : Progress) (count : ℕ) (h k : HartState) (m : Memory)
    → does_step p.state.outcome ≡ true → known_at p.state p.state.pc ≡ Some i → has_slip how i ≡ true
    → with_memory k m ≡ at_state (slipped_as how i p.state) p → h ≡ k → count ≡ min (h.steps + 1) (2 ^ 64 - 1)
    → with_memory (record h { steps = count }) m ≡ slipped how p
unfolding slipped
slips_counted how i p count h k m goes known has led view is =
    let here : with_memory h m ≡ at_state (slipped_as how i p.state) p = ap (λ x. with_memory x m) view ∙ led in
    let steps : h.steps ≡ p.steps = ap (λ q. q.steps) here in
    ap (λ q. record { state = q.state; steps = count }) here
    ∙ ap (λ s. record { state = s; steps = count }) (sym (slips_step how i p.state goes known has))
    ∙ ap (λ n. record { state = slipped_step how p.state; steps = n }) (is ∙ ap one_more steps ∙ sym (one_counted p.state.outcome p.steps goes))
