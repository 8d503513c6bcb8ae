-- Copies of a machine on its way.
use Rattle.std.proofs.Common.{◌≡◌, ◌⊎◌, inl, inr, ℕ, zero, suc, ◌+◌, ◌-◌, ◌*◌, ◌<◌, ◌≤◌, List, length, get_or, sym, ap, ◌∙◌, arith, Bor}
use Rattle.std.specs.Prelude.{Option, Some, None, IfSome}
use Rattle.std.specs.Slice.{IsItemAt}
use Rattle.machine.specs.declared.outcome.Outcome.TheVariants.{Going}
use Rattle.machine.specs.Below.{each}
use Rattle.machine.specs.Step.{State, run}
use Rattle.machine.proofs.Lemmas.{length-each}
use Rattle.fault_inject.proofs.Tracing.{each_at}
use Rattle.rv_step.specs.Known.{AreMade}
use Rattle.campaign.specs.Kept.{AreCopies, IsReach, Progress, progress}
use Rattle.campaign.specs.Found.{IsOn}
use Rattle.campaign.proofs.Leaping.{on_made, stopped_not}
use Rattle.campaign.proofs.Stopping.{progress_state}

-- ---- how far a run is struck
-- the reach of a run: it stopped before it made all steps asked for, or it made 1,000,000
pub reach_made :
    (s : State) (made n more reach : ℕ) (p q : Progress) → IsOn s made p.state → q ≡ progress p n → AreMade p n more → made + more ≡ reach → reach ≤ 1000000 → (more < n) ⊎ (reach ≡ 1000000)
    → IsReach s reach
reach_made s made n more reach p q on ran are sum within (inr all) =
    record { within = within; before = (on_made s made n more reach p q on ran are sum).before; ends = inr all }
reach_made s made n more reach p q on ran are sum within (inl less) =
    let next = on_made s made n more reach p q on ran are sum in
    let there : (progress p n).state ≡ run s reach = sym (ap (λ r. r.state) ran) ∙ next.there in
    record { within = within; before = next.before; ends = inl (λ g. stopped_not (progress p n).state.outcome (are.stopped less) (ap (λ t. t.outcome) there ∙ g)) }

-- how many copies are behind the first
pub are_copies :
    (first : Progress) (later : List Progress) (number made reach : ℕ) → later ≡ each number (λ i. progress first (4096 * (i + 1))) → reach ≡ 4096 * number + made → made < 4096 → IsReach first.state reach
    → AreCopies first reach later
are_copies first later number made reach e sum small is =
    let f : ℕ → Progress = λ i. progress first (4096 * (i + 1)) in
    let count : length later ≡ number = ap length e ∙ length-each number f in
    record { is_reach = is; count = omega (arith, count, sum, small); there = e ∙ ap (λ n. each n f) (sym count) }

-- a run that goes on at the start makes some steps
pub reach_positive : (s : State) (n : ℕ) → s.outcome ≡ Going → IsReach s n → 1 ≤ n
unfolding run
reach_positive s zero g x = absurd (elim x.ends [ inl h ↦ h g | inr e ↦ omega arith ])
reach_positive s (suc n) g x = omega arith

-- the copy that a look-up of a number from 1 on finds
pub copy_got :
    (start : Progress) (s : State) (reach : ℕ) (later : List Progress) (n : ℕ) (r : Option (Bor Progress)) → AreCopies start reach later → start.state ≡ s → 1 ≤ n → IsItemAt later (n - 1) r
    → IfSome r (λ m. m.now.state ≡ run s (4096 * n))
copy_got start s reach later n None are is some x = tt
copy_got start s reach later n (Some m) are is some x =
    let sum : n - 1 + 1 ≡ n = omega arith in
    let there = x.1 ∙ ap (λ xs. get_or xs (n - 1) m.now) are.there ∙ each_at (length later) (λ i. progress start (4096 * (i + 1))) (n - 1) m.now x.3.0 ∙ ap (λ k. progress start (4096 * k)) sum in
    ap (λ p. p.state) there ∙ progress_state start (4096 * n) ∙ ap (λ t. run t (4096 * n)) is
