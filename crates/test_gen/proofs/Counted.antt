-- Runs with counted steps: a run that ends after n steps has made n steps, for any greater limit.
use Rattle.std.proofs.Common.{◌≡◌, ℕ, zero, suc, ◌+◌, ◌-◌, ◌^◌, ◌<◌, ◌≤◌, refl, ap, ◌∙◌, arith}
use Rattle.elf_types.specs.declared.output.OutFile.{OutFile}
use Rattle.machine.specs.declared.outcome.Outcome.TheVariants.{Going, Ended}
use Rattle.machine.specs.Step.{State, step_at, step, run}
use Rattle.machine.specs.Progress.{Progress, one_more, steps_after, advanced, progress, first_state}
use Rattle.tests.specs.Files.File.{IsReadAs}
use Rattle.tests.specs.Elf.FileRead.{file_read}
use Rattle.tests.specs.Elf.Layout.{written}
use Rattle.machine.specs.Loading.{loaded_file, ElfFile}
use Rattle.machine.specs.Program.{start, zeros}
use Rattle.tests.specs.Options.{default_options}
use Rattle.qed_model.specs.Weave.Output.{WovenFile}
use Rattle.tests.proofs.Lemmas.{zeros_start}
use Rattle.machine.proofs.Lemmas.{run-more}
use Rattle.test_gen.specs.Ends.{EndsAfter, EndsWithin, HasEnded, test_steps}
use Rattle.test_gen.specs.Generated.{generated}
use Rattle.test_gen.specs.Outputs.{HasSmallCode, most_output_steps}
use Rattle.test_gen.proofs.Admitted.{few_functions}
use Rattle.test_gen.proofs.Ending.{test_ends}
use Rattle.test_gen.proofs.Readable.{test_read}
use Rattle.test_gen.proofs.Within.{test_weavable}
use Rattle.weave_core.proofs.Lemmas.{run-ended}

-- ---- ends
-- a state, and the steps made up to it
abbrev pub made : State → ℕ → Progress
made s k = record { state = s; steps = k }

-- a run that has ended stays so
ended_step : (s : State) (k : ℕ) → s.outcome ≡ Ended → advanced (made s k) ≡ made s k
unfolding advanced step
ended_step s k e = ap (λ o. made (step_at o s) (steps_after o k)) e

ended_stays : (m : ℕ) (s : State) (k : ℕ) → s.outcome ≡ Ended → progress (made s k) m ≡ made s k
unfolding progress
ended_stays zero s k e = refl
ended_stays (suc m) s k e = ap (λ p. progress p m) (ended_step s k e) ∙ ended_stays m s k e

going_step : (s : State) (k : ℕ) → s.outcome ≡ Going → k + 1 < 2 ^ 64 → advanced (made s k) ≡ made (step s) (k + 1)
unfolding advanced
going_step s k g small =
    let one : one_more k ≡ k + 1 = omega (arith, small) in
    ap (λ o. made (step s) (steps_after o k)) g ∙ ap (made (step s)) one

-- one step closer to the end
nearer : (s : State) (n : ℕ) → EndsAfter s (suc n) → EndsAfter (step s) n
unfolding run
nearer s n h = record { ends = h.ends; going = λ k l. h.going (suc k) (omega (arith, l)) }

at_end : (s : State) → EndsAfter s zero → s.outcome ≡ Ended
unfolding run
at_end s h = h.ends

at_start : (s : State) (n : ℕ) → EndsAfter s (suc n) → s.outcome ≡ Going
unfolding run
at_start s n h = h.going 0 (omega arith)

-- behind its end a run stays in its last state, with as many steps
counted_from : (n m k : ℕ) (s : State) → EndsAfter s n → n ≤ m → k + n < 2 ^ 64 → progress (made s k) m ≡ made (run s n) (k + n)
unfolding run progress
counted_from zero m k s h few small =
    let all : k ≡ k + zero = omega arith in
    ended_stays m s k (at_end s h) ∙ ap (made s) all
counted_from (suc n) zero k s h few small = absurd (omega (arith, few))
counted_from (suc n) (suc m) k s h few small =
    let all : k + 1 + n ≡ k + suc n = omega arith in
    ap (λ p. progress p m) (going_step s k (at_start s n h) (omega (arith, small)))
    ∙ counted_from n m (k + 1) (step s) (nearer s n h) (omega (arith, few)) (omega (arith, small))
    ∙ ap (made (run (step s) n)) all

-- ---- the end of a run
pub has_ended : (s : State) (n m : ℕ) → EndsAfter s n → n ≤ m → n < 2 ^ 64 → HasEnded (progress (first_state s) m) n
has_ended s n m h few small =
    let come = counted_from n m 0 s h few (omega (arith, small)) in
    let none : 0 + n ≡ n = omega arith in
    record { outcome = ap (λ (p : Progress). p.state.outcome) come ∙ h.ends; steps = ap (λ (p : Progress). p.steps) come ∙ none }

-- ---- the test's own run
few_steps : (size : ℕ) → 1 ≤ size → size ≤ 60000 → test_steps size ≤ 213765
unfolding test_steps
few_steps size some most = let n = few_functions size some most in omega (arith, n.1)

-- from registers 0, the run of the file that its bytes are read as ends
pub own_ended :
    (seed size m : ℕ) → 1 ≤ size → size ≤ 60000 → 213765 ≤ m → (f : ElfFile) → IsReadAs (written (generated seed size)) f
    → HasEnded (progress (first_state (start (loaded_file f) zeros)) m) (test_steps size)
own_ended seed size m some most long f read =
    let few = few_steps size some most in
    has_ended (start (loaded_file f) zeros) (test_steps size) m
    (test_ends seed size (written (generated seed size)) some most (test_read seed size some most) f read zeros zeros_start)
    (omega (arith, few, long)) (omega (arith, few))

-- ---- the output's run
progress_state : (m : ℕ) (p : Progress) → (progress p m).state ≡ run p.state m
unfolding progress run advanced
progress_state zero p = refl
progress_state (suc m) p = progress_state m (advanced p)

-- a run that ends within n steps has ended after them
ended_within : (s : State) (n m : ℕ) → EndsWithin s n → n ≤ m → (progress (first_state s) m).state.outcome ≡ Ended
ended_within s n m h few =
    let within = h.within in
    let rest : ℕ = m - h.steps in
    let all : m ≡ h.steps + (m - h.steps) = omega (arith, within, few) in
    let come : run s m ≡ run s h.steps = ap (run s) all ∙ run-more s h.steps rest ∙ run-ended rest (run s h.steps) h.ends in
    ap (λ (t : State). t.outcome) (progress_state m (first_state s) ∙ come) ∙ h.ends

-- the output of a test has ended, from registers 0
pub output_ended :
    (seed size m : ℕ) → 1 ≤ size → size ≤ 60000 → most_output_steps ≤ m → (out : OutFile)
    → (w : WovenFile (written (generated seed size)) default_options out) → HasSmallCode (written (generated seed size)) out w
    → (progress (first_state (start (loaded_file (file_read out)) zeros)) m).state.outcome ≡ Ended
output_ended seed size m some most long out w short =
    let ends = (test_weavable seed size some most).ends out w short zeros zeros_start in
    ended_within (start (loaded_file (file_read out)) zeros) most_output_steps m ends long
