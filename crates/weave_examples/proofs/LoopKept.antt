-- A known file, a test with a loop: the promise holds of it; its run and its output's are computed by the definitions.
use Rattle.std.proofs.Common.{◌≡◌, inl, inr, ⊎_elim, ℕ, zero, suc, ◌+◌, ◌-◌, ◌<◌, ◌≤◌, Bool, true, false, List, [], ◌∷◌, Some, refl, sym, ap, ◌∙◌, arith}
use Rattle.std.specs.Prelude.{pos, neg_ℤ, replicate}
use Rattle.std.proofs.lemmas.Bool.{cases_lt}
use Rattle.rv_isa.specs.declared.class.Class.TheVariants as class
use Rattle.machine.specs.Table.{Ecall}
use Rattle.tests.specs.Admission.Reached.{AreReached}
use Rattle.tests.specs.Elf.FileRead.{file_read}
use Rattle.machine.specs.Loading.{load_segments, loaded_file}
use Rattle.weave_core.specs.World.{Program, memory_of, start, zeros, Going, Ended, Addi, Bne, Ins, ins, Known, State, class_of, next, HasAt, fetched_at, execute, jumped, computed_value, value, holds}
use Rattle.qed_model.specs.Promise.Kept.{Halves, LeadsToReached, Steady, after_input, after_output, is_trapped, NotTrapped, any_address}
use Rattle.qed_model.specs.Promise.Landed.{Fires, placed_at}
use Rattle.qed_model.specs.Promise.InStep.{LandedInStep}
use Rattle.qed_model.specs.Promise.OwnSteps.{KeptInStep, arrival}
use Rattle.qed_model.specs.Weave.Placed.{placed}
use Rattle.qed_model.specs.Weave.Woven.{woven_file, new_items}
use Rattle.qed_model.proofs.Lemmas.{defaults, sound, steady_any, any_reached}
use Rattle.tests.proofs.Lemmas.{IsShapely, zeros_start}
use Rattle.weave_examples.proofs.KnownFiles.{loop, loop_sound}
use Rattle.weave_examples.proofs.LoopExample.{loop_plan, loop_told, loop_code, loop_known, loop_admitted, loop_blocks, loop_are}
use Rattle.tests.specs.Elf.Sound.{AreLoads}
use Rattle.machine.proofs.Lemmas.{run-more}
use Rattle.weave_core.specs.Tests.{IsWovenTest}
use Rattle.weave_examples.proofs.ListedRuns.{found, has_code, instruction_at, is_simple_run, go, run_is, state_of}
use Rattle.weave_core.proofs.TestKept as kept
use Rattle.weave_core.proofs.Lemmas.{tests_have_words, tests_kept, tests_landed, run-ended}

-- ---- the promise
pub loop_words : (words : List ℕ) × IsWovenTest loop defaults loop_blocks words
loop_words = tests_have_words loop defaults loop_blocks loop_sound (sound false) loop_admitted (loop_are false) (omega arith)

abbrev pub loop_input : Program
loop_input = loaded_file loop

abbrev pub loop_output : Program
loop_output = loaded_file (file_read (woven_file loop defaults loop_blocks loop_words.0))

loop_kept : (reached : ℕ → Bool) → AreReached loop defaults reached → KeptInStep loop_input loop_output reached 4096 32 120
loop_kept = tests_kept loop defaults loop_blocks loop_words.0 loop_plan loop_words.1 loop_told

loop_landed : LandedInStep 4 loop_input loop_output any_address loop_plan.entries 32 120
loop_landed = tests_landed loop defaults loop_blocks loop_words.0 loop_words.1 any_address (any_reached loop defaults refl)

-- ---- what the memory holds
pub loop_loads : AreLoads (load_segments loop.segments)
loop_loads = loop_sound.loads

shape : IsShapely loop
shape = record { loads = loop_loads; sections = loop_admitted.sections; segments = loop_admitted.segments }

abbrev pub loop_new_code : List Ins
loop_new_code = placed false 0x13000 (new_items loop defaults loop_blocks)

input_run : (n : ℕ) → is_simple_run 0x10000 loop_code n (start loop_input zeros) ≡ true → after_input loop_input n ≡ go 0x10000 loop_code n (start loop_input zeros)
input_run n simple = run_is (memory_of loop_input.segments) loop_input.ranges 0x10000 loop_code (has_code loop shape 0x10000 loop_code loop_known.stand) n (start loop_input zeros) simple refl refl

pub loop_stand : HasAt (fetched_at (memory_of loop_output.segments) loop_output.ranges) 0x13000 loop_new_code
loop_stand = kept.stand loop defaults (sound false) loop_loads loop_admitted loop_blocks (loop_are false) loop_words.0 loop_words.1.code loop_words.1.few

pub output_run :
    (n : ℕ) → is_simple_run 0x13000 loop_new_code n (start loop_output zeros) ≡ true
    → after_output loop_output zeros n ≡ go 0x13000 loop_new_code n (start loop_output zeros)
output_run n simple = run_is (memory_of loop_output.segments) loop_output.ranges 0x13000 loop_new_code loop_stand n (start loop_output zeros) simple refl refl

-- ---- the runs
-- the input ends with its sixth step at 0x1000c, with 0 in x5
pub input_end : after_input loop_input 6 ≡ state_of loop_input zeros 0x1000c Ended
unfolding execute jumped computed_value value holds
input_end = input_run 6 refl

-- the input does not end before
input_goes_on : (after_input loop_input 5).outcome ≡ Going
unfolding execute jumped computed_value value holds
input_goes_on = ap (λ s. s.outcome) (input_run 5 refl)

-- its output ends with step 117 at 0x13228, with 0 in x5 and in x21, 4096 in x14, and 0x1000c in x16 and x30
output_end : after_output loop_output zeros 117 ≡ state_of loop_output (0 ∷ 0 ∷ 0 ∷ 0 ∷ 0 ∷ 0 ∷ 0 ∷ 0 ∷ 0 ∷ 0 ∷ 0 ∷ 0 ∷ 0 ∷ 0 ∷ 4096 ∷ 0 ∷ 0x1000c ∷ 0 ∷ 0 ∷ 0 ∷ 0 ∷ 0 ∷ 0 ∷ 0 ∷ 0 ∷ 0 ∷ 0 ∷ 0 ∷ 0 ∷ 0 ∷ 0x1000c ∷ 0 ∷ []) 0x13228 Ended
unfolding execute jumped computed_value value holds
output_end = output_run 117 refl

-- the output does not end before
output_goes_on : (after_output loop_output zeros 116).outcome ≡ Going
unfolding execute jumped computed_value value holds
output_goes_on = ap (λ s. s.outcome) (output_run 116 refl)

-- ---- the promises at work
-- the input stays as it ended
input_stays : (n : ℕ) → 6 ≤ n → after_input loop_input n ≡ state_of loop_input zeros 0x1000c Ended
input_stays n l =
    let sum : 6 + (n - 6) ≡ n = omega (arith, l) in
    ap (after_input loop_input) (sym sum) ∙ run-more (start loop_input zeros) 6 (n - 6) ∙ run-ended (n - 6) (after_input loop_input 6) (ap (λ s. s.outcome) input_end) ∙ input_end

pub input_ended : (n : ℕ) → 6 ≤ n → NotTrapped (after_input loop_input n)
input_ended n l = ap (λ s. is_trapped s.outcome) (input_stays n l)

-- after at most 872 steps, the output has ended with what the input has at its end
kept_with :
    (reached : ℕ → Bool) → AreReached loop defaults reached → Steady loop_input reached 6
    → (m : ℕ) × (m ≤ 872) × Halves loop_input (after_input loop_input 6) (after_output loop_output zeros m) × ((after_output loop_output zeros m).outcome ≡ Ended)
kept_with reached aims steady =
    let p = loop_kept reached aims zeros zeros_start in
    let within = p.within 6 in
    (arrival loop_input loop_output 32 120 zeros 6, omega (arith, within), p.halves 6 steady, (p.ends 6 steady).1 (ap (λ s. s.outcome) input_end))

kept_end : (m : ℕ) × (m ≤ 872) × Halves loop_input (after_input loop_input 6) (after_output loop_output zeros m) × ((after_output loop_output zeros m).outcome ≡ Ended)
kept_end = kept_with any_address (any_reached loop defaults refl) ((steady_any loop_input 6).1 (input_ended 6 (omega arith)))

-- after 30 steps the output stands at the entry of 0x10000
at_entry : ((after_output loop_output zeros 30).outcome ≡ Going) × ((after_output loop_output zeros 30).pc ≡ 0x13078)
unfolding execute jumped computed_value value holds
at_entry = let e = output_run 30 refl in (ap (λ s. s.outcome) e, ap (λ s. s.pc) e)

-- placed at the entry of 0x1000c, this state fires within 4 steps
landed_wrong : Fires 4 (placed_at 0x131b0 (after_output loop_output zeros 30))
landed_wrong =
    loop_landed.fires zeros 30 0x10000 0x1000c 0x13078 0x131b0 zeros_start (inr ((steady_any loop_input 30).1 (input_ended 30 (omega arith)))) (inl (refl, refl)) (inr (inr (inl (refl, refl)))) (λ e. absurd (omega (arith, e))) at_entry.0 at_entry.1

-- ---- with an empty set of reached addresses: the input makes no indirect jump
abbrev pub none : ℕ → Bool
none a = false

pub ended_going : Ended ≡ Going → ⊥
ended_going e = absurd (cc)

pub no_jump : (s : State) (i : Ins) → next s ≡ Known i → (class_of i.kind ≡ class.JumpReg → ⊥) → LeadsToReached none s
no_jump s i here other = λ j going there jumps.
    let both : Known i ≡ Known j = sym here ∙ there in
    let same : i ≡ j = cc in
    absurd (other (ap (λ k. class_of k.kind) same ∙ jumps))

-- the input's registers, with a number in x5
abbrev x5_is : ℕ → List ℕ
x5_is x = 0 ∷ 0 ∷ 0 ∷ 0 ∷ 0 ∷ x ∷ replicate 26 0

at_step :
    (n x pc : ℕ) (i : Ins) → after_input loop_input n ≡ state_of loop_input (x5_is x) pc Going → instruction_at 0x10000 loop_code pc ≡ Some i → (class_of i.kind ≡ class.JumpReg → ⊥)
    → LeadsToReached none (after_input loop_input n)
at_step n x pc i is here other =
    no_jump (after_input loop_input n) i (ap next is ∙ found (fetched_at (memory_of loop_input.segments) loop_input.ranges) 0x10000 loop_code pc i (has_code loop shape 0x10000 loop_code loop_known.stand) here) other

steps_lead : (k : ℕ) → k < 6 → LeadsToReached none (after_input loop_input k)
unfolding execute jumped computed_value value holds
steps_lead zero l = at_step 0 0 0x10000 (ins Addi 5 0 0 (pos 2)) (input_run 0 refl) refl (λ e. absurd (cc))
steps_lead (suc zero) l = at_step 1 2 0x10004 (ins Addi 5 5 0 (neg_ℤ (pos 1))) (input_run 1 refl) refl (λ e. absurd (cc))
steps_lead (suc (suc zero)) l = at_step 2 1 0x10008 (ins Bne 0 5 0 (neg_ℤ (pos 4))) (input_run 2 refl) refl (λ e. absurd (cc))
steps_lead (suc (suc (suc zero))) l = at_step 3 1 0x10004 (ins Addi 5 5 0 (neg_ℤ (pos 1))) (input_run 3 refl) refl (λ e. absurd (cc))
steps_lead (suc (suc (suc (suc zero)))) l = at_step 4 0 0x10008 (ins Bne 0 5 0 (neg_ℤ (pos 4))) (input_run 4 refl) refl (λ e. absurd (cc))
steps_lead (suc (suc (suc (suc (suc zero))))) l = at_step 5 0 0x1000c (ins Ecall 0 0 0 (pos 0)) (input_run 5 refl) refl (λ e. absurd (cc))
steps_lead (suc (suc (suc (suc (suc (suc k)))))) l = absurd (omega (arith, l))

-- nor behind its end
pub steady_none : (n : ℕ) → 6 ≤ n → Steady loop_input none n
steady_none n l = record { no_trap = input_ended n l; leads = λ k h. ⊎_elim (λ early. steps_lead k early) (λ late. ended k late) (cases_lt k 6) } where
  ended : (k : ℕ) → 6 ≤ k → LeadsToReached none (after_input loop_input k)
  ended k late i going = absurd (ended_going (sym (ap (λ s. s.outcome) (input_stays k late)) ∙ going))

pub none_reached : AreReached loop defaults none
none_reached e a t = absurd (cc)

none_kept : (m : ℕ) × (m ≤ 872) × Halves loop_input (after_input loop_input 6) (after_output loop_output zeros m) × ((after_output loop_output zeros m).outcome ≡ Ended)
none_kept = kept_with none none_reached (steady_none 6 (omega arith))
