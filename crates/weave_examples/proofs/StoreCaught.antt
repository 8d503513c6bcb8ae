-- The promises on changes hold of a known file, a test with a data word: all their premises are met.
-- So are those on a wrong store.
use Rattle.std.proofs.Common.{◌≡◌, ⊎_elim, ℕ, zero, suc, ◌+◌, ◌-◌, ◌%◌, ◌<◌, ◌≤◌, None, true, false, cond, ◌&&◌, [], ◌∷◌, refl, sym, ap, ◌∙◌, subst, arith, inl, List, Some}
use Rattle.std.specs.Prelude.{◌==◌}
use Rattle.std.proofs.lemmas.Bool.{cases_lt, leb-true}
use Rattle.machine.specs.declared.outcome.Cause.TheVariants as cause
use Rattle.machine.specs.Below.{each}
use Rattle.machine.specs.Cells.{number_among}
use Rattle.machine.specs.Loading.{load_segments}
use Rattle.weave_core.specs.World.{Outcome, Going, Ended, Memory, number, grants, put, memory_of, start, zeros, State, Ins, Known, Refused, HasAt, known_or, next, next_pc, place, stored, in_range, fetched_at, trapped, execute, computed_value, step, run, value, holds, jumped, loaded}
use Rattle.machine.specs.Table.{decode_of}
use Rattle.qed_model.specs.Promise.Kept.{LeadsToReached, Steady, after_input, NotTrapped, is_trapped, after_output, any_address}
use Rattle.machine.proofs.Lemmas.{number-among, grants-put, number-put_apart, apart_before, AllSized, step-known, run-more}
use Rattle.tests.proofs.Lemmas.{all_sized_among, zeros_start}
use Rattle.tests.specs.Elf.Sound.{AreLoads}
use Rattle.qed_model.specs.declared.change.Change.{Change}
use Rattle.machine.specs.declared.place.Place.TheVariants.{Word}
use Rattle.qed_model.specs.Promise.Changed.{changed_run, IsDataWord}
use Rattle.qed_model.specs.Promise.Faults.{FaultsFound, stores, word_around}
use Rattle.qed_model.specs.Weave.Placed.{placed}
use Rattle.qed_model.specs.Weave.Woven.{new_items}
use Rattle.qed_model.specs.Promise.InStep.{CaughtInStep, CleanInStep, SettlesWithin}
use Rattle.qed_model.proofs.Lemmas.{defaults, sound, swept, steady_any, any_reached, covers_steady}
use Rattle.weave_core.proofs.TestKept as kept
use Rattle.weave_core.proofs.Lemmas.{run-ended}
use Rattle.lockstep.proofs.Lemmas.{instruction_faults_are_caught, tests_caught, tests_clean}
use Rattle.weave_examples.proofs.KnownFiles.{store, store_sound}
use Rattle.weave_examples.proofs.StoreExample.{store_code, store_known, store_admitted, lui, ld, add, sd, ecall, store_plan, store_told, store_blocks, store_are}
use Rattle.weave_examples.proofs.ListedRuns.{found, grants_among, has_code, loading_run, state_of}
use Rattle.weave_examples.proofs.LoopKept.{none, no_jump, ended_going}
use Rattle.weave_examples.proofs.StoreKept.{store_input, store_words, swept_words, store_output, swept_output}

-- ---- the run of a known test with a data word, computed step by step: it loads 5, and stores 10 there
abbrev m : Memory
m = memory_of store_input.segments

loads : AreLoads (load_segments store.segments)
loads = store_sound.loads

sized : AllSized (load_segments store.segments)
sized = all_sized_among (load_segments store.segments) loads.sized

code : HasAt (fetched_at m store_input.ranges) 0x10000 store_code
code = has_code store (record { loads = loads; sections = store_admitted.sections; segments = store_admitted.segments }) 0x10000 store_code store_known.stand

reads : grants (λ f. f.read) m 0x20000 8 ≡ true
reads = grants_among (load_segments store.segments) sized (λ f. f.read) 0x20000 8

writes : grants (λ f. f.write) m 0x20000 8 ≡ true
writes = grants_among (load_segments store.segments) sized (λ f. f.write) 0x20000 8

five : number m 0x20000 8 ≡ 5
unfolding number_among
five = number-among (load_segments store.segments) 0x20000 8 sized (omega arith)

-- the states: x8, x9 and x10, the pc, the memory and the outcome
abbrev at : ℕ → ℕ → ℕ → ℕ → Memory → Outcome → State
at x8 x9 x10 pc memory outcome = record {
  regs = 0 ∷ 0 ∷ 0 ∷ 0 ∷ 0 ∷ 0 ∷ 0 ∷ 0 ∷ x8 ∷ x9 ∷ x10 ∷ 0 ∷ 0 ∷ 0 ∷ 0 ∷ 0 ∷ 0 ∷ 0 ∷ 0 ∷ 0 ∷ 0 ∷ 0 ∷ 0 ∷ 0 ∷ 0 ∷ 0 ∷ 0 ∷ 0 ∷ 0 ∷ 0 ∷ 0 ∷ 0 ∷ [];
  pc = pc;
  memory = memory;
  ranges = store_input.ranges;
  outcome = outcome;
}

first_step : step (start store_input zeros) ≡ at 0x20000 0 0 0x10004 m Going
unfolding execute computed_value
first_step = step-known (start store_input zeros) lui refl code.0

second_step : step (at 0x20000 0 0 0x10004 m Going) ≡ at 0x20000 5 0 0x10008 m Going
unfolding execute loaded
second_step =
    let s = at 0x20000 0 0 0x10004 m Going in
    step-known s ld refl code.1.0
    ∙ ap (λ b. cond b (at 0x20000 (number m 0x20000 8) 0 0x10008 m Going) (trapped (cause.Load 0x20000) s)) reads
    ∙ ap (λ v. at 0x20000 v 0 0x10008 m Going) five

third_step : step (at 0x20000 5 0 0x10008 m Going) ≡ at 0x20000 5 10 0x1000c m Going
unfolding execute computed_value value
third_step = step-known (at 0x20000 5 0 0x10008 m Going) add refl code.1.1.0

fourth_step : step (at 0x20000 5 10 0x1000c m Going) ≡ at 0x20000 5 10 0x10010 (put m 0x20000 8 10) Going
unfolding execute
fourth_step =
    let s = at 0x20000 5 10 0x1000c m Going in
    step-known s sd refl code.1.1.1.0 ∙ ap (λ b. cond b (at 0x20000 5 10 0x10010 (put m 0x20000 8 10) Going) (trapped (cause.Store 0x20000) s)) writes

-- the store leaves the code
fetch_kept : fetched_at (put m 0x20000 8 10) store_input.ranges 0x10010 ≡ fetched_at m store_input.ranges 0x10010
unfolding fetched_at
fetch_kept =
    ap (λ g. cond ((0x10010 % 4 == 0) && (in_range 0x10010 store_input.ranges && g)) (known_or (number (put m 0x20000 8 10) 0x10010 4) (decode_of (number (put m 0x20000 8 10) 0x10010 4))) Refused) (grants-put (λ f. f.execute) m 0x20000 8 10 0x10010 4)
    ∙ ap (λ x. cond ((0x10010 % 4 == 0) && (in_range 0x10010 store_input.ranges && grants (λ f. f.execute) m 0x10010 4)) (known_or x (decode_of x)) Refused) (number-put_apart m 0x20000 8 10 0x10010 4 (apart_before 0x20000 8 0x10010 4 (omega arith) (omega arith)))

fifth_step : step (at 0x20000 5 10 0x10010 (put m 0x20000 8 10) Going) ≡ at 0x20000 5 10 0x10010 (put m 0x20000 8 10) Ended
unfolding execute
fifth_step = step-known (at 0x20000 5 10 0x10010 (put m 0x20000 8 10) Going) ecall refl (fetch_kept ∙ code.1.1.1.1.0)

-- the run ends with its fifth step at 0x10010
input_end : after_input store_input 5 ≡ at 0x20000 5 10 0x10010 (put m 0x20000 8 10) Ended
unfolding run
input_end = ap (λ s. run s 4) first_step ∙ ap (λ s. run s 3) second_step ∙ ap (λ s. run s 2) third_step ∙ ap (λ s. run s 1) fourth_step ∙ fifth_step

store_stays : (n : ℕ) → 5 ≤ n → after_input store_input n ≡ at 0x20000 5 10 0x10010 (put m 0x20000 8 10) Ended
store_stays n l =
    let sum : 5 + (n - 5) ≡ n = omega (arith, l) in
    ap (after_input store_input) (sym sum) ∙ run-more (start store_input zeros) 5 (n - 5) ∙ run-ended (n - 5) (after_input store_input 5) (ap (λ s. s.outcome) input_end) ∙ input_end

-- the run never traps
pub store_calm : (n : ℕ) → 5 ≤ n → NotTrapped (after_input store_input n)
store_calm n l = ap (λ s. is_trapped s.outcome) (store_stays n l)

-- nor makes an indirect jump
steps_lead : (k : ℕ) → k < 5 → LeadsToReached none (after_input store_input k)
unfolding run
steps_lead zero l = no_jump (start store_input zeros) lui code.0 (λ e. absurd (cc))
steps_lead (suc zero) l = no_jump (after_input store_input 1) ld (ap next first_step ∙ code.1.0) (λ e. absurd (cc))
steps_lead (suc (suc zero)) l = no_jump (after_input store_input 2) add (ap (λ s. next (step s)) first_step ∙ ap next second_step ∙ code.1.1.0) (λ e. absurd (cc))
steps_lead (suc (suc (suc zero))) l = no_jump (after_input store_input 3) sd (ap (λ s. next (step (step s))) first_step ∙ ap (λ s. next (step s)) second_step ∙ ap next third_step ∙ code.1.1.1.0) (λ e. absurd (cc))
steps_lead (suc (suc (suc (suc zero)))) l =
    no_jump (after_input store_input 4) ecall (ap (λ s. next (step (step (step s)))) first_step ∙ ap (λ s. next (step (step s))) second_step ∙ ap (λ s. next (step s)) third_step ∙ ap next fourth_step ∙ fetch_kept ∙ code.1.1.1.1.0) (λ e. absurd (cc))
steps_lead (suc (suc (suc (suc (suc k))))) l = absurd (omega (arith, l))

pub store_steady : (n : ℕ) → 5 ≤ n → Steady store_input none n
store_steady n l = record { no_trap = store_calm n l; leads = λ k h. ⊎_elim (λ early. steps_lead k early) (λ late i going. absurd (ended_going (sym (ap (λ s. s.outcome) (store_stays k late)) ∙ going))) (cases_lt k 5) }

-- its data word
abbrev pub spans : List (ℕ × ℕ)
spans = (0x20000, 0x20008) ∷ []

-- a change of a register is caught within 272 steps, one of the data word within 392
store_caught : CaughtInStep store_input store_output any_address spans (record { piece = 120; register = 272; word = Some 392; start = 32; early_register = None; early_word = None }) 32 120
store_caught = tests_caught store defaults store_blocks store_words.0 store_plan store_words.1 store_told any_address (any_reached store defaults refl)

-- with the sweep no change made before the last 24 steps is silent at the end
store_clean : CleanInStep store_input swept_output any_address spans 24 56 120
store_clean = tests_clean store swept store_blocks swept_words.0 swept_words.1 refl any_address (any_reached store swept refl)

-- ---- at work: another number in the data word, before the first step
abbrev nine : Change
nine = record { step = 0; place = Word 0x20000; value = 9 }

-- all premises of the promise are met
word_settles : SettlesWithin spans 0 392 (changed_run (start store_output zeros) (nine ∷ [])) (after_output store_output zeros)
unfolding run
word_settles = store_caught.settles zeros (nine ∷ []) 392 zeros_start tt (inl (refl, omega arith, omega arith), tt, tt) refl (covers_steady store_input store_output any_address 32 120 zeros 392 ((steady_any store_input 392).1 (store_calm 392 (omega arith)))) refl

-- ---- a wrong instruction: the test's store stores 7, not 10
store_faults : FaultsFound store_input store_output any_address spans (record { piece = 120; register = 272; word = Some 392; start = 32; early_register = None; early_word = None }) 32 120
store_faults = instruction_faults_are_caught store defaults store_blocks store_words.0 store_plan store_words.1 store_told any_address (any_reached store defaults refl)

abbrev new_code : List Ins
new_code = placed false 0x43000 (new_items store defaults store_blocks)

stand : HasAt (fetched_at (memory_of store_output.segments) store_output.ranges) 0x43000 new_code
stand = kept.stand store defaults (sound false) loads store_admitted store_blocks (store_are false) store_words.0 store_words.1.code store_words.1.few

output_sized : AllSized store_output.segments
unfolding each
output_sized = (omega arith, (leb-true _ _ refl, (omega arith, (leb-true _ _ refl, (omega arith, tt)))))

-- it is next after 91 steps
before_store : after_output store_output zeros 91 ≡ state_of store_output (0 ∷ 0 ∷ 0 ∷ 0 ∷ 0 ∷ 0 ∷ 0 ∷ 0 ∷ 0x20000 ∷ 5 ∷ 10 ∷ 0 ∷ 0 ∷ 0 ∷ 0x11000 ∷ 0x20000 ∷ 0x10000 ∷ 0 ∷ 0 ∷ 0 ∷ 0 ∷ 0 ∷ 0 ∷ 0 ∷ 0x20000 ∷ 5 ∷ 10 ∷ 0 ∷ 0 ∷ 0 ∷ 0x20008 ∷ 5 ∷ []) 0x431ec Going
unfolding execute jumped computed_value value holds loaded number_among each
before_store = loading_run store_output.segments output_sized store_output.ranges 0x43000 new_code stand 91 (start store_output zeros) refl refl refl

store_next : next (after_output store_output zeros 91) ≡ Known sd
store_next = ap next before_store ∙ found (fetched_at (memory_of store_output.segments) store_output.ranges) 0x43000 new_code 0x431ec sd stand refl

stores_word : IsDataWord spans (word_around (place sd (after_output store_output zeros 91)))
stores_word = subst (λ s. IsDataWord spans (word_around (place sd s))) (sym before_store) (inl (refl, omega arith, omega arith))

stores_last : IsDataWord spans (word_around (place sd (after_output store_output zeros 91) + 8 - 1))
stores_last = subst (λ s. IsDataWord spans (word_around (place sd s + 8 - 1))) (sym before_store) (inl (refl, omega arith, omega arith))

abbrev wrong_store : State
wrong_store = let s = after_output store_output zeros 91 in stored (put s.memory (place sd s) 8 7) (next_pc s) s

-- all premises of the promise are met
store_settles : SettlesWithin spans 0 392 (run wrong_store) (λ k. after_output store_output zeros (92 + k))
store_settles =
    store_faults.stores zeros 91 392 sd wrong_store zeros_start (ap (λ s. s.outcome) before_store) store_next (record { stores = refl; first = stores_word; last = stores_last }) (stores 7 refl) refl
    (covers_steady store_input store_output any_address 32 120 zeros (92 + 392) ((steady_any store_input (92 + 392)).1 (store_calm (92 + 392) (omega arith))))
