-- The promise on the end of a test at work, on a known test with a loop and with the sweep: a change of x5 before the
-- sweep is not silent at the end.
use Rattle.std.proofs.Common.{◌≡◌, ◌≢◌, ◌⊎◌, ℕ, ◌+◌, ◌-◌, ◌<◌, true, false, List, [], ◌∷◌, refl, sym, ap, ◌∙◌, arith}
use Rattle.std.specs.Prelude.{pos}
use Rattle.tests.specs.Elf.FileRead.{file_read}
use Rattle.machine.specs.Loading.{loaded_file}
use Rattle.weave_core.specs.World.{Program, memory_of, start, zeros, Going, Ended, Fired, Beq, Bne, Ebreak, Ins, ins, HasAt, fetched_at, execute, jumped, computed_value, value, holds}
use Rattle.qed_model.specs.Promise.Caught.{Same}
use Rattle.qed_model.specs.Promise.Changed.{changed_run}
use Rattle.qed_model.specs.Promise.InStep.{CleanInStep}
use Rattle.qed_model.specs.Promise.Closed.{is_closed, uses, guards_other, is_checked}
use Rattle.qed_model.specs.Promise.Kept.{after_output, any_address}
use Rattle.qed_model.specs.Weave.Placed.{placed}
use Rattle.qed_model.specs.Weave.Woven.{woven_file, new_items}
use Rattle.qed_model.proofs.Lemmas.{swept, sound, steady_any, any_reached, covers_steady}
use Rattle.weave_examples.proofs.KnownFiles.{loop, loop_sound}
use Rattle.weave_examples.proofs.LoopExample.{loop_swept_admitted, loop_blocks, loop_are}
use Rattle.machine.proofs.Lemmas.{run-more}
use Rattle.weave_core.specs.Tests.{IsWovenTest}
use Rattle.weave_examples.proofs.ListedRuns.{zeros_start, is_simple_run, go, run_is}
use Rattle.weave_examples.proofs.LoopKept.{loop_loads, loop_input, input_ended}
use Rattle.weave_core.proofs.TestKept as kept
use Rattle.weave_core.proofs.Lemmas.{tests_have_words, run-ended}
use Rattle.weave_examples.proofs.ListedChanges.{closed_there}
use Rattle.weave_examples.proofs.LoopCaught.{seven, turn}
use Rattle.lockstep.proofs.Lemmas.{tests_clean}

words : (words : List ℕ) × IsWovenTest loop swept loop_blocks words
words = tests_have_words loop swept loop_blocks loop_sound (sound true) loop_swept_admitted (loop_are true) (omega arith)

abbrev output : Program
output = loaded_file (file_read (woven_file loop swept loop_blocks words.0))

-- no change made before the last 14 steps is silent at the end
clean : CleanInStep loop_input output any_address [] 14 46 120
clean = tests_clean loop swept loop_blocks words.0 words.1 refl any_address (any_reached loop swept refl)

-- ---- its run, over the instructions of its new code
abbrev new_code : List Ins
new_code = placed false 0x13000 (new_items loop swept loop_blocks)

stand : HasAt (fetched_at (memory_of output.segments) output.ranges) 0x13000 new_code
stand = kept.stand loop swept (sound true) loop_loads loop_swept_admitted loop_blocks (loop_are true) words.0 words.1.code words.1.few

output_run : (n : ℕ) → is_simple_run 0x13000 new_code n (start output zeros) ≡ true → after_output output zeros n ≡ go 0x13000 new_code n (start output zeros)
output_run n simple = run_is (memory_of output.segments) output.ranges 0x13000 new_code stand n (start output zeros) simple refl refl

-- the output ends with step 130: 13 comparisons of the sweep behind the 117 steps without it
output_end : (after_output output zeros 130).outcome ≡ Ended
unfolding execute jumped computed_value value holds
output_end = ap (λ s. s.outcome) (output_run 130 refl)

output_goes_on : (after_output output zeros 129).outcome ≡ Going
unfolding execute jumped computed_value value holds
output_goes_on = ap (λ s. s.outcome) (output_run 129 refl)

not_before : (k : ℕ) → k < 130 → (after_output output zeros k).outcome ≢ Ended
not_before k l e =
    let sum : k + (129 - k) ≡ 129 = omega (arith, l) in
    let stays : after_output output zeros 129 ≡ after_output output zeros k = ap (after_output output zeros) (sym sum) ∙ run-more (start output zeros) k (129 - k) ∙ run-ended (129 - k) (after_output output zeros k) e in
    let both : Going ≡ Ended = sym output_goes_on ∙ ap (λ s. s.outcome) stays ∙ e in
    absurd (cc)

-- ---- the change: 7 in x5 after 72 steps, when its guard is next
is_open : is_closed (after_output output zeros 72) 5 ≡ false
unfolding uses is_checked guards_other execute jumped computed_value value holds
is_open = ap (λ s. is_closed s 5) (output_run 72 refl) ∙ closed_there output 0x13000 new_code stand 5 (turn 1) 0x1319c (ins Beq 0 5 21 (pos 8)) (ins Ebreak 0 0 0 (pos 0)) (ins Bne 0 5 0 (pos 8)) refl refl refl

-- all premises of the promise are met
not_silent : ((changed_run (start output zeros) (seven 72 ∷ []) 130).outcome ≡ Fired) ⊎ (((changed_run (start output zeros) (seven 72 ∷ []) 130).outcome ≡ Ended) × Same [] (changed_run (start output zeros) (seven 72 ∷ []) 130) (after_output output zeros 130))
not_silent = clean.settles zeros (seven 72 ∷ []) 130 zeros_start tt ((omega arith, omega arith), is_open, tt) (omega arith) output_end not_before (covers_steady loop_input output any_address 46 120 zeros 130 ((steady_any loop_input 130).1 (input_ended 130 (omega arith))))
