-- The promise on changes at work, on a known test with a loop: changes of x5, and a wrong result,
-- comparison and branch, with computed runs.
use Rattle.std.proofs.Common.{◌≡◌, inl, ℕ, ◌+◌, true, false, List, [], ◌∷◌, refl, ap, ◌∙◌, arith}
use Rattle.std.specs.Prelude.{pos}
use Rattle.qed_model.specs.declared.change.Change.{Change}
use Rattle.machine.specs.declared.place.Place.TheVariants.{Reg}
use Rattle.weave_core.specs.World.{memory_of, start, zeros, Going, Fired, Addi, Beq, Bne, Ebreak, Jal, State, Known, ebreak, fetched_at, next, next_pc, moved, set_reg, run, ins, execute, jumped, computed_value, value, holds}
use Rattle.machine.specs.Struck.{struck}
use Rattle.qed_model.specs.Promise.InStep.{CaughtInStep, SettlesWithin}
use Rattle.qed_model.specs.Promise.Changed.{changed_run}
use Rattle.qed_model.specs.Promise.Faults.{FaultsFound, BranchesFound, IsTurned, misled, gives}
use Rattle.qed_model.specs.Promise.Closed.{is_closed, uses, guards_other, is_checked}
use Rattle.qed_model.specs.Promise.Kept.{after_output, any_address}
use Rattle.qed_model.specs.Promise.Landed.{Fires}
use Rattle.qed_model.proofs.Lemmas.{defaults, steady_any, any_reached, covers_steady}
use Rattle.weave_examples.proofs.KnownFiles.{loop}
use Rattle.weave_examples.proofs.LoopExample.{loop_plan, loop_told, loop_blocks}
use Rattle.weave_examples.proofs.ListedRuns.{zeros_start, found, run_is, state_of}
use Rattle.weave_examples.proofs.LoopKept.{loop_words, loop_input, loop_output, loop_new_code, loop_stand, output_run, input_ended, none, none_reached, steady_none}
use Rattle.weave_examples.proofs.ListedChanges.{changed_go, closed_there}
use Rattle.lockstep.proofs.Lemmas.{tests_caught, tests_turned, instruction_faults_are_caught}

loop_caught : CaughtInStep loop_input loop_output any_address [] loop_plan.bounds 32 120
loop_caught = tests_caught loop defaults loop_blocks loop_words.0 loop_plan loop_words.1 loop_told any_address (any_reached loop defaults refl)

-- 7 in x5 after some steps
abbrev pub seven : ℕ → Change
seven n = record { step = n; place = Reg 5; value = 7 }

-- the output's registers in the first turn of the loop, behind the comparison, with a number in x5
abbrev pub turn : ℕ → List ℕ
turn x = 0 ∷ 0 ∷ 0 ∷ 0 ∷ 0 ∷ x ∷ 0 ∷ 0 ∷ 0 ∷ 0 ∷ 0 ∷ 0 ∷ 0 ∷ 0 ∷ 4096 ∷ 0 ∷ 0x10004 ∷ 0 ∷ 0 ∷ 0 ∷ 0 ∷ 1 ∷ 0 ∷ 0 ∷ 0 ∷ 0 ∷ 0 ∷ 0 ∷ 0 ∷ 0 ∷ 0x10004 ∷ 0 ∷ []

-- ---- a change at an open place: the guard of x5 is next
-- x5 is 1 after 72 steps; with 7 instead the guard fires with step 74
before_change : after_output loop_output zeros 72 ≡ state_of loop_output (turn 1) 0x1319c Going
unfolding execute jumped computed_value value holds
before_change = output_run 72 refl

open_fired : changed_run (start loop_output zeros) (seven 72 ∷ []) 74 ≡ state_of loop_output (turn 7) 0x131a0 Fired
unfolding execute jumped computed_value value holds struck
open_fired = changed_go loop_output 0x13000 loop_new_code loop_stand (seven 72) 71 2 (turn 7) 0x1319c refl refl refl refl

-- the promise covers this change: all its premises are met
is_open : is_closed (after_output loop_output zeros 72) 5 ≡ false
unfolding uses is_checked guards_other
is_open = ap (λ s. is_closed s 5) before_change ∙ closed_there loop_output 0x13000 loop_new_code loop_stand 5 (turn 1) 0x1319c (ins Beq 0 5 21 (pos 8)) (ins Ebreak 0 0 0 (pos 0)) (ins Bne 0 5 0 (pos 8)) refl refl refl

open_settles : SettlesWithin [] 72 272 (changed_run (start loop_output zeros) (seven 72 ∷ [])) (after_output loop_output zeros)
open_settles = loop_caught.settles zeros (seven 72 ∷ []) 272 zeros_start tt ((omega arith, omega arith), is_open, tt) refl (covers_steady loop_input loop_output any_address 32 120 zeros (72 + 272) ((steady_any loop_input (72 + 272)).1 (input_ended (72 + 272) (omega arith)))) (ap (λ s. s.outcome) before_change)

-- ---- a change at a closed place, which the promise does not cover: the use of x5 is next
at_use : is_closed (after_output loop_output zeros 73) 5 ≡ true
unfolding uses is_checked guards_other execute jumped computed_value value holds
at_use = ap (λ s. is_closed s 5) (output_run 73 refl) ∙ closed_there loop_output 0x13000 loop_new_code loop_stand 5 (turn 1) 0x131a4 (ins Bne 0 5 0 (pos 8)) (ins Jal 0 0 0 (pos 8)) (ins Jal 0 0 0 (pos 8)) refl refl refl

-- the comparison of the next piece finds this change later, with step 86
closed_fired : changed_run (start loop_output zeros) (seven 73 ∷ []) 86 ≡ state_of loop_output (0 ∷ 0 ∷ 0 ∷ 0 ∷ 0 ∷ 6 ∷ 0 ∷ 0 ∷ 0 ∷ 0 ∷ 0 ∷ 0 ∷ 0 ∷ 0 ∷ 4096 ∷ 0 ∷ 0x10004 ∷ 0 ∷ 0 ∷ 0 ∷ 0 ∷ 0 ∷ 0 ∷ 0 ∷ 0 ∷ 0 ∷ 0 ∷ 0 ∷ 0 ∷ 0 ∷ 0x10004 ∷ 0 ∷ []) 0x13140 Fired
unfolding execute jumped computed_value value holds struck
closed_fired = changed_go loop_output 0x13000 loop_new_code loop_stand (seven 73) 72 13 (turn 7) 0x131a4 refl refl refl refl

-- ---- a wrong instruction: the test's first one gives 7, not 2. The set of reached addresses is empty
loop_faults : FaultsFound loop_input loop_output none [] loop_plan.bounds 32 120
loop_faults = instruction_faults_are_caught loop defaults loop_blocks loop_words.0 loop_plan loop_words.1 loop_told none none_reached

-- the output's registers in the first block, with numbers in x5 and x21
abbrev first_turn : ℕ → ℕ → List ℕ
first_turn x y = 0 ∷ 0 ∷ 0 ∷ 0 ∷ 0 ∷ x ∷ 0 ∷ 0 ∷ 0 ∷ 0 ∷ 0 ∷ 0 ∷ 0 ∷ 0 ∷ 4096 ∷ 0 ∷ 0x10000 ∷ 0 ∷ 0 ∷ 0 ∷ 0 ∷ y ∷ 0 ∷ 0 ∷ 0 ∷ 0 ∷ 0 ∷ 0 ∷ 0 ∷ 0 ∷ 0x10000 ∷ 0 ∷ []

-- after 33 steps this instruction is next
before_two : after_output loop_output zeros 33 ≡ state_of loop_output (first_turn 0 0) 0x13088 Going
unfolding execute jumped computed_value value holds
before_two = output_run 33 refl

two_next : next (after_output loop_output zeros 33) ≡ Known (ins Addi 5 0 0 (pos 2))
two_next = ap next before_two ∙ found (fetched_at (memory_of loop_output.segments) loop_output.ranges) 0x13000 loop_new_code 0x13088 (ins Addi 5 0 0 (pos 2)) loop_stand refl

-- the state that the wrong instruction leaves
abbrev wrong_two : State
wrong_two = moved (set_reg 5 7 (after_output loop_output zeros 33).regs) (next_pc (after_output loop_output zeros 33)) (after_output loop_output zeros 33)

-- all premises of the promise are met
two_settles : SettlesWithin [] 0 272 (run wrong_two) (λ k. after_output loop_output zeros (34 + k))
two_settles =
    loop_faults.results zeros 33 (ins Addi 5 0 0 (pos 2)) wrong_two zeros_start (ap (λ s. s.outcome) before_two) two_next (record { writes = inl refl; some = omega arith; low = omega arith })
    (gives 7 refl) (covers_steady loop_input loop_output none 32 120 zeros (34 + 272) (steady_none (34 + 272) (omega arith)))

-- the comparison of x5 fires seven steps later
wrong_is : wrong_two ≡ state_of loop_output (first_turn 7 0) 0x1308c Going
wrong_is = ap (λ s. moved (set_reg 5 7 s.regs) (next_pc s) s) before_two

two_fired : run wrong_two 7 ≡ state_of loop_output (first_turn 7 2) 0x130b4 Fired
unfolding execute jumped computed_value value holds
two_fired = ap (λ s. run s 7) wrong_is ∙ run_is (memory_of loop_output.segments) loop_output.ranges 0x13000 loop_new_code loop_stand 7 (state_of loop_output (first_turn 7 0) 0x1308c Going) refl refl refl

-- ---- a wrong comparison: the guard of x5, which is next after 72 steps, goes on to its EBREAK
guard_goes : (misled (ins Beq 0 5 21 (pos 8)) (after_output loop_output zeros 72)).outcome ≡ Going
unfolding holds
guard_goes = ap (λ s. (misled (ins Beq 0 5 21 (pos 8)) s).outcome) before_change

guard_next : next (misled (ins Beq 0 5 21 (pos 8)) (after_output loop_output zeros 72)) ≡ ebreak
unfolding holds
guard_next = ap (λ s. next (misled (ins Beq 0 5 21 (pos 8)) s)) before_change ∙ found (fetched_at (memory_of loop_output.segments) loop_output.ranges) 0x13000 loop_new_code 0x131a0 (ins Ebreak 0 0 0 (pos 0)) loop_stand refl

guard_fires : Fires 1 (misled (ins Beq 0 5 21 (pos 8)) (after_output loop_output zeros 72))
guard_fires = loop_faults.comparisons zeros 72 (ins Beq 0 5 21 (pos 8)) guard_goes guard_next

guard_fired : run (misled (ins Beq 0 5 21 (pos 8)) (after_output loop_output zeros 72)) 1 ≡ state_of loop_output (turn 1) 0x131a0 Fired
unfolding execute holds
guard_fired = ap (λ s. run (misled (ins Beq 0 5 21 (pos 8)) s) 1) before_change ∙ run_is (memory_of loop_output.segments) loop_output.ranges 0x13000 loop_new_code loop_stand 1 (state_of loop_output (turn 1) 0x131a0 Going) refl refl refl

-- ---- a wrong branch: that of the first turn is not taken
loop_turned : BranchesFound 6 loop_input loop_output none 32 120
loop_turned = tests_turned loop defaults loop_blocks loop_words.0 loop_plan loop_words.1 loop_told none none_reached

-- it is next after 73 steps
before_bne : after_output loop_output zeros 73 ≡ state_of loop_output (turn 1) 0x131a4 Going
unfolding execute jumped computed_value value holds
before_bne = output_run 73 refl

bne_next : next (after_output loop_output zeros 73) ≡ Known (ins Bne 0 5 0 (pos 8))
bne_next = ap next before_bne ∙ found (fetched_at (memory_of loop_output.segments) loop_output.ranges) 0x13000 loop_new_code 0x131a4 (ins Bne 0 5 0 (pos 8)) loop_stand refl

-- all premises of the promise are met
bne_turned : IsTurned 6 (misled (ins Bne 0 5 0 (pos 8)) (after_output loop_output zeros 73)) (after_output loop_output zeros 80)
bne_turned =
    loop_turned.found zeros 73 (ins Bne 0 5 0 (pos 8)) zeros_start (ap (λ s. s.outcome) before_bne) bne_next
    (record { branch = refl; first = omega arith; second = omega arith; some = omega arith })
    (covers_steady loop_input loop_output none 32 120 zeros 80 (steady_none 80 (omega arith)))

-- the entry of 0x1000c fires with the fifth step
bne_fired : run (misled (ins Bne 0 5 0 (pos 8)) (after_output loop_output zeros 73)) 5 ≡ state_of loop_output (set_reg 30 0x1000c (turn 1)) 0x131bc Fired
unfolding execute jumped computed_value value holds
bne_fired = ap (λ s. run (misled (ins Bne 0 5 0 (pos 8)) s) 5) before_bne ∙ run_is (memory_of loop_output.segments) loop_output.ranges 0x13000 loop_new_code loop_stand 5 (state_of loop_output (turn 1) 0x131a8 Going) refl refl refl
