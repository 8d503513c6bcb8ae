-- Slips of instructions that are none of the test's own, in the lean form of the known test with a loop: the promises
-- on them are at work, with computed runs.
use Rattle.std.proofs.Common.{◌≡◌, ◌⊎◌, inl, inr, ⊎_elim, ℕ, ◌+◌, true, List, [], ◌∷◌, Some, refl, sym, ap, ◌∙◌, subst, arith}
use Rattle.std.specs.Prelude.{pos, neg_ℤ}
use Rattle.std.proofs.lemmas.Bool.{false≢true, false_from_ne_true}
use Rattle.machine.specs.Below.{gather}
use Rattle.machine.specs.Cells.{number_among}
use Rattle.machine.specs.Numbers.{number_bytes}
use Rattle.machine.specs.Table.{Add, Bge, Ecall, Illegal, Jal, Lui}
use Rattle.machine.specs.declared.outcome.Cause.TheVariants as cause
use Rattle.machine.specs.declared.outcome.Outcome.TheVariants.{Trapped}
use Rattle.qed_model.specs.Promise.Kept.{Steady, after_input, after_output, is_trapped}
use Rattle.weave_core.specs.World.{memory_of, start, zeros, Going, Ended, Fired, Ins, ins, Addi, Known, State, fetched_at, next, run, execute, jumped, computed_value, value, holds, loaded}
use Rattle.lean.specs.Strayed.{Stopped}
use Rattle.lean.specs.Slips.{NoWrongEnd, others as other_slip}
use Rattle.lean.specs.Undisturbed.{EndsRight, FollowsTo, GoesOn, SlipsOther, change_price, gives, skips, slip_steps, slipped_run, turns, undisturbed_ends, undisturbed_piece}
use Rattle.lean.proofs.Weave.EndsRight.{ends_not_over}
use Rattle.lean.proofs.Weave.Tests as lean
use Rattle.weave_examples.proofs.LeanExample.{lean_output, lean_words, new_code, stand, runs, runs_loading, undisturbed, unmapped, with_loads}
use Rattle.weave_examples.proofs.KnownFiles.{loop}
use Rattle.weave_examples.proofs.LeanBlocks.{options}
use Rattle.weave_examples.proofs.LoopExample.{loop_blocks}
use Rattle.weave_examples.proofs.LoopKept.{input_end, loop_input, none, steady_none}
use Rattle.weave_examples.proofs.ListedRuns.{step-known, found, instruction_at, state_of, zeros_start}

-- ---- the premises
-- the run without a slip ends with step 140, so it is never over
ends : (after_output lean_output zeros 140).outcome ≡ Ended
unfolding execute jumped computed_value value holds loaded number_among gather number_bytes
ends = ap (λ s. s.outcome) (with_loads 140 refl)

goes_on : (m : ℕ) → GoesOn lean_output zeros m
goes_on m k l o = ends_not_over (start lean_output zeros) 140 (m + k) ends (record { steps = m + k; within = omega arith; over = o })

-- the input is steady for ever
steady : (k : ℕ) → Steady loop_input none k
steady k = record {
  no_trap = false_from_ne_true (is_trapped (after_input loop_input k).outcome) (λ t. ends_not_over (start loop_input zeros) 6 k (ap (λ s. s.outcome) input_end) (record { steps = k; within = omega arith; over = inr t }));
  leads = λ j l. (steady_none (6 + k) (omega arith)).leads j (omega (arith, l));
}

-- the run with a slip at step m comes to the input's six states
abbrev Comes : ℕ → State → Type 0
Comes m v = FollowsTo loop_input 6 (31 + undisturbed_piece true 0 1 + undisturbed_ends [] + change_price (undisturbed_piece true 0 1) (undisturbed_ends []) 0x14000) (undisturbed_piece true 0 1) (slipped_run lean_output zeros m v)

-- all premises are met by a known state after m steps
module _ (m : ℕ) (regs : List ℕ) (pc : ℕ) (i : Ins) (v : State) (before : after_output lean_output zeros m ≡ state_of lean_output regs pc Going) (there : instruction_at 0x13000 new_code pc ≡ Some i) (slips : SlipsOther i (state_of lean_output regs pc Going) v) where
  here : next (after_output lean_output zeros m) ≡ Known i
  here = ap next before ∙ found (fetched_at (memory_of lean_output.segments) lean_output.ranges) 0x13000 new_code pc i stand there

  slip : SlipsOther i (after_output lean_output zeros m) v
  slip = subst (λ s. SlipsOther i s v) (sym before) slips

  others : Stopped slip_steps v ⊎ Comes m v
  others = undisturbed.others zeros m 6 0x14000 i v zeros_start (ap (λ s. s.outcome) before) here slip (goes_on m) unmapped (omega arith) (steady_none 6 (omega arith))

  right : (j : ℕ) → (run v j).outcome ≡ Ended → EndsRight loop_input (run v j)
  right j e = undisturbed.ends_right zeros m j 0x14000 i v zeros_start (ap (λ s. s.outcome) before) here (inr slip) (goes_on m) unmapped (omega arith) steady e

-- registers of the test's run: x5 and its pair, x14 to x16, x30 and x31
abbrev held : ℕ → ℕ → ℕ → ℕ → ℕ → ℕ → List ℕ
held five distance count sign entry spare = 0 ∷ 0 ∷ 0 ∷ 0 ∷ 0 ∷ five ∷ 0 ∷ 0 ∷ 0 ∷ 0 ∷ 0 ∷ 0 ∷ 0 ∷ 0 ∷ distance ∷ count ∷ sign ∷ 0 ∷ 0 ∷ 0 ∷ 0 ∷ five ∷ 0 ∷ 0 ∷ 0 ∷ 0 ∷ 0 ∷ 0 ∷ 0 ∷ 0 ∷ entry ∷ spare ∷ []

-- ---- the first turn, which is next after 82 steps, gives 7: the entry behind it fires
abbrev turned : State
turned = state_of lean_output (held 2 4096 856 7 0x10000 0x3580000000000000) 0x1317c Going

before_turn : after_output lean_output zeros 82 ≡ state_of lean_output (held 2 4096 856 0x10000 0x10000 0x3580000000000000) 0x13178 Going
unfolding execute jumped computed_value value holds loaded number_among gather number_bytes
before_turn = with_loads 82 refl

turn_slips : Stopped slip_steps turned ⊎ Comes 82 turned
turn_slips = others 82 _ _ (ins Addi 16 16 0 (pos 4)) turned before_turn refl (gives 7 (inl refl, inr (inl refl)) (omega arith) refl)

turn_fires : (run turned 4).outcome ≡ Fired
unfolding execute jumped computed_value value holds
turn_fires = ap (λ s. s.outcome) (runs 4 turned refl refl refl)

-- ---- the jump back, which is next after 93 steps, is skipped: the other way of the branch fires
abbrev fallen : State
fallen = state_of lean_output (held 1 4096 892 0x10004 0x10004 0x37c0000000000000) 0x131b8 Going

before_jump : after_output lean_output zeros 93 ≡ state_of lean_output (held 1 4096 892 0x10004 0x10004 0x37c0000000000000) 0x131b4 Going
unfolding execute jumped computed_value value holds loaded number_among gather number_bytes
before_jump = with_loads 93 refl

jump_slips : Stopped slip_steps fallen ⊎ Comes 93 fallen
jump_slips = others 93 _ _ (ins Jal 0 0 0 (neg_ℤ (pos 56))) fallen before_jump refl (skips (inr (inr (inl refl))) refl)

jump_fires : (run fallen 2).outcome ≡ Fired
unfolding execute jumped computed_value value holds
jump_fires = ap (λ s. s.outcome) (runs 2 fallen refl refl refl)

-- ---- the ECALL, which is next after 139 steps, is skipped: behind it stands no instruction
abbrev passed : State
passed = state_of lean_output (held 0 4096 928 0x1000c 0x1000c 0x3a00000000000000) 0x132c4 Going

before_end : after_output lean_output zeros 139 ≡ state_of lean_output (held 0 4096 928 0x1000c 0x1000c 0x3a00000000000000) 0x132c0 Going
unfolding execute jumped computed_value value holds loaded number_among gather number_bytes
before_end = with_loads 139 refl

end_slips : Stopped slip_steps passed ⊎ Comes 139 passed
end_slips = others 139 _ _ (ins Ecall 0 0 0 (pos 0)) passed before_end refl (skips (inr (inr (inr (inr refl)))) refl)

end_traps : run passed 1 ≡ state_of lean_output (held 0 4096 928 0x1000c 0x1000c 0x3a00000000000000) 0x132c4 (Trapped (cause.Word 0) 0x132c4)
unfolding execute run
end_traps = step-known passed (ins Illegal 0 0 0 (pos 0)) refl (found (fetched_at (memory_of lean_output.segments) lean_output.ranges) 0x13000 new_code 0x132c4 (ins Illegal 0 0 0 (pos 0)) stand refl)

-- ---- in the check that the first tick calls, x30 gets 7, not the entry: its comparison with x31 fires
abbrev misread : State
misread = state_of lean_output (held 0 4096 847 0x10000 7 0x12000) 0x1312c Going

before_entry : after_output lean_output zeros 66 ≡ state_of lean_output (held 0 4096 847 0x10000 0x114c 0x12000) 0x13128 Going
unfolding execute jumped computed_value value holds loaded number_among gather number_bytes
before_entry = with_loads 66 refl

entry_slips : Stopped slip_steps misread ⊎ Comes 66 misread
entry_slips = others 66 _ _ (ins Add 30 30 31 (pos 0)) misread before_entry refl (gives 7 (inl refl, inr (inr (inl refl))) (omega arith) refl)

entry_fires : (run misread 7).outcome ≡ Fired
unfolding execute jumped computed_value value holds loaded number_among gather number_bytes
entry_fires = ap (λ s. s.outcome) (runs_loading 7 misread refl refl refl)

-- ---- there the LUI gives 7 in x14: the end of the test fires
abbrev drifted : State
drifted = state_of lean_output (held 0 7 847 0x10000 0x1314c 0x1314c) 0x13140 Going

before_distance : after_output lean_output zeros 71 ≡ state_of lean_output (held 0 0x114c 847 0x10000 0x1314c 0x1314c) 0x1313c Going
unfolding execute jumped computed_value value holds loaded number_among gather number_bytes
before_distance = with_loads 71 refl

distance_slips : Stopped slip_steps drifted ⊎ Comes 71 drifted
distance_slips = others 71 _ _ (ins Lui 14 0 0 (pos 4096)) drifted before_distance refl (gives 7 (inl refl, inl refl) (omega arith) refl)

distance_fires : (run drifted 52).outcome ≡ Fired
unfolding execute jumped computed_value value holds
distance_fires = ap (λ s. s.outcome) (runs 52 drifted refl refl refl)

-- ---- in the start code the LUI gives 7 in x14: the check that the first tick calls fires
abbrev unrooted : State
unrooted = state_of lean_output (held 0 7 0 0 0 0) 0x1306c Going

before_root : after_output lean_output zeros 26 ≡ state_of lean_output (held 0 0 0 0 0 0) 0x13068 Going
unfolding execute jumped computed_value value holds loaded number_among gather number_bytes
before_root = with_loads 26 refl

root_slips : Stopped slip_steps unrooted ⊎ Comes 26 unrooted
root_slips = others 26 _ _ (ins Lui 14 0 0 (pos 4096)) unrooted before_root refl (gives 7 (inl refl, inl refl) (omega arith) refl)

root_fires : (run unrooted 15).outcome ≡ Fired
unfolding execute jumped computed_value value holds
root_fires = ap (λ s. s.outcome) (runs 15 unrooted refl refl refl)

-- ---- the branch of the first tick goes the other way, past the check: the next tick calls it, and the run ends right
abbrev unchecked : State
unchecked = state_of lean_output (held 0 4096 2056 0x10000 0x10000 0x8080000000000000) 0x13170 Going

before_tick : after_output lean_output zeros 36 ≡ state_of lean_output (held 0 4096 2056 0x10000 0x10000 0x8080000000000000) 0x13164 Going
unfolding execute jumped computed_value value holds
before_tick = runs 36 (start lean_output zeros) refl refl refl

tick_misled : SlipsOther (ins Bge 0 31 0 (pos 12)) (state_of lean_output (held 0 4096 2056 0x10000 0x10000 0x8080000000000000) 0x13164 Going) unchecked
unfolding jumped holds
tick_misled = turns refl refl

tick_slips : Stopped slip_steps unchecked ⊎ Comes 36 unchecked
tick_slips = others 36 _ _ (ins Bge 0 31 0 (pos 12)) unchecked before_tick refl tick_misled

tick_ends : (run unchecked 103).outcome ≡ Ended
unfolding execute jumped computed_value value holds loaded number_among gather number_bytes
tick_ends = ap (λ s. s.outcome) (runs_loading 103 unchecked refl refl refl)

tick_comes : Comes 36 unchecked
tick_comes = ⊎_elim (λ o. absurd (ends_not_over unchecked 103 slip_steps tick_ends o)) (λ f. f) tick_slips

tick_right : EndsRight loop_input (run unchecked 103)
tick_right = right 36 _ _ (ins Bge 0 31 0 (pos 12)) unchecked before_tick refl tick_misled 103 tick_ends

no_wrong_end : NoWrongEnd loop_input lean_output none [] 0x10000 4096
no_wrong_end = lean.tests_no_wrong_end loop options 1200 loop_blocks lean_words.0 lean_words.1 refl none (λ e a h. absurd (false≢true h))

-- the test has the sweep, so this holds of slips of each kind
tick_never_wrong : EndsRight loop_input (run unchecked 103)
tick_never_wrong =
    let i = ins Bge 0 31 0 (pos 12) in
    no_wrong_end.right zeros 36 103 0x14000 i unchecked zeros_start (ap (λ s. s.outcome) before_tick) (here 36 _ _ i unchecked before_tick refl tick_misled) (other_slip (slip 36 _ _ i unchecked before_tick refl tick_misled)) unmapped (omega arith) steady tick_ends
