-- The known test with a loop in the lean form, with entries that test the signature: it has words. Its
-- promises on jumps that land wrong, x14, the duplicate half and wrong instructions are at work, with computed runs.
use Rattle.std.proofs.Common.{◌≡◌, ◌⊎◌, inl, inr, ⊎_elim, ℕ, zero, suc, ◌+◌, ◌*◌, ◌<◌, ◌≤◌, true, false, List, [], ◌∷◌, length, Option, Some, None, is_some, refl, sym, ap, ◌∙◌, subst, arith}
use Rattle.std.specs.Prelude.{pos, neg_ℤ, slice_index}
use Rattle.std.proofs.lemmas.Bool.{false≢true}
use Rattle.tests.specs.Elf.FileRead.{file_read}
use Rattle.machine.specs.Loading.{loaded_file}
use Rattle.machine.specs.Below.{gather}
use Rattle.machine.specs.Cells.{cell_among, number_among}
use Rattle.machine.specs.Numbers.{bytes_of, number_bytes}
use Rattle.machine.specs.Struck.{struck}
use Rattle.machine.specs.declared.place.Place.TheVariants.{Reg, Word}
use Rattle.qed_model.specs.declared.change.Change.{Change}
use Rattle.qed_model.specs.Promise.Changed.{changed_run, with_changes}
use Rattle.qed_model.specs.Weave.Sequences.{Stops}
use Rattle.qed_model.specs.Weave.Blocks.{begins_at}
use Rattle.qed_model.specs.Weave.OutputFile.{table_bytes}
use Rattle.qed_model.specs.Weave.Placed.{placed, rows_from}
use Rattle.qed_model.specs.Weave.LeanCode.{lean_items}
use Rattle.qed_model.specs.Weave.LeanBounds.{lean_bounds}
use Rattle.qed_model.specs.Promise.Closed.{is_checked}
use Rattle.qed_model.specs.Promise.Faults.{FaultsFound, gives, misled}
use Rattle.qed_model.specs.Promise.InStep.{SettlesWithin}
use Rattle.qed_model.specs.Promise.Kept.{after_input, after_output, is_mapped}
use Rattle.qed_model.specs.Promise.Landed.{Fires, placed_at}
use Rattle.qed_model.proofs.ExampleCode as code
use Rattle.weave_core.specs.World.{Program, Cell, allows, memory_of, start, zeros, Going, Ended, Fired, Ins, Addi, Beq, Bne, Ebreak, Known, ebreak, loaded, State, byte_at, get, HasAt, fetched_at, moved, next, next_pc, reg, run, set_reg, DISTANCE, CURSOR, SIGNATURE, execute, jumped, computed_value, value, holds}
use Rattle.weave_core.proofs.FileOfItems as of
use Rattle.weave_core.proofs.FilesFit.{length-table}
use Rattle.lean.specs.Tests.{AreLeanBlocks, IsLeanTest, lean_file}
use Rattle.machine.specs.Members.{Among, Every}
use Rattle.rv_isa.specs.Operation.{ReadsRegister}
use Rattle.machine.specs.Table.{Auipc, Ecall, ins}
use Rattle.lean.specs.Strayed.{IsInBlock, Strayed, Displaced, Adrift, Stopped, HasCount, with_distance, displaced_steps, code_in, entry_in}
use Rattle.lean.specs.Undisturbed.{Undisturbed, HasOriginals, ComesTo, FollowsTo, AllMay, IsIdle, undisturbed_piece, undisturbed_ends, change_price, slipped_run, writes}
use Rattle.lean.proofs.Weave.Tests as lean
use Rattle.weave_examples.proofs.KnownFiles.{loop, loop_sound}
use Rattle.weave_examples.proofs.LeanBlocks.{options, sound, are_lean}
use Rattle.weave_examples.proofs.LoopExample.{loop_code, loop_known, loop_blocks, loop_each, loop_are}
use Rattle.weave_examples.proofs.LoopKept.{loop_input, none, steady_none}
use Rattle.weave_examples.proofs.ListedRuns.{AllSized, every_among, found_among, get_among, has_not, has_parts, none_among, covers_steady, zeros_start, found, go, go_loading, is_loading_run, is_simple_run, loading_run, run_is, state_of}
use Rattle.weave_examples.proofs.ListedChanges.{changes_go}

-- ---- the test
cut : AreLeanBlocks loop options 1200 loop_blocks
cut = record {
  file = loop_sound;
  sound = sound;
  admitted = code.admitted loop 0x10000 loop_code loop_known refl options refl refl (omega arith) (omega arith) (omega arith) (omega arith);
  lean = refl;
  are = are_lean loop loop_code loop_known refl refl refl loop_blocks (loop_each false) (loop_are false) (refl, (refl, (refl, tt)));
}

-- ---- its output
pub lean_words : (words : List ℕ) × IsLeanTest loop options 1200 loop_blocks words
lean_words = lean.tests_have_words loop options 1200 loop_blocks cut (omega arith)

abbrev pub lean_output : Program
lean_output = loaded_file (file_read (lean_file loop options 1200 loop_blocks lean_words.0))

abbrev pub new_code : List Ins
new_code = placed false 0x13000 (lean_items loop options 1200 loop_blocks)

pub stand : HasAt (fetched_at (memory_of lean_output.segments) lean_output.ranges) 0x13000 new_code
stand = of.stand loop options sound loop_sound.loads cut.admitted loop_blocks cut.are false true (lean_items loop options 1200 loop_blocks) lean_words.0 (lean.are_items loop options 1200 loop_blocks cut lean_words.0 lean_words.1)

-- a run from a state whose memory is that of the file
pub runs : (n : ℕ) (s : State) → is_simple_run 0x13000 new_code n s ≡ true → s.memory ≡ memory_of lean_output.segments → s.ranges ≡ lean_output.ranges → run s n ≡ go 0x13000 new_code n s
runs n s simple memory ranges = run_is (memory_of lean_output.segments) lean_output.ranges 0x13000 new_code stand n s simple memory ranges

-- ---- the promises
strayed : Strayed lean_output (code_in loop options 1200 loop_blocks) (entry_in loop options 1200 loop_blocks) loop_blocks
strayed = lean.tests_strayed loop options 1200 loop_blocks lean_words.0 lean_words.1 refl

displaced : Displaced lean_output (code_in loop options 1200 loop_blocks) (entry_in loop options 1200 loop_blocks) loop_blocks
displaced = lean.tests_displaced loop options 1200 loop_blocks lean_words.0 lean_words.1

adrift : Adrift lean_output (code_in loop options 1200 loop_blocks) 4096 (entry_in loop options 1200 loop_blocks) loop_blocks
adrift = lean.tests_adrift loop options 1200 loop_blocks lean_words.0 lean_words.1

-- ---- at work
-- after 31 steps the output stands at the entry of 0x10000, with a count of 2047
abbrev first_entry : List ℕ
first_entry = 0 ∷ 0 ∷ 0 ∷ 0 ∷ 0 ∷ 0 ∷ 0 ∷ 0 ∷ 0 ∷ 0 ∷ 0 ∷ 0 ∷ 0 ∷ 0 ∷ 4096 ∷ 2047 ∷ 0x10000 ∷ 0 ∷ 0 ∷ 0 ∷ 0 ∷ 0 ∷ 0 ∷ 0 ∷ 0 ∷ 0 ∷ 0 ∷ 0 ∷ 0 ∷ 0 ∷ 0 ∷ 0 ∷ []

at_entry : after_output lean_output zeros 31 ≡ state_of lean_output first_entry 0x1314c Going
unfolding execute jumped computed_value value holds
at_entry = runs 31 (start lean_output zeros) refl refl refl

goes_on : (after_output lean_output zeros 31).outcome ≡ Going
goes_on = ap (λ s. s.outcome) at_entry

-- a count below 2048, and the signature of another block than that of 0x1000c
counted : HasCount (reg (after_output lean_output zeros 31) CURSOR)
counted = let e = ap (λ s. reg s CURSOR) at_entry in record { count = omega (arith, e); offset = omega (arith, e) }

other_sign : reg (after_output lean_output zeros 31) SIGNATURE ≡ 0x1000c → ⊥
other_sign h = let e = ap (λ s. reg s SIGNATURE) at_entry in absurd (omega (arith, e, h))

-- set to the entry of 0x1000c, it is over; the check there fires with the fourth step
displaced_there : Stopped displaced_steps (placed_at 0x131c4 (after_output lean_output zeros 31))
displaced_there = displaced.stops zeros 31 0x1000c zeros_start goes_on refl counted other_sign

displaced_fires : run (placed_at 0x131c4 (after_output lean_output zeros 31)) 4 ≡ state_of lean_output (set_reg 30 0x1000c first_entry) 0x131d0 Fired
unfolding execute jumped computed_value value holds
displaced_fires = ap (λ s. run (placed_at 0x131c4 s) 4) at_entry ∙ runs 4 (state_of lean_output first_entry 0x131c4 Going) refl refl refl

-- set behind the pieces of this block, which has none, it is over too: at the end of the test its signature is compared
last_block : Among (record { start = 0x1000c; body = [] ∷ []; end = Stops (ins Ecall 0 0 0 (pos 0)); reached = false }) loop_blocks
last_block = inr (inr (inl refl))

behind_pieces : IsInBlock (code_in loop options 1200 loop_blocks) (entry_in loop options 1200 loop_blocks) (record { start = 0x1000c; body = [] ∷ []; end = Stops (ins Ecall 0 0 0 (pos 0)); reached = false }) 0x131d4
behind_pieces = record { words = 0; within = omega arith; there = refl }

strayed_there : Stopped 19 (placed_at 0x131d4 (after_output lean_output zeros 31))
strayed_there = strayed.stops zeros 31 0x131d4 _ zeros_start goes_on last_block behind_pieces other_sign

strayed_fires : run (placed_at 0x131d4 (after_output lean_output zeros 31)) 19 ≡ state_of lean_output (set_reg 30 0x1000c first_entry) 0x13254 Fired
unfolding execute jumped computed_value value holds
strayed_fires = ap (λ s. run (placed_at 0x131d4 s) 19) at_entry ∙ runs 19 (state_of lean_output first_entry 0x131d4 Going) refl refl refl

-- with 7 in x14 at its own entry it is over: the tick goes to the check, which compares x14
adrift_there : Stopped displaced_steps (with_distance 7 (placed_at 0x1314c (after_output lean_output zeros 31)))
adrift_there = adrift.stops zeros 31 0x10000 7 zeros_start goes_on refl counted (λ e. absurd (omega (arith, e)))

adrift_fires : (run (with_distance 7 (placed_at 0x1314c (after_output lean_output zeros 31))) 11).outcome ≡ Fired
unfolding execute jumped computed_value value holds
adrift_fires = ap (λ s. (run (with_distance 7 (placed_at 0x1314c s)) 11).outcome) at_entry ∙ ap (λ s. s.outcome) (runs 11 (state_of lean_output (set_reg DISTANCE 7 first_entry) 0x1314c Going) refl refl refl)

-- ---- anything in the duplicate half
pub undisturbed : Undisturbed loop_input lean_output none 0x10000 4096 (entry_in loop options 1200 loop_blocks) loop_blocks (undisturbed_piece true 0 1) (undisturbed_ends [])
undisturbed = lean.tests_undisturbed loop options 1200 loop_blocks lean_words.0 lean_words.1 none (λ e a h. absurd (false≢true h))

-- at the entry of 0x10000 with a count of 2047, all pairs, x30 and x31 are 5
abbrev all_five : List ℕ
all_five = 0 ∷ 0 ∷ 0 ∷ 0 ∷ 0 ∷ 0 ∷ 0 ∷ 0 ∷ 0 ∷ 0 ∷ 0 ∷ 0 ∷ 0 ∷ 0 ∷ 4096 ∷ 2047 ∷ 0x10000 ∷ 5 ∷ 5 ∷ 5 ∷ 5 ∷ 5 ∷ 5 ∷ 5 ∷ 5 ∷ 5 ∷ 5 ∷ 5 ∷ 5 ∷ 5 ∷ 5 ∷ 5 ∷ []

input_starts : after_input loop_input 0 ≡ start loop_input zeros
unfolding run
input_starts = refl

originals : HasOriginals loop_input lean_output 0x10000 4096 (entry_in loop options 1200 loop_blocks) (start loop_input zeros) (state_of lean_output all_five 0x1314c Going)
originals = let both = of.both loop options sound loop_sound.loads cut.admitted loop_blocks cut.are false true (lean_items loop options 1200 loop_blocks) lean_words.0 (lean.are_items loop options 1200 loop_blocks cut lean_words.0 lean_words.1) none (λ e a h. absurd (false≢true h)) in record {
  going = refl;
  here = refl;
  originals = low;
  bytes = λ q e. ap (λ m. byte_at m q) both.output ∙ both.bytes q (ap (λ m. is_some (get m q)) (sym both.input) ∙ e) ∙ sym (ap (λ m. byte_at m q) both.input);
  sign = refl;
  distance_is = refl;
  zero_reg = refl;
  count = refl;
  code = λ a. refl;
  flags = λ q. refl;
  fixed = λ q low high. refl;
} where
  low : (r : ℕ) → 1 ≤ r → r ≤ 13 → slice_index all_five r ≡ slice_index zeros r
  low zero h k = refl
  low (suc zero) h k = refl
  low (suc (suc zero)) h k = refl
  low (suc (suc (suc zero))) h k = refl
  low (suc (suc (suc (suc zero)))) h k = refl
  low (suc (suc (suc (suc (suc zero))))) h k = refl
  low (suc (suc (suc (suc (suc (suc zero)))))) h k = refl
  low (suc (suc (suc (suc (suc (suc (suc zero))))))) h k = refl
  low (suc (suc (suc (suc (suc (suc (suc (suc zero)))))))) h k = refl
  low (suc (suc (suc (suc (suc (suc (suc (suc (suc zero))))))))) h k = refl
  low (suc (suc (suc (suc (suc (suc (suc (suc (suc (suc zero)))))))))) h k = refl
  low (suc (suc (suc (suc (suc (suc (suc (suc (suc (suc (suc zero))))))))))) h k = refl
  low (suc (suc (suc (suc (suc (suc (suc (suc (suc (suc (suc (suc zero)))))))))))) h k = refl
  low (suc (suc (suc (suc (suc (suc (suc (suc (suc (suc (suc (suc (suc zero))))))))))))) h k = refl
  low (suc (suc (suc (suc (suc (suc (suc (suc (suc (suc (suc (suc (suc (suc r)))))))))))))) h k = absurd (omega (arith, k))

-- all premises are met, and the check that the tick calls fires with the twelfth step
undisturbed_there : ComesTo loop_input (after_input loop_input 6) (state_of lean_output all_five 0x1314c Going) (7 * undisturbed_piece true 0 1 + undisturbed_ends [])
undisturbed_there =
    undisturbed.follows 0 6 (state_of lean_output all_five 0x1314c Going) (ap (λ s. s.outcome) input_starts) (ap (λ s. begins_at loop_blocks s.pc) input_starts)
    (subst (λ s. HasOriginals loop_input lean_output 0x10000 4096 (entry_in loop options 1200 loop_blocks) s (state_of lean_output all_five 0x1314c Going)) (sym input_starts) originals) (steady_none 6 (omega arith))

undisturbed_fires : (run (state_of lean_output all_five 0x1314c Going) 12).outcome ≡ Fired
unfolding execute jumped computed_value value holds
undisturbed_fires = ap (λ s. s.outcome) (runs 12 (state_of lean_output all_five 0x1314c Going) refl refl refl)

-- ---- a wrong instruction: the first one gives 7, not 0. The set of reached addresses is empty
lean_faults : FaultsFound loop_input lean_output none [] (lean_bounds loop options 1200) 45 182
lean_faults = lean.tests_faults loop options 1200 loop_blocks lean_words.0 lean_words.1 none (λ e a h. absurd (false≢true h))

at_start : after_output lean_output zeros 0 ≡ state_of lean_output zeros 0x13000 Going
at_start = runs 0 (start lean_output zeros) refl refl refl

first_next : next (after_output lean_output zeros 0) ≡ Known (ins Addi 1 0 0 (pos 0))
first_next = ap next at_start ∙ found (fetched_at (memory_of lean_output.segments) lean_output.ranges) 0x13000 new_code 0x13000 (ins Addi 1 0 0 (pos 0)) stand refl

-- the state that the wrong instruction leaves
abbrev wrong_first : State
wrong_first = moved (set_reg 1 7 (after_output lean_output zeros 0).regs) (next_pc (after_output lean_output zeros 0)) (after_output lean_output zeros 0)

-- all premises of the promise are met
first_settles : SettlesWithin [] 0 1327 (run wrong_first) (λ k. after_output lean_output zeros (1 + k))
first_settles =
    lean_faults.results zeros 0 (ins Addi 1 0 0 (pos 0)) wrong_first zeros_start (ap (λ s. s.outcome) at_start) first_next (record { writes = inl refl; some = omega arith; low = omega arith })
    (gives 7 refl) (covers_steady loop_input lean_output none 45 182 zeros (1 + 1327) (steady_none (1 + 1327) (omega arith)))

-- the first check fires 42 steps later
first_fires : (run wrong_first 42).outcome ≡ Fired
unfolding execute jumped computed_value value holds
first_fires = ap (λ s. (run (moved (set_reg 1 7 s.regs) (next_pc s) s) 42).outcome) at_start ∙ ap (λ s. s.outcome) (runs 42 (state_of lean_output (set_reg 1 7 zeros) 0x13004 Going) refl refl refl)

-- ---- changes of the duplicate half, at any steps
-- the new code ends below 0x14000
size : length (bytes_of lean_words.0) ≡ 712
size = of.length-code loop options sound loop_sound.loads cut.admitted loop_blocks cut.are false true (lean_items loop options 1200 loop_blocks) lean_words.0 (lean.are_items loop options 1200 loop_blocks cut lean_words.0 lean_words.1)

table_size : length (table_bytes 4096 (rows_from false 0x13000 (lean_items loop options 1200 loop_blocks))) ≡ 16
table_size = length-table 4096 (rows_from false 0x13000 (lean_items loop options 1200 loop_blocks))

sized : AllSized lean_output.segments
sized = (omega arith, (omega arith, (omega arith, (omega arith, tt))))

low : Every (λ t. t.address + t.size ≤ 0x14000) lean_output.segments
low = (omega arith, (omega arith, (omega (arith, table_size), (omega (arith, size), tt))))

pub unmapped : (q : ℕ) → 0x14000 ≤ q → is_mapped lean_output q ≡ false
unmapped q l =
    ap is_some (get_among lean_output.segments q sized ∙ none_among lean_output.segments q (λ s m. let h = every_among (λ t. t.address + t.size ≤ 0x14000) s lean_output.segments low m in has_not s q (inr (omega (arith, h, l)))))

-- the new code alone is executed
fixed : Every (λ t. (t.flags.execute ≡ false) ⊎ (0x13000 ≤ t.address)) lean_output.segments
fixed = (inl refl, (inl refl, (inl refl, (inr (omega arith), tt))))

unexecuted : (q : ℕ) → q < 0x13000 → allows (λ c. c.execute) (get (memory_of lean_output.segments) q) ≡ false
unexecuted q l = ap (allows (λ c. c.execute)) (get_among lean_output.segments q sized) ∙ by (cell_among lean_output.segments q) refl where
  by : (o : Option Cell) → cell_among lean_output.segments q ≡ o → allows (λ c. c.execute) o ≡ false
  by None e = refl
  by (Some c) e =
      let f = found_among lean_output.segments q c e in
      let from = (has_parts f.segment q f.holds).0 in
      ap (λ k. k.flags.execute) f.cell_is ∙ ⊎_elim (λ h. h) (λ h. absurd (omega (arith, h, from, l))) (every_among (λ t. (t.flags.execute ≡ false) ⊎ (0x13000 ≤ t.address)) f.segment lean_output.segments fixed f.among)

-- x15 is 0 at the first entry, so the first tick passes; later x20 is 9, and the pair of the first code word 7
abbrev few : Change
few = record { step = 31; place = Reg 15; value = 0 }

abbrev nine : Change
nine = record { step = 40; place = Reg 20; value = 9 }

abbrev word : Change
word = record { step = 45; place = Word 0x11000; value = 7 }

-- at that entry x30 is 7, and the next instruction sets it
abbrev idle : Change
idle = record { step = 31; place = Reg 30; value = 7 }

abbrev four : List Change
four = few ∷ idle ∷ nine ∷ word ∷ []

-- the run with them
abbrev changing : ℕ → State
changing n = changed_run (start lean_output zeros) four n

at_tick : changing 31 ≡ state_of lean_output (set_reg 30 7 (set_reg 15 0 first_entry)) 0x1314c Going
unfolding changed_run with_changes struck execute jumped computed_value value holds
at_tick = changes_go 0x13000 new_code (omega arith) (start lean_output zeros) four 0 31 (start lean_output zeros) (tt, (tt, (tt, (omega arith, tt)))) refl stand refl

abbrev entry_word : Ins
entry_word = ins Auipc 30 0 0 (neg_ℤ (pos 0x3000))

entry_sets : next (changing 31) ≡ Known entry_word
entry_sets = ap next at_tick ∙ found (fetched_at (memory_of lean_output.segments) lean_output.ranges) 0x13000 new_code 0x1314c entry_word stand refl

no_register : {r : ℕ} → None ≡ Some r → ⊥
no_register e = absurd (cc)

unread : ReadsRegister entry_word 30 → ⊥
unread (inl e) = no_register e
unread (inr e) = no_register e

same_ins : {i j : Ins} → Known i ≡ Known j → i ≡ j
same_ins e = cc

waits_for_no_use : IsIdle changing 30 31
waits_for_no_use zero i going known reads = let e : i ≡ entry_word = same_ins (sym known ∙ entry_sets) in absurd (unread (subst (λ j. ReadsRegister j 30) e reads))
waits_for_no_use (suc k) i going known reads = (0, omega arith, record { ins = entry_word; going = ap (λ s. s.outcome) at_tick; known = entry_sets; sets = refl; rd = refl })

duplicate : AllMay lean_output 0x10000 4096 changing four
duplicate = (inl (inl refl), (inr (inl refl, waits_for_no_use), (inl (inr (omega arith, omega arith)), (inl (record { above = omega arith; below = omega arith; no_code = λ q a b. unexecuted q (omega (arith, b)) }), tt))))

-- all premises are met
keeps_there : FollowsTo loop_input 6 (31 + undisturbed_piece true 0 1 + undisturbed_ends [] + 4 * change_price (undisturbed_piece true 0 1) (undisturbed_ends []) 0x14000) (undisturbed_piece true 0 1) changing
keeps_there = undisturbed.keeps zeros four 6 0x14000 zeros_start duplicate unmapped (omega arith) (steady_none 6 (omega arith))

-- the comparison at the end of the test fires with step 70; without the change of x20 the run ends with step 97
keeps_fires : (changing 70).outcome ≡ Fired
unfolding changed_run with_changes struck execute jumped computed_value value holds
keeps_fires = ap (λ s. s.outcome) (changes_go 0x13000 new_code (omega arith) (start lean_output zeros) four 0 70 (start lean_output zeros) (tt, (tt, (tt, (omega arith, tt)))) refl stand refl)

keeps_ends : (changed_run (start lean_output zeros) (few ∷ idle ∷ word ∷ []) 97).outcome ≡ Ended
unfolding changed_run with_changes struck execute jumped computed_value value holds
keeps_ends = ap (λ s. s.outcome) (changes_go 0x13000 new_code (omega arith) (start lean_output zeros) (few ∷ idle ∷ word ∷ []) 0 97 (start lean_output zeros) (tt, (tt, (omega arith, tt))) refl stand refl)

-- ---- a slip of an instruction that writes there: x20 gets 9, not 0
before_slip : after_output lean_output zeros 16 ≡ state_of lean_output zeros 0x13040 Going
unfolding execute jumped computed_value value holds
before_slip = runs 16 (start lean_output zeros) refl refl refl

behind_slip : (after_output lean_output zeros 17).outcome ≡ Going
unfolding execute jumped computed_value value holds
behind_slip = ap (λ s. s.outcome) (runs 17 (start lean_output zeros) refl refl refl)

slip_next : next (after_output lean_output zeros 16) ≡ Known (ins Addi 20 0 0 (pos 0))
slip_next = ap next before_slip ∙ found (fetched_at (memory_of lean_output.segments) lean_output.ranges) 0x13000 new_code 0x13040 (ins Addi 20 0 0 (pos 0)) stand refl

abbrev slipped : State
slipped = moved (set_reg 20 9 (after_output lean_output zeros 16).regs) (next_pc (after_output lean_output zeros 16)) (after_output lean_output zeros 16)

-- all premises are met
slips_there : FollowsTo loop_input 6 (31 + undisturbed_piece true 0 1 + undisturbed_ends [] + change_price (undisturbed_piece true 0 1) (undisturbed_ends []) 0x14000) (undisturbed_piece true 0 1) (slipped_run lean_output zeros 16 slipped)
slips_there =
    undisturbed.slips zeros 16 6 0x14000 (ins Addi 20 0 0 (pos 0)) slipped zeros_start (ap (λ s. s.outcome) before_slip) slip_next behind_slip (writes (inl refl) (inr (omega arith, omega arith)) (gives 9 refl)) unmapped (omega arith) (steady_none 6 (omega arith))

-- the check that the first tick calls fires with step 46
slips_fires : (slipped_run lean_output zeros 16 slipped 46).outcome ≡ Fired
unfolding execute jumped computed_value value holds
slips_fires = ap (λ s. (run (moved (set_reg 20 9 s.regs) (next_pc s) s) 29).outcome) before_slip ∙ ap (λ s. s.outcome) (runs 29 (state_of lean_output (set_reg 20 9 zeros) 0x13044 Going) refl refl refl)

-- ---- a wrong branch of the test: that of the first turn is next after 91 steps, behind the first check, and is taken
abbrev in_turn : List ℕ
in_turn = 0 ∷ 0 ∷ 0 ∷ 0 ∷ 0 ∷ 1 ∷ 0 ∷ 0 ∷ 0 ∷ 0 ∷ 0 ∷ 0 ∷ 0 ∷ 0 ∷ 4096 ∷ 892 ∷ 0x10004 ∷ 0 ∷ 0 ∷ 0 ∷ 0 ∷ 1 ∷ 0 ∷ 0 ∷ 0 ∷ 0 ∷ 0 ∷ 0 ∷ 0 ∷ 0 ∷ 0x10004 ∷ 0x37c0000000000000 ∷ []

-- a run with loads, from such a state
pub runs_loading : (n : ℕ) (s : State) → is_loading_run lean_output.segments 0x13000 new_code n s ≡ true → s.memory ≡ memory_of lean_output.segments → s.ranges ≡ lean_output.ranges → run s n ≡ go_loading lean_output.segments 0x13000 new_code n s
runs_loading n s simple memory ranges = loading_run lean_output.segments sized lean_output.ranges 0x13000 new_code stand n s simple memory ranges

pub with_loads : (n : ℕ) → is_loading_run lean_output.segments 0x13000 new_code n (start lean_output zeros) ≡ true → after_output lean_output zeros n ≡ go_loading lean_output.segments 0x13000 new_code n (start lean_output zeros)
with_loads n simple = runs_loading n (start lean_output zeros) simple refl refl

before_branch : after_output lean_output zeros 91 ≡ state_of lean_output in_turn 0x131a8 Going
unfolding execute jumped computed_value value holds loaded number_among gather number_bytes
before_branch = with_loads 91 refl

branch_next : next (after_output lean_output zeros 91) ≡ Known (ins Beq 0 5 0 (pos 16))
branch_next = ap next before_branch ∙ found (fetched_at (memory_of lean_output.segments) lean_output.ranges) 0x13000 new_code 0x131a8 (ins Beq 0 5 0 (pos 16)) stand refl

branch_checked : is_checked (Known (ins Beq 0 5 0 (pos 16))) (let s = after_output lean_output zeros 91 in fetched_at s.memory s.ranges (next_pc s)) ≡ true
unfolding is_checked
branch_checked = ap (λ s. is_checked (Known (ins Beq 0 5 0 (pos 16))) (fetched_at s.memory s.ranges (next_pc s))) before_branch ∙ ap (is_checked (Known (ins Beq 0 5 0 (pos 16)))) (found (fetched_at (memory_of lean_output.segments) lean_output.ranges) 0x13000 new_code 0x131ac (ins Bne 0 21 0 (pos 8)) stand refl)

-- all premises of the promise are met
branch_fires : Fires 2 (misled (ins Beq 0 5 0 (pos 16)) (after_output lean_output zeros 91))
branch_fires =
    lean_faults.branches zeros 91 (ins Beq 0 5 0 (pos 16)) zeros_start (ap (λ s. s.outcome) before_branch) branch_next
    (record { own = record { branch = refl; first = omega arith; second = omega arith; some = omega arith }; checked = branch_checked })
    (covers_steady loop_input lean_output none 45 182 zeros 94 (steady_none 94 (omega arith)))

branch_fired : run (misled (ins Beq 0 5 0 (pos 16)) (after_output lean_output zeros 91)) 2 ≡ state_of lean_output in_turn 0x131bc Fired
unfolding execute jumped computed_value value holds
branch_fired = ap (λ s. run (misled (ins Beq 0 5 0 (pos 16)) s) 2) before_branch ∙ runs 2 (state_of lean_output in_turn 0x131b8 Going) refl refl refl

-- ---- a wrong comparison: the branch on the pairs behind it, which is next after 92 steps, goes on to its EBREAK
before_pairs : after_output lean_output zeros 92 ≡ state_of lean_output in_turn 0x131ac Going
unfolding execute jumped computed_value value holds loaded number_among gather number_bytes
before_pairs = with_loads 92 refl

pairs_go : (misled (ins Bne 0 21 0 (pos 8)) (after_output lean_output zeros 92)).outcome ≡ Going
unfolding holds
pairs_go = ap (λ s. (misled (ins Bne 0 21 0 (pos 8)) s).outcome) before_pairs

pairs_next : next (misled (ins Bne 0 21 0 (pos 8)) (after_output lean_output zeros 92)) ≡ ebreak
unfolding holds
pairs_next = ap (λ s. next (misled (ins Bne 0 21 0 (pos 8)) s)) before_pairs ∙ found (fetched_at (memory_of lean_output.segments) lean_output.ranges) 0x13000 new_code 0x131b0 (ins Ebreak 0 0 0 (pos 0)) stand refl

pairs_fire : Fires 1 (misled (ins Bne 0 21 0 (pos 8)) (after_output lean_output zeros 92))
pairs_fire = lean_faults.comparisons zeros 92 (ins Bne 0 21 0 (pos 8)) pairs_go pairs_next

pairs_fired : run (misled (ins Bne 0 21 0 (pos 8)) (after_output lean_output zeros 92)) 1 ≡ state_of lean_output in_turn 0x131b0 Fired
unfolding execute holds
pairs_fired = ap (λ s. run (misled (ins Bne 0 21 0 (pos 8)) s) 1) before_pairs ∙ runs 1 (state_of lean_output in_turn 0x131b0 Going) refl refl refl
