-- The known test with a data word in the lean form: a wrong store, with all premises met.
use Rattle.std.proofs.Common.{◌≡◌, inl, ℕ, ◌+◌, ◌-◌, true, false, List, [], ◌∷◌, refl, sym, ap, ◌∙◌, subst, arith}
use Rattle.std.proofs.lemmas.Bool.{false≢true, leb-true}
use Rattle.tests.specs.Elf.FileRead.{file_read}
use Rattle.machine.specs.Below.{each, gather}
use Rattle.machine.specs.Cells.{number_among}
use Rattle.machine.specs.Loading.{loaded_file}
use Rattle.machine.specs.Numbers.{number_bytes}
use Rattle.qed_model.specs.Promise.Changed.{IsDataWord}
use Rattle.qed_model.specs.Promise.Faults.{FaultsFound, stores, word_around}
use Rattle.qed_model.specs.Promise.InStep.{SettlesWithin}
use Rattle.qed_model.specs.Promise.Kept.{after_output}
use Rattle.qed_model.specs.Weave.LeanBounds.{lean_bounds}
use Rattle.qed_model.specs.Weave.LeanCode.{lean_items}
use Rattle.qed_model.specs.Weave.Placed.{placed}
use Rattle.qed_model.proofs.ExampleCode as code
use Rattle.weave_core.specs.World.{Program, memory_of, start, zeros, Going, Ins, Known, State, HasAt, fetched_at, next, next_pc, place, put, run, stored, execute, jumped, computed_value, value, holds, loaded}
use Rattle.weave_core.proofs.FileOfItems as of
use Rattle.lean.specs.Tests.{AreLeanBlocks, IsLeanTest, lean_file}
use Rattle.lean.proofs.Weave.Tests as lean
use Rattle.weave_examples.proofs.KnownFiles.{store, store_sound}
use Rattle.weave_examples.proofs.LeanBlocks.{options, sound, are_lean}
use Rattle.weave_examples.proofs.ListedRuns.{AllSized, covers_steady, zeros_start, found, loading_run, state_of}
use Rattle.weave_examples.proofs.LoopKept.{none}
use Rattle.weave_examples.proofs.StoreCaught.{spans, store_steady}
use Rattle.weave_examples.proofs.StoreExample.{store_code, store_known, sd, store_blocks, store_each, store_are}
use Rattle.weave_examples.proofs.StoreKept.{store_input}

cut : AreLeanBlocks store options 1200 store_blocks
cut = record {
  file = store_sound;
  sound = sound;
  admitted = code.admitted store 0x10000 store_code store_known refl options refl refl (omega arith) (omega arith) (omega arith) (omega arith);
  lean = refl;
  are = are_lean store store_code store_known refl refl refl store_blocks (store_each false) (store_are false) (refl, tt);
}

lean_words : (words : List ℕ) × IsLeanTest store options 1200 store_blocks words
lean_words = lean.tests_have_words store options 1200 store_blocks cut (omega arith)

abbrev lean_output : Program
lean_output = loaded_file (file_read (lean_file store options 1200 store_blocks lean_words.0))

abbrev new_code : List Ins
new_code = placed false 0x43000 (lean_items store options 1200 store_blocks)

stand : HasAt (fetched_at (memory_of lean_output.segments) lean_output.ranges) 0x43000 new_code
stand = of.stand store options sound store_sound.loads cut.admitted store_blocks cut.are false true (lean_items store options 1200 store_blocks) lean_words.0 (lean.are_items store options 1200 store_blocks cut lean_words.0 lean_words.1)

sized : AllSized lean_output.segments
unfolding each
sized = (omega arith, (leb-true _ _ refl, (omega arith, (leb-true _ _ refl, (omega arith, (omega arith, tt))))))

faults : FaultsFound store_input lean_output none spans (lean_bounds store options 1200) 55 182
faults = lean.tests_faults store options 1200 store_blocks lean_words.0 lean_words.1 none (λ e a h. absurd (false≢true h))

-- the test's store is next after 102 steps, behind the first check
before_store : after_output lean_output zeros 102 ≡ state_of lean_output (0 ∷ 0 ∷ 0 ∷ 0 ∷ 0 ∷ 0 ∷ 0 ∷ 0 ∷ 0x20000 ∷ 5 ∷ 10 ∷ 0 ∷ 0 ∷ 0 ∷ 0x11000 ∷ 886 ∷ 0x10000 ∷ 0 ∷ 0 ∷ 0 ∷ 0 ∷ 0 ∷ 0 ∷ 0 ∷ 0x20000 ∷ 5 ∷ 10 ∷ 0 ∷ 0 ∷ 0 ∷ 0x31000 ∷ 0x20000 ∷ []) 0x431d8 Going
unfolding execute jumped computed_value value holds loaded number_among each gather number_bytes
before_store = loading_run lean_output.segments sized lean_output.ranges 0x43000 new_code stand 102 (start lean_output zeros) refl refl refl

store_next : next (after_output lean_output zeros 102) ≡ Known sd
store_next = ap next before_store ∙ found (fetched_at (memory_of lean_output.segments) lean_output.ranges) 0x43000 new_code 0x431d8 sd stand refl

stores_word : IsDataWord spans (word_around (place sd (after_output lean_output zeros 102)))
stores_word = subst (λ s. IsDataWord spans (word_around (place sd s))) (sym before_store) (inl (refl, omega arith, omega arith))

stores_last : IsDataWord spans (word_around (place sd (after_output lean_output zeros 102) + 8 - 1))
stores_last = subst (λ s. IsDataWord spans (word_around (place sd s + 8 - 1))) (sym before_store) (inl (refl, omega arith, omega arith))

-- the state that it leaves if it stores 7, not 10
abbrev wrong_store : State
wrong_store = let s = after_output lean_output zeros 102 in stored (put s.memory (place sd s) 8 7) (next_pc s) s

-- all premises of the promise are met
store_settles : SettlesWithin spans 0 2590 (run wrong_store) (λ k. after_output lean_output zeros (103 + k))
store_settles =
    faults.stores zeros 102 2590 sd wrong_store zeros_start (ap (λ s. s.outcome) before_store) store_next (record { stores = refl; first = stores_word; last = stores_last }) (stores 7 refl) refl
    (covers_steady store_input lean_output none 55 182 zeros (103 + 2590) (store_steady (103 + 2590) (omega arith)))
