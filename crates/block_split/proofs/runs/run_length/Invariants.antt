use Rattle.std.proofs.Common.{◌≡◌, ℕ, true, false, take}
use Rattle.std.specs.Prelude.{slice_index_or}
use Rattle.qed_model.specs.Weave.Pieces.{is_run}
use Rattle.block_split.specs.Lengths.{written_by}
use Rattle.block_split.proofs.runs.run_length.Given as goal

-- the instructions so far are a run, and the registers that they write are noted
abbrev pub invariant-loop-instruction : goal.invariant-loop-instruction
invariant-loop-instruction l = record {
  counted : l.count ≡ l.instruction-index;
  same : (r : ℕ) → slice_index_or l.written r false ≡ written_by (take l.instruction-index l.body) r;
  run : is_run (take l.instruction-index l.body) ≡ true;
}
