use Rattle.std.proofs.Common.{◌≡◌, ◌++◌, List, length, drop, ◌≤◌, ◌-◌}
use Rattle.std.specs.Prelude.{flat_map, drop, ◌≤◌, ◌-◌}
use Rattle.rv_isa.specs.declared.ins.Ins.{Ins}
use Rattle.qed_model.specs.Weave.Pieces.{AreRuns, run_lengths, whole}
use Rattle.block_split.specs.Lengths.{MakeUp}
use Rattle.block_split.proofs.pieces.split.Given as goal

-- the runs so far, with those of the rest, make up the body
abbrev pub invariant-loop-at : goal.invariant-loop-at
invariant-loop-at l = record {
  within : l.at ≤ length l.body;
  made : (later : List (List Ins)) → whole later ≡ drop l.at l.body → AreRuns later → MakeUp l.max l.body (l.lengths.items ++ flat_map (λ run. run_lengths l.max (length run)) later);
}

abbrev pub decreases-loop-at : goal.decreases-loop-at
decreases-loop-at l = length l.body - l.at
