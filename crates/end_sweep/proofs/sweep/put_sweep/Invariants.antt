use Rattle.std.proofs.Common.{drop}
use Rattle.qed_model.specs.Weave.Sequences.{sweep}
use Rattle.passes.specs.Emitted.{Done}
use Rattle.plc_rounds.specs.Spans.{spans_of}
use Rattle.end_sweep.proofs.sweep.put_sweep.Given as goal

-- the comparisons of the ranges so far, and those of the rest
abbrev pub invariant-loop-range : goal.invariant-loop-range
invariant-loop-range l = Done l.initial.out l.out (sweep (spans_of l.spans)) (sweep (spans_of (drop l.range-index l.spans)))
