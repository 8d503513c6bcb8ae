use Rattle.std.proofs.Common.{◌+◌, ◌-◌, ◌≤◌}
use Rattle.qed_model.specs.Weave.Sequences.{zero_from}
use Rattle.passes.specs.Emitted.{Done}
use Rattle.weave.proofs.prologue.put_zeros.Given as goal

-- the registers so far, and the rest
abbrev pub invariant-loop-k : goal.invariant-loop-k
invariant-loop-k l = (l.k ≤ l.count) × Done l.initial.out l.out (zero_from l.first l.count) (zero_from (l.first + l.k) (l.count - l.k))
