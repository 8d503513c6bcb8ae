use Rattle.std.proofs.Common.{drop}
use Rattle.qed_model.specs.Weave.Sequences.{guards}
use Rattle.passes.specs.Emitted.{Done}
use Rattle.passes.specs.Pass.{AllLow}
use Rattle.passes.proofs.checks.put_guards.Given as goal

-- the comparisons so far, and those of the rest
abbrev pub invariant-loop-r : goal.invariant-loop-r
invariant-loop-r l = Done l.initial.out l.out (guards l.registers) (guards (drop l.r-index l.registers)) × AllLow (drop l.r-index l.registers)
