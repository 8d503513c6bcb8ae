use Rattle.std.proofs.Common.{◌∷◌, drop}
use Rattle.qed_model.specs.Weave.Sequences.{wraps}
use Rattle.passes.specs.Emitted.{Done}
use Rattle.plc_rounds.specs.Spans.{spans_of}
use Rattle.plc_rounds.proofs.visit.put_wraps.Given as goal

-- the words so far, and those of the last range and of the others
abbrev pub invariant-loop-next : goal.invariant-loop-next
invariant-loop-next l = Done l.initial.out l.out (wraps (spans_of (l.fn.range ∷ l.more)) l.first) (wraps (spans_of (l.last ∷ drop l.next-index l.more)) l.first)
