use Rattle.std.proofs.Common.{◌-◌}
use Rattle.qed_model.specs.Weave.Sequences.{visit, visit_word, times}
use Rattle.passes.specs.Emitted.{Done}
use Rattle.plc_rounds.specs.Spans.{spans_of}
use Rattle.plc_rounds.proofs.visit.VisitPass.emit.Given as goal

-- the visits so far, and the rest
abbrev pub invariant-loop : goal.invariant-loop
invariant-loop l = Done l.initial.out l.out (visit l.self.round (spans_of l.self.span)) (times (l.self.round - l.counter) (visit_word (spans_of l.self.span)))
