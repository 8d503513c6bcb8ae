use Rattle.std.proofs.Common.{rules, ◌<◌, subst}
use Rattle.qed_model.specs.Weave.Sequences.{visit_word, visit}
use Rattle.passes.specs.Emitted.{AppendsPart}
use Rattle.plc_rounds.specs.Spans.{spans_of}
use Rattle.plc_rounds.specs.Laws.{times_part}
use Rattle.plc_rounds.proofs.visit.VisitPass.emit.Goals as goal

-- the visit that was begun has a first part of its words
pub returns-in_err-put_word-clause-part : goal.returns-in_err-put_word-clause-part
returns-in_err-put_word-clause-part c =
    let spans = spans_of c.args.self.now.span in
    let more : c.loop.counter < c.args.self.now.round = search rules in
    let some : AppendsPart c.loop.out c.put_word.new.out (visit_word (spans_of c.args.self.now.span)) = subst (λ xs. AppendsPart c.loop.out c.put_word.new.out (visit_word (spans_of xs))) c.as_slice.ensures c.in_err-put_word.ensures.part in
    let part : AppendsPart c.args.out.now c.put_word.new.out (visit c.args.self.now.round spans) = times_part c.args.out.now c.loop.out c.put_word.new.out (visit c.args.self.now.round spans) c.args.self.now.round c.loop.counter (visit_word spans) more c.loop.invariant some in
    search rules
