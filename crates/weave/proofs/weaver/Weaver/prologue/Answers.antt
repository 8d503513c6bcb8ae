use Rattle.std.proofs.Common.{◌++◌, ap, ◌∙◌}
use Rattle.std.specs.Prelude.{pos, [], ◌∷◌}
use Rattle.machine.specs.Table.{Lui, ins}
use Rattle.qed_model.specs.declared.item.Item.TheVariants.{Plain}
use Rattle.qed_model.specs.Weave.Sequences.{zero_from, cursor, go_on, ORIGINALS, DISTANCE}
use Rattle.plc_rounds.specs.Spans.{spans_of}
use Rattle.weave.specs.Form.{form}
use Rattle.weave.proofs.Joined.{append_five}
use Rattle.weave.proofs.weaver.Weaver.prologue.Goals as goal

-- the parts, one after another
pub returns : goal.returns
returns c =
    append_five c.args.out.now c.put_zeros.new.out c.put_zeros-2.new.out c.put_half.new.out c.put_cursor.new.out c.go_on.new.out (zero_from 1 ORIGINALS) (zero_from 17 ORIGINALS) (Plain (ins Lui DISTANCE 0 0 (pos c.args.distance)) ∷ []) (cursor (form c.args.self.now).spans) (go_on c.args.entry)
    c.in_ok-put_zeros.ensures c.in_ok-put_zeros-2.ensures c.in_ok-put_half.ensures (c.in_ok-put_cursor.ensures ∙ ap (λ s. c.put_half.new.out ++ cursor (spans_of s)) c.as_slice.ensures) c.in_ok-go_on.ensures
