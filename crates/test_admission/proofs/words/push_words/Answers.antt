use Rattle.std.proofs.Common.{◌≡◌, ◌+◌, ◌*◌, ◌/◌, Option, Some, None, false, sym, ◌∙◌, ap}
use Rattle.std.specs.Prelude.{is_none, unwrap_or}
use Rattle.std.proofs.lemmas.Bool.{false≢true}
use Rattle.machine.specs.Table.{decode_of, Ins}
use Rattle.test_admission.specs.declared.rules.CodeRule.TheVariants as rule
use Rattle.test_admission.specs.Stretches.{part_of}
use Rattle.test_admission.proofs.FirstFault.{each_passes}
use Rattle.test_admission.proofs.Listing.{push_step, decoded_step}
use Rattle.test_admission.proofs.words.push_words.Goals as goal

there : (x : Option Ins) (i other : Ins) → is_none x ≡ false → i ≡ unwrap_or x other → x ≡ Some i
there None i other some e = absurd (false≢true (sym some))
there (Some j) i other some e = ap Some (sym e)

pub loop-number-preserved : goal.loop-number-preserved
loop-number-preserved c =
    let passes = each_passes rule.Unknown (part_of c.args.stretch.now) c.loop-number.number c.requires.known c.loop-number-test.true in
    let some : is_none c.decode.result ≡ false = ap is_none c.decode.ensures.instruction ∙ ap (λ w. is_none (decode_of w)) c.word_in-word.ensures ∙ passes in
    let decoded : decode_of c.word_in-word.result ≡ Some c.unwrap_or.result = sym c.decode.ensures.instruction ∙ there c.decode.result c.unwrap_or.result _ some c.unwrap_or.ensures in
    record {
      words = push_step (part_of c.args.stretch.now) c.loop-number.number (c.args.stretch.now.size / 4) c.loop-number.words.items c.push.new.self.items _ _ c.in_ok-push.ensures.items c.loop-number-test.true (ap (λ w. (c.args.stretch.now.start + 4 * c.loop-number.number, w)) c.word_in-word.ensures) c.loop-number.invariant.words;
      decoded = λ h. decoded_step c.loop-number.words.items c.push.new.self.items _ c.in_ok-push.ensures.items decoded (c.loop-number.invariant.decoded h);
    }
