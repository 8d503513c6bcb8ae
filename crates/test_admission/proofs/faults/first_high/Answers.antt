use Rattle.std.proofs.Common.{◌∙◌, sym, ap}
use Rattle.std.specs.Prelude.{is_some}
use Rattle.std.proofs.lemmas.Bool.{false≢true}
use Rattle.test_admission.specs.declared.rules.CodeRule.TheVariants as rule
use Rattle.test_admission.specs.Stretches.{stretch_parts}
use Rattle.test_admission.proofs.FirstFault.{hit_among}
use Rattle.test_admission.proofs.faults.first_high.Goals as goal

pub returns-in_err-register : goal.returns-in_err-register
returns-in_err-register c =
    let hit = hit_among rule.Registers (stretch_parts c.args.code.now) (c.in_ok-address.address, c.in_ok-address.word) (sym c.in_ok-address.ensures) in
    absurd (false≢true (ap is_some c.in_err-register.ensures ∙ hit))
