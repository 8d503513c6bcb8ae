use Rattle.std.proofs.Common.{position, ap, ◌∙◌, rules}
use Rattle.tests.specs.Admission.Rules.{is_writable_code}
use Rattle.tests.specs.Admission.Refusals.{IsFirstOf}
use Rattle.test_admission.proofs.Firsts.{found}
use Rattle.test_admission.proofs.header.check_header.Goals as goal

pub returns-in-Some : goal.returns-in-Some
returns-in-Some c =
    let first : IsFirstOf c.args.file.now.segments is_writable_code c.in-Some.number = found _ _ _ (c.in-Some.ensures ∙ ap (position is_writable_code) c.as_slice-segments.ensures) in
    search rules
