use Rattle.std.proofs.Common.{◌≡◌, false, true, sym, ◌∙◌, ap}
use Rattle.tests.specs.declared.range.Span.{Span}
use Rattle.std.specs.Prelude.{List, Bool}
use Rattle.tests.specs.Ranges.{spans}
use Rattle.tests.specs.Admission.Terms.{is_code_address, ElfFile}
use Rattle.tests.specs.Admission.CodeWords.{ranges_of, is_code}
use Rattle.test_admission.proofs.ShapeLaws.{refused_entry, refused_section, refused_segment}
use Rattle.test_admission.proofs.shape.check_shape.Goals as goal

entry : (f : ElfFile) (ranges : List Span) (b found : Bool) → spans ranges ≡ ranges_of f → found ≡ is_code_address (spans ranges) f.entry → found ≡ b → is_code f f.entry ≡ b
entry f ranges b found e h is = sym (h ∙ ap (λ r. is_code_address r f.entry) e) ∙ is

pub returns-then-not-is_code-clause-order : goal.returns-then-not-is_code-clause-order
returns-then-not-is_code-clause-order c = refused_entry c.args.file.now c.requires.passed (entry c.args.file.now c.args.ranges.now false _ c.requires.ranges c.is_code.ensures c.if-not-is_code.true)

pub returns-in-Some-clause-order : goal.returns-in-Some-clause-order
returns-in-Some-clause-order c = refused_section c.args.file.now c.requires.passed (entry c.args.file.now c.args.ranges.now true _ c.requires.ranges c.is_code.ensures c.if-not-is_code.false) c.in-Some.number c.in-Some.ensures

pub returns-in-Some-first_misshapen_segment-clause-order : goal.returns-in-Some-first_misshapen_segment-clause-order
returns-in-Some-first_misshapen_segment-clause-order c = refused_segment c.args.file.now c.requires.passed (entry c.args.file.now c.args.ranges.now true _ c.requires.ranges c.is_code.ensures c.if-not-is_code.false) c.in_default.ensures c.in-Some-first_misshapen_segment.number c.in-Some-first_misshapen_segment.ensures
