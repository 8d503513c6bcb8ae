use Rattle.std.proofs.Common.{◌∙◌, ap, sym, rules}
use Rattle.tests.specs.Admission.Refusals.{IsRefusedBy}
use Rattle.test_admission.specs.declared.rules.CodeRule.TheVariants as rule
use Rattle.test_admission.specs.Faults.{first_among}
use Rattle.test_admission.specs.Stretches.{stretch_parts}
use Rattle.test_admission.proofs.OrderLaws.{admitted, cause_of}
use Rattle.test_admission.proofs.check.check_rules.Goals as goal

pub returns-in_err-check_header : goal.returns-in_err-check_header
returns-in_err-check_header c = let h : IsRefusedBy c.args.file.now c.args.options.now c.in_err-check_header.field-0.0 = c.in_err-check_header.ensures c.args.options.now in let cause = cause_of c.args.file.now c.args.options.now c.in_err-check_header.field-0.0 h in search rules

pub returns-in_err-check_shape : goal.returns-in_err-check_shape
returns-in_err-check_shape c = let h : IsRefusedBy c.args.file.now c.args.options.now c.in_err-check_shape.field-0.0 = c.in_err-check_shape.ensures.order c.args.options.now in let cause = cause_of c.args.file.now c.args.options.now c.in_err-check_shape.field-0.0 h in search rules

pub returns-in_err-check_code : goal.returns-in_err-check_code
returns-in_err-check_code c = let h : IsRefusedBy c.args.file.now c.args.options.now c.in_err-check_code.field-0.0 = c.in_err-check_code.ensures.order c.args.options.now in let cause = cause_of c.args.file.now c.args.options.now c.in_err-check_code.field-0.0 h in search rules

pub returns-in_err-check_data : goal.returns-in_err-check_data
returns-in_err-check_data c = let h : IsRefusedBy c.args.file.now c.args.options.now c.in_err-check_data.field-0.0 = c.in_err-check_data.ensures c.args.options.now in let cause = cause_of c.args.file.now c.args.options.now c.in_err-check_data.field-0.0 h in search rules

pub returns : goal.returns
returns c = record {
  admitted = admitted c.args.file.now c.args.options.now c.in_ok-check_top.ensures.order;
  ranges = c.in_ok-ranges.ensures;
  code = c.in_ok-code.ensures;
  known = ap (λ ss. first_among rule.Unknown (stretch_parts ss)) (sym c.deref-3.ensures.value) ∙ c.in_ok-check_code.ensures.known;
  places = c.image_places-places.ensures;
  small = c.in_ok-check_span.ensures.small;
  spans = c.in_ok-spans.ensures;
}
