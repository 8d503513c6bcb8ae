use Rattle.std.proofs.Common.{◌≡◌, ℕ, false, not, Option, Some, None, refl, sym, ap, ◌∙◌}
use Rattle.std.specs.Prelude.{is_some}
use Rattle.test_admission.specs.declared.rules.CodeRule.TheVariants as rule
use Rattle.test_admission.specs.Faults.{first_among}
use Rattle.test_admission.specs.Stretches.{stretch_parts}
use Rattle.test_admission.proofs.Faulting.{refused_unknown, refused_high, refused_break, refused_far}
use Rattle.test_admission.proofs.FirstFault.{none_each}
use Rattle.test_admission.proofs.faults.check_code.Goals as goal

none_is : (x : Option (ℕ × ℕ)) → is_some x ≡ false → x ≡ None
none_is None e = refl
none_is (Some y) e = absurd (cc)

pub returns-then-is_none-clause-known : goal.returns-then-is_none-clause-known
returns-then-is_none-clause-known c =
    let e : is_some (first_among (rule.Any c.args.base) (stretch_parts c.args.code.now)) ≡ false = ap is_some (sym c.first_among.ensures) ∙ c.is_none.ensures ∙ ap not c.if-is_none.true in
    (none_each c.args.base (stretch_parts c.args.code.now) (none_is _ e)).0

pub returns-in-Some-clause-order : goal.returns-in-Some-clause-order
returns-in-Some-clause-order c = refused_unknown c.args.file.now (stretch_parts c.args.code.now) c.requires.code c.requires.passed c.in-Some.address c.in-Some.word (sym c.in-Some.ensures)

pub returns-in-Some-first_high-clause-order : goal.returns-in-Some-first_high-clause-order
returns-in-Some-first_high-clause-order c = refused_high c.args.file.now (stretch_parts c.args.code.now) c.requires.code c.requires.passed (sym c.in_default.ensures) c.in-Some-first_high.error c.in-Some-first_high.ensures

pub returns-in-Some-first_among-clause-order : goal.returns-in-Some-first_among-clause-order
returns-in-Some-first_among-clause-order c = refused_break c.args.file.now (stretch_parts c.args.code.now) c.requires.code c.requires.passed (sym c.in_default.ensures) c.in_default-first_high.ensures c.in-Some-first_among.address _ (sym c.in-Some-first_among.ensures)

pub returns-in-Some-first_among-2-clause-order : goal.returns-in-Some-first_among-2-clause-order
returns-in-Some-first_among-2-clause-order c = refused_far c.args.file.now (stretch_parts c.args.code.now) c.requires.code c.requires.passed (sym c.in_default.ensures) c.in_default-first_high.ensures (sym c.in_default-first_among.ensures) c.args.base c.in-Some-first_among-2.address _ c.requires.base (sym c.in-Some-first_among-2.ensures)
