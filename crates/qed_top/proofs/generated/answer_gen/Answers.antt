use Rattle.std.proofs.Common.{◌∙◌, subst}
use Rattle.tests.specs.Options.{default_options}
use Rattle.transform.specs.Transform.{HasCause, Transforms}
use Rattle.qed_top.specs.Gen as gens
use Rattle.qed_top.proofs.Gens.{large_of}
use Rattle.qed_top.proofs.generated.answer_gen.Goals as goal

pub deliver-requires-clause-made : goal.deliver-requires-clause-made
deliver-requires-clause-made c =
    let file = c.in-Ok.made.file in
    let plan = c.in-Ok.made.plan in
    subst (λ b. Transforms b default_options file plan) (c.as_slice.ensures ∙ c.in_ok-test.ensures.file)
    (subst (λ o. Transforms c.as_slice.result.now o file plan) c.default.ensures c.in-Ok.ensures.done)

pub returns-in_ok-deliver-in-Ok : goal.returns-in_ok-deliver-in-Ok
returns-in_ok-deliver-in-Ok c =
    let file = c.in-Ok.made.file in
    let plan = c.in-Ok.made.plan in
    gens.generates (record {
      file = file;
      plan = plan;
      made = subst (λ b. Transforms b default_options file plan) (c.as_slice.ensures ∙ c.in_ok-test.ensures.file) (subst (λ o. Transforms c.as_slice.result.now o file plan) c.default.ensures c.in-Ok.ensures.done);
      uses = c.in_ok-deliver-in-Ok.ensures;
    })

pub returns-in_ok-refused-in-Err : goal.returns-in_ok-refused-in-Err
returns-in_ok-refused-in-Err c =
    let e = c.in-Err.error in
    let cause = subst (λ b. HasCause b default_options e) (c.as_slice.ensures ∙ c.in_ok-test.ensures.file) (subst (λ o. HasCause c.as_slice.result.now o e) c.default.ensures c.in-Err.ensures.refused) in
    gens.large_code (large_of c.args.seed c.args.size c.requires.some c.requires.small e c.in_ok-refused-in-Err.field-0 cause c.in_ok-refused-in-Err.ensures.memory c.in_ok-refused-in-Err.ensures.answer)
