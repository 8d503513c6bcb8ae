use Rattle.std.proofs.Common.{◌≡◌, ◌+◌, [], ◌∷◌, ap, ◌∙◌, arith}
use Rattle.qed_model.specs.declared.item.Item.TheVariants.{Constant}
use Rattle.qed_model.specs.Weave.Placed.{sum_of_sizes}
use Rattle.relinker.proofs.Joining.{parts_join}
use Rattle.call_tests.proofs.too_large.constants.Goals as goal

pub loop-preserved : goal.loop-preserved
loop-preserved c = λ far.
    let e : sum_of_sizes far c.push.new.self ≡ sum_of_sizes far c.loop.items + sum_of_sizes far (Constant c.register.result 0 ∷ []) =
    ap (λ is. sum_of_sizes far is) c.in_ok-push.ensures.all ∙ (parts_join far (λ a. a) 0 c.loop.items (Constant c.register.result 0 ∷ [])).bytes in
    omega (arith, e, c.loop.invariant far)
