use Rattle.std.proofs.Common.{true, false, ◌++◌, sym, ap, ◌∙◌, subst}
use Rattle.relinker.specs.Link.{IsLinkable}
use Rattle.call_tests.proofs.JumpItems.{jump_items, near_linkable, far_linkable}
use Rattle.call_tests.proofs.jumps.jumps_near_and_far.Goals as goal

pub link-requires-clause-linkable : goal.link-requires-clause-linkable
link-requires-clause-linkable g c = λ _.
    subst (λ is. IsLinkable false 77944 is) (sym (c.in_ok-put.ensures.all ∙ ap (λ is. is ++ jump_items c.register.result) c.new-items.ensures ∙ ap (λ r. jump_items r) c.register.ensures)) near_linkable

pub link-requires-2-clause-linkable : goal.link-requires-2-clause-linkable
link-requires-2-clause-linkable g c = λ _.
    subst (λ is. IsLinkable true 77944 is) (sym (c.in_ok-put.ensures.all ∙ ap (λ is. is ++ jump_items c.register.result) c.new-items.ensures ∙ ap (λ r. jump_items r) c.register.ensures)) far_linkable
