use Rattle.std.proofs.Common.{refl}
use Rattle.flow_recovery.proofs.FoundLaws.{summed_is}
use Rattle.flow_recovery.proofs.pointers.summed.Goals as goal

pub returns : goal.returns
returns c =
    summed_is c.args.code.now c.args.found _ _ _ _ _ _ _ c.deref.ensures.value c.deref-2.ensures.value c.as_slice-words.ensures refl refl c.new.ensures.items
    c.in_ok-add_all_pointed.ensures.same c.in_ok-values.ensures.exact c.in_ok-offsets.ensures c.in_ok-add_all_pointed.ensures.covers
