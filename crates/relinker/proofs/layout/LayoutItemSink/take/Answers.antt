use Rattle.std.proofs.Common.{subst}
use Rattle.qed_model.specs.Weave.Parts.{joined}
use Rattle.relinker.specs.Laid.{IsLaidIn}
use Rattle.relinker.proofs.RoleRows.{joined_more}
use Rattle.relinker.proofs.layout.LayoutItemSink.take.Goals as goal

pub add-requires : goal.add-requires
add-requires c = let n = c.requires in (n.0, joined n.1, joined n.2, n.3)

pub returns : goal.returns
returns c = λ form done rest was.
    subst (λ items. IsLaidIn c.add.new.self form items (joined rest)) (joined_more done c.args._role c.args.items.now) (c.add.ensures form (joined done) (joined rest) was)
