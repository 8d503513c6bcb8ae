use Rattle.std.proofs.Common.{◌∙◌, subst}
use Rattle.qed_model.specs.Weave.Parts.{joined}
use Rattle.relinker.specs.Counted.{HasCounted}
use Rattle.relinker.proofs.RoleRows.{joined_more}
use Rattle.relinker.proofs.count.CountItemSink.take.Goals as goal

pub returns : goal.returns
returns c = λ form done rest was. (c.add.ensures.form ∙ was.0, subst (HasCounted c.add.new.self) (joined_more done c.args._role c.args.items.now) (c.in_ok-add.ensures.more (joined done) was.1))
