use Rattle.std.proofs.Common.{subst}
use Rattle.relinker.specs.Laid.{IsLaidIn}
use Rattle.relinker.specs.Sink.{Takes}
use Rattle.relinker.proofs.layout.Layout.add.Goals as goal

pub returns : goal.returns
returns c = subst (λ items. Takes (IsLaidIn c.args.self.now) (IsLaidIn c.add_all.new.self) items) c.items.ensures c.add_all.ensures
