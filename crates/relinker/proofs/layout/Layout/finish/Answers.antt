use Rattle.relinker.proofs.Laying.{linked_of}
use Rattle.relinker.proofs.layout.Layout.finish.Goals as goal

pub returns : goal.returns
returns c = linked_of c.args.self c.put_stub.new.words c.put_stub.ensures.decode c.put_stub.ensures.small
