use Rattle.std.proofs.Common.{ap, Err}
use Rattle.qed_words.specs.Words.{texts}
use Rattle.qed_top.proofs.Endings.{done_ended, print_ended, store_ended, memory_ended, soon_ended}
use Rattle.qed_top.proofs.top.qed.Goals as goal

pub returns-in-Ok-carry_out : goal.returns-in-Ok-carry_out
returns-in-Ok-carry_out g c =
    let was = c.in-Ok.ensures in
    let did = c.in-Ok-carry_out.ensures in
    done_ended g.S.Shelf g.K.Sink (texts c.args.words.now) c.args.shelf.now c.decide.new.shelf c.carry_out.new.shelf c.args.out.now c.carry_out.new.out c.in-Ok.answer was.files was.meant
    did.loads was.stores did.files did.text

pub returns-in-Err-Print : goal.returns-in-Err-Print
returns-in-Err-Print g c =
    let was = c.in-Ok.ensures in
    let did = c.in-Err-Print.ensures in
    let is = ap Err c.in-Err-Print.field-0-is in
    print_ended g.S.Shelf g.K.Sink (texts c.args.words.now) c.args.shelf.now c.decide.new.shelf c.carry_out.new.shelf c.args.out.now c.carry_out.new.out c.in-Ok.answer was.files was.meant
    did.loads was.stores (did.print_files is) (did.print_text is) (did.print is)

pub returns-in-Err-Store : goal.returns-in-Err-Store
returns-in-Err-Store g c =
    let was = c.in-Ok.ensures in
    let did = c.in-Err-Store.ensures in
    let is = ap Err c.in-Err-Store.field-0-is in
    store_ended g.S.Shelf g.K.Sink (texts c.args.words.now) c.args.shelf.now c.decide.new.shelf c.carry_out.new.shelf c.args.out.now c.carry_out.new.out c.in-Ok.answer was.files was.meant
    did.loads was.stores (did.store is) (did.store_files is) (did.store_text is)

pub returns-in-Ok : goal.returns-in-Ok
returns-in-Ok g c =
    let was = c.in-Ok.ensures in
    let did = c.in-Err-Memory.ensures in
    let is = ap Err c.in-Err-Memory.field-0-is in
    memory_ended g.S.Shelf g.K.Sink (texts c.args.words.now) c.args.shelf.now c.decide.new.shelf c.carry_out.new.shelf c.args.out.now c.carry_out.new.out c.in-Ok.answer was.files was.meant
    did.loads was.stores was.steady (did.memory_shelf is) (did.memory_sink is) (did.memory is)

pub returns : goal.returns
returns g c =
    soon_ended g.S.Shelf g.K.Sink (texts c.args.words.now) c.args.shelf.now c.decide.new.shelf c.args.out.now c.in-Err.ensures.files c.in-Err.ensures.memory
