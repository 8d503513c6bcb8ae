use Rattle.qed_top.proofs.world.answer_harts.Goals as goal

pub returns-in_ok-play-in-Ok-clause-meant : goal.returns-in_ok-play-in-Ok-clause-meant
returns-in_ok-play-in-Ok-clause-meant g c =
    let leads = rw c.in-Ok.is at c.in_ok-read.ensures.read in
    leads c.args.turns c.args.steps (g.S.Shelf.load_faults c.read_files.new.shelf) c.in_ok-play-in-Ok.field-0 (rw c.deref.ensures.value at c.in_ok-play-in-Ok.ensures)

pub returns-in-Err-clause-meant : goal.returns-in-Err-clause-meant
returns-in-Err-clause-meant g c =
    let other = rw c.in-Err.is at c.in_ok-read.ensures.other in
    other c.args.turns c.args.steps
