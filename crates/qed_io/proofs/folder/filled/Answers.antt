use Rattle.std.proofs.Common.{Some, Err}
use Rattle.qed_io.specs.declared.shelf.StoreError.TheVariants as store
use Rattle.qed_io.proofs.FolderLaws.{is_ready, written_placed, unfilled}
use Rattle.qed_io.proofs.folder.filled.Goals as goal

pub placed-requires : goal.placed-requires
placed-requires g c = is_ready c.args.bytes.now _ _ c.requires c.in-Ok.ensures.written

pub returns-in-Ok : goal.returns-in-Ok
returns-in-Ok g c = written_placed c.args.bytes.now _ _ _ _ c.in-Ok.ensures.written c.placed.ensures

pub returns-in-Err : goal.returns-in-Err
returns-in-Err g c = unfilled (Some c.args.bytes.now) (Err store.Failed) _ _ _ (λ e. absurd (cc)) c.in-Err.ensures.kept c.remove.ensures
