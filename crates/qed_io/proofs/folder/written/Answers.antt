use Rattle.qed_io.proofs.FolderLaws.{has_new, part_kept, full_kept, is_written, on_err}
use Rattle.qed_io.proofs.folder.written.Goals as goal

pub append-requires : goal.append-requires
append-requires g c = has_new _ _ c.requires c.take_rights.ensures

pub returns-in_err-append-clause-kept : goal.returns-in_err-append-clause-kept
returns-in_err-append-clause-kept g c = on_err _ _ (part_kept _ _ _ c.take_rights.ensures c.in_err-append.ensures.part)

pub returns-in_err-sync-clause-kept : goal.returns-in_err-sync-clause-kept
returns-in_err-sync-clause-kept g c = on_err _ _ (full_kept c.args.bytes.now _ _ _ _ c.requires c.take_rights.ensures c.in_ok-append.ensures.all c.in_err-sync.ensures.kept)

pub returns-clause-written : goal.returns-clause-written
returns-clause-written g c = is_written c.args.bytes.now _ _ _ _ c.requires c.take_rights.ensures c.in_ok-append.ensures.all c.in_ok-sync.ensures.synced
