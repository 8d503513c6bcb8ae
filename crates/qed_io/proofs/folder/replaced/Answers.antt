use Rattle.std.proofs.Common.{Some}
use Rattle.qed_io.proofs.FolderLaws.{made_empty, made_filled, none_made}
use Rattle.qed_io.proofs.folder.replaced.Goals as goal

pub filled-requires : goal.filled-requires
filled-requires g c = made_empty _ _ c.requires c.in-Ok.ensures.made

pub returns-in-Ok : goal.returns-in-Ok
returns-in-Ok g c = made_filled (Some c.args.bytes.now) _ _ _ _ c.in-Ok.ensures.made c.filled.ensures

pub returns-in-Err : goal.returns-in-Err
returns-in-Err g c = none_made (Some c.args.bytes.now) _ _ _ c.unmade.ensures.not_placed c.requires c.in-Err.ensures.none
