use Rattle.std.proofs.Common.{Ok, false}
use Rattle.qed_io.proofs.FolderLaws.{renamed, unplaced}
use Rattle.qed_io.proofs.folder.placed.Goals as goal

pub returns-in-Ok : goal.returns-in-Ok
returns-in-Ok g c = renamed _ _ c.in-Ok.ensures.renamed

pub returns-in-Err : goal.returns-in-Err
returns-in-Err g c = unplaced (Ok false) _ _ _ (λ e. absurd (cc)) c.in-Err.ensures.kept c.remove.ensures
