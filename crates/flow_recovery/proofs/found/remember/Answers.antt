use Rattle.std.proofs.Common.{◌%◌}
use Rattle.flow_recovery.proofs.FoundLaws.{set_recent}
use Rattle.flow_recovery.proofs.found.remember.Goals as goal

pub returns-then-place-len : goal.returns-then-place-len
returns-then-place-len c = λ u e. set_recent c.args.recent.now.items (c.args.value % 8192) c.args.value u e
