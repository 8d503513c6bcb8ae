use Rattle.std.proofs.Common.{◌-◌}
use Rattle.mem_image.proofs.apart.+put_from.Given as goal

abbrev pub decreases-put_from : goal.decreases-put_from
decreases-put_from l = l.width - l.from
