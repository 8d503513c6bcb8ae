use Rattle.std.proofs.Common.{false, arith}
use Rattle.call_tests.proofs.too_large.too_large_near.Goals as goal

pub link-requires-clause-linkable : goal.link-requires-clause-linkable
link-requires-clause-linkable g c = λ within. absurd (omega (arith, within, c.in_ok-items.ensures false))
