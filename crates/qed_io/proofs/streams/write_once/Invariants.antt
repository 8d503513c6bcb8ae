use Rattle.std.specs.Io.KnownBytes.{Keeps}
use Rattle.qed_io.proofs.streams.write_once.Given as goal

-- no write so far appended anything
abbrev pub invariant-loop : goal.invariant-loop
invariant-loop g l = Keeps (g.W.Write.contents l.fn.out) (g.W.Write.contents l.out)
