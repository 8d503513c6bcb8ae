use Rattle.std.proofs.Common.{◌≡◌, length}
use Rattle.rv_step.proofs.decoder.Decoder.new.Given as goal

abbrev pub invariant-loop : goal.invariant-loop
invariant-loop l = length l.all.items ≡ l.counter
