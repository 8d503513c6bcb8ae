use Rattle.std.proofs.Common.{◌≡◌, ℕ, false}
use Rattle.flow_recovery.specs.Found.{is_recent}
use Rattle.flow_recovery.proofs.found.nothing_recent.Given as goal

-- nothing is remembered
abbrev pub invariant-loop : goal.invariant-loop
invariant-loop l = (u : ℕ) → is_recent l.recent.items u ≡ false
