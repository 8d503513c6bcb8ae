use Rattle.std.proofs.Common.{◌≡◌, None, drop}
use Rattle.std.specs.Option.{option_copied}
use Rattle.listing.specs.Roles.{nearest}
use Rattle.listing.proofs.place.nearest.Given as goal

-- the nearest so far and of the rest
abbrev pub invariant-loop-symbol : goal.invariant-loop-symbol
invariant-loop-symbol l = nearest l.address (option_copied l.found) (drop l.symbol-index l.symbols) ≡ nearest l.address None l.symbols
