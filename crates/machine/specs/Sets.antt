-- Sets of addresses.
use Rattle.std.specs.Prelude.{ℕ, Bool}
use Rattle.std.specs.BTreeSet.{BTreeSet, contains}
use Rattle.std.specs.Ordering.{nat_cmp}

-- whether the set has an address
abbrev pub has_address : BTreeSet ℕ → ℕ → Bool
has_address set a = contains nat_cmp set a
