-- How far the ends go that an error tells.
use Rattle.std.specs.Prelude.{◌^◌, ◌<◌, ◌≤◌}
use Rattle.tests.specs.declared.admit.AdmitError.{AdmitError}
use Rattle.tests.specs.declared.admit.AdmitError.TheVariants as error

-- what a file that was read can have: its image ends at 2^64 at most, and the half before that
abbrev pub HasEnds : AdmitError → Type 0
HasEnds (error.OutsideHalf high end) = (high ≤ 2 ^ 64) × (end < 2 ^ 64)
HasEnds _ = Unit {0}
