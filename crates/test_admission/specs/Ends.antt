-- What is listed of a file that was admitted.
use Rattle.std.specs.Prelude.{◌^◌, ◌<◌, List, All}
use Rattle.tests.specs.declared.range.Span.{Span}

-- no range ends at 2^64 or past it
abbrev pub AllEnd : List Span → Type 0
AllEnd ss = All (λ s. s.end < 2 ^ 64) ss
