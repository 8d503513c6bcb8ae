-- What is known of the PT_LOAD segments of a file that was read.
use Rattle.std.specs.Prelude.{List}
use Rattle.machine.specs.Apart.{AllFitMemory, AreApart}
use Rattle.machine.specs.Program.{LoadSegment}

-- each fits into memory, and no two share a byte
pub record AreRead (ls : List LoadSegment) : Type 0 where
  pub fit : AllFitMemory ls
  pub apart : AreApart ls
