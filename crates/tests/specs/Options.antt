-- How a test is transformed where no option says otherwise.
use Rattle.std.specs.Prelude.{false, None}
use Rattle.tests.specs.declared.options.Options.{Options}
use Rattle.tests.specs.declared.options.Entries.TheVariants as entries

-- 4 to 16 instructions in a piece, one visited word behind it, the least distance of the halves, entries of all code
-- addresses, and a comparison behind each piece
abbrev pub default_options : Options
default_options = record {
  inst_min = 4;
  inst_max = 16;
  round = 1;
  half = None;
  sweep = false;
  diverse = false;
  entries = entries.All;
  lean = None;
  land = false;
}
