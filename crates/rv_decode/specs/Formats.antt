-- The formats of the code, as those of the table.
use Rattle.machine.specs.Table as table
use Rattle.rv_decode.specs.declared.format.Format.{Format}
use Rattle.rv_decode.specs.declared.format.Format.TheVariants.{Register, Immediate, Shift, WordShift, Store, Branch, Upper, Jump, Bare}

abbrev pub format_of : Format → table.Format
format_of Register = table.R
format_of Immediate = table.I
format_of Shift = table.H
format_of WordShift = table.G
format_of Store = table.S
format_of Branch = table.B
format_of Upper = table.U
format_of Jump = table.J
format_of Bare = table.N
