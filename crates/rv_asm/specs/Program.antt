-- What the code keeps of all lines.
use Rattle.std.specs.Prelude.{◌≡◌, ℕ, List, length}
use Rattle.rv_asm.specs.declared.program.Program.{Program}
use Rattle.rv_asm.specs.Assembled.{AreFaultless, code_of_lines, data_of, symbols_of}

-- the first lines are not at fault, and the program has their code words, data words and labels
pub record IsSoFar (lines : List (List ℕ)) (n : ℕ) (p : Program) : Type 0 where
  pub faultless : AreFaultless lines n
  pub code : p.code.items ≡ code_of_lines lines n
  pub words : p.values.items ≡ data_of lines n
  pub symbols : p.symbols.items ≡ symbols_of lines n

-- the program is that of all lines
abbrev pub IsTextProgram : List (List ℕ) → Program → Type 0
IsTextProgram lines p = IsSoFar lines (length lines) p
