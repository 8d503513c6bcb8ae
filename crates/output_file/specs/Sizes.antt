-- The room of symbols in a file.
use Rattle.std.specs.Prelude.{ℕ, ◌+◌, ◌*◌, List, length}
use Rattle.elf_types.specs.declared.file.Symbol.{Symbol}
use Rattle.tests.specs.Elf.Layout.{names_bytes, symbol_names}

-- an entry of the symbol table for each symbol, and the names, each with a zero byte
abbrev pub symbols_room : List Symbol → ℕ
symbols_room symbols = 24 * length symbols + length (names_bytes (symbol_names symbols))
