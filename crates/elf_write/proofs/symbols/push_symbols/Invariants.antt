use Rattle.std.proofs.Common.{◌≡◌, ℕ, ◌+◌, ◌++◌, ◌<◌, length, drop, slice_index_or}
use Rattle.elf_types.specs.declared.file.Symbol.{Symbol}
use Rattle.tests.specs.Elf.Layout.{names_bytes, symbol_names, symbols_bytes, entries_from}
use Rattle.elf_write.specs.Widths.{SymbolFits}
use Rattle.elf_write.proofs.symbols.push_symbols.Given as goal

-- the file so far and the entries that are left make the whole
abbrev pub invariant-loop-symbol : goal.invariant-loop-symbol
invariant-loop-symbol l = record {
  rest : l.out.items ++ symbols_bytes (entries_from l.name (drop l.symbol-index l.symbols)) ≡ l.initial.out.items ++ symbols_bytes (entries_from 1 l.symbols);
  names : l.name + length (names_bytes (symbol_names (drop l.symbol-index l.symbols))) ≡ 1 + length (names_bytes (symbol_names l.symbols));
  fits : (k : ℕ) (d : Symbol) → k < l.symbol-index → SymbolFits (slice_index_or l.symbols k d);
}
