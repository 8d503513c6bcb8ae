use Rattle.std.proofs.Common.{◌≡◌, ◌+◌, ◌*◌, ◌^◌, ◌≤◌, length, drop}
use Rattle.tests.specs.Elf.Layout.{names_bytes, symbol_names}
use Rattle.elf_write.proofs.symbols.names_size.Given as goal

-- the size so far and that of the rest make the whole
abbrev pub invariant-loop-symbol : goal.invariant-loop-symbol
invariant-loop-symbol l = record {
  rest : l.size + length (names_bytes (symbol_names (drop l.symbol-index l.symbols))) ≡ length (names_bytes (symbol_names l.symbols));
  room : l.size ≤ 2 ^ 64 * l.symbol-index;
}
