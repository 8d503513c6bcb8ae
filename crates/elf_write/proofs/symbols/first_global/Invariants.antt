use Rattle.std.proofs.Common.{◌≡◌, ◌+◌, drop}
use Rattle.tests.specs.Elf.Layout.{first_global}
use Rattle.elf_write.proofs.symbols.first_global.Given as goal

-- each symbol so far is STB_LOCAL
abbrev pub invariant-loop-symbol : goal.invariant-loop-symbol
invariant-loop-symbol l = record {
  counted : l.number ≡ l.symbol-index + 1;
  rest : first_global l.number (drop l.symbol-index l.symbols) ≡ first_global 1 l.symbols;
}
