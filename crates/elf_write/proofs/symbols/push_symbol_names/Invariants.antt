use Rattle.std.proofs.Common.{◌≡◌, ◌++◌, drop}
use Rattle.tests.specs.Elf.Layout.{names_bytes, symbol_names}
use Rattle.elf_write.proofs.symbols.push_symbol_names.Given as goal

-- the file so far and the names that are left make the whole
abbrev pub invariant-loop-symbol : goal.invariant-loop-symbol
invariant-loop-symbol l =
    l.out.items ++ names_bytes (symbol_names (drop l.symbol-index l.symbols)) ≡ l.initial.out.items ++ names_bytes (symbol_names l.symbols)
