use Rattle.std.proofs.Common.{◌≡◌, ◌++◌, drop}
use Rattle.qed_model.specs.Weave.OutputParts.{symbol_group}
use Rattle.output_file.proofs.symbols.push_group.Given as goal
use Rattle.qed_model.specs.Weave.Placed.{EntriesAscend}

-- the symbols so far and those of the rest are those of all
abbrev pub invariant-loop-symbol : goal.invariant-loop-symbol
invariant-loop-symbol l = EntriesAscend l.entries → l.out.items ++ symbol_group l.local l.entries (drop l.symbol-index l.symbols) ≡ l.initial.out.items ++ symbol_group l.local l.entries l.symbols
