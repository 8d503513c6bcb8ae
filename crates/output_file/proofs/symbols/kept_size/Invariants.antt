use Rattle.std.proofs.Common.{◌≡◌, ◌+◌, ◌*◌, ◌^◌, ◌≤◌, drop}
use Rattle.std.specs.Prelude.{filter}
use Rattle.qed_model.specs.Weave.OutputParts.{is_kept}
use Rattle.output_file.specs.Sizes.{symbols_room}
use Rattle.output_file.proofs.symbols.kept_size.Given as goal

-- the room so far and that of the rest make the whole
abbrev pub invariant-loop-symbol : goal.invariant-loop-symbol
invariant-loop-symbol l = record {
  rest : l.size + symbols_room (filter is_kept (drop l.symbol-index l.symbols)) ≡ symbols_room (filter is_kept l.symbols);
  room : l.size ≤ 2 ^ 65 * l.symbol-index;
}
