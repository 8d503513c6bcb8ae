use Rattle.std.proofs.Common.{◌≡◌, ℕ, List, length, take}
use Rattle.std.specs.List.{position_from}
use Rattle.std.specs.Option.{option_map}
use Rattle.rv_asm.specs.Lines.{lines_of}
use Rattle.rv_asm.specs.Named.{label_named}
use Rattle.rv_asm.specs.Assembled.{defines, label_at}
use Rattle.rv_asm.proofs.Turns.{IsBefore}
use Rattle.rv_asm.proofs.labels.labels_of.Given as goal

abbrev pub invariant-loop-line : goal.invariant-loop-line
invariant-loop-line l = record {
  before : IsBefore l.text (length l.yielded) l.number l.place;
  known : (q : List ℕ) → label_named l.labels q ≡ option_map (label_at (lines_of l.text)) (position_from (defines q) 0 (take (length l.yielded) (lines_of l.text)));
}
