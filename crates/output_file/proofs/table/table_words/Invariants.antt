use Rattle.std.proofs.Common.{◌≡◌, ◌++◌, drop, map, length}
use Rattle.output_file.specs.Laid.{laid}
use Rattle.output_file.specs.Entries.{entry_word}
use Rattle.output_file.proofs.table.table_words.Given as goal

-- the words so far and those of the rest are those of all
abbrev pub invariant-loop-row : goal.invariant-loop-row
invariant-loop-row l = l.bytes.items ++ laid l.start (length l.bytes.items) (map (entry_word l.distance) (drop l.row-index l.entries)) ≡ laid l.start 0 (map (entry_word l.distance) l.entries)
