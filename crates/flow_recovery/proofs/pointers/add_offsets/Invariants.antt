use Rattle.std.proofs.Common.{take}
use Rattle.std.specs.List.{list_any}
use Rattle.flow_recovery.specs.Sets.{Adds}
use Rattle.flow_recovery.specs.Found.{is_offset}
use Rattle.flow_recovery.proofs.pointers.add_offsets.Given as goal

-- the offsets of the words so far were added
abbrev pub invariant-loop-word : goal.invariant-loop-word
invariant-loop-word l = Adds l.initial.list.items l.list.items (λ a. list_any (λ c. is_offset c a) (take l.word-index l.words))
