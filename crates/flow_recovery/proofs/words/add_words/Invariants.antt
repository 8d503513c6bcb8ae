use Rattle.std.proofs.Common.{take, ◌<◌, ◌^◌}
use Rattle.std.specs.Prelude.{All}
use Rattle.std.specs.List.{list_any}
use Rattle.flow_recovery.specs.Sets.{Adds}
use Rattle.flow_recovery.specs.Words.{begins_by}
use Rattle.flow_recovery.proofs.words.add_words.Given as goal

-- the addresses for the words so far were added
abbrev pub invariant-loop-word : goal.invariant-loop-word
invariant-loop-word l = record {
  added : Adds l.initial.list.items l.list.items (λ a. list_any (λ c. begins_by l.options c a) (take l.word-index l.words));
  small : All (λ c. c.at < 2 ^ 64) (take l.word-index l.words);
}
