use Rattle.std.proofs.Common.{◌≡◌, map, drop}
use Rattle.qed_words.specs.Tables.{command_row_of}
use Rattle.qed_words.specs.Words.{first_reason, wrong_values}
use Rattle.qed_words.specs.Seen.{seen}
use Rattle.qed_words.proofs.value.first_wrong_value.Given as goal

-- the rest decides
abbrev pub invariant-loop-key : goal.invariant-loop-key
invariant-loop-key l =
    first_reason (map (wrong_values (map seen l.arguments)) (drop l.key-index l.key-items)) ≡ first_reason (map (wrong_values (map seen l.arguments)) (command_row_of l.fn.command).keys)
