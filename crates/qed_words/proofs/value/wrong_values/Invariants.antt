use Rattle.std.proofs.Common.{◌≡◌, map, drop}
use Rattle.qed_words.specs.Words.{first_reason, values, wrong_value, wrong_values}
use Rattle.qed_words.specs.Seen.{seen}
use Rattle.qed_words.proofs.value.wrong_values.Given as goal

-- the rest decides
abbrev pub invariant-loop-argument : goal.invariant-loop-argument
invariant-loop-argument l =
    first_reason (map (wrong_value l.count l.key) (values l.key (map seen (drop l.argument-index l.arguments)))) ≡ wrong_values (map seen l.arguments) l.key
