use Rattle.std.proofs.Common.{◌≡◌, map, drop}
use Rattle.std.specs.Prelude.{fold, filter_map}
use Rattle.qed_words.specs.declared.orders.Key.TheVariants.{Fault}
use Rattle.qed_words.specs.Words.{fault, values, changes_given}
use Rattle.qed_model.specs.Promise.Changed.{with_change}
use Rattle.qed_words.specs.Seen.{seen}
use Rattle.qed_words.proofs.changes.changes.Given as goal

-- the changes so far, with those of the rest, are all
abbrev pub invariant-loop-argument : goal.invariant-loop-argument
invariant-loop-argument l =
    fold with_change l.changes.items (filter_map fault (values Fault (map seen (drop l.argument-index l.arguments)))) ≡ changes_given (map seen l.arguments)
