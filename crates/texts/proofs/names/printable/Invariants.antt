use Rattle.std.proofs.Common.{◌≡◌, ◌-◌, ◌++◌}
use Rattle.std.specs.String.{string_bytes}
use Rattle.texts.specs.Names.{printable}
use Rattle.texts.proofs.names.printable.Given as goal

-- the text so far, and what is left of the name
abbrev pub invariant-loop : goal.invariant-loop
invariant-loop l = string_bytes l.text ++ printable (l.most - l.counter) l.rest ≡ printable l.most l.name
