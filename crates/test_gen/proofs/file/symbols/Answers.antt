use Rattle.std.proofs.Common.{[], ◌∷◌}
use Rattle.std.specs.Prelude.{codes}
use Rattle.machine.proofs.Lemmas.{push_after}
use Rattle.test_gen.specs.Generated.{named_function, function_symbol}
use Rattle.test_gen.proofs.file.symbols.Goals as goal

pub loop-number-preserved : goal.loop-number-preserved
loop-number-preserved c =
    push_after c.loop-number.number function_symbol (named_function (codes "main") 0x10000 ∷ []) c.loop-number.symbols.items c.push-in-loop-number.new.self.items c.in_ok-function_symbol.field-0 c.in_ok-push-2.ensures.items c.loop-number.invariant c.in_ok-function_symbol.ensures
