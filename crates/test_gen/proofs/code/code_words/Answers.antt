use Rattle.std.proofs.Common.{◌∙◌, ap, sym, ◌+◌, ◌*◌}
use Rattle.test_gen.specs.Code.{function_count}
use Rattle.test_gen.proofs.Functions.{length-code}
use Rattle.test_gen.proofs.code.code_words.Goals as goal

pub returns : goal.returns
returns c = λ seed. ap (λ n. 12 + 33 * n) c.function_count.ensures.value ∙ sym (length-code seed (function_count c.args.size))
