use Rattle.std.proofs.Common.{◌≡◌, ◌+◌, ◌*◌, ◌++◌, ◌∙◌, sym, ap, arith}
use Rattle.test_gen.specs.Random.{seeded, after}
use Rattle.test_gen.specs.Code.{main}
use Rattle.test_gen.proofs.RandomWords.{after-more}
use Rattle.test_gen.proofs.Functions.{function_from, one_more}
use Rattle.test_gen.proofs.code.code.Goals as goal

pub loop-preserved : goal.loop-preserved
loop-preserved c =
    let i = c.loop.counter in
    let more : 32 * (i + 1) ≡ 32 * i + 32 = omega arith in
    record {
      code = one_more c.args.seed i (main c.args.functions) c.loop.code.items c.push_function.new.code.items
          (c.in_ok-push_function.ensures.code ∙ ap (λ l. c.loop.code.items ++ l) (function_from c.args.seed i c.loop.rng c.loop.invariant.rng)) c.loop.invariant.code;
      rng = c.in_ok-push_function.ensures.rng ∙ ap (after 32) c.loop.invariant.rng ∙ after-more 32 (32 * i) (seeded c.args.seed) ∙ sym (ap (λ k. after k (seeded c.args.seed)) more);
    }
