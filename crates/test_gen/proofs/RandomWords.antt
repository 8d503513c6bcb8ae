-- Random words that are drawn one after another.
use Rattle.std.proofs.Common.{◌≡◌, ℕ, zero, suc, ◌+◌, sym, ap, ◌∙◌, arith}
use Rattle.rand_pcg.specs.Lcg.{Lcg}
use Rattle.test_gen.specs.Random.{next_state, after}

-- the generator behind n words and m more
pub after-more : (m n : ℕ) (g : Lcg) → after m (after n g) ≡ after (n + m) g
after-more zero n g = let e : n + zero ≡ n = omega arith in sym (ap (λ k. after k g) e)
after-more (suc m) n g = let e : n + suc m ≡ suc (n + m) = omega arith in ap next_state (after-more m n g) ∙ sym (ap (λ k. after k g) e)
