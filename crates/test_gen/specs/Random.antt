-- The random words of a seed: the words of the generator PCG XSL RR 128/64.
use Rattle.std.specs.Prelude.{ℕ, zero, suc}
use Rattle.rand_pcg.specs.Lcg.{Lcg}
use Rattle.rand_pcg.specs.Pcg.{pcg64, pcg64_of_seed}
use Rattle.rand_core.specs.Pcg32Seed.{pcg32_seed}

-- the generator of a seed
unfoldable pub seeded : ℕ → Lcg
seeded seed = pcg64_of_seed (pcg32_seed 32 seed)

-- the word that a generator gives next
unfoldable pub drawn : Lcg → ℕ
drawn g = (pcg64 g).0

-- the generator behind its next word
unfoldable pub next_state : Lcg → Lcg
next_state g = (pcg64 g).1

-- the generator behind n words
abbrev pub after : ℕ → Lcg → Lcg
after zero g = g
after (suc n) g = next_state (after n g)

-- random word n of a seed, from 0
unfoldable pub random_word : ℕ → ℕ → ℕ
random_word seed n = drawn (after n (seeded seed))
