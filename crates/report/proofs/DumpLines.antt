-- The bytes and lines of a dump, one by one.
use Rattle.std.proofs.Common.{◌≡◌, ℕ, ◌+◌, ◌-◌, ◌*◌, [], ◌++◌, refl, min, option_map, add-one}
use Rattle.machine.specs.Memory.{Memory, get}
use Rattle.qed_words.specs.Text.Run.{byte_text, byte_texts, dump_line, dump_lines}

pub no_byte : (m : Memory) (a : ℕ) → byte_texts m a 0 ≡ []
unfolding byte_texts
no_byte m a = refl

pub next_byte : (m : Memory) (a n : ℕ) → byte_texts m a (n + 1) ≡ byte_texts m a n ++ byte_text (option_map (λ c. c.byte) (get m (a + n)))
unfolding byte_texts
next_byte m a n = rw add-one refl

pub no_line : (m : Memory) (a n : ℕ) → dump_lines m a n 0 ≡ []
unfolding dump_lines
no_line m a n = refl

pub next_line : (m : Memory) (a n k : ℕ) → dump_lines m a n (k + 1) ≡ dump_lines m a n k ++ dump_line m (a + 16 * k) (min 16 (n - 16 * k))
unfolding dump_lines
next_line m a n k = rw add-one refl
