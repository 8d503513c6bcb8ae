-- What holds of x15 and x16 in a block of the lean form.
use Rattle.std.specs.Prelude.{ℕ, ◌+◌, ◌-◌, ◌*◌, ◌/◌, ◌%◌, ◌^◌, Bool, ◌==◌, ◌&&◌, nat_lt, nat_le}
use Rattle.qed_model.specs.Weave.Lean.{first_word}
use Rattle.weave_core.specs.World.{World, is_cursor, CURSOR, SIGNATURE, State, reg}

-- the offset of the next data word from the first, and the count, in x15
abbrev pub cursor_offset : ℕ → ℕ
cursor_offset x = x / 2 ^ 12

abbrev pub count_of : ℕ → ℕ
count_of x = x % 2 ^ 12

-- both together
abbrev pub with_count : ℕ → ℕ → ℕ
with_count offset count = offset * 2 ^ 12 + count

-- from the entry of a block at a to its leave, the count is at most 2047, and at least what the check sets it to. The
-- offset is that of a data word, if there is one, and the signature is a
abbrev pub is_ticked_at : ℕ → World → State → ℕ → Bool
is_ticked_at every w u a =
    ((nat_le (2047 - every) (count_of (reg u CURSOR)) && nat_le (count_of (reg u CURSOR)) 2047)
    && (nat_lt (reg u CURSOR) (2 ^ 44) && (reg u SIGNATURE == a)))
    && is_cursor w.form.spans (first_word w.base w.form.spans + cursor_offset (reg u CURSOR))
