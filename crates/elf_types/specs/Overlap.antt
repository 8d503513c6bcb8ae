-- Ranges of bytes that overlap.
use Rattle.std.specs.Prelude.{ℕ, ◌+◌, ◌&&◌, nat_lt, Bool}

-- two ranges, each by its first address and its size, share a byte
abbrev pub share_byte : ℕ → ℕ → ℕ → ℕ → Bool
share_byte a m b n = nat_lt 0 m && nat_lt 0 n && nat_lt a (b + n) && nat_lt b (a + m)
