-- The zero bytes of a string table.
use Rattle.std.specs.Prelude.{◌≡◌, ◌≢◌, ℕ, ◌-◌, ◌*◌, ◌<◌, ◌≤◌, List, length, slice_index}

-- end is one past the last zero byte, or 0 where there is none
pub record IsLastZero (strings : List ℕ) (end : ℕ) : Type 0 where
  pub after : (k : ℕ) → end ≤ k → k < length strings → slice_index strings k ≢ 0
  pub within : end ≤ length strings
  pub last : 0 < end → slice_index strings (end - 1) ≡ 0

-- at is the first place of a zero byte from one place up to another, or that other
pub record IsNextZero (strings : List ℕ) (from to at : ℕ) : Type 0 where
  pub behind : from ≤ at
  pub within : at ≤ to
  pub before : (k : ℕ) → from ≤ k → k < at → slice_index strings k ≢ 0
  pub zero : at < to → slice_index strings at ≡ 0

-- each place is that of the first zero byte behind the multiple of 16 with its number, or the end of the table
pub record AreNextZeros (strings places : List ℕ) : Type 0 where
  pub each : (k : ℕ) → k < length places → IsNextZero strings (16 * k) (length strings) (slice_index places k)
