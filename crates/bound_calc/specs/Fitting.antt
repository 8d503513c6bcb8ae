-- Bounds that fit 64 bits.
use Rattle.std.specs.Prelude.{ℕ, ◌^◌, ◌<◌, nat_lt, if◌then◌else◌, Option, Some, None, IfSome}
use Rattle.qed_model.specs.declared.bounds.Bounds.{Bounds}

-- a number, if it is below 2^64
abbrev pub fitting : ℕ → Option ℕ
fitting n = if nat_lt n (2 ^ 64) then Some n else None

-- each of the bounds is below 2^64
pub record AreSmall (b : Bounds) : Type 0 where
  pub piece : b.piece < 2 ^ 64
  pub register : b.register < 2 ^ 64
  pub word : IfSome b.word (λ w. w < 2 ^ 64)
  pub start : b.start < 2 ^ 64
