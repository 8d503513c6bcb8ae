-- The rows of the instruction table, as the code takes them.
use Rattle.std.specs.Prelude.{◌≡◌, ℕ, bit_and}
use Rattle.machine.specs.Table.{Format, mask_of}

-- a row's match: no bit stands outside of the format's mask
abbrev pub IsMatch : Format → ℕ → Type 0
IsMatch f m = bit_and m (mask_of f) ≡ m
