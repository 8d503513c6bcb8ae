use Rattle.std.specs.Prelude.{ℕ, ◌+◌, ◌-◌, ◌*◌, ◌/◌, ◌%◌, ◌^◌}

-- the bits lo to lo + w - 1 of a word
abbrev pub bits : ℕ → ℕ → ℕ → ℕ
bits word lo w = word / 2 ^ lo % 2 ^ w

-- the word with the value as its bits lo to lo + w - 1
abbrev pub with_bits : ℕ → ℕ → ℕ → ℕ → ℕ
with_bits word lo w value = word - bits word lo w * 2 ^ lo + value * 2 ^ lo
