-- Numbers in hexadecimal, as they are printed.
use Rattle.std.specs.Prelude.{ℕ, ◌-◌, ◌^◌, List, [], ◌++◌, codes, false}
use Rattle.std.specs.Fmt.{digits, padded_integral, format_spec}

-- at least `count` lower-case hexadecimal digits, with zeros in front
abbrev pub hex_digits : ℕ → ℕ → List ℕ
hex_digits count x = padded_integral (format_spec 32 0 4 count (2 ^ 64 - 1)) false [] (digits 16 false x)

-- `0x` and 16 digits
abbrev pub hex_text : ℕ → List ℕ
hex_text x = codes "0x" ++ hex_digits 16 x

-- `0x` and 8 digits
abbrev pub word_text : ℕ → List ℕ
word_text x = codes "0x" ++ hex_digits 8 x
