-- Numbers, registers and parts of texts that are read. A text is its bytes.
use Rattle.std.specs.Prelude.{ℕ, ◌+◌, ◌*◌, ◌^◌, ◌==◌, nat_lt, nat_le, ◌&&◌, if◌then◌else◌, Option, Some, None, option_map, option_and_then, List, [], ◌∷◌}
use Rattle.std.specs.Prelude.{length, take, drop}
use Rattle.std.specs.List.{position_from}
use Rattle.std.specs.Char.{digit_value}

-- `-`
abbrev pub dash : ℕ
dash = 45

-- `0`
abbrev pub digit_zero : ℕ
digit_zero = 48

-- `:`
abbrev pub colon : ℕ
colon = 58

-- `=`
abbrev pub equals : ℕ
equals = 61

-- `x`
abbrev pub letter_x : ℕ
letter_x = 120

-- the number n with the digits of a text behind it; None if one is not a digit, or from 2^64 on
abbrev pub read_on : ℕ → ℕ → List ℕ → Option ℕ
read_on base n [] = Some n
read_on base n (c ∷ cs) =
    if nat_lt (digit_value c) base && nat_lt (n * base + digit_value c) (2 ^ 64) then read_on base (n * base + digit_value c) cs else None

-- a number of 1 to `most` digits
unfoldable pub digits : ℕ → ℕ → List ℕ → Option ℕ
digits base most text = if nat_le 1 (length text) && nat_le (length text) most then read_on base 0 text else None

-- a number: 1 to 20 decimal digits, or `0x` and 1 to 16 hexadecimal digits of either case
unfoldable pub parsed_number : List ℕ → Option ℕ
parsed_number (a ∷ b ∷ rest) = if a == digit_zero && b == letter_x then digits 16 16 rest else digits 10 20 (a ∷ b ∷ rest)
parsed_number text = digits 10 20 text

-- the texts before and behind place i
abbrev pub around : List ℕ → ℕ → List ℕ × List ℕ
around text i = (take i text, drop (i + 1) text)

-- the texts before and behind the first byte c
unfoldable pub parted : ℕ → List ℕ → Option (List ℕ × List ℕ)
parted c text = option_map (around text) (position_from (λ b. b == c) 0 text)

abbrev pub register_numbered : ℕ → Option ℕ
register_numbered r = if nat_le 1 r && nat_le r 31 then Some r else None

-- a register from 1 to 31, in decimal without leading zeros
unfoldable pub register : List ℕ → Option ℕ
register [] = None
register (c ∷ cs) = if c == digit_zero then None else option_and_then register_numbered (digits 10 2 (c ∷ cs))
