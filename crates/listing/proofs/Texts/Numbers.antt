-- Printed numbers are read back.
use Rattle.std.proofs.Common.{◌≡◌, ℕ, zero, suc, ◌+◌, ◌-◌, ◌*◌, ◌/◌, ◌%◌, ◌^◌, ◌<◌, ◌≤◌, Bool, true, false, cond, ◌&&◌, eqb, ltb, leb, Some, None, List, [], ◌∷◌, ◌++◌, length, replicate, ℤ, pos, negsuc, neg_ℤ, refl, sym, ap, ◌∙◌, arith, append-nil, mul-le-mul_right}
use Rattle.std.specs.Char.{digit_value, is_ascii_digit}
use Rattle.std.specs.Fmt.{digit_glyph, digits_onto, digits, padded_integral, char_count, decimal, signed_decimal}
use Rattle.std.specs.List.{list_all}
use Rattle.std.specs.Prelude.{option_map}
use Rattle.std.proofs.lemmas.Bool.{agree_below_at, and_from, and_parts, and_right, eqb-true, eqb-false, lt-ltb, le-leb, ne_eqb, true≢false}
use Rattle.std.proofs.lemmas.Fmt.{length-decimal-le, decimal_nonempty}
use Rattle.std.proofs.lemmas.List.{length-replicate, length-append}
use Rattle.std.proofs.Math.Nat.{pow-succ'}
use Rattle.texts.specs.Printed.{hex_digits}
use Rattle.texts.specs.Read.{read_on, digits as digits_in, parsed_number, dash}
use Rattle.rv_asm.specs.Operands.{immediate_in}

-- ---- one digit
glyph_value : (d : ℕ) → d < 16 → digit_value (digit_glyph false d) ≡ d
glyph_value d h =
    let same = agree_below_at (λ d. eqb (digit_value (digit_glyph false d)) d) (λ d. true) 16 d refl h in
    eqb-true (digit_value (digit_glyph false d)) d same

read_digit : (base n v c : ℕ) (cs : List ℕ) → digit_value c ≡ v → v < base → n * base + v < 2 ^ 64
    → read_on base n (c ∷ cs) ≡ read_on base (n * base + v) cs
read_digit base n v c cs e low small =
    ap (λ x. cond (ltb x base && ltb (n * base + x) (2 ^ 64)) (read_on base (n * base + x) cs) None) e
    ∙ (ap (λ b. cond (b && ltb (n * base + v) (2 ^ 64)) (read_on base (n * base + v) cs) None) (lt-ltb v base low)
    ∙ ap (λ b. cond b (read_on base (n * base + v) cs) None) (lt-ltb (n * base + v) (2 ^ 64) small))

-- ---- digits, by the function that prints them
module _ (base : ℕ) (low : 2 ≤ base) (high : base ≤ 16) where
  -- the digits of n with the last one in front of others, and with the earlier ones too
  abbrev last : ℕ → List ℕ → List ℕ
  last n cs = digit_glyph false (n % base) ∷ cs

  abbrev whole : ℕ → ℕ → List ℕ → List ℕ
  whole k n cs = digits_onto k base false (n / base) (last n cs)

  parts : (n : ℕ) → n / base * base + n % base ≡ n
  parts n = omega arith

  fewer : (k n : ℕ) → n < 2 ^ suc k → n / base < 2 ^ k
  fewer k n h = omega (arith, h, parts n, mul-le-mul_right (n / base) low, pow-succ' 2 k)

  read_last : (n : ℕ) (cs : List ℕ) → n < 2 ^ 64 → read_on base (n / base) (last n cs) ≡ read_on base n cs
  read_last n cs small =
      let d : n % base < base = omega arith in
      let value = glyph_value (n % base) (omega (arith, d, high)) in
      read_digit base (n / base) (n % base) (digit_glyph false (n % base)) cs value d (omega (arith, parts n, small))
      ∙ ap (λ m. read_on base m cs) (parts n)

  read_onto : (k n : ℕ) (cs : List ℕ) → n < 2 ^ k → n < 2 ^ 64 → read_on base 0 (digits_onto k base false n cs) ≡ read_on base n cs
  read_onto zero n cs h small = let z : 0 ≡ n = omega arith in ap (λ m. read_on base m cs) z
  read_onto (suc k) n cs h small =
      let less : n / base < 2 ^ 64 = omega (arith, parts n, small, mul-le-mul_right (n / base) low) in
      elim (eqb (n / base) 0) as (λ b. eqb (n / base) 0 ≡ b → read_on base 0 (cond b (last n cs) (whole k n cs)) ≡ read_on base n cs) [
        | true ↦ λ e. ap (λ m. read_on base m (last n cs)) (sym (eqb-true (n / base) 0 e)) ∙ read_last n cs small
        | false ↦ λ e. read_onto k (n / base) (last n cs) (fewer k n h) less ∙ read_last n cs small
      ]
      refl

  -- a test that each digit passes
  pub all_onto :
      (p : ℕ → Bool) (k n : ℕ) (cs : List ℕ) → ((d : ℕ) → d < base → p (digit_glyph false d) ≡ true) → list_all p cs ≡ true
      → list_all p (digits_onto k base false n cs) ≡ true
  all_onto p zero n cs each h = h
  all_onto p (suc k) n cs each h =
      let more = and_from (p (digit_glyph false (n % base))) (list_all p cs) (each (n % base) (omega arith)) h in
      elim (eqb (n / base) 0) as (λ b. list_all p (cond b (last n cs) (whole k n cs)) ≡ true)
      [ true ↦ more | false ↦ all_onto p k (n / base) (last n cs) each more ]

-- the hexadecimal digits of n except the last, with that in front of others
abbrev hex_front : ℕ → ℕ → List ℕ → List ℕ
hex_front k n cs = digits_onto k 16 false (n / 16) (digit_glyph false (n % 16) ∷ cs)

-- at most j + 1 digits
short_onto : (k j n : ℕ) (cs : List ℕ) → n < 16 ^ suc j → length (digits_onto k 16 false n cs) ≤ suc j + length cs
short_onto zero j n cs h = omega arith
short_onto (suc k) j n cs h =
    let more = digit_glyph false (n % 16) ∷ cs in
    elim (eqb (n / 16) 0) as (λ b. eqb (n / 16) 0 ≡ b → length (cond b more (hex_front k n cs)) ≤ suc j + length cs)
    [ true ↦ λ e. omega arith | false ↦ λ e. by j h (eqb-false (n / 16) 0 e) (λ i less. short_onto k i (n / 16) more less) ]
    refl where
      by :
          (j : ℕ) → n < 16 ^ suc j → (n / 16 ≡ 0 → ⊥)
          → ((i : ℕ) → n / 16 < 16 ^ suc i → length (hex_front k n cs) ≤ suc i + suc (length cs))
          → length (hex_front k n cs) ≤ suc j + length cs
      by zero h some so_far = absurd (some (omega arith))
      by (suc i) h some so_far = let r = so_far i (let p = pow-succ' 16 (suc i) in omega arith) in omega arith

-- ---- a number from its digits
digits_are : (base most : ℕ) (text : List ℕ) → 1 ≤ length text → length text ≤ most → digits_in base most text ≡ read_on base 0 text
unfolding digits_in
digits_are base most text some few =
    ap (λ b. cond (b && leb (length text) most) (read_on base 0 text) None) (le-leb 1 (length text) some)
    ∙ ap (λ b. cond b (read_on base 0 text) None) (le-leb (length text) most few)

-- a byte that is not a digit differs from one that is
no_digit : (c b : ℕ) → is_ascii_digit c ≡ true → is_ascii_digit b ≡ false → eqb c b ≡ false
no_digit c b h n = ne_eqb c b (λ e. true≢false (sym h ∙ (ap is_ascii_digit e ∙ n)))

-- a text of decimal digits has no `0x` in front
number_digits : (text : List ℕ) → list_all is_ascii_digit text ≡ true → parsed_number text ≡ digits_in 10 20 text
unfolding parsed_number
number_digits [] h = refl
number_digits (a ∷ []) h = refl
number_digits (a ∷ b ∷ text) h =
    let later = (and_parts (is_ascii_digit a) (list_all is_ascii_digit (b ∷ text)) h).1 in
    let second = (and_parts (is_ascii_digit b) (list_all is_ascii_digit text) later).0 in
    ap (λ t. cond t (digits_in 16 16 text) (digits_in 10 20 (a ∷ b ∷ text))) (and_right (eqb a 48) (eqb b 120) (no_digit b 120 second refl))

decimal_glyph : (d : ℕ) → d < 10 → is_ascii_digit (digit_glyph false d) ≡ true
decimal_glyph d h = agree_below_at (λ d. is_ascii_digit (digit_glyph false d)) (λ d. true) 10 d refl h

decimal_digits : (n : ℕ) → list_all is_ascii_digit (decimal n) ≡ true
unfolding digits
decimal_digits n = all_onto 10 (omega arith) (omega arith) is_ascii_digit 64 n [] decimal_glyph refl

decimal_read : (n : ℕ) → n < 2 ^ 64 → parsed_number (decimal n) ≡ Some n
unfolding digits
decimal_read n h =
    let few = length-decimal-le 20 n (omega arith) (omega arith) h in
    number_digits (decimal n) (decimal_digits n)
    ∙ (digits_are 10 20 (decimal n) (decimal_nonempty n h) few ∙ read_onto 10 (omega arith) (omega arith) 64 n [] h h)

-- ---- immediates
immediate_digits : (text : List ℕ) (n : ℕ) → list_all is_ascii_digit text ≡ true → parsed_number text ≡ Some n → immediate_in text ≡ Some (pos n)
unfolding immediate_in parsed_number digits_in
immediate_digits [] n h e = absurd (cc)
immediate_digits (c ∷ text) n h e =
    let first = (and_parts (is_ascii_digit c) (list_all is_ascii_digit text) h).0 in
    ap (λ t. cond t (option_map (λ m. neg_ℤ (pos m)) (parsed_number text)) (option_map pos (parsed_number (c ∷ text)))) (no_digit c dash first refl)
    ∙ ap (option_map pos) e

-- a signed number of 64 bits
abbrev pub IsNear : ℤ → Type 0
IsNear (pos n) = n < 2 ^ 63
IsNear (negsuc n) = n < 2 ^ 63

pub signed_read : (z : ℤ) → IsNear z → immediate_in (signed_decimal z) ≡ Some z
unfolding immediate_in
signed_read (pos n) h = immediate_digits (decimal n) n (decimal_digits n) (decimal_read n (omega arith))
signed_read (negsuc n) h = ap (option_map (λ m. neg_ℤ (pos m))) (decimal_read (suc n) (omega arith))

-- ---- hexadecimal numbers
pub hex_is : (count n : ℕ) → hex_digits count n ≡ replicate (count - length (digits 16 false n)) 48 ++ digits 16 false n
unfolding padded_integral char_count
hex_is count n =
    ap (λ t. replicate (count - length (digits 16 false n) - 0 - 0) 48 ++ t) (append-nil (digits 16 false n))
    ∙ ap (λ m. replicate m 48 ++ digits 16 false n) (omega arith)

zeros_read : (m : ℕ) (text : List ℕ) → read_on 16 0 (replicate m 48 ++ text) ≡ read_on 16 0 text
zeros_read zero text = refl
zeros_read (suc m) text = zeros_read m text

pub hex_length : (j n : ℕ) → n < 16 ^ suc j → length (hex_digits (suc j) n) ≡ suc j
unfolding digits
hex_length j n h =
    let ds = digits 16 false n in
    let zeros = length-replicate {A = ℕ} (suc j - length ds) 48 in
    ap length (hex_is (suc j) n)
    ∙ (length-append (replicate (suc j - length ds) 48) ds ∙ omega (arith, zeros, short_onto 64 j n [] h))

pub hex_read : (most j n : ℕ) → suc j ≤ most → n < 16 ^ suc j → n < 2 ^ 64 → digits_in 16 most (hex_digits (suc j) n) ≡ Some n
unfolding digits
hex_read most j n few h small =
    let l = hex_length j n h in
    let ds = digits 16 false n in
    digits_are 16 most (hex_digits (suc j) n) (omega (arith, l)) (omega (arith, l))
    ∙ (ap (read_on 16 0) (hex_is (suc j) n)
    ∙ (zeros_read (suc j - length ds) ds ∙ read_onto 16 (omega arith) (omega arith) 64 n [] small small))
