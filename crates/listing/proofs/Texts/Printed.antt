-- Registers, immediates and words: printed, and read back.
use Rattle.std.proofs.Common.{◌≡◌, ℕ, zero, suc, ◌-◌, ◌^◌, ◌<◌, ◌≤◌, Bool, true, false, cond, eqb, leb, Option, Some, None, List, [], ◌++◌, length, replicate, ℤ, pos, negsuc, refl, ap, ◌∙◌, arith, option_map, codes}
use lib.Signed.{mag}
use Rattle.std.specs.Fmt.{digit_glyph, digits, decimal, signed_decimal}
use Rattle.std.specs.List.{list_all}
use Rattle.std.proofs.lemmas.Bool.{agree_below_at, eqb-true, leb-true}
use Rattle.std.proofs.lemmas.Fmt.{decimal_nonempty, length_signed_le}
use Rattle.std.proofs.lemmas.List.{length-append}
use Rattle.texts.specs.Printed.{hex_digits, word_text}
use Rattle.texts.specs.Read.{digits as digits_in, parsed_number, register}
use Rattle.rv_text.specs.Text.{register_text, place_text, upper_text}
use Rattle.rv_asm.specs.Lines.{comma, opening, closing, bracketed_in}
use Rattle.rv_asm.specs.Operands.{register_in, immediate_in, raw_word_in}
use Rattle.listing.proofs.Texts.Numbers.{all_onto, IsNear, signed_read, hex_is, hex_length, hex_read}
use Rattle.listing.proofs.Texts.Parts.{is_plain, lacks_append, plain_lacks, plain_text, joined_text, closing_text, IsPart, bracketed_is}

-- ---- the bytes of printed numbers
glyph_plain : (d : ℕ) → d < 16 → is_plain (digit_glyph false d) ≡ true
glyph_plain d h = agree_below_at (λ d. is_plain (digit_glyph false d)) (λ d. true) 16 d refl h

decimal_plain : (n : ℕ) → list_all is_plain (decimal n) ≡ true
unfolding digits
decimal_plain n = all_onto 10 (omega arith) (omega arith) is_plain 64 n [] (λ d h. glyph_plain d (omega (arith, h))) refl

register_plain : (r : ℕ) → list_all is_plain (register_text r) ≡ true
register_plain r = decimal_plain r

signed_plain : (z : ℤ) → list_all is_plain (signed_decimal z) ≡ true
signed_plain (pos n) = decimal_plain n
signed_plain (negsuc n) = decimal_plain (suc n)

zeros_plain : (m : ℕ) (text : List ℕ) → list_all is_plain text ≡ true → list_all is_plain (replicate m 48 ++ text) ≡ true
zeros_plain zero text h = h
zeros_plain (suc m) text h = zeros_plain m text h

pub hex_plain : (count n : ℕ) → list_all is_plain (hex_digits count n) ≡ true
unfolding digits
hex_plain count n =
    let ds = digits 16 false n in
    let plain = all_onto 16 (omega arith) (omega arith) is_plain 64 n [] glyph_plain refl in
    ap (list_all is_plain) (hex_is count n) ∙ zeros_plain (count - length ds) ds plain

-- ---- operands
-- a part that is short
pub record IsOperand (text : List ℕ) : Type 0 where
  pub part : IsPart text
  pub short : length text ≤ 25

plain_operand : (text : List ℕ) → 1 ≤ length text → length text ≤ 25 → list_all is_plain text ≡ true → IsOperand text
plain_operand text some few h = record {
  part = record { is = plain_text text some h; no_comma = plain_lacks comma text refl h };
  short = few;
}

-- a register
pub record IsRegister (r : ℕ) : Type 0 where
  pub operand : IsOperand (register_text r)
  pub reads : register_in (register_text r) ≡ Some r
  pub few : length (register_text r) ≤ 3

is_number : Option ℕ → ℕ → Bool
is_number None r = false
is_number (Some n) r = eqb n r

numbered : (o : Option ℕ) (r : ℕ) → is_number o r ≡ true → o ≡ Some r
unfolding is_number
numbered None r e = absurd (cc)
numbered (Some n) r e = ap Some (eqb-true n r e)

register_read : (r : ℕ) → r < 32 → register_in (register_text r) ≡ Some r
unfolding is_number register_in register digits_in digits
register_read r h =
    numbered (register_in (register_text r)) r (agree_below_at (λ r. is_number (register_in (register_text r)) r) (λ r. true) 32 r refl h)

register_short : (r : ℕ) → r < 32 → length (register_text r) ≤ 3
unfolding digits
register_short r h = leb-true (length (register_text r)) 3 (agree_below_at (λ r. leb (length (register_text r)) 3) (λ r. true) 32 r refl h)

pub register_is : (r : ℕ) → r < 32 → IsRegister r
register_is r h =
    let few = register_short r h in
    record {
      operand = plain_operand (register_text r) (omega arith) (omega (arith, few)) (register_plain r);
      reads = register_read r h;
      few = few;
    }

-- an immediate
pub record IsImmediate (z : ℤ) : Type 0 where
  pub operand : IsOperand (signed_decimal z)
  pub reads : immediate_in (signed_decimal z) ≡ Some z
  pub few : length (signed_decimal z) ≤ 20

signed_some : (z : ℤ) → IsNear z → 1 ≤ length (signed_decimal z)
signed_some (pos n) h = decimal_nonempty n (omega arith)
signed_some (negsuc n) h = omega arith

near_mag : (z : ℤ) → IsNear z → mag z < 2 ^ 63
near_mag (pos n) h = h
near_mag (negsuc n) h = h

pub immediate_is : (z : ℤ) → IsNear z → IsImmediate z
immediate_is z near =
    let m = near_mag z near in
    let few : length (signed_decimal z) ≤ 20 = length_signed_le 19 z (omega (arith, m)) m in
    record {
      operand = plain_operand (signed_decimal z) (signed_some z near) (omega (arith, few)) (signed_plain z);
      reads = signed_read z near;
      few = few;
    }

-- an address
pub record IsAddress (z : ℤ) (r : ℕ) : Type 0 where
  pub operand : IsOperand (place_text z r)
  pub parts : bracketed_in (place_text z r) ≡ Some (signed_decimal z, register_text r)

pub address_is : (z : ℤ) (r : ℕ) → IsImmediate z → IsRegister r → IsAddress z r
address_is z r i b =
    let n = signed_decimal z in
    let x = register_text r in
    let n_is = i.operand.part.is in
    let x_is = b.operand.part.is in
    let closed = joined_text x [] (codes ")") x_is refl closing_text in
    let base = lacks_append comma x (codes ")") b.operand.part.no_comma refl in
    let no_comma = lacks_append comma n (codes "(" ++ (x ++ codes ")")) i.operand.part.no_comma base in
    let size = length-append n (codes "(" ++ (x ++ codes ")")) in
    let inner = length-append x (codes ")") in
    record {
      operand = record {
        part = record { is = joined_text n (codes "(") (x ++ codes ")") n_is refl closed; no_comma = no_comma };
        short = omega (arith, size, inner, i.few, b.few);
      };
      parts = bracketed_is n x (plain_lacks opening n refl (signed_plain z)) (plain_lacks closing x refl (register_plain r)) n_is x_is;
    }

-- the upper 20 bits
pub record IsUpper (n : ℕ) : Type 0 where
  pub operand : IsOperand (upper_text n)
  pub reads : immediate_in (upper_text n) ≡ Some (pos n)

pub upper_is : (n : ℕ) → n < 2 ^ 20 → IsUpper n
unfolding immediate_in parsed_number
upper_is n h =
    let size = hex_length 4 n (omega arith) in
    record {
      operand = plain_operand (upper_text n) (omega arith) (omega (arith, size)) (hex_plain 5 n);
      reads = ap (option_map pos) (hex_read 16 4 n (omega arith) (omega arith) (omega arith));
    }

-- a word that is not an instruction
pub record IsRawWord (w : ℕ) : Type 0 where
  pub operand : IsOperand (word_text w)
  pub reads : raw_word_in (word_text w) ≡ Some w

pub raw_word_is : (w : ℕ) → w < 2 ^ 32 → IsRawWord w
unfolding raw_word_in
raw_word_is w h =
    let size = hex_length 7 w (omega arith) in
    record {
      operand = plain_operand (word_text w) (omega arith) (omega (arith, size)) (hex_plain 8 w);
      reads = ap (λ n. cond (eqb n 8) (digits_in 16 8 (hex_digits 8 w)) None) size
          ∙ hex_read 8 7 w (omega arith) (omega arith) (omega arith);
    }
