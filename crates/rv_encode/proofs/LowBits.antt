-- The low bits of a signed number.
use Rattle.std.proofs.Common.{◌≡◌, ℕ, suc, ◌+◌, ◌-◌, ◌*◌, ◌/◌, ◌%◌, ◌^◌, ◌<◌, ◌≤◌, true, sym, ap, ◌∙◌, arith, of_z, w64}
use Rattle.std.specs.Prelude.{bit_and, ℤ, pos, negsuc}
use Rattle.std.proofs.lemmas.Bool.{ltb-true}
use Rattle.std.proofs.lemmas.Nat.{and_mask, pow_pos, pow-add, mod_low}
use Rattle.std.proofs.lemmas.Nat.Bits.{ones_shr}
use Rattle.std.proofs.Math.Nat.{mod-eq_of_lt}
use Rattle.machine.specs.Table.{fits_signed, to_bits}
use Rattle.machine.proofs.Lemmas.{to_bits-lt}

-- 2^w is twice 2^(w - 1)
half : (w : ℕ) → 1 ≤ w → 2 ^ w ≡ 2 ^ (w - 1) + 2 ^ (w - 1)
half w h = let e : w - 1 + 1 ≡ w = omega arith in sym (ap (λ k. 2 ^ k) e) ∙ pow-add 2 (w - 1) 1 ∙ omega arith

-- a signed number modulo 2^64 has its bits lowest
of_z_low : (w : ℕ) (z : ℤ) → 1 ≤ w → w ≤ 32 → fits_signed w z ≡ true → of_z w64 z % 2 ^ w ≡ to_bits w z
of_z_low w (pos x) l h f = mod_small x (2 ^ w) (omega (arith, ltb-true x (2 ^ (w - 1)) f, half w l)) where
  mod_small : (n m : ℕ) → n < m → n % m ≡ n
  mod_small n m h = mod-eq_of_lt h
of_z_low w (negsuc x) l h f =
    let lt = ltb-true x (2 ^ (w - 1)) f in
    let e : 64 - w + w ≡ 64 = omega arith in
    let whole : 2 ^ 64 ≡ 2 ^ (64 - w) * 2 ^ w = sym (ap (λ k. 2 ^ k) e) ∙ pow-add 2 (64 - w) w in
    let split : 2 ^ 64 - suc x ≡ (2 ^ (64 - w) - 1) * 2 ^ w + (2 ^ w - suc x) = parts (2 ^ (64 - w)) (2 ^ w) x whole (pow_pos (64 - w)) (omega (arith, lt, half w l)) in
    ap (λ n. n % 2 ^ w) split ∙ mod_low (2 ^ (64 - w) - 1) w (2 ^ w - suc x) (omega (arith, pow_pos w)) where
      one_less : (p y x : ℕ) → suc x ≤ y → (p + 1) * y - suc x ≡ p * y + (y - suc x)
      one_less p y x h = omega arith

      parts : (a y x : ℕ) → 2 ^ 64 ≡ a * y → 1 ≤ a → suc x ≤ y → 2 ^ 64 - suc x ≡ (a - 1) * y + (y - suc x)
      parts a y x e l h = let s : a - 1 + 1 ≡ a = omega arith in ap (λ n. n - suc x) (e ∙ ap (λ n. n * y) (sym s)) ∙ one_less (a - 1) y x h

-- what is left of it under a mask of ones
pub low_bits : (w : ℕ) (z : ℤ) → 1 ≤ w → w ≤ 32 → fits_signed w z ≡ true → bit_and (of_z w64 z) (18446744073709551615 / 2 ^ (64 - w)) ≡ to_bits w z
low_bits w z l h f =
    let e : 64 - (64 - w) ≡ w = omega arith in
    ap (bit_and (of_z w64 z)) (ones_shr 64 (64 - w) (omega arith) ∙ ap (λ k. 2 ^ k - 1) e) ∙ and_mask (of_z w64 z) w ∙ of_z_low w z l h f

pub bits_lt : (w : ℕ) (z : ℤ) → 1 ≤ w → fits_signed w z ≡ true → to_bits w z < 2 ^ w
bits_lt w z l f = to_bits-lt w z (half w l) f
