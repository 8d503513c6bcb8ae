-- Fields of a word of 32 bits.
use Rattle.std.proofs.Common.{◌≡◌, ℕ, ◌+◌, ◌-◌, ◌*◌, ◌/◌, ◌%◌, ◌^◌, ◌<◌, ◌≤◌, ◌⊎◌, ⊎_elim, sym, ap, ◌∙◌, arith}
use Rattle.std.specs.Prelude.{bit_and, bit_or}
use Rattle.std.proofs.lemmas.Nat.{and_mask, pow_pos, pow-add, or_shifted, shr_split, mod-pow-add, and_comm, and-not, or_block, or_comm, shl_whole, shr-shr, field_of, mod_low, shr_high, mod_below}
use Rattle.std.proofs.lemmas.Nat.Bits.{ones_shr, and_high}
use Rattle.std.proofs.Math.Pow.{pow_mono}
use Rattle.rv_isa.specs.Field.{with_bits}

-- the mask of a field that begins at bit 0
pub low_ones : (w : ℕ) → 1 ≤ w → w ≤ 32 → 4294967295 / 2 ^ (32 - w) ≡ 2 ^ w - 1
low_ones w l h =
    let e : 32 - (32 - w) ≡ w = omega arith in
    ones_shr 32 (32 - w) (omega arith) ∙ ap (λ k. 2 ^ k - 1) e

-- what the code of `get` computes
pub field_is : (lo w n : ℕ) → 1 ≤ w → lo + w ≤ 32 → bit_and (n / 2 ^ lo) (4294967295 / 2 ^ (32 - w)) ≡ n / 2 ^ lo % 2 ^ w
field_is lo w n l h = ap (bit_and (n / 2 ^ lo)) (low_ones w l (omega arith)) ∙ and_mask (n / 2 ^ lo) w

module _ (lo w n : ℕ) where
  -- the bits above the field, those of the field and those below
  abbrev above : ℕ
  above = n / 2 ^ lo / 2 ^ w

  abbrev inside : ℕ
  inside = n / 2 ^ lo % 2 ^ w

  abbrev below : ℕ
  below = n % 2 ^ lo

  parts : n ≡ (above * 2 ^ w + inside) * 2 ^ lo + below
  parts = sym (shr_split n lo) ∙ ap (λ k. k * 2 ^ lo + below) (sym (shr_split (n / 2 ^ lo) w))

  without : n - inside * 2 ^ lo ≡ above * 2 ^ w * 2 ^ lo + below
  without = omega (arith, parts)

  pub with_bits_parts : (v : ℕ) → with_bits n lo w v ≡ (above * 2 ^ w + v) * 2 ^ lo + below
  with_bits_parts v = ap (λ k. k + v * 2 ^ lo) without ∙ omega arith

-- where the field holds 0, the number is added in its place
pub with_bits-free : (lo w n v : ℕ) → n / 2 ^ lo % 2 ^ w ≡ 0 → with_bits n lo w v ≡ n + v * 2 ^ lo
with_bits-free lo w n v free = ap (λ k. n - k * 2 ^ lo + v * 2 ^ lo) free ∙ omega arith

-- the field itself
pub bits-with_bits_same : (lo w n v : ℕ) → v < 2 ^ w → with_bits n lo w v / 2 ^ lo % 2 ^ w ≡ v
bits-with_bits_same lo w n v h =
    ap (λ k. k / 2 ^ lo % 2 ^ w) (with_bits_parts lo w n v)
    ∙ ap (λ k. k % 2 ^ w) (shr_high (n / 2 ^ lo / 2 ^ w * 2 ^ w + v) lo (n % 2 ^ lo) (mod_below n (2 ^ lo) (pow_pos lo)))
    ∙ mod_low (n / 2 ^ lo / 2 ^ w) w v h

-- equal low bits, equal fields among them
lower : (a b k lo w : ℕ) → a % 2 ^ k ≡ b % 2 ^ k → lo + w ≤ k → a / 2 ^ lo % 2 ^ w ≡ b / 2 ^ lo % 2 ^ w
lower a b k lo w e h =
    sym (field_of a w lo) ∙ ap (λ m. m / 2 ^ lo) (low a ∙ ap (λ m. m % 2 ^ (w + lo)) e ∙ sym (low b)) ∙ field_of b w lo where
      low : (c : ℕ) → c % 2 ^ (w + lo) ≡ c % 2 ^ k % 2 ^ (w + lo)
      low c =
          let s : k - (w + lo) + (w + lo) ≡ k = omega arith in
          let split = mod-pow-add c (k - (w + lo)) (w + lo) in
          sym (ap (λ m. m % 2 ^ (w + lo)) (rw s at split) ∙ mod_low _ (w + lo) (c % 2 ^ (w + lo)) (mod_below c (2 ^ (w + lo)) (pow_pos (w + lo))))

-- equal high bits, equal fields among them
higher : (a b k lo w : ℕ) → a / 2 ^ k ≡ b / 2 ^ k → k ≤ lo → a / 2 ^ lo % 2 ^ w ≡ b / 2 ^ lo % 2 ^ w
higher a b k lo w e h =
    let s : k + (lo - k) ≡ lo = omega arith in
    let l = rw s at (shr-shr a k (lo - k)) in
    let r = rw s at (shr-shr b k (lo - k)) in
    ap (λ m. m % 2 ^ w) (sym l ∙ ap (λ m. m / 2 ^ (lo - k)) e ∙ r)

-- a field that does not overlap it
pub bits-with_bits_others : (LO W n v : ℕ) → v < 2 ^ W → (lo w : ℕ) → (lo + w ≤ LO) ⊎ (LO + W ≤ lo) → with_bits n LO W v / 2 ^ lo % 2 ^ w ≡ n / 2 ^ lo % 2 ^ w
bits-with_bits_others LO W n v h lo w apart =
    let low = mod_below n (2 ^ LO) (pow_pos LO) in
    let is = with_bits_parts LO W n v in
    ⊎_elim
    (λ l. lower _ _ LO lo w (ap (λ k. k % 2 ^ LO) is ∙ mod_low (n / 2 ^ LO / 2 ^ W * 2 ^ W + v) LO (n % 2 ^ LO) low) l)
    (λ l. higher _ _ (LO + W) lo w
    (sym (shr-shr _ LO W) ∙ ap (λ k. k / 2 ^ W) (ap (λ k. k / 2 ^ LO) is ∙ shr_high _ LO (n % 2 ^ LO) low) ∙ shr_high (n / 2 ^ LO / 2 ^ W) W v h ∙ shr-shr n LO W) l)
    apart

one_less : (p y : ℕ) → p * y ≡ (p + 1) * y - y
one_less p y = omega arith

less_one : (x y : ℕ) → 1 ≤ x → (x - 1) * y ≡ x * y - y
less_one x y h = let e : x - 1 + 1 ≡ x = omega arith in one_less (x - 1) y ∙ ap (λ k. k * y - y) e

-- what the code of `set` computes
pub set_is : (lo w n v : ℕ) → 1 ≤ w → lo + w ≤ 32 → n < 2 ^ 32 → v < 2 ^ w → bit_or (bit_and n (4294967295 - 4294967295 / 2 ^ (32 - w) * 2 ^ lo % 4294967296)) (v * 2 ^ lo % 4294967296) ≡ with_bits n lo w v
set_is lo w n v l h hn hv =
    let low = mod_below n (2 ^ lo) (pow_pos lo) in
    let ones : 4294967295 / 2 ^ (32 - w) * 2 ^ lo % 2 ^ 32 ≡ 2 ^ (w + lo) - 2 ^ lo = ap (λ k. k * 2 ^ lo % 2 ^ 32) (low_ones w l (omega arith)) ∙ shl_whole (2 ^ w - 1) w lo 32 (omega (arith, pow_pos w)) (omega arith) ∙ less_one (2 ^ w) (2 ^ lo) (pow_pos w) ∙ ap (λ k. k - 2 ^ lo) (sym (pow-add 2 w lo)) in
    let sum : w + lo ≤ 32 = omega arith in
    let top : 2 ^ (w + lo) ≤ 2 ^ 32 = pow_mono sum in
    let mask_fits : 2 ^ (w + lo) - 2 ^ lo < 2 ^ 32 = omega (arith, pow_pos lo, top) in
    let cleared : bit_and n (4294967295 - (2 ^ (w + lo) - 2 ^ lo)) ≡ n / 2 ^ lo / 2 ^ w * 2 ^ w * 2 ^ lo + n % 2 ^ lo = omega (arith, and_comm n (4294967295 - (2 ^ (w + lo) - 2 ^ lo)), and-not 32 (2 ^ (w + lo) - 2 ^ lo) n mask_fits hn, and_comm (2 ^ (w + lo) - 2 ^ lo) n, and_high n w lo, parts lo w n) in
    let put : v * 2 ^ lo % 2 ^ 32 ≡ v * 2 ^ lo + 0 = shl_whole v w lo 32 hv (omega arith) ∙ omega arith in
    rw ones (rw cleared (rw put
    (or_block lo (n / 2 ^ lo / 2 ^ w * 2 ^ w) v (n % 2 ^ lo) 0 low (pow_pos lo)
    ∙ rw (or_shifted (n / 2 ^ lo / 2 ^ w) w v hv, or_comm (n % 2 ^ lo) 0) (sym (with_bits_parts lo w n v)))))
