-- A flag that is tested by `&`.
use Rattle.std.proofs.Common.{◌≡◌, ℕ, ◌*◌, ◌/◌, ◌%◌, arith, ◌∙◌}
use Rattle.std.specs.Prelude.{bit_and, ◌==◌, not}
use Rattle.std.proofs.lemmas.Bool.Decides.{nat_tests}
use Rattle.std.proofs.lemmas.Nat.Bits.{and_pow, bit_at_lowest}

is_set : (b : ℕ) → b ≡ b % 2 → not (b == 0) ≡ (b == 1)
is_set b h = grind (arith, nat_tests)

-- bit 0
pub has_bit_0 : (n : ℕ) → not (bit_and n 1 == 0) ≡ (n % 2 == 1)
has_bit_0 n = let e : bit_and n 1 ≡ n % 2 = and_pow n 0 ∙ omega (arith, bit_at_lowest n) in rw e (is_set (n % 2) (omega arith))

-- bit 1
pub has_bit_1 : (n : ℕ) → not (bit_and n 2 == 0) ≡ (n / 2 % 2 == 1)
has_bit_1 n = let e : bit_and n 2 ≡ n / 2 % 2 * 2 = and_pow n 1 in rw e (grind (arith, nat_tests))

-- bit 2
pub has_bit_2 : (n : ℕ) → not (bit_and n 4 == 0) ≡ (n / 4 % 2 == 1)
has_bit_2 n = let e : bit_and n 4 ≡ n / 4 % 2 * 4 = and_pow n 2 in rw e (grind (arith, nat_tests))
