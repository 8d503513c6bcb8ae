-- Distances out of reach, by the number that they are modulo 2^64.
use Rattle.std.proofs.Common.{◌≡◌, ℕ, suc, ◌+◌, ◌-◌, ◌%◌, ◌^◌, ◌<◌, ◌≤◌, true, false, cond, ◌&&◌, not, refl, arith}
use Rattle.std.specs.Prelude.{nat_lt, nat_le, pos, negsuc}
use Rattle.std.proofs.lemmas.Bool.{ltb-true, ltb-false}
use Rattle.std.proofs.lemmas.Bool.Decides.{nat_tests}
use Rattle.machine.specs.Offsets.{distance_between}
use Rattle.tests.specs.Admission.Rules.{is_far}

low : (d : ℕ) → d < 2 ^ 63 → not (nat_lt d (2 ^ 28)) ≡ (nat_le (2 ^ 28) d && nat_le d (2 ^ 64 - 1 - 2 ^ 28))
low d h = grind (arith, nat_tests)

high : (d : ℕ) → 2 ^ 63 ≤ d → d < 2 ^ 64 → not (nat_lt (2 ^ 64 - suc d) (2 ^ 28)) ≡ (nat_le (2 ^ 28) d && nat_le d (2 ^ 64 - 1 - 2 ^ 28))
high d h g = grind (arith, nat_tests)

far : (d : ℕ) → d < 2 ^ 64 → is_far (cond (nat_lt d (2 ^ 63)) (pos d) (negsuc (2 ^ 64 - suc d))) ≡ (nat_le (2 ^ 28) d && nat_le d (2 ^ 64 - 1 - 2 ^ 28))
far d l =
    elim (nat_lt d (2 ^ 63)) as (λ b. nat_lt d (2 ^ 63) ≡ b → is_far (cond b (pos d) (negsuc (2 ^ 64 - suc d))) ≡ (nat_le (2 ^ 28) d && nat_le d (2 ^ 64 - 1 - 2 ^ 28))) [
      | true ↦ λ e. low d (ltb-true d (2 ^ 63) e)
      | false ↦ λ e. high d (ltb-false d (2 ^ 63) e) l
    ] refl

pub far_apart : (a b : ℕ) → is_far (distance_between b a) ≡ (nat_le (2 ^ 28) ((a + (2 ^ 64 - b)) % 2 ^ 64) && nat_le ((a + (2 ^ 64 - b)) % 2 ^ 64) (2 ^ 64 - 1 - 2 ^ 28))
far_apart a b = far ((a + (2 ^ 64 - b)) % 2 ^ 64) (omega arith)
