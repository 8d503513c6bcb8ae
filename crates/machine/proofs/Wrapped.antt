-- Numbers modulo 2^64 and signed numbers.
use Rattle.std.proofs.Common.{◌≡◌, ℕ, suc, ◌+◌, ◌-◌, ◌%◌, ◌^◌, ◌<◌, true, false, cond, refl, ap, ◌∙◌, arith}
use Rattle.std.proofs.Math.Nat.{add_comm}
use Rattle.std.proofs.Math.IntN.{sub_ℕ}
use Rattle.std.proofs.lemmas.Bool.{ltb-true, ltb-false}
use Rattle.std.specs.Prelude.{ℤ, pos, negsuc, ◌+ℤ◌, nat_lt}
use Rattle.machine.specs.Table.{signed}
use Rattle.machine.specs.Values.{wrapped}

-- read as signed and back
pub wrapped-signed : (x : ℕ) → x < 2 ^ 64 → wrapped (signed 64 x) ≡ x
wrapped-signed x h =
    elim (nat_lt x (2 ^ 63)) as (λ b. nat_lt x (2 ^ 63) ≡ b → wrapped (cond b (pos x) (negsuc (2 ^ 64 - suc x))) ≡ x) [
      | true ↦ λ e. omega arith
      | false ↦ λ e. omega (arith, ltb-false x (2 ^ 63) e)
    ] refl

-- the result is below 2^64
pub wrapped-lt : (z : ℤ) → wrapped z < 2 ^ 64
wrapped-lt (pos x) = omega arith
wrapped-lt (negsuc x) = omega arith

-- a difference of two numbers, wrapped
wrapped-sub_ℕ : (a b : ℕ) → wrapped (sub_ℕ a (suc b)) ≡ (a % 2 ^ 64 + (2 ^ 64 - suc (b % 2 ^ 64))) % 2 ^ 64
wrapped-sub_ℕ a b =
    elim (nat_lt a (suc b)) as (λ t. nat_lt a (suc b) ≡ t → wrapped (cond t (negsuc (suc b - suc a)) (pos (a - suc b))) ≡ (a % 2 ^ 64 + (2 ^ 64 - suc (b % 2 ^ 64))) % 2 ^ 64) [
      | true ↦ λ e. omega (arith, ltb-true a (suc b) e)
      | false ↦ λ e. omega (arith, ltb-false a (suc b) e)
    ] refl

-- modulo 2^64 a sum is the sum of its parts
pub wrapped-add : (y z : ℤ) → wrapped (y +ℤ z) ≡ (wrapped y + wrapped z) % 2 ^ 64
wrapped-add (pos a) (pos b) = omega arith
wrapped-add (pos a) (negsuc b) = wrapped-sub_ℕ a b
wrapped-add (negsuc a) (pos b) = wrapped-sub_ℕ b a ∙ ap (λ n. n % 2 ^ 64) (add_comm (b % 2 ^ 64) _)
wrapped-add (negsuc a) (negsuc b) = omega arith

-- a step of d read as signed leads from a to c
pub difference : (a c : ℕ) → a < 2 ^ 64 → c < 2 ^ 64 → (a + wrapped (signed 64 ((c + (2 ^ 64 - a)) % 2 ^ 64))) % 2 ^ 64 ≡ c
difference a c ha hc = rw (wrapped-signed ((c + (2 ^ 64 - a)) % 2 ^ 64) (omega arith)) (omega arith)
