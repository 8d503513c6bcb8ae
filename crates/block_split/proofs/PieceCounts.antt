-- How many pieces a run has.
use Rattle.std.proofs.Common.{◌≡◌, ⊎_elim, ℕ, zero, suc, ◌+◌, ◌-◌, ◌*◌, ◌/◌, ◌%◌, ◌<◌, ◌≤◌, min, sym, arith}
use Rattle.std.proofs.Math.Nat.{div-eq_of_lt-le, add-mul, mul-le-mul}
use Rattle.std.proofs.lemmas.Grind.{div_ceil_times}
use Rattle.std.proofs.lemmas.Bool.{cases_lt}
use Rattle.qed_model.specs.Weave.Pieces.{piece_count}

-- the count is k if k pieces hold n instructions, and k - 1 do not
count_of : (n most k : ℕ) → 1 ≤ most → n ≤ k * most → k * most < n + most → (n + most - 1) / most ≡ k
count_of n most k h low high = div-eq_of_lt-le {k = k} most {m = n + most - 1} (omega (arith, h, high)) (let e : (k + 1) * most ≡ k * most + 1 * most = add-mul k 1 most in omega (arith, h, low, e))

pub count_is : (n most : ℕ) → 1 ≤ most → n / most + min 1 (n % most) ≡ piece_count most n
count_is n most h =
    let t = div_ceil_times n most (omega (arith, h)) in
    sym (count_of n most (n / most + min 1 (n % most)) h t.0 t.1)

-- some instructions make some pieces
some_of : (n most k : ℕ) → 1 ≤ n → n ≤ k * most → 1 ≤ k
some_of n most zero h low = omega (arith, h, low)
some_of n most (suc k) h low = omega arith

pub count_some : (n most : ℕ) → 1 ≤ n → 1 ≤ most → 1 ≤ n / most + min 1 (n % most)
count_some n most h k = let t = div_ceil_times n most (omega (arith, k)) in some_of n most (n / most + min 1 (n % most)) h t.0

-- there are no more pieces than instructions
few_of : (n most k : ℕ) → 1 ≤ most → k * most < n + most → k ≤ n
few_of n zero k h high = absurd (omega (arith, h))
few_of n (suc m) k h high =
    ⊎_elim
    (λ lt.
    let more : (n + 1) * suc m ≤ k * suc m = mul-le-mul (omega (arith, lt)) (omega arith) in
    let e : (n + 1) * suc m ≡ n * suc m + 1 * suc m = add-mul n 1 (suc m) in
    let p : n * 1 ≤ n * suc m = mul-le-mul (omega arith) (omega arith) in
    absurd (omega (arith, more, e, p, high)))
    (λ le. le)
    (cases_lt n k)

pub count_few : (n most : ℕ) → 1 ≤ most → n / most + min 1 (n % most) ≤ n
count_few n most h = let t = div_ceil_times n most (omega (arith, h)) in few_of n most (n / most + min 1 (n % most)) h t.1
