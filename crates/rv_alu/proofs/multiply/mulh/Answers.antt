use Rattle.std.proofs.Common.{◌≡◌, pos, negsuc, ◌/◌, ◌^◌, ◌*ℤ◌, ◌<◌, ◌≤◌, ℤ, w64, of_z, to_z, arith, mul-le-mul, ◌∙◌, ap}
use Rattle.std.specs.Int.RustNames.{unsigned_abs}
use Rattle.std.specs.Int.Signed.{mag, shr_z}
use Rattle.std.proofs.lemmas.Int.{ints, unsigned_abs-mul}
use mir.Syntax.{w128}
use Rattle.machine.specs.Values.{wrapped, floor_shift, s64}
use Rattle.rv_alu.proofs.multiply.mulh.Goals as goal

abs-le : (x : ℤ) → mag x < 2 ^ 63 → unsigned_abs x ≤ 2 ^ 63
abs-le (pos n) h = omega arith
abs-le (negsuc n) h = omega arith

-- a product of two signed numbers of 64 bits is one of 128 bits, with room
abs-product : (x y : ℤ) → mag x < 2 ^ 63 → mag y < 2 ^ 63 → unsigned_abs (x *ℤ y) ≤ 2 ^ 126
abs-product x y hx hy = omega (arith, unsigned_abs-mul x y, mul-le-mul (abs-le x hx) (abs-le y hy))

-- the high half of such a product
high : (z : ℤ) → unsigned_abs z ≤ 2 ^ 126 → of_z w64 (to_z w64 (of_z w64 (to_z w128 (of_z w128 (shr_z (to_z w128 (of_z w128 z)) (2 ^ 64)))))) ≡ wrapped (floor_shift z 64)
high (pos n) h =
    let whole : to_z w128 (of_z w128 (pos n)) ≡ pos n = omega (arith, ints) in
    let half : to_z w128 (of_z w128 (pos (n / 2 ^ 64))) ≡ pos (n / 2 ^ 64) = omega (arith, ints) in
    let low : to_z w64 (of_z w64 (pos (n / 2 ^ 64))) ≡ pos (n / 2 ^ 64) = omega (arith, ints) in
    rw (whole, half, low) (omega arith)
high (negsuc n) h =
    let whole : to_z w128 (of_z w128 (negsuc n)) ≡ negsuc n = omega (arith, ints) in
    let half : to_z w128 (of_z w128 (negsuc (n / 2 ^ 64))) ≡ negsuc (n / 2 ^ 64) = omega (arith, ints) in
    let low : to_z w64 (of_z w64 (negsuc (n / 2 ^ 64))) ≡ negsuc (n / 2 ^ 64) = omega (arith, ints) in
    rw (whole, half, low) (omega arith)

-- the high half of a product of factors that were widened
widened : (x y : ℤ) → mag x < 2 ^ 63 → mag y < 2 ^ 63 → of_z w64 (to_z w64 (of_z w64 (to_z w128 (of_z w128 (shr_z (to_z w128 (of_z w128 (to_z w128 (of_z w128 (to_z w64 (of_z w64 x))) *ℤ to_z w128 (of_z w128 (to_z w64 (of_z w64 y)))))) (2 ^ 64)))))) ≡ wrapped (floor_shift (x *ℤ y) 64)
widened x y hx hy =
    let fx : to_z w128 (of_z w128 (to_z w64 (of_z w64 x))) ≡ x = omega (arith, ints) in
    let fy : to_z w128 (of_z w128 (to_z w64 (of_z w64 y))) ≡ y = omega (arith, ints) in
    rw (fx, fy) (high (x *ℤ y) (abs-product x y hx hy))

pub returns : goal.returns
returns c =
    c.cast_unsigned.ensures
    ∙ (widened c.cast_signed.result c.cast_signed-2.result c.cast_signed.type_inv c.cast_signed-2.type_inv
    ∙ (ap (λ x. wrapped (floor_shift (x *ℤ c.cast_signed-2.result) 64)) c.cast_signed.ensures
    ∙ ap (λ y. wrapped (floor_shift (s64 c.args.a *ℤ y) 64)) c.cast_signed-2.ensures))
