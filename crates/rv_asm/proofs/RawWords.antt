-- Eight hexadecimal digits are a number below 2^32.
use Rattle.std.proofs.Common.{◌≡◌, ℕ, ◌+◌, ◌*◌, ◌^◌, ◌<◌, ◌≤◌, Bool, true, false, ◌&&◌, cond, ltb, leb, Option, Some, None, List, [], ◌∷◌, length, refl, ap, arith}
use Rattle.std.specs.Char.{digit_value}
use Rattle.std.proofs.lemmas.Bool.Decides.{nat_tests}
use Rattle.std.proofs.lemmas.Option.{none-some, same_Some}
use Rattle.std.proofs.Math.Nat.{mul-le-mul_right, pow-succ'}
use Rattle.texts.specs.Read.{read_on, digits}

step : (n d p m : ℕ) → d < 16 → m < (n * 16 + d + 1) * p → m < (n + 1) * (16 * p)
step n d p m small h = omega (arith, mul-le-mul_right p (let e : n * 16 + d + 1 ≤ (n + 1) * 16 = omega arith in e))

one_more : (n d m p q : ℕ) (rest : Option ℕ) (s t : Bool) → q ≡ 16 * p → s ≡ ltb d 16 → (rest ≡ Some m → m < (n * 16 + d + 1) * p) → cond (s && t) rest None ≡ Some m → m < (n + 1) * q
one_more n d m p q rest true true k i more e = rw k (step n d p m (grind (arith, nat_tests)) (more e))
one_more n d m p q rest true false k i more e = absurd (none-some m e)
one_more n d m p q rest false t k i more e = absurd (none-some m e)

below : (cs : List ℕ) (n m : ℕ) → read_on 16 n cs ≡ Some m → m < (n + 1) * 16 ^ length cs
below [] n m e = let k = same_Some n m e in omega arith
below (c ∷ cs) n m e =
    one_more n (digit_value c) m (16 ^ length cs) (16 ^ length (c ∷ cs)) (read_on 16 (n * 16 + digit_value c) cs) (ltb (digit_value c) 16) (ltb (n * 16 + digit_value c) (2 ^ 64)) (pow-succ' 16 (length cs)) refl (λ h. below cs (n * 16 + digit_value c) m h) e

taken : (t : Bool) (o : Option ℕ) (m : ℕ) → cond t o None ≡ Some m → o ≡ Some m
taken true o m e = e
taken false o m e = absurd (none-some m e)

pub raw_below : (cs : List ℕ) (m : ℕ) → length cs ≡ 8 → digits 16 8 cs ≡ Some m → m < 2 ^ 32
unfolding digits
raw_below cs m l e =
    let h = below cs 0 m (taken (leb 1 (length cs) && leb (length cs) 8) (read_on 16 0 cs) m e) in
    let p : 16 ^ length cs ≡ 16 ^ 8 = ap (λ k. 16 ^ k) l in
    omega (arith, h, p)
