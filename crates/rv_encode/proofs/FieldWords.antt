-- Fields that are set one after the other, where the word is 0 in each: the word is a sum.
use Rattle.std.proofs.Common.{◌≡◌, ℕ, ◌+◌, ◌*◌, ◌/◌, ◌%◌, ◌^◌, ◌<◌, ◌≤◌, List, [], ◌∷◌, inr, refl, sym, ap, ◌∙◌, arith}
use Rattle.rv_isa.specs.Field.{bits, with_bits}
use Rattle.rv_isa.proofs.FieldLaws.{with_bits-free, bits-with_bits_others}
use Rattle.machine.specs.Table.{R, I, H, S, B, word_R, word_I, word_S, word_B}
use Rattle.machine.proofs.Lemmas.{middle_is, high_is, high6_is}
use Rattle.rv_encode.specs.Rows.{IsMatch}

-- a field: its first bit, its width, and the number that it is given
pub record Given : Type 0 where
  pub lo : ℕ
  pub width : ℕ
  pub value : ℕ

abbrev pub given : ℕ → ℕ → ℕ → Given
given lo width value = record { lo = lo; width = width; value = value }

-- the word with all of these fields set, and the same as a sum
abbrev pub with_all : ℕ → List Given → ℕ
with_all m [] = m
with_all m (g ∷ gs) = with_all (with_bits m g.lo g.width g.value) gs

abbrev pub sum_of_all : ℕ → List Given → ℕ
sum_of_all m [] = m
sum_of_all m (g ∷ gs) = sum_of_all (m + g.value * 2 ^ g.lo) gs

-- each is above a place, and each holds its number and is 0 in the word
abbrev pub Above : ℕ → List Given → Type 0
Above lo [] = Unit {0}
Above lo (g ∷ gs) = (lo ≤ g.lo) × Above lo gs

abbrev pub Free : ℕ → List Given → Type 0
Free m [] = Unit {0}
Free m (g ∷ gs) = (g.value < 2 ^ g.width) × (bits m g.lo g.width ≡ 0) × Above (g.lo + g.width) gs × Free m gs

free-set : (m : ℕ) (g : Given) (gs : List Given) → g.value < 2 ^ g.width → Above (g.lo + g.width) gs → Free m gs → Free (with_bits m g.lo g.width g.value) gs
free-set m g [] v a f = tt
free-set m g (h ∷ hs) v a f =
    (f.0, bits-with_bits_others g.lo g.width m g.value v h.lo h.width (inr a.0) ∙ f.1, f.2, free-set m g hs v a.1 f.3)

pub with_all-sum : (m : ℕ) (gs : List Given) → Free m gs → with_all m gs ≡ sum_of_all m gs
with_all-sum m [] f = refl
with_all-sum m (g ∷ gs) f =
    with_all-sum (with_bits m g.lo g.width g.value) gs (free-set m g gs f.0 f.2 f.3)
    ∙ ap (λ k. sum_of_all k gs) (with_bits-free g.lo g.width m g.value f.1)

-- one more field is set in an equal word
pub set_next : (lo width value before same after : ℕ) → after ≡ with_bits before lo width value → before ≡ same → after ≡ with_bits same lo width value
set_next lo width value before same after e s = e ∙ ap (λ w. with_bits w lo width value) s

-- ---- a match is 0 in each field of its format
pub register_sum : (m d a b : ℕ) → m < 2 ^ 32 → IsMatch R m → d < 2 ^ 5 → a < 2 ^ 5 → b < 2 ^ 5 → with_all m (given 7 5 d ∷ given 15 5 a ∷ given 20 5 b ∷ []) ≡ word_R m d a b
register_sum m d a b l e hd ha hb =
    let parts : m ≡ m / 33554432 * 33554432 + m / 4096 % 8 * 4096 + m % 128 = sym e ∙ high_is m l in
    with_all-sum m (given 7 5 d ∷ given 15 5 a ∷ given 20 5 b ∷ [])
    (hd, omega arith, (omega arith, (omega arith, tt)), (ha, omega arith, (omega arith, tt), (hb, omega arith, tt, tt)))

pub immediate_sum : (m d a x : ℕ) → IsMatch I m → d < 2 ^ 5 → a < 2 ^ 5 → x < 2 ^ 12 → with_all m (given 7 5 d ∷ given 15 5 a ∷ given 20 12 x ∷ []) ≡ word_I m d a x
immediate_sum m d a x e hd ha hx =
    let parts : m ≡ m / 4096 % 8 * 4096 + m % 128 = sym e ∙ middle_is m in
    with_all-sum m (given 7 5 d ∷ given 15 5 a ∷ given 20 12 x ∷ [])
    (hd, omega arith, (omega arith, (omega arith, tt)), (ha, omega arith, (omega arith, tt), (hx, omega arith, tt, tt)))

pub shift_sum : (m d a x : ℕ) → m < 2 ^ 32 → IsMatch H m → d < 2 ^ 5 → a < 2 ^ 5 → x < 2 ^ 6 → with_all m (given 7 5 d ∷ given 15 5 a ∷ given 20 6 x ∷ []) ≡ word_I m d a x
shift_sum m d a x l e hd ha hx =
    let parts : m ≡ m / 67108864 * 67108864 + m / 4096 % 8 * 4096 + m % 128 = sym e ∙ high6_is m l in
    with_all-sum m (given 7 5 d ∷ given 15 5 a ∷ given 20 6 x ∷ [])
    (hd, omega arith, (omega arith, (omega arith, tt)), (ha, omega arith, (omega arith, tt), (hx, omega arith, tt, tt)))

-- the parts of the immediate in their places
pub store_sum : (m a b x low high : ℕ) → IsMatch S m → a < 2 ^ 5 → b < 2 ^ 5 → x < 2 ^ 12 → low ≡ bits x 0 5 → high ≡ bits x 5 7 → with_all m (given 7 5 low ∷ given 15 5 a ∷ given 20 5 b ∷ given 25 7 high ∷ []) ≡ word_S m a b x
store_sum m a b x low high e ha hb hx hl hh =
    let parts : m ≡ m / 4096 % 8 * 4096 + m % 128 = sym e ∙ middle_is m in
    with_all-sum m (given 7 5 low ∷ given 15 5 a ∷ given 20 5 b ∷ given 25 7 high ∷ []) (
      omega arith,
      omega arith,
      (omega arith, (omega arith, (omega arith, tt))),
      (ha, omega arith, (omega arith, (omega arith, tt)), (hb, omega arith, (omega arith, tt), (omega arith, omega arith, tt, tt))),
    )
    ∙ omega arith

pub branch_sum : (m a b x p q r t : ℕ) → IsMatch B m → a < 2 ^ 5 → b < 2 ^ 5 → p ≡ bits x 11 1 → q ≡ bits x 1 4 → r ≡ bits x 5 6 → t ≡ bits x 12 1 → with_all m (given 7 1 p ∷ given 8 4 q ∷ given 15 5 a ∷ given 20 5 b ∷ given 25 6 r ∷ given 31 1 t ∷ []) ≡ word_B m a b x
branch_sum m a b x p q r t e ha hb hp hq hr ht =
    let parts : m ≡ m / 4096 % 8 * 4096 + m % 128 = sym e ∙ middle_is m in
    with_all-sum m (given 7 1 p ∷ given 8 4 q ∷ given 15 5 a ∷ given 20 5 b ∷ given 25 6 r ∷ given 31 1 t ∷ []) (
      omega arith,
      omega arith,
      (omega arith, (omega arith, (omega arith, (omega arith, (omega arith, tt))))),
      (
        omega arith,
        omega arith,
        (omega arith, (omega arith, (omega arith, (omega arith, tt)))),
        (
          ha,
          omega arith,
          (omega arith, (omega arith, (omega arith, tt))),
          (
            hb,
            omega arith,
            (omega arith, (omega arith, tt)),
            (omega arith, omega arith, (omega arith, tt), (omega arith, omega arith, tt, tt)),
          ),
        ),
      ),
    )
    ∙ omega arith
