-- How far AUIPC reaches.
use Rattle.std.proofs.Common.{◌≡◌, ℕ, ◌+◌, ◌*◌, ◌/◌, ◌-◌, ◌^◌, ◌<◌, Bool, true, false, refl, arith}
use Rattle.std.specs.Prelude.{ℤ, pos, negsuc, ◌≤ℤ◌, is_some}
use Rattle.std.proofs.lemmas.Bool.{ltb-true, and_parts, false≢true}
use Rattle.std.proofs.lemmas.Int.{ints}
use Rattle.machine.specs.Table.{ins, encode_of, word_of, some_if, is_reg, fits_signed, Auipc}
use Rattle.machine.specs.Offsets.{upper_part}
use Rattle.relinker.specs.Link.{is_encoded}

-- a word under a test exists only if the test holds
given : (b : Bool) (w : ℕ) → is_some (some_if b w) ≡ true → b ≡ true
given true w e = refl
given false w e = absurd (false≢true e)

-- the immediate of an AUIPC with a word
fits_upper : (r : ℕ) (z : ℤ) → is_encoded (ins Auipc r 0 0 z) ≡ true → fits_signed 32 z ≡ true
unfolding encode_of word_of
fits_upper r z e = (and_parts _ _ (and_parts (is_reg r) _ (given _ _ e)).1).0

-- if AUIPC has a word for the upper part of a distance, the distance is small
pub near_upper : (r : ℕ) (d : ℤ) → is_encoded (ins Auipc r 0 0 (upper_part d)) ≡ true → d ≤ℤ pos (2 ^ 63 - 2049)
near_upper r (negsuc x) e = omega (arith, ints)
near_upper r (pos x) e =
    let small : (x + 2048) / 4096 * 4096 < 2 ^ 31 = ltb-true _ _ (fits_upper r (upper_part (pos x)) e) in
    omega (arith, ints, small)
