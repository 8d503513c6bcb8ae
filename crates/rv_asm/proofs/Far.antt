-- An immediate that does not fit 64 bits has no word.
use Rattle.std.proofs.Common.{◌≡◌, ℕ, ◌-◌, ◌^◌, ◌%◌, ◌≤◌, Bool, true, false, ◌&&◌, ◌==◌, None, ℤ, pos, negsuc, refl, sym, ap, subst, ◌∙◌, arith}
use Rattle.std.proofs.lemmas.Bool.{ltb-true}
use Rattle.std.proofs.lemmas.Bool.Decides.{nat_tests}
use Rattle.std.proofs.lemmas.Int.{ints, to_z-of_z}
use mir.Val.{SFits, of_z, to_z}
use mir.Syntax.{w64, w128}
use Rattle.machine.specs.Table.{Format, R, I, H, G, S, B, U, J, N, row_of, ins, fits_signed, fits_below, is_zero, is_reg, to_bits, some_if, word_R, word_I, word_S, word_B, word_U, word_J, word_of, encode_of, Kind}

none3 : (a b c : Bool) (w : ℕ) → some_if (a && (b && (c && false))) w ≡ None
none3 true true true w = refl
none3 true true false w = refl
none3 true false c w = refl
none3 false b c w = refl

far_signed : (n : ℕ) (z : ℤ) → 2 ^ (n - 1) ≤ 2 ^ 63 → fits_signed 64 z ≡ false → fits_signed n z ≡ false
far_signed n (pos x) few h = grind (arith, nat_tests)
far_signed n (negsuc x) few h = grind (arith, nat_tests)

far_below : (n : ℕ) (z : ℤ) → 2 ^ n ≤ 2 ^ 63 → fits_signed 64 z ≡ false → fits_below n z ≡ false
far_below n (pos x) few h = grind (arith, nat_tests)
far_below n (negsuc x) few h = refl

far_0 : (z : ℤ) → fits_signed 64 z ≡ false → is_zero z ≡ false
far_0 (pos x) h = grind (arith, nat_tests)
far_0 (negsuc x) h = refl

far_in : (f : Format) (m : ℕ) (k : Kind) (d a b : ℕ) (z : ℤ) → fits_signed 64 z ≡ false → word_of f m (ins k d a b z) ≡ None
unfolding word_of
far_in R m k d a b z h = ap (λ t. some_if (is_reg d && (is_reg a && (is_reg b && t))) (word_R m d a b)) (far_0 z h) ∙ none3 (is_reg d) (is_reg a) (is_reg b) (word_R m d a b)
far_in I m k d a b z h = ap (λ t. some_if (is_reg d && (is_reg a && ((b == 0) && t))) (word_I m d a (to_bits 12 z))) (far_signed 12 z (omega arith) h) ∙ none3 (is_reg d) (is_reg a) (b == 0) (word_I m d a (to_bits 12 z))
far_in H m k d a b z h = ap (λ t. some_if (is_reg d && (is_reg a && ((b == 0) && t))) (word_I m d a (to_bits 12 z))) (far_below 6 z (omega arith) h) ∙ none3 (is_reg d) (is_reg a) (b == 0) (word_I m d a (to_bits 12 z))
far_in G m k d a b z h = ap (λ t. some_if (is_reg d && (is_reg a && ((b == 0) && t))) (word_I m d a (to_bits 12 z))) (far_below 5 z (omega arith) h) ∙ none3 (is_reg d) (is_reg a) (b == 0) (word_I m d a (to_bits 12 z))
far_in S m k d a b z h = ap (λ t. some_if ((d == 0) && (is_reg a && (is_reg b && t))) (word_S m a b (to_bits 12 z))) (far_signed 12 z (omega arith) h) ∙ none3 (d == 0) (is_reg a) (is_reg b) (word_S m a b (to_bits 12 z))
far_in B m k d a b z h = ap (λ t. some_if ((d == 0) && (is_reg a && (is_reg b && (t && (to_bits 13 z % 2 == 0))))) (word_B m a b (to_bits 13 z))) (far_signed 13 z (omega arith) h) ∙ none3 (d == 0) (is_reg a) (is_reg b) (word_B m a b (to_bits 13 z))
far_in U m k d a b z h = ap (λ t. some_if (is_reg d && ((a == 0) && ((b == 0) && (t && (to_bits 32 z % 4096 == 0))))) (word_U m d (to_bits 32 z))) (far_signed 32 z (omega arith) h) ∙ none3 (is_reg d) (a == 0) (b == 0) (word_U m d (to_bits 32 z))
far_in J m k d a b z h = ap (λ t. some_if (is_reg d && ((a == 0) && ((b == 0) && (t && (to_bits 21 z % 2 == 0))))) (word_J m d (to_bits 21 z))) (far_signed 21 z (omega arith) h) ∙ none3 (is_reg d) (a == 0) (b == 0) (word_J m d (to_bits 21 z))
far_in N m k d a b z h = ap (λ t. some_if ((d == 0) && ((a == 0) && ((b == 0) && t))) m) (far_0 z h) ∙ none3 (d == 0) (a == 0) (b == 0) m

pub far : (k : Kind) (d a b : ℕ) (z : ℤ) → fits_signed 64 z ≡ false → encode_of (ins k d a b z) ≡ None
unfolding encode_of
far k d a b z h = far_in (row_of k).format (row_of k).match k d a b z h

near : (z : ℤ) → fits_signed 64 z ≡ true → SFits w64 z
near (pos x) h = let l = ltb-true x (2 ^ 63) h in omega (arith, ints)
near (negsuc x) h = let l = ltb-true x (2 ^ 63) h in omega (arith, ints)

-- a number that does not fit the narrower type
pub not_near : (z : ℤ) → SFits w128 z → (SFits w64 (to_z w128 (of_z w128 z)) → ⊥) → fits_signed 64 z ≡ false
not_near z wide h =
    elim (fits_signed 64 z) as (λ b. fits_signed 64 z ≡ b → b ≡ false)
    [ true ↦ λ e. absurd (h (subst (SFits w64) (sym (to_z-of_z w128 z wide)) (near z e))) | false ↦ λ e. refl ] refl
