-- The bounds of an admitted test are below 2^64.
use Rattle.std.proofs.Common.{ℕ, zero, suc, ◌+◌, ◌-◌, ◌*◌, ◌/◌, ◌^◌, ◌<◌, ◌≤◌, Bool, true, false, arith}
use Rattle.std.specs.Prelude.{IfSome}
use Rattle.std.proofs.Math.Nat.{mul-le-mul, div-le_of_le-mul}
use Rattle.qed_model.specs.declared.bounds.Shape.{Shape}
use Rattle.qed_model.specs.Weave.Bounds.{visit_bound, piece_bound, end_bound, start_bound, word_bound, cost_of, bounds_of}
use Rattle.qed_model.specs.Weave.LeanBounds as lean
use Rattle.qed_model.specs.Weave.Pieces.{piece_count}
use Rattle.bound_calc.specs.Fitting.{AreSmall}

visit_small : (words ranges : ℕ) → ranges ≤ 67108864 → visit_bound words ranges ≤ 201326599
visit_small zero ranges h = omega arith
visit_small (suc n) ranges h = omega (arith, h)

-- products of small numbers
times : (a b c d : ℕ) → a ≤ c → b ≤ d → a * b ≤ c * d
times a b c d h k = mul-le-mul h k

piece_small : (diverse : Bool) (most words ranges round : ℕ) → most ≤ 1024 → ranges ≤ 67108864 → round ≤ 1024 → piece_bound (cost_of diverse) most words ranges round ≤ 206158445598
piece_small true most words ranges round m r k = let t = times (visit_bound words ranges) round 201326599 1024 (visit_small words ranges r) k in omega (arith, t, m)
piece_small false most words ranges round m r k = let t = times (visit_bound words ranges) round 201326599 1024 (visit_small words ranges r) k in omega (arith, t, m)

start_small : (far sweep : Bool) (ranges words : ℕ) → ranges ≤ 67108864 → words ≤ 67108864 → start_bound far sweep ranges words ≤ 671088687
start_small true true ranges words r w = omega (arith, r, w)
start_small true false ranges words r w = omega arith
start_small false true ranges words r w = omega (arith, r, w)
start_small false false ranges words r w = omega arith

word_small : (words round start piece : ℕ) → words ≤ 67108864 → 1 ≤ round → start ≤ 671088687 → piece ≤ 206158445598 → IfSome (word_bound words round start piece) (λ w. w < 2 ^ 64)
word_small zero round start piece w r s p = tt
word_small (suc n) round start piece w r s p =
    let few : (suc n + round - 1) / round ≤ 67108864 = div-le_of_le-mul round (omega (arith, w, r)) in
    let t = times ((suc n + round - 1) / round + 2) piece 67108866 206158445598 (omega (arith, few)) p in
    omega (arith, t, s)

pub shape_small : (s : Shape) → s.inst_max ≤ 1024 → 1 ≤ s.round → s.round ≤ 1024 → s.ranges ≤ 67108864 → s.words ≤ 67108864 → AreSmall (bounds_of s)
shape_small s most some round ranges words =
    let piece = piece_small s.diverse s.inst_max s.words s.ranges s.round most ranges round in
    let start = start_small s.far s.sweep s.ranges s.words ranges words in
    record {
      piece = omega (arith, piece);
      register = omega (arith, piece, start);
      word = word_small s.words s.round (start_bound s.far s.sweep s.ranges s.words) (piece_bound (cost_of s.diverse) s.inst_max s.words s.ranges s.round) words some start piece;
      start = omega (arith, start);
    }

-- ---- the lean form
end_small : (sweep : Bool) (ranges words : ℕ) → ranges ≤ 67108864 → words ≤ 67108864 → end_bound sweep ranges words ≤ 671088654
end_small true ranges words r w = omega (arith, r, w)
end_small false ranges words r w = omega arith

check_small : (words ranges round : ℕ) → ranges ≤ 67108864 → round ≤ 1024 → lean.check_bound words ranges round ≤ 206158437412
check_small words ranges round r k = let t = times (visit_bound words ranges) round 201326599 1024 (visit_small words ranges r) k in omega (arith, t)

longest_small : (diverse : Bool) (most : ℕ) → most ≤ 1024 → lean.cost_of diverse * most ≤ 8192
longest_small true most m = omega (arith, m)
longest_small false most m = omega (arith, m)

entry_small : (land : Bool) → lean.entry_steps land + lean.call_steps land ≤ 7
entry_small true = omega arith
entry_small false = omega arith

lean_word_small : (land : Bool) (words round ends period : ℕ) → words ≤ 67108864 → 1 ≤ round → ends ≤ 671088654 → period ≤ 206158439466 → IfSome (lean.word_bound land words round ends period) (λ w. w < 2 ^ 64)
lean_word_small land zero round ends period w r s p = tt
lean_word_small land (suc n) round ends period w r s p =
    let few : piece_count round (suc n) ≤ 67108864 = div-le_of_le-mul round (omega (arith, w, r)) in
    let t = times (piece_count round (suc n) + 1) period 67108865 206158439466 (omega (arith, few)) p in
    omega (arith, t, s, entry_small land)

pub lean_shape_small :
    (s : Shape) (every : ℕ) → s.inst_max ≤ 1024 → 1 ≤ s.round → s.round ≤ 1024 → s.ranges ≤ 67108864 → s.words ≤ 67108864 → every ≤ 2047 → AreSmall (lean.lean_bounds_of s every)
lean_shape_small s every most some round ranges words few =
    let check = check_small s.words s.ranges s.round ranges round in
    let ends = end_small s.sweep s.ranges s.words ranges words in
    let longest = longest_small s.diverse s.inst_max most in
    let entry = entry_small s.land in
    record {
      piece = omega (arith, check, longest, entry);
      register = omega (arith, check, ends, few, entry);
      word = lean_word_small s.land s.words s.round (end_bound s.sweep s.ranges s.words) (lean.period s.land (lean.check_bound s.words s.ranges s.round) every) words some ends (omega (arith, check, few, entry));
      start = omega (arith, ends);
    }
