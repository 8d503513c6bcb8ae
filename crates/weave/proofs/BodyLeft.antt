-- The pieces of a body, one after another.
use Rattle.std.proofs.Common.{◌≡◌, ℕ, zero, suc, ◌+◌, ◌*◌, ◌^◌, ◌<◌, List, [], ◌∷◌, length, sum, take, drop, sym, ap, ◌∙◌, subst, arith}
use Rattle.std.proofs.Common.{length-drop, get_or}
use Rattle.std.proofs.lemmas.List.{length-take-le, drop_more}
use Rattle.std.proofs.lemmas.List.Sums.{sum_by-cons}
use Rattle.qed_model.specs.Weave.Pieces.{divided}
use Rattle.qed_model.specs.Weave.Sequences.{Ins, body_length}
use Rattle.weave_core.specs.Blocks.{AllFit}

-- the rest of a body and of the lengths of its pieces, and a fact on these pieces and their place
pub record Left (P : List (List Ins) → ℕ → Type 0) (lengths : List ℕ) (body : List Ins) (at : ℕ) : Type 0 where
  pub fits : AllFit body
  pub whole : sum lengths ≡ length body
  pub low : at + 4 * length body < 2 ^ 64
  pub has : P (divided lengths body) at

pub take_fits : (n : ℕ) (is : List Ins) → AllFit is → AllFit (take n is)
take_fits zero is f = tt
take_fits (suc n) [] f = tt
take_fits (suc n) (i ∷ is) f = (f.0, take_fits n is f.1)

pub drop_fits : (n : ℕ) (is : List Ins) → AllFit is → AllFit (drop n is)
drop_fits zero is f = f
drop_fits (suc n) [] f = tt
drop_fits (suc n) (i ∷ is) f = drop_fits n is f.1

-- ---- one more piece
-- a piece of the next length; the body is split behind it
module _
    (P : List (List Ins) → ℕ → Type 0) (items lengths : List ℕ) (k : ℕ) (body list more : List Ins) (at : ℕ)
    (same : items ≡ lengths) (less : k < length items) (front : list ≡ take (get_or items k 0) body) (back : more ≡ drop (get_or items k 0) body) (left : Left P (drop k lengths) body at) where
  abbrev n : ℕ
  n = get_or items k 0

  abbrev ns : List ℕ
  ns = drop (k + 1) lengths

  split : drop k lengths ≡ n ∷ ns
  split = subst (λ l. drop k l ≡ n ∷ drop (k + 1) l) same (drop_more items k 0 less)

  -- the piece is the first of those that are left
  pub piece_split : P (list ∷ divided ns more) at
  piece_split = subst (λ ps. P ps at) (ap (λ l. divided l body) split ∙ ap (λ l. l ∷ divided ns (drop n body)) (sym front) ∙ ap (λ l. list ∷ divided ns l) (sym back)) left.has

  -- behind the piece the others are left
  pub left_on : (Q : List (List Ins) → ℕ → Type 0) → Q (divided ns more) (at + 4 * length list) → Left Q ns more (at + 4 * n)
  left_on Q q =
      let w : n + sum ns ≡ length body = sym (sum_by-cons (λ n. n) n ns) ∙ ap sum (sym split) ∙ left.whole in
      let t : length list ≡ n = ap length front ∙ length-take-le n body (omega (arith, w)) in
      let d = ap length back ∙ length-drop n body in
      let low = left.low in
      record { fits = subst AllFit (sym back) (drop_fits n body left.fits); whole = omega (arith, w, d); low = omega (arith, w, d, low); has = subst (λ m. Q (divided ns more) (at + 4 * m)) t q }

-- ---- behind the pieces
-- a body that is all in pieces
pub whole_length : (ns : List ℕ) (is : List Ins) → sum ns ≡ length is → body_length (divided ns is) ≡ length is
whole_length [] is e = e
whole_length (n ∷ ns) is e =
    let w : n + sum ns ≡ length is = sym (sum_by-cons (λ n. n) n ns) ∙ e in
    let t : length (take n is) ≡ n = length-take-le n is (omega (arith, w)) in
    let d = length-drop n is in
    let r = whole_length ns (drop n is) (omega (arith, w, d)) in
    omega (arith, w, t, d, r)
