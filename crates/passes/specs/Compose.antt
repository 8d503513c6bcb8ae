-- The laws of one pass after another.
use Rattle.std.proofs.Common.{◌≡◌, ℕ, suc, ◌+◌, ◌*◌, Bool, List, [], ◌∷◌, ◌++◌, length, sym, ap, ◌∙◌, subst, arith, length-append}
use Rattle.machine.specs.Step.{Ins, Fetched, HasAt}
use Rattle.qed_model.specs.declared.item.Item.{Item}
use Rattle.qed_model.specs.Weave.Placed.{instructions_from}
use Rattle.passes.specs.Honest.{NoBreak, AllHonest, HonestItems}
use Rattle.passes.specs.Pass.{Honest}
use Rattle.weave_core.proofs.Lemmas.{instructions_then, has_rest, has_front}
pub use Rattle.weave_core.proofs.Lemmas.{leads_led, quiet_then, lockstep_then, lockstep_alone}

-- ---- Honest
honest_append : (c : ℕ → Fetched) (a : ℕ) (xs ys : List Ins) → AllHonest c a xs → AllHonest c (a + 4 * length xs) ys → AllHonest c a (xs ++ ys)
honest_append c a [] ys h k = let s : a + 0 ≡ a = omega arith in subst (λ b. AllHonest c b ys) s k
honest_append c a (x ∷ xs) ys h k =
    let s : a + 4 * suc (length xs) ≡ a + 4 + 4 * length xs = omega arith in
    (h.0, honest_append c (a + 4) xs ys h.1 (subst (λ b. AllHonest c b ys) s k))

pub honest_items_then : (far : Bool) (xs ys : List Item) → HonestItems far xs → HonestItems far ys → HonestItems far (xs ++ ys)
honest_items_then far xs ys x y c e a near has calm en =
    let wx = instructions_from far e a xs in
    let b = a + 4 * length (instructions_from far e a xs) in
    let wy = instructions_from far e (a + 4 * length (instructions_from far e a xs)) ys in
    let split = instructions_then far e a xs ys in
    let count : length (instructions_from far e a (xs ++ ys)) ≡ length wx + length wy = ap length split ∙ length-append wx wy in
    let whole : HasAt c a (wx ++ wy) = subst (HasAt c a) split has in
    let ends : a + 4 * length (instructions_from far e a (xs ++ ys)) ≡ b + 4 * length wy = omega (arith, count) in
    let q = y c e b (omega (arith, near, ends)) (has_rest c a wx wy whole) (subst (NoBreak c) ends calm) en in
    let p = x c e a (omega (arith, near, count)) (has_front c a wx wy whole) q.front en in
    record { each = subst (AllHonest c a) (sym split) (honest_append c a wx wy p.each q.each); front = p.front }

pub honest_items_none : (far : Bool) → HonestItems far []
honest_items_none far c e a near has calm en = let s : a + 4 * 0 ≡ a = omega arith in record { each = tt; front = subst (NoBreak c) s calm }

pub honest_then : (sa sb : Bool → Type 0) (xs ys : List Item) → Honest sa xs → Honest sb ys → Honest (λ f. sa f × sb f) (xs ++ ys)
honest_then sa sb xs ys a b = record { honest = λ far s. honest_items_then far xs ys (a.honest far s.0) (b.honest far s.1) }
