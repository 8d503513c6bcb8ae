-- Registers that are set to 0, one more at a time.
use Rattle.std.proofs.Common.{◌≡◌, ℕ, suc, ◌+◌, ◌-◌, ◌<◌, ◌≤◌, List, [], ◌∷◌, ◌++◌, ap, ◌∙◌, subst, arith}
use Rattle.std.specs.Prelude.{pos}
use Rattle.machine.specs.Table.{Addi, ins}
use Rattle.qed_model.specs.declared.item.Item.{Item}
use Rattle.qed_model.specs.declared.item.Item.TheVariants.{Plain}
use Rattle.qed_model.specs.Weave.Sequences.{zero_from}
use Rattle.passes.specs.Emitted.{Done, done_none, done_more, done_all}

zeros_left : (a k n : ℕ) → k < n → zero_from (a + k) (n - k) ≡ (Plain (ins Addi (a + k) 0 0 (pos 0)) ∷ []) ++ zero_from (a + (k + 1)) (n - (k + 1))
zeros_left a k n h =
    let e : n - k ≡ suc (n - (k + 1)) = omega (arith, h) in
    let s : a + k + 1 ≡ a + (k + 1) = omega arith in
    ap (zero_from (a + k)) e ∙ ap (λ b. Plain (ins Addi (a + k) 0 0 (pos 0)) ∷ zero_from b (n - (k + 1))) s

-- no register so far
pub zeros_none : (old : List Item) (a n : ℕ) → Done old old (zero_from a n) (zero_from (a + 0) (n - 0))
zeros_none old a n =
    let s : a ≡ a + 0 = omega arith in
    let z : n ≡ n - 0 = omega arith in
    subst (λ b. Done old old (zero_from a n) (zero_from b (n - 0))) s (subst (λ m. Done old old (zero_from a n) (zero_from a m)) z (done_none old (zero_from a n)))

-- one more register
pub zeros_more :
    (old now new : List Item) (a k n : ℕ) → k < n → Done old now (zero_from a n) (zero_from (a + k) (n - k))
    → new ≡ now ++ (Plain (ins Addi (a + k) 0 0 (pos 0)) ∷ []) → Done old new (zero_from a n) (zero_from (a + (k + 1)) (n - (k + 1)))
zeros_more old now new a k n h d e =
    done_more old now new (zero_from a n) (Plain (ins Addi (a + k) 0 0 (pos 0)) ∷ []) (zero_from (a + (k + 1)) (n - (k + 1))) (subst (Done old now (zero_from a n)) (zeros_left a k n h) d) e

-- all registers
pub zeros_all : (old now : List Item) (a k n : ℕ) → n ≤ k → Done old now (zero_from a n) (zero_from (a + k) (n - k)) → now ≡ old ++ zero_from a n
zeros_all old now a k n h d =
    let z : n - k ≡ 0 = omega (arith, h) in
    done_all old now (zero_from a n) (subst (λ m. Done old now (zero_from a n) (zero_from (a + k) m)) z d)
