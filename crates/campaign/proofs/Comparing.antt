-- Values that are compared one after another.
use Rattle.std.proofs.Common.{◌≡◌, ℕ, suc, ◌+◌, ◌-◌, ◌<◌, ◌≤◌, true, false, ◌&&◌, sym, ap, ◌∙◌, arith}
use Rattle.std.specs.Prelude.{◌≢◌}
use Rattle.std.proofs.lemmas.Bool.{eq-eqb, ne_eqb}
use Rattle.campaign.specs.Right.{same_from}

-- the first values before e, x and y, are equal, and the rest decides
pub same_on : (f g : ℕ → ℕ) (a e x y : ℕ) → a < e → x ≡ f a → y ≡ g a → x ≡ y → same_from f g a (e - a) ≡ same_from f g (a + 1) (e - (a + 1))
unfolding same_from
same_on f g a e x y less one two same =
    let n : e - a ≡ suc (e - (a + 1)) = omega (arith, less) in
    ap (same_from f g a) n ∙ ap (λ b. b && same_from f g (a + 1) (e - (a + 1))) (eq-eqb (f a) (g a) (sym one ∙ same ∙ two))

-- the first values differ
pub same_off : (f g : ℕ → ℕ) (a e x y : ℕ) → a < e → x ≡ f a → y ≡ g a → x ≢ y → same_from f g a (e - a) ≡ false
unfolding same_from
same_off f g a e x y less one two other =
    let n : e - a ≡ suc (e - (a + 1)) = omega (arith, less) in
    ap (same_from f g a) n ∙ ap (λ b. b && same_from f g (a + 1) (e - (a + 1))) (ne_eqb (f a) (g a) (λ same. other (one ∙ same ∙ sym two)))

-- no value is left
pub same_end : (f g : ℕ → ℕ) (a e : ℕ) → e ≤ a → same_from f g a (e - a) ≡ true
unfolding same_from
same_end f g a e all = let n : e - a ≡ 0 = omega (arith, all) in ap (same_from f g a) n
