-- Walks that say something of each state on the way.
use Rattle.std.proofs.Common.{◌≡◌, ℕ, ◌+◌, ◌-◌, ⊎_elim, refl, sym, ap, ◌∙◌, subst, arith}
use Rattle.std.proofs.lemmas.Bool.{cases_lt}
use Rattle.machine.specs.Step.{State, step, run}
pub use Rattle.machine.specs.Walks.{Walk}
use Rattle.machine.proofs.Walk.{run-more}

module _ (P : State → Type 0) where
  -- no step
  pub walk_none : (s : State) → Walk P s 0 s
  unfolding run
  walk_none s = record { ends = refl; each = λ k h. absurd (omega arith) }

  -- one step
  pub walk_one : (s t : State) → P s → step s ≡ t → Walk P s 1 t
  unfolding run
  walk_one s t p e = record { ends = e; each = λ k h. let z : k ≡ 0 = omega arith in subst (λ j. P (run s j)) (sym z) p }

  -- one walk after another
  pub walk_on : (s t w : State) (m n : ℕ) → Walk P s m t → Walk P t n w → Walk P s (m + n) w
  walk_on s t w m n a b = record {
    ends = run-more s m n ∙ ap (λ x. run x n) a.ends ∙ b.ends;
    each = λ k h.
        ⊎_elim
        (λ l. a.each k l)
        (λ l. let e : m + (k - m) ≡ k = omega arith in
        let there : run s k ≡ run t (k - m) = ap (run s) (sym e) ∙ run-more s m (k - m) ∙ ap (λ x. run x (k - m)) a.ends in
        subst P (sym there) (b.each (k - m) (omega arith)))
        (cases_lt k m);
  }
