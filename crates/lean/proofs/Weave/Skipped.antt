-- A jump that is skipped, and other slips whose run is over soon.
use Rattle.std.proofs.Common.{◌≡◌, ℕ, ◌+◌, ◌*◌, ◌^◌, ◌<◌, ◌⊎◌, inl, inr, ⊎_elim, Bool, true, false, List, [], ◌∷◌, refl, sym, ap, ◌∙◌, subst, arith}
use Rattle.std.proofs.lemmas.Bool.{cases_eq}
use Rattle.qed_model.specs.Promise.Kept.{is_trapped}
use Rattle.qed_model.specs.Weave.Sequences.{Reads, CURSOR, SIGNATURE, DISTANCE}
use Rattle.weave_core.specs.World.{World, Item, Mark, Plain, Going, State, reg, step}
use Rattle.lean.specs.Strayed.{Stopped}
use Rattle.lean.specs.Undisturbed.{slip_steps}
use Rattle.lean.proofs.Weave.Beyond.{Beyond}
use Rattle.lean.proofs.Weave.Carry.{known_at, Standing, step-illegal}
use Rattle.lean.proofs.Weave.Half.{Half, half_over}
use Rattle.lean.proofs.Weave.Robust.{stopped_more, stopped_now}

-- the most steps of a run at an entry with another signature, or another distance in x14
abbrev pub lost_steps : ℕ
lost_steps = 3 * 2047 + 40

-- such a run is over
abbrev pub Loses : World → (ℕ → Bool) → Type 0
Loses w leader =
    (a : ℕ) (y : State) → leader a ≡ true → y.outcome ≡ Going → Standing w.code w.output y → y.pc ≡ w.entry a → reg y SIGNATURE < 2 ^ 64 → reg y CURSOR < 2 ^ 64
    → ((reg y SIGNATURE ≡ a → ⊥) ⊎ (reg y DISTANCE ≡ w.distance → ⊥)) → Stopped lost_steps y

module _ (w : World) (leader : ℕ → Bool) (loses : Loses w leader) where
  -- behind a block, under the signature a: the run is over soon, or it is at the entry of a
  pub falls_beyond :
      (a : ℕ) (t u : State) (xs : List Item) → Half w a t u → reg u SIGNATURE < 2 ^ 64 → reg u CURSOR < 2 ^ 64 → Reads false w.code w.entry u.pc xs → Beyond leader xs → Stopped slip_steps u ⊎ (u.pc ≡ w.entry a)
  falls_beyond a t u xs h small low r b =
      ⊎_elim
      (λ m.
      let marked : Reads false w.code w.entry u.pc (Mark m.0 ∷ []) = subst (Reads false w.code w.entry u.pc) m.2 r in
      ⊎_elim
      (λ e. inr (sym marked.0 ∙ ap w.entry e))
      (λ ne. inl (stopped_more lost_steps slip_steps u (omega arith) (loses m.0 u m.1 h.going h.standing (sym marked.0) small low (inl (λ e. ne (sym e ∙ h.sign))))))
      (cases_eq m.0 a))
      (λ m.
      let word : Reads false w.code w.entry u.pc (Plain m.0 ∷ []) = subst (Reads false w.code w.entry u.pc) m.2 r in
      inl (stopped_more 1 slip_steps u (omega arith) (stopped_now u (inr (is_true (is_trapped (step u).outcome) (λ e. step-illegal u m.0 h.going (known_at w.code u m.0 (half_over w a t u h) word.0) m.1 e))))))
      b where
        is_true : (b : Bool) → (b ≡ false → ⊥) → b ≡ true
        is_true true f = refl
        is_true false f = absurd (f refl)
