-- Trails: how the states of the input to which the output comes are joined.
use Rattle.std.proofs.Common.{◌≡◌, ℕ, zero, suc, ◌+◌, ◌<◌, ◌≤◌, List, refl, sym, ap, ◌∙◌, subst, arith}
use Rattle.machine.proofs.Lemmas.{run-more, run-none, run-one}
use Rattle.weave_core.specs.Rows.{At, Led}
use Rattle.weave_core.specs.World.{Item, World, Outcome, Going, Ended, State, Twice, run}
use Rattle.qed_model.specs.Promise.Kept.{IsSteady}
use Rattle.weave_core.specs.WeaveLaws.{Holds, Met, Trail, Feeds}
use Rattle.weave_core.proofs.Source.{steady_rest}

-- an outcome is not two
pub going_ended : (o : Outcome) → o ≡ Going → o ≡ Ended → ⊥
going_ended o e h = absurd (cc)

-- the output holds the input's values if both halves do
pub holds_of : (w : World) (u s s' : State) → Twice w u s s' → Holds w u s
holds_of w u s s' t = record { output = t.output; originals = t.originals; bytes = t.bytes }

module _ (w : World) where
  -- two states that go on
  pub met_going : (u s : State) → Holds w u s → u.outcome ≡ Going → s.outcome ≡ Going → Met w u s
  met_going u s h a b = record { holds = h; ends = (λ e. absurd (going_ended u.outcome a e), λ e. absurd (going_ended s.outcome b e)) }

  -- two that have ended
  pub met_ended : (u s : State) → Holds w u s → u.outcome ≡ Ended → s.outcome ≡ Ended → Met w u s
  met_ended u s h a b = record { holds = h; ends = (λ e. b, λ e. a) }

  -- of equal states
  pub met_same : (u u' s s' : State) → u ≡ u' → s ≡ s' → Met w u' s' → Met w u s
  met_same u u' s s' e h m = subst (λ x. Met w x s) (sym e) (subst (λ y. Met w u' y) (sym h) m)

  -- no step
  pub trail_none : (u s : State) → Met w u s → Trail w u s 0 0
  trail_none u s m = met_same (run u 0) u s s (run-none u) refl m

  -- the last of them
  pub trail_met : (u s : State) (n m : ℕ) → Trail w u s n m → Met w (run u m) (run s n)
  trail_met u s zero m t = met_same (run u m) (run u m) (run s 0) s refl (run-none s) t
  trail_met u s (suc n) m t = t.3

  -- it may be later
  pub trail_later : (u s : State) (n m m' : ℕ) → m ≤ m' → Met w (run u m') (run s n) → Trail w u s n m → Trail w u s n m'
  trail_later u s zero m m' l met t = met_same (run u m') (run u m') s (run s 0) refl (sym (run-none s)) met
  trail_later u s (suc n) m m' l met t = (t.0, omega (arith, l, t.1), t.2, met)

  -- one trail behind another, from x and t on
  pub trail_on :
      (u s x t : State) (k m : ℕ) → run u m ≡ x → run s k ≡ t → Trail w u s k m → (n m' j : ℕ) → j ≡ k + n → Trail w x t n m' → Trail w u s j (m + m')
  trail_on u s x t k m eu es a zero m' j e b =
      let is : k ≡ j = omega (arith, e) in
      let met : Met w (run u (m + m')) (run s k) = met_same (run u (m + m')) (run x m') (run s k) t (run-more u m m' ∙ ap (λ y. run y m') eu) es b in
      subst (λ i. Trail w u s i (m + m')) is (trail_later u s k m (m + m') (omega arith) met a)
  trail_on u s x t k m eu es a (suc n) m' j e b =
      let is : suc (k + n) ≡ j = omega (arith, e) in
      let sum : suc (k + n) ≡ k + suc n = omega arith in
      let there : run s (suc (k + n)) ≡ run t (suc n) = ap (run s) sum ∙ run-more s k (suc n) ∙ ap (λ y. run y (suc n)) es in
      let met : Met w (run u (m + m')) (run s (suc (k + n))) = met_same (run u (m + m')) (run x m') (run s (suc (k + n))) (run t (suc n)) (run-more u m m' ∙ ap (λ y. run y m') eu) there b.3 in
      subst (λ i. Trail w u s i (m + m')) is (m + b.0, omega (arith, b.1), trail_on u s x t k m eu es a n b.0 (k + n) refl b.2, met)

  -- a walk before a trail
  pub trail_first : (u x s : State) (m : ℕ) → run u m ≡ x → (n m' : ℕ) → Trail w x s n m' → Trail w u s n (m + m')
  trail_first u x s m e zero m' b = met_same (run u (m + m')) (run x m') s s (run-more u m m' ∙ ap (λ y. run y m') e) refl b
  trail_first u x s m e (suc n) m' b = (m + b.0, omega (arith, b.1), trail_first u x s m e n b.0 b.2, met_same (run u (m + m')) (run x m') (run s (suc n)) (run s (suc n)) (run-more u m m' ∙ ap (λ y. run y m') e) refl b.3)

  -- ---- the input is steady as long as the output has made fewer than `room` steps
  pub feeds_less : (u s : State) (r room : ℕ) → r ≤ room → Feeds w u s room → Feeds w u s r
  feeds_less u s r room l f = record { more = λ n m t h. f.more n m t (omega (arith, h, l)) }

  -- behind a walk
  pub feeds_first : (u s x : State) (m room : ℕ) → run u m ≡ x → Feeds w u s (m + room) → Feeds w x s room
  feeds_first u s x m room e f = record { more = λ n k t h. f.more n (m + k) (trail_first u x s m e n k t) (omega (arith, h)) }

  -- behind a trail
  pub feeds_on : (u s x t : State) (k m room : ℕ) → run u m ≡ x → run s k ≡ t → Trail w u s k m → Feeds w u s (m + room) → Feeds w x t room
  feeds_on u s x t k m room eu es a f = record {
    more = λ n j b h.
        let e : suc (k + n) ≡ k + suc n = omega arith in
        subst (λ y. IsSteady w.reached y (suc n)) es (steady_rest w.reached s k (suc n) (subst (IsSteady w.reached s) e (f.more (k + n) (m + j) (trail_on u s x t k m eu es a n j (k + n) refl b) (omega (arith, h)))));
  }

  -- one step of the input in some steps
  pub trail_one : (u s : State) (m : ℕ) → 1 ≤ m → Met w u s → Met w (run u m) (run s 1) → Trail w u s 1 m
  trail_one u s m l a b = (0, omega (arith, l), trail_none u s a, b)

-- ---- rows with their trails
-- items lead through n steps of the input, and on the way the output comes to each of its states
pub record Row (w : World) (u s : State) (n most : ℕ) (rest : List Item) : Type 0 where
  pub led : Led w u n most rest (run s n) (run s n)
  pub trail : Trail w u s n led.steps

-- both halves are those of s
pub met_at : (w : World) (u s : State) (rest : List Item) → At w u rest s s → s.outcome ≡ Going → Met w u s
met_at w u s rest a going = met_going w u s (holds_of w u s s a.halved) a.over.going going
