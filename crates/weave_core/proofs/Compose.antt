-- The laws of one pass after another, of a pass over each of some instructions, and of comparisons before a pass.
use Rattle.std.proofs.Common.{◌≡◌, ℕ, ◌+◌, ◌⊎◌, inl, inr, ⊎_elim, Bool, List, [], ◌∷◌, ◌++◌, length, refl, sym, ap, ◌∙◌, subst, arith, append_assoc}
use Rattle.qed_model.specs.Weave.Sequences.{guard, guards, Ins}
use Rattle.qed_model.specs.Weave.Costs.{cost_each}
use Rattle.machine.proofs.Lemmas.{walk_none, walk_on}
use Rattle.weave_core.specs.World.{Item, World, Quiet as Calm, State}
use Rattle.weave_core.specs.KindItems.{LockItems}
use Rattle.weave_core.specs.Pass.{Views, StandsAt, Chain, NeedsBoth, Does, same_state, Leads, Quiet, Lockstep, AllLow, AllSame}
use Rattle.weave_core.specs.Each.{items_each, ForEach, NeedsEach, GivesEach, LeavesEach}
use Rattle.weave_core.proofs.Rows.{led_none, led_on, At, Led}
use Rattle.weave_core.proofs.Words.{guard_row}
use Rattle.weave_core.proofs.KindItems.{items_then, items_none}
use Rattle.weave_core.proofs.Landing.{land_then, land_behind, straight_lands, straight_none, straight_guards}

-- ---- Quiet
-- a row that moves the two states of the input
pub leads_led :
    (w : World) (v : Views) (least most : ℕ) (rest : List Item) (f g : State → State) → Led w v.now least most rest (f v.original) (g v.shadow)
    → Leads w v most rest (Does w f g least v) (λ n z. ⊥)
leads_led w v least most rest f g l = record {
  steps = l.steps;
  to = record { now = l.to; original = f v.original; shadow = g v.shadow; leads = v.leads };
  within = l.within;
  walk = l.walk;
  ends = inl (l.at, record { original = refl; shadow = refl; going = l.at.over.going; halved = l.at.halved; at_least = l.at_least; cursor = l.cursor; sign = l.sign; leads = refl });
}

-- one pass after another
pub quiet_then :
    (sa sb : Bool → Type 0) (xs ys : List Item) (na nb : World → Views → Type 0) (ga la gb lb : World → Views → ℕ → Views → Type 0) (m n : ℕ)
    → Quiet sa xs na ga la m → Quiet sb ys nb gb lb n
    → Quiet (λ f. sa f × sb f) (xs ++ ys) (λ w. NeedsBoth (na w) (ga w) (nb w)) (λ w v. Chain v m (ga w v) (gb w)) (λ w v k z. la w v k z ⊎ Chain v m (ga w v) (lb w) k z) (m + n)
quiet_then sa sb xs ys na nb ga la gb lb m n a b = record {
  leads = λ w v rest suits st need.
      let st1 : StandsAt w v (xs ++ (ys ++ rest)) = subst (StandsAt w v) (append_assoc xs ys rest) st in
      let x = a.leads w v (ys ++ rest) suits.0 st1 need.0 in
      on w v rest suits.1 need.1 x x.ends;
} where
  on :
      (w : World) (v : Views) (rest : List Item) → sb w.form.far → ((k : ℕ) (y : Views) → ga w v k y → nb w y)
      → (x : Leads w v m (ys ++ rest) (ga w v) (la w v)) → (StandsAt w x.to (ys ++ rest) × ga w v x.steps x.to) ⊎ la w v x.steps x.to
      → Leads w v (m + n) rest (Chain v m (ga w v) (gb w)) (λ k z. la w v k z ⊎ Chain v m (ga w v) (lb w) k z)
  on w v rest suits need x (inl p) =
      let y = b.leads w x.to rest suits p.0 (need x.steps x.to p.1) in
      record {
        steps = x.steps + y.steps;
        to = y.to;
        within = omega (arith, x.within, y.within);
        walk = walk_on (Calm w) v.now x.to.now y.to.now x.steps y.steps x.walk y.walk;
        ends = ⊎_elim
            (λ q. inl (q.0, record { some = x.steps; more = y.steps; middle = x.to; sum = refl; within = x.within; runs = x.walk.ends; first = p.1; last = q.1 }))
            (λ q. inr (inr (record { some = x.steps; more = y.steps; middle = x.to; sum = refl; within = x.within; runs = x.walk.ends; first = p.1; last = q })))
            y.ends;
      }
  on w v rest suits need x (inr l) = record { steps = x.steps; to = x.to; within = omega (arith, x.within); walk = x.walk; ends = inr (inl l) }

-- no comparison fires where the registers are equal in both views
guards_led :
    (w : World) (qs : List ℕ) (u s s' : State) (rest : List Item) → AllLow qs → AllSame qs s s' → At w u (guards qs ++ rest) s s'
    → Led w u 0 (length qs) rest s s'
guards_led w [] u s s' rest low e a = led_none w u rest s s' a
guards_led w (q ∷ qs) u s s' rest low e a =
    let a1 : At w u (guard q ++ (guards qs ++ rest)) s s' = subst (λ l. At w u l s s') (append_assoc (guard q) (guards qs) rest) a in
    let count : 1 + length qs ≡ length (q ∷ qs) = omega arith in
    subst (λ n. Led w u 0 n rest s s') count
    (led_on w u 0 1 0 (length qs) (guards qs ++ rest) rest s s' s s' (guard_row w u q (guards qs ++ rest) s s' a1 low.0 e.0) (λ x b. guards_led w qs x s s' rest low.1 e.1 b))

pub quiet_guards :
    (suits : Bool → Type 0) (qs : List ℕ) → AllLow qs
    → Quiet suits (guards qs) (λ w v. AllSame qs v.original v.shadow) (λ w. Does w same_state same_state 0) (λ w v n z. ⊥) (length qs)
quiet_guards suits qs low = record { leads = λ w v rest s st need. leads_led w v 0 (length qs) rest same_state same_state (guards_led w qs v.now v.original v.shadow rest low need st) }

-- a pass behind guards
pub quiet_guarded :
    (s : Bool → Type 0) (qs : List ℕ) (xs : List Item) (needs : World → Views → Type 0) (gives leaves : World → Views → ℕ → Views → Type 0) (m : ℕ)
    → AllLow qs → Quiet s xs needs gives leaves m
    → Quiet s (guards qs ++ xs) (λ w. NeedsBoth (λ v. AllSame qs v.original v.shadow) (Does w same_state same_state 0) (needs w)) (λ w v. Chain v (length qs) (Does w same_state same_state 0 v) (gives w)) (λ w v. Chain v (length qs) (Does w same_state same_state 0 v) (leaves w)) (length qs + m)
quiet_guarded s qs xs needs gives leaves m low a = record {
  leads = λ w v rest suits st need.
      let both = quiet_then s s (guards qs) xs (λ w v. AllSame qs v.original v.shadow) needs (λ w. Does w same_state same_state 0) (λ w v n z. ⊥) gives leaves (length qs) m (quiet_guards s qs low) a in
      let x = both.leads w v rest (suits, suits) st need in
      record { steps = x.steps; to = x.to; within = x.within; walk = x.walk; ends = ⊎_elim (λ p. inl p) (λ l. inr (⊎_elim (λ f. absurd f) (λ c. c) l)) x.ends };
}

-- ---- Lockstep
pub lockstep_then :
    (sa sb : Bool → Type 0) (ua ub : List ℕ) (xs ys : List Item) → ub ≡ [] → Lockstep sa ua xs → Lockstep sb ub ys
    → Lockstep (λ f. sa f × sb f) ua (xs ++ ys)
lockstep_then sa sb ua ub xs ys e a b = record {
  locks = λ far s. subst (LockItems far) (append_assoc (guards ua) xs ys) (items_then far (guards ua ++ xs) ys (a.locks far s.0) (alone far s.1));
  lands = λ far s. land_then far xs ys (a.lands far s.0) (alone far s.1) (b.lands far s.1);
} where
  alone : (far : Bool) → sb far → LockItems far ys
  alone far s = subst (λ u. LockItems far (guards u ++ ys)) e (b.locks far s)

-- a pass that guards what it uses
pub lockstep_alone : (s : Bool → Type 0) (uses : List ℕ) (xs : List Item) → uses ≡ [] → Lockstep s uses xs → Lockstep s [] xs
lockstep_alone s uses xs e a = subst (λ u. Lockstep s u xs) e a

-- a pass behind the guards of what it uses
pub lockstep_guarded : (suits : Bool → Type 0) (qs uses : List ℕ) (xs : List Item) → uses ≡ qs → AllLow qs → Lockstep suits uses xs → Lockstep suits [] (guards qs ++ xs)
lockstep_guarded suits qs uses xs e low a = record {
  locks = λ far s. subst (λ u. LockItems far (guards u ++ xs)) e (a.locks far s);
  lands = λ far s. land_behind far (guards qs) xs (straight_guards far qs low) (a.lands far s);
}

-- ---- each
module _ (next : ℕ → ℕ) (suits : Bool → Type 0) (for : Ins → ℕ → Type 0) (uses : Ins → List ℕ) (part : Ins → ℕ → List Item) where
  pub quiet_each :
      (needs : Ins → ℕ → World → Views → Type 0) (gives leaves : Ins → ℕ → World → Views → ℕ → Views → Type 0) (cost : Ins → ℕ)
      → ((i : Ins) (at : ℕ) → for i at → Quiet suits (part i at) (needs i at) (gives i at) (leaves i at) (cost i)) → (is : List Ins) (at : ℕ)
      → ForEach next for uses is at
      → Quiet suits (items_each next part is at) (NeedsEach next needs gives is at) (GivesEach next cost gives is at) (LeavesEach next cost gives leaves is at) (cost_each cost is)
  quiet_each needs gives leaves cost law [] at f = record { leads = λ w v rest s st need. record { steps = 0; to = v; within = omega arith; walk = walk_none (Calm w) v.now; ends = inl (st, (refl, refl)) } }
  quiet_each needs gives leaves cost law (i ∷ is) at f =
      let rest = quiet_each needs gives leaves cost law is (next at) f.2 in
      let both = quiet_then suits suits (part i at) (items_each next part is (next at)) (needs i at) (NeedsEach next needs gives is (next at)) (gives i at) (leaves i at) (GivesEach next cost gives is (next at)) (LeavesEach next cost gives leaves is (next at)) (cost i) (cost_each cost is) (law i at f.0) rest in
      record { leads = λ w v r s st need. both.leads w v r (s, s) st need }

  pub lockstep_each :
      ((i : Ins) (at : ℕ) → for i at → Lockstep suits (uses i) (part i at)) → (is : List Ins) (at : ℕ) → ForEach next for uses is at
      → Lockstep suits [] (items_each next part is at)
  lockstep_each law [] at f = record { locks = λ far s. items_none far; lands = λ far s. straight_lands far [] (straight_none far) }
  lockstep_each law (i ∷ is) at f =
      let first = lockstep_alone suits (uses i) (part i at) f.1 (law i at f.0) in
      let both = lockstep_then suits suits [] [] (part i at) (items_each next part is (next at)) refl first (lockstep_each law is (next at) f.2) in
      record { locks = λ far s. both.locks far (s, s); lands = λ far s. both.lands far (s, s) }

-- the items of the first of some instructions stand first
pub each_front : (next : ℕ → ℕ) (part : Ins → ℕ → List Item) (xs ys : List Ins) (at : ℕ) → (l : List Item) × (items_each next part (xs ++ ys) at ≡ items_each next part xs at ++ l)
each_front next part [] ys at = (items_each next part ys at, refl)
each_front next part (x ∷ xs) ys at = let r = each_front next part xs ys (next at) in (r.0, ap (λ l. part x at ++ l) r.1 ∙ sym (append_assoc (part x at) (items_each next part xs (next at)) r.0))

-- a pass that does the same to each
pub each_same :
    (next : ℕ → ℕ) (part part' : Ins → ℕ → List Item) → ((i : Ins) (at : ℕ) → part i at ≡ part' i at) → (is : List Ins) (at : ℕ)
    → items_each next part is at ≡ items_each next part' is at
each_same next part part' e [] at = refl
each_same next part part' e (i ∷ is) at = ap (λ l. l ++ items_each next part is (next at)) (e i at) ∙ ap (λ l. part' i at ++ l) (each_same next part part' e is (next at))
