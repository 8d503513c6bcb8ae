-- A run with changes of the duplicate half, from a robust state: when it comes to each state of the input.
use Rattle.std.proofs.Common.{◌≡◌, ℕ, zero, suc, ◌+◌, ◌*◌, ◌^◌, ◌<◌, ◌≤◌, ◌⊎◌, inl, inr, ⊎_elim, Bool, true, false, cond, List, [], ◌∷◌, length, refl, sym, ap, ◌∙◌, subst, arith}
use Rattle.std.specs.Prelude.{◌==◌, ◌-◌, nat_le, slice_index}
use Rattle.std.proofs.Math.Nat.{mul-le-mul_left, mul-le-mul_right}
use Rattle.machine.specs.Memory.{byte_in}
use Rattle.std.proofs.lemmas.Bool.{cases_lt, cases_eq, false≢true, le-leb, leb-true, eq-eqb, ne_eqb}
use Rattle.machine.specs.declared.outcome.Outcome.{Outcome}
use Rattle.machine.specs.declared.outcome.Outcome.TheVariants.{Ended, Fired, Trapped}
use Rattle.machine.specs.declared.place.Place.{Place}
use Rattle.machine.specs.declared.place.Place.TheVariants.{Reg, Word}
use Rattle.machine.specs.Step.{step_at}
use Rattle.machine.specs.Struck.{struck}
use Rattle.qed_model.specs.Promise.Kept.{is_trapped}
use Rattle.qed_model.specs.declared.change.Change.{Change}
use Rattle.qed_model.specs.Promise.Changed.{changed, changed_as, with_changes, changed_run}
use Rattle.weave_core.specs.WeaveLaws.{Met}
use Rattle.weave_core.specs.World.{World, Program, Going, Memory, get, put, allows, memory_of, byte_at, offset, State, set_reg, step, run, fetched_at}
use Rattle.lean.specs.Strayed.{IsOver}
use Rattle.lean.specs.Undisturbed.{IsDuplicate, InDuplicate, AllDuplicate}
use Rattle.lean.proofs.Weave.Carry.{run-last, run-more, run-none, same_fetch, flags-put, Standing, standing_step, slice_index-set_reg_other, length-set_reg, get-put_outside, allows-flags}
use Rattle.lean.proofs.Weave.Robust.{Disturbed, Robust}

-- ---- states that do not go on
pub over_stops : (o : Outcome) → IsOver o → o ≡ Going → ⊥
over_stops o h e = ⊎_elim (λ f. absurd (cc)) (λ t. absurd (going_no_trap o t e)) h where
  going_no_trap : (o : Outcome) → is_trapped o ≡ true → o ≡ Going → ⊥
  going_no_trap o t e = false≢true (sym (ap is_trapped e) ∙ t)

pub changed_stopped : (o : Outcome) (c : Change) (s : State) → (o ≡ Going → ⊥) → changed_as o c s ≡ s
changed_stopped Going c s h = absurd (h refl)
changed_stopped Ended c s h = refl
changed_stopped Fired c s h = refl
changed_stopped (Trapped k p) c s h = refl

pub step_stopped : (s : State) → (s.outcome ≡ Going → ⊥) → step s ≡ s
unfolding step
step_stopped s h = at s.outcome h where
  at : (o : Outcome) → (o ≡ Going → ⊥) → step_at o s ≡ s
  at Going h = absurd (h refl)
  at Ended h = refl
  at Fired h = refl
  at (Trapped k p) h = refl

-- a run that is over does not end later
pub over_ends : (v : State) (j i : ℕ) → j ≤ i → IsOver (run v j).outcome → (run v i).outcome ≡ Ended → ⊥
over_ends v j i h o e =
    let k : i ≡ j + (i - j) = omega (arith, h) in
    let same : run v i ≡ run v j = ap (run v) k ∙ run-more v j (i - j) ∙ stays (run v j) (i - j) o in
    over_not_ended (run v j).outcome o (ap (λ z. z.outcome) (sym same) ∙ e) where
      stays : (s : State) (n : ℕ) → IsOver s.outcome → run s n ≡ s
      stays s zero o = run-none s
      stays s (suc n) o =
          let k : suc n ≡ n + 1 = omega arith in
          ap (run s) k ∙ run-last s n ∙ ap step (stays s n o) ∙ step_stopped s (λ g. over_stops s.outcome o g)

      over_not_ended : (o : Outcome) → IsOver o → o ≡ Ended → ⊥
      over_not_ended o h e = ⊎_elim (λ f. absurd (let z : Fired ≡ Ended = sym f ∙ e in cc)) (λ t. absurd (false≢true (sym (ap is_trapped e) ∙ t))) h

module _ (w : World) where
  -- ---- runs with changes
  -- each state is a step behind the one before, or that with the duplicate half changed. There are at most `all` such
  -- changes, and `made` counts them
  pub record Played (y : ℕ → State) (all : ℕ) : Type 0 where
    pub made : ℕ → ℕ
    pub few : (j : ℕ) → made j ≤ all
    pub goes : (j : ℕ) → ((y (suc j) ≡ step (y j)) × (made j ≤ made (suc j))) ⊎ (Disturbed w (step (y j)) (y (suc j)) × (suc (made j) ≤ made (suc j)))

  -- two changes are one
  disturbed_on : (u v z : State) → Disturbed w u v → Disturbed w v z → Disturbed w u z
  disturbed_on u v z a b = record {
    before = a.before;
    going = b.going;
    pc = b.pc ∙ a.pc;
    long = a.long;
    count = b.count;
    low = λ r h. b.low r h ∙ a.low r h;
    sign = b.sign ∙ a.sign;
    thirty = b.thirty ∙ a.thirty;
    last = b.last ∙ a.last;
    code = λ p. b.code p ∙ a.code p;
    flags = λ q. b.flags q ∙ a.flags q;
    cells = λ q l o. b.cells q l o ∙ a.cells q l o;
  }

  -- the input's values stay
  pub met_disturbed : (t u v : State) → Disturbed w u v → Met w u t → Met w v t
  unfolding byte_at
  met_disturbed t u v d m =
      let top = w.layout.top in
      record {
        holds = record {
          output = record { flags = λ q. d.flags q ∙ m.holds.output.flags q; regs = d.count; zero_reg = d.low 0 (omega arith) ∙ m.holds.output.zero_reg };
          originals = λ r l. d.low r (omega (arith, l)) ∙ m.holds.originals r l;
          bytes = λ q a. let high = w.layout.high q a in ap (λ c. byte_in c) (d.cells q (omega (arith, high, top)) (inl high)) ∙ m.holds.bytes q a;
        };
        ends = (λ z. m.ends.0 (d.before ∙ sym d.going ∙ z), λ z. d.going ∙ sym d.before ∙ m.ends.1 z);
      }

  -- ---- robust states
  module _ (bound price : ℕ) where
    abbrev Plays : ℕ → ℕ → State → ℕ → State → Type 0
    Plays n k t m u = Robust w bound price false n k t m u

    robust_less : (n n' k : ℕ) (t : State) (m : ℕ) (u : State) → n' ≤ n → Plays n k t m u → Plays n' k t m u
    unfolding Robust
    robust_less n zero k t m u h r = tt
    robust_less zero (suc n') k t m u h r = absurd (omega (arith, h))
    robust_less (suc n) (suc n') zero t m u h r = tt
    robust_less (suc n) (suc n') (suc k) t m u h r = (
      ⊎_elim (λ o. inl o) (λ z. inr (z.0, z.1, ⊎_elim (λ a. inl (robust_less n n' (suc k) t z.0 (step u) (omega (arith, h)) a)) (λ b. inr (b.0, robust_less n n' k (step t) (z.0 + bound) (step u) (omega (arith, h)) b.1)) z.2)) r.0,
      (λ v one d. robust_less n n' (suc k) t (m + price) v (omega (arith, h)) (r.1.0 v one d), λ e. absurd (false≢true e)),
    )

    pub robust_more : (n k : ℕ) (t : State) (m m' : ℕ) (u : State) → m ≤ m' → Plays n k t m u → Plays n k t m' u
    unfolding Robust
    robust_more zero k t m m' u h r = tt
    robust_more (suc n) zero t m m' u h r = tt
    robust_more (suc n) (suc k) t m m' u h r = (
      ⊎_elim (λ o. inl o) (λ z. let e = z.1 in inr (m' - 1, omega (arith, h, e), ⊎_elim (λ a. inl (robust_more n (suc k) t z.0 (m' - 1) (step u) (omega (arith, h, e)) a)) (λ b. inr (b.0, robust_more n k (step t) (z.0 + bound) (m' - 1 + bound) (step u) (omega (arith, h, e)) b.1)) z.2)) r.0,
      (λ v one d. robust_more n (suc k) t (m + price) (m' + price) v (omega (arith, h)) (r.1.0 v one d), λ e. absurd (false≢true e)),
    )

    -- behind a change, which is one move
    pub robust_disturbed : (n k : ℕ) (t : State) (m : ℕ) (u v : State) → bound ≤ price → Disturbed w u v → Plays (suc n) k t m u → Plays n k t (m + price) v
    unfolding Robust
    robust_disturbed zero k t m u v h d r = tt
    robust_disturbed (suc n) zero t m u v h d r = tt
    robust_disturbed (suc n) (suc k) t m u v h d r = r.1.0 v h d

  -- ---- the run
  -- from its step j on, it comes to k states of the input from t on
  pub record Meets (y : ℕ → State) (j k : ℕ) (t : State) (most bound : ℕ) : Type 0 where
    pub at : ℕ → ℕ
    pub later : (i : ℕ) → i < k → j < at i
    pub grows : (i : ℕ) → suc i < k → at i < at (suc i)
    pub within : (i : ℕ) → i < k → at i ≤ most + i * bound
    pub values : (i : ℕ) → i < k → IsOver (y (at i)).outcome ⊎ Met w (y (at i)) (run t i)

  module _ (bound : ℕ) (y : ℕ → State) where
    -- no state more is asked for
    pub meets_none : (j : ℕ) (t : State) (most : ℕ) → Meets y j 0 t most bound
    meets_none j t most = record {
      at = λ i. 0;
      later = λ i h. absurd (omega (arith, h));
      grows = λ i h. absurd (omega (arith, h));
      within = λ i h. absurd (omega (arith, h));
      values = λ i h. absurd (omega (arith, h));
    }

    -- the next step makes the first state
    pub meets_first : (j k : ℕ) (t : State) (most : ℕ) → suc j ≤ most → Met w (y (suc j)) t → Meets y (suc j) k (step t) (most + bound) bound → Meets y j (suc k) t most bound
    unfolding run
    meets_first j k t most h m r = record {
      at = at;
      later = λ i l. later i l;
      grows = λ i l. grows i l;
      within = λ i l. within i l;
      values = λ i l. values i l;
    } where
      at : ℕ → ℕ
      at zero = suc j
      at (suc i) = r.at i

      later : (i : ℕ) → i < suc k → j < at i
      later zero l = omega arith
      later (suc i) l = let e = r.later i (omega (arith, l)) in omega (arith, e)

      grows : (i : ℕ) → suc i < suc k → at i < at (suc i)
      grows zero l = r.later zero (omega (arith, l))
      grows (suc i) l = r.grows i (omega (arith, l))

      within : (i : ℕ) → i < suc k → at i ≤ most + i * bound
      within zero l = omega (arith, h)
      within (suc i) l = let e = r.within i (omega (arith, l)) in let z : suc i * bound ≡ bound + i * bound = omega arith in omega (arith, e, z)

      values : (i : ℕ) → i < suc k → IsOver (y (at i)).outcome ⊎ Met w (y (at i)) (run t i)
      values zero l = inr m
      values (suc i) l = r.values i (omega (arith, l))

    -- a step that makes none
    pub meets_later : (j k : ℕ) (t : State) (most : ℕ) → Meets y (suc j) k t most bound → Meets y j k t most bound
    meets_later j k t most r = record { at = r.at; later = λ i l. (let e = r.later i l in omega (arith, e)); grows = r.grows; within = r.within; values = r.values }

    pub meets_more : (j k : ℕ) (t : State) (few many : ℕ) → few ≤ many → Meets y j k t few bound → Meets y j k t many bound
    meets_more j k t few many h r = record { at = r.at; later = r.later; grows = r.grows; within = λ i l. (let e = r.within i l in omega (arith, e, h)); values = r.values }

  module _ (bound price : ℕ) (some : 1 ≤ bound) (y : ℕ → State) (all : ℕ) (paid : 1 ≤ all → bound ≤ price) (played : Played y all) where
    -- steps that changes may still cost
    abbrev left : ℕ → ℕ
    left j = (all - played.made j) * price

    left_less : (j : ℕ) → played.made j ≤ played.made (suc j) → left (suc j) ≤ left j
    left_less j h = mul-le-mul_right price (let e = h in omega (arith, e))

    left_paid : (j : ℕ) → suc (played.made j) ≤ played.made (suc j) → price + left (suc j) ≤ left j
    left_paid j h =
        let few = played.few (suc j) in
        let e : price + (all - played.made (suc j)) * price ≡ suc (all - played.made (suc j)) * price = omega arith in
        let le : suc (all - played.made (suc j)) * price ≤ (all - played.made j) * price = mul-le-mul_right price (omega (arith, h, few)) in
        omega (arith, e, le)

    -- a run that is over stays
    stays : (j i : ℕ) → IsOver (y j).outcome → IsOver (y (j + i)).outcome
    stays j zero o = let e : j ≡ j + 0 = omega arith in subst (λ z. IsOver (y z).outcome) e o
    stays j (suc i) o =
        let e : suc (j + i) ≡ j + suc i = omega arith in
        let before = stays j i o in
        let same = step_stopped (y (j + i)) (λ g. over_stops (y (j + i)).outcome before g) in
        subst (λ z. IsOver (y z).outcome) e
        (⊎_elim
        (λ a. subst (λ z. IsOver z.outcome) (sym (a.0 ∙ same)) before)
        (λ a. absurd (over_stops (step (y (j + i))).outcome (subst (λ z. IsOver z.outcome) (sym same) before) a.0.before))
        (played.goes (j + i)))

    -- it is over at its next step
    meets_over : (j k : ℕ) (t : State) (most : ℕ) → j + 1 ≤ most → IsOver (step (y j)).outcome → Meets y j k t most bound
    meets_over j k t most h o = record {
      at = λ i. suc j + i;
      later = λ i l. omega arith;
      grows = λ i l. omega arith;
      within = λ i l. few i;
      values = λ i l. inl (stays (suc j) i over);
    } where
      few : (i : ℕ) → suc j + i ≤ most + i * bound
      few i = let k = mul-le-mul_left i some in omega (arith, h, k)

      over : IsOver (y (suc j)).outcome
      over = ⊎_elim (λ a. subst (λ z. IsOver z.outcome) (sym a.0) o) (λ a. absurd (over_stops (step (y j)).outcome o a.0.before)) (played.goes j)

    pub follows :
        (fuel n j k : ℕ) (t : State) (m : ℕ) → Robust w bound price false n k t m (y j) → fuel * 2 ≤ n → suc (m + k * bound + left j) ≤ fuel
        → Meets y j k t (suc (j + m + left j)) bound
    unfolding Robust
    follows fuel n j zero t m r h f = meets_none bound y j t (suc (j + m + left j))
    follows zero n j (suc k) t m r h f = absurd (omega (arith, f))
    follows (suc fuel) zero j (suc k) t m r h f = absurd (omega (arith, h))
    follows (suc fuel) (suc n) j (suc k) t m r h f =
        ⊎_elim
        (λ o. meets_over j (suc k) t (suc (j + m + left j)) (omega arith) o)
        (λ z.
        let b = z.0 in
        let e = z.1 in
        ⊎_elim
        (λ q.
        let on = next (suc k) t b q in
        let fits = on.2 in
        let rest = follows fuel (fuel * 2) (suc j) (suc k) t on.0 on.1 (omega arith) (omega (arith, e, f, fits)) in
        meets_later bound y j (suc k) t (suc (j + m + left j)) (meets_more bound y (suc j) (suc k) t (suc (suc j + on.0 + left (suc j))) (suc (j + m + left j)) (omega (arith, e, fits)) rest))
        (λ q.
        let on = next k (step t) (b + bound) q.1 in
        let fits = on.2 in
        let more : suc k * bound ≡ bound + k * bound = omega arith in
        let rest = follows fuel (fuel * 2) (suc j) k (step t) on.0 on.1 (omega arith) (omega (arith, e, f, fits, more)) in
        meets_first bound y j k t (suc (j + m + left j)) (omega arith) (met_next t q.0) (meets_more bound y (suc j) k (step t) (suc (suc j + on.0 + left (suc j))) (suc (j + m + left j) + bound) (omega (arith, e, fits)) rest))
        z.2)
        r.0 where
          -- the next state is robust
          next : (k : ℕ) (t : State) (b : ℕ) → Robust w bound price false n k t b (step (y j)) → (c : ℕ) × Robust w bound price false (fuel * 2) k t c (y (suc j)) × (c + left (suc j) ≤ b + left j)
          next k t b q =
              ⊎_elim
              (λ a.
              let less = left_less j a.1 in
              (b, subst (Robust w bound price false (fuel * 2) k t b) (sym a.0) (robust_less bound price n (fuel * 2) k t b (step (y j)) (omega (arith, h)) q), omega (arith, less)))
              (λ a.
              let fewer = left_paid j a.1 in
              let one = a.1 in
              let few = played.few (suc j) in
              (b + price, robust_disturbed bound price (fuel * 2) k t b (step (y j)) (y (suc j)) (paid (omega (arith, one, few))) a.0 (robust_less bound price n (suc (fuel * 2)) k t b (step (y j)) (omega (arith, h)) q), omega (arith, fewer)))
              (played.goes j)

          met_next : (t : State) → Met w (step (y j)) t → Met w (y (suc j)) t
          met_next t q = ⊎_elim (λ a. subst (λ z. Met w z t) (sym a.0) q) (λ a. met_disturbed t (step (y j)) (y (suc j)) a.0 q) (played.goes j)

-- ---- changes that were made
-- a number that is not at most another
not_le : (n j : ℕ) → (n ≤ j → ⊥) → nat_le n j ≡ false
not_le n j h = by (nat_le n j) refl where
  by : (b : Bool) → nat_le n j ≡ b → b ≡ false
  by true e = absurd (h (leb-true n j e))
  by false e = refl

-- how many at a step
abbrev hits : List Change → ℕ → ℕ
hits [] j = 0
hits (c ∷ cs) j = cond (c.step == j) 1 0 + hits cs j

-- and up to it
abbrev made : List Change → ℕ → ℕ
made [] j = 0
made (c ∷ cs) j = cond (nat_le c.step j) 1 0 + made cs j

made_next : (cs : List Change) (j : ℕ) → made cs (suc j) ≡ made cs j + hits cs (suc j)
made_next [] j = refl
made_next (c ∷ cs) j =
    let k = made_next cs j in
    let e = one c.step in
    omega (arith, k, e) where
      one : (n : ℕ) → cond {A = ℕ} (nat_le n (suc j)) 1 0 ≡ cond {A = ℕ} (nat_le n j) 1 0 + cond {A = ℕ} (n == suc j) 1 0
      one n = ⊎_elim (λ l. by_le n l) (λ h. rw (not_le n j (omega (arith, h))) (⊎_elim (λ e. rw (eq-eqb n (suc j) e, le-leb n (suc j) (omega (arith, e))) refl) (λ ne. rw (ne_eqb n (suc j) ne, not_le n (suc j) (omega (arith, h, ne))) refl) (cases_eq n (suc j)))) (cases_lt n (suc j)) where
        by_le : (n : ℕ) → n < suc j → cond {A = ℕ} (nat_le n (suc j)) 1 0 ≡ cond {A = ℕ} (nat_le n j) 1 0 + cond {A = ℕ} (n == suc j) 1 0
        by_le n l = rw (le-leb n (suc j) (omega (arith, l)), le-leb n j (omega (arith, l)), ne_eqb n (suc j) (λ e. absurd (omega (arith, l, e)))) refl

made_few : (cs : List Change) (j : ℕ) → made cs j ≤ length cs
made_few [] j = omega arith
made_few (c ∷ cs) j = let k = made_few cs j in by (nat_le c.step j) k where
  by : (b : Bool) → made cs j ≤ length cs → cond b 1 0 + made cs j ≤ suc (length cs)
  by true k = omega (arith, k)
  by false k = omega (arith, k)

made_zero : (cs : List Change) → made cs 0 ≡ hits cs 0
made_zero [] = refl
made_zero (c ∷ cs) = let k = made_zero cs in let e = one c.step in omega (arith, k, e) where
  one : (n : ℕ) → cond {A = ℕ} (nat_le n 0) 1 0 ≡ cond {A = ℕ} (n == 0) 1 0
  one zero = refl
  one (suc k) = rw (not_le (suc k) 0 (λ h. absurd (omega (arith, h))), ne_eqb (suc k) 0 (λ e. absurd (omega (arith, e)))) refl

module _ (g : Program) (w : World) (output : memory_of g.segments ≡ w.output) where
  -- ---- bytes of the duplicate half
  in_room : (a n : ℕ) → InDuplicate g w.base w.distance a n → a + n ≤ 2 ^ 64
  in_room a n h = let top = w.layout.top in let e = h.below in omega (arith, top, e)

  -- a store there leaves the original half, the table and the code
  pub put_cells : (m : Memory) (a n x q : ℕ) → n ≤ 8 → InDuplicate g w.base w.distance a n → q < 2 ^ 64 → (q < w.base + w.distance) ⊎ (w.base + 2 * w.distance ≤ q) → get (put m a n x) q ≡ get m q
  put_cells m a n x q few h l o =
      let e = in_room a n h in
      let lo = h.above in
      let hi = h.below in
      get-put_outside m a n x q (⊎_elim (λ b. omega (arith, l, e, lo, hi, few, b)) (λ b. omega (arith, l, e, lo, hi, few, b)) o)

  pub put_code : (u : State) (a n x p : ℕ) → n ≤ 8 → InDuplicate g w.base w.distance a n → Standing w.code w.output u → fetched_at (put u.memory a n x) u.ranges p ≡ fetched_at u.memory u.ranges p
  put_code u a n x p few h st =
      same_fetch (put u.memory a n x) u.memory u.ranges p (λ q. flags-put u.memory a n x q)
      (λ q l e. ⊎_elim
      (λ near. absurd (false≢true (sym (not_code q l near) ∙ (sym (allows-flags (λ c. c.execute) (get (put u.memory a n x) q) (get w.output q) (flags-put u.memory a n x q ∙ st.flagged.flags q)) ∙ e))))
      (λ far. get-put_outside u.memory a n x q far)
      (cases_lt (offset a q) n)) where
        not_code : (q : ℕ) → q < 2 ^ 64 → offset a q < n → allows (λ c. c.execute) (get w.output q) ≡ false
        not_code q l near = let e = in_room a n h in ap (λ m. allows (λ c. c.execute) (get m q)) (sym output) ∙ h.no_code q (omega (arith, l, near, e, few)) (omega (arith, l, near, e, few))

  -- ---- one change
  duplicate_disturbs : (p : Place) (x : ℕ) (u : State) → IsDuplicate g w.base w.distance p → Standing w.code w.output u → u.outcome ≡ Going → Disturbed w u (struck p x u)
  unfolding struck
  duplicate_disturbs (Reg r) x u h st going = record {
    before = going;
    going = going;
    pc = refl;
    long = st.flagged.regs;
    count = length-set_reg u.regs r x ∙ st.flagged.regs;
    low = λ q l. other q (λ e. ⊎_elim (λ c. absurd (omega (arith, e, l, c))) (λ c. let a = c.0 in absurd (omega (arith, e, l, a))) h);
    sign = other 16 (λ e. ⊎_elim (λ c. absurd (omega (arith, e, c))) (λ c. let a = c.0 in absurd (omega (arith, e, a))) h);
    thirty = other 30 (λ e. ⊎_elim (λ c. absurd (omega (arith, e, c))) (λ c. let a = c.1 in absurd (omega (arith, e, a))) h);
    last = other 31 (λ e. ⊎_elim (λ c. absurd (omega (arith, e, c))) (λ c. let a = c.1 in absurd (omega (arith, e, a))) h);
    code = λ a. refl;
    flags = λ q. refl;
    cells = λ q l o. refl;
  } where
    other : (q : ℕ) → (q ≡ r → ⊥) → slice_index (set_reg r x u.regs) q ≡ slice_index u.regs q
    other q ne = slice_index-set_reg_other u.regs r x q ne
  duplicate_disturbs (Word a) x u h st going = record {
    before = going;
    going = going;
    pc = refl;
    long = st.flagged.regs;
    count = st.flagged.regs;
    low = λ q l. refl;
    sign = refl;
    thirty = refl;
    last = refl;
    code = λ p. put_code u a 8 x p (omega arith) h st;
    flags = λ q. flags-put u.memory a 8 x q;
    cells = λ q l o. put_cells u.memory a 8 x q (omega arith) h l o;
  }

  -- ---- the code stands, whatever is changed
  disturbed_stands : (u v : State) → Disturbed w u v → Standing w.code w.output u → Standing w.code w.output v
  disturbed_stands u v d st = record { code = λ p. d.code p ∙ st.code p; flagged = record { flags = λ q. d.flags q ∙ st.flagged.flags q; regs = d.count; zero_reg = d.low 0 (omega arith) ∙ st.flagged.zero_reg } }

  changed_stands : (c : Change) (u : State) → IsDuplicate g w.base w.distance c.place → Standing w.code w.output u → Standing w.code w.output (changed c u)
  changed_stands c u h st = by u.outcome refl where
    by : (o : Outcome) → u.outcome ≡ o → Standing w.code w.output (changed_as o c u)
    by Going e = disturbed_stands u (struck c.place c.value u) (duplicate_disturbs c.place c.value u h st e) st
    by Ended e = st
    by Fired e = st
    by (Trapped k p) e = st

  with_stands : (cs : List Change) (n : ℕ) (u : State) → AllDuplicate g w.base w.distance cs → Standing w.code w.output u → Standing w.code w.output (with_changes cs n u)
  unfolding with_changes
  with_stands [] n u h st = st
  with_stands (c ∷ cs) n u h st = with_stands cs n (cond (c.step == n) (changed c u) u) h.1 (one (c.step == n)) where
    one : (b : Bool) → Standing w.code w.output (cond b (changed c u) u)
    one true = changed_stands c u h.0 st
    one false = st

  -- changes of a step are one, or none
  with_one :
      (cs : List Change) (j : ℕ) (u : State) → AllDuplicate g w.base w.distance cs → Standing w.code w.output u
      → (with_changes cs j u ≡ u) ⊎ (Disturbed w u (with_changes cs j u) × (1 ≤ hits cs j))
  unfolding with_changes
  with_one [] j u h st = inl refl
  with_one (c ∷ cs) j u h st = by (c.step == j) (λ v sv. with_one cs j v h.1 sv) where
    by :
        (b : Bool) → ((v : State) → Standing w.code w.output v → (with_changes cs j v ≡ v) ⊎ (Disturbed w v (with_changes cs j v) × (1 ≤ hits cs j)))
        → (with_changes cs j (cond b (changed c u) u) ≡ u) ⊎ (Disturbed w u (with_changes cs j (cond b (changed c u) u)) × (1 ≤ cond b 1 0 + hits cs j))
    by false again = ⊎_elim (λ e. inl e) (λ d. inr (d.0, (let k = d.1 in omega (arith, k)))) (again u st)
    by true again = of u.outcome refl where
      of : (o : Outcome) → u.outcome ≡ o → (with_changes cs j (changed_as o c u) ≡ u) ⊎ (Disturbed w u (with_changes cs j (changed_as o c u)) × (1 ≤ 1 + hits cs j))
      of Going e =
          let v = struck c.place c.value u in
          let d = duplicate_disturbs c.place c.value u h.0 st e in
          ⊎_elim (λ same. inr (subst (Disturbed w u) (sym same) d, omega arith)) (λ k. inr (disturbed_on w u v (with_changes cs j v) d k.0, omega arith)) (again v (disturbed_stands u v d st))
      of Ended e = ⊎_elim (λ same. inl same) (λ d. inr (d.0, omega arith)) (again u st)
      of Fired e = ⊎_elim (λ same. inl same) (λ d. inr (d.0, omega arith)) (again u st)
      of (Trapped k p) e = ⊎_elim (λ same. inl same) (λ d. inr (d.0, omega arith)) (again u st)

  -- a run with changes
  module _ (s : State) (cs : List Change) (all : AllDuplicate g w.base w.distance cs) (first : Standing w.code w.output s) where
    stands : (j : ℕ) → Standing w.code w.output (changed_run s cs j)
    unfolding changed_run
    stands zero = with_stands cs 0 s all first
    stands (suc j) = with_stands cs (suc j) (step (changed_run s cs j)) all (standing_step w.code w.output w.output_fixed (changed_run s cs j) (stands j))

    pub changes_play : Played w (changed_run s cs) (length cs)
    unfolding changed_run
    changes_play = record {
      made = made cs;
      few = made_few cs;
      goes = λ j.
          let u = step (changed_run s cs j) in
          let next = made_next cs j in
          ⊎_elim
          (λ e. inl (e, omega (arith, next)))
          (λ d. let one = d.1 in inr (d.0, omega (arith, next, one)))
          (with_one cs (suc j) u all (standing_step w.code w.output w.output_fixed (changed_run s cs j) (stands j)));
    }

    -- at its start
    pub first_changes : (changed_run s cs 0 ≡ s) ⊎ (Disturbed w s (changed_run s cs 0) × (1 ≤ changes_play.made 0))
    unfolding changed_run changes_play
    first_changes = let z = made_zero cs in ⊎_elim (λ e. inl e) (λ d. let one = d.1 in inr (d.0, omega (arith, z, one))) (with_one cs 0 s all first)
