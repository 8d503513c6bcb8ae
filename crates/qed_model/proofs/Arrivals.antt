-- When the output has the input's states: after the first steps that will do, if there are any.
use Rattle.std.proofs.Common.{◌≡◌, ℕ, zero, suc, ◌+◌, ◌-◌, ◌*◌, ◌^◌, ◌<◌, ◌≤◌, ◌↔◌, ⊎_elim, Bool, true, false, cond, ◌&&◌, List, is_some, refl, sym, ap, ◌∙◌, subst, arith}
use Rattle.std.proofs.lemmas.Bool.{false≢true, and_parts, and_from, eq-eqb, eqb-true, cases_eq, cases_lt}
use Rattle.std.specs.Prelude.{not, ◌||◌, ◌==◌}
use Rattle.rv_isa.specs.declared.profile.TheConstants.{LAST_ORIGINAL}
use Rattle.machine.specs.declared.outcome.Outcome.{Outcome}
use Rattle.machine.specs.declared.outcome.Outcome.TheVariants.{Going, Ended, Fired, Trapped}
use Rattle.machine.specs.Memory.{get, byte_at}
use Rattle.machine.specs.Program.{Program}
use Rattle.machine.specs.Step.{State, reg}
use Rattle.qed_model.specs.Promise.Kept.{after_input, after_output, is_mapped, Halves}
use Rattle.qed_model.specs.Promise.OwnSteps.{each_below, first_from, has_ended, has_byte, has_values, arrival}

-- ---- the first number that passes
-- the choice between k and a greater number is at least k
chosen_low : (b : Bool) (k x : ℕ) → suc k ≤ x → k ≤ cond b k x
chosen_low true k x h = omega arith
chosen_low false k x h = omega (arith, h)

chosen_high : (b : Bool) (k x m : ℕ) → k ≤ m → x ≤ m → cond b k x ≤ m
chosen_high true k x m l h = l
chosen_high false k x m l h = h

module _ (test : ℕ → Bool) where
  first_low : (n k : ℕ) → k ≤ first_from test n k
  unfolding first_from
  first_low zero k = omega arith
  first_low (suc n) k = chosen_low (test k) k (first_from test n (suc k)) (first_low n (suc k))

  first_high : (n k : ℕ) → first_from test n k ≤ k + n
  unfolding first_from
  first_high zero k = omega arith
  first_high (suc n) k = let h = first_high n (suc k) in chosen_high (test k) k (first_from test n (suc k)) (k + suc n) (omega arith) (omega (arith, h))

  -- a number that fails lies before a later one that passes
  behind : (k m : ℕ) → k ≤ m → test k ≡ false → test m ≡ true → suc k ≤ m
  behind k m l fails passes = ⊎_elim (λ e. absurd (false≢true (sym fails ∙ ap test e ∙ passes))) (λ ne. omega (arith, l, ne)) (cases_eq k m)

  least_as : (b : Bool) (k x m : ℕ) → test k ≡ b → k ≤ m → test m ≡ true → (suc k ≤ m → x ≤ m) → cond b k x ≤ m
  least_as true k x m e l t h = l
  least_as false k x m e l t h = h (behind k m l e t)

  first_least : (n k m : ℕ) → k ≤ m → test m ≡ true → first_from test n k ≤ m
  unfolding first_from
  first_least zero k m l t = l
  first_least (suc n) k m l t = least_as (test k) k (first_from test n (suc k)) m refl l t (λ h. first_least n (suc k) m h t)

  passes_as : (b : Bool) (k x m : ℕ) → test k ≡ b → k ≤ m → test m ≡ true → (suc k ≤ m → test x ≡ true) → test (cond b k x) ≡ true
  passes_as true k x m e l t h = e
  passes_as false k x m e l t h = h (behind k m l e t)

  first_passes : (n k m : ℕ) → k ≤ m → m ≤ k + n → test m ≡ true → test (first_from test n k) ≡ true
  unfolding first_from
  first_passes zero k m l h t = let e : m ≡ k = omega (arith, l, h) in ap test (sym e) ∙ t
  first_passes (suc n) k m l h t = passes_as (test k) k (first_from test n (suc k)) m refl l t (λ q. first_passes n (suc k) m q (omega (arith, h)) t)

  -- ---- each number below another
  each_from : (n : ℕ) → ((k : ℕ) → k < n → test k ≡ true) → each_below n test ≡ true
  unfolding each_below
  each_from zero h = refl
  each_from (suc n) h = and_from _ _ (each_from n (λ k l. h k (omega (arith, l)))) (h n (omega arith))

  each_at : (n : ℕ) → each_below n test ≡ true → (k : ℕ) → k < n → test k ≡ true
  unfolding each_below
  each_at zero e k l = absurd (omega (arith, l))
  each_at (suc n) e k l =
      let p = and_parts (each_below n test) (test n) e in
      ⊎_elim (λ same. ap test same ∙ p.1) (λ ne. each_at n p.0 k (omega (arith, l, ne))) (cases_eq k n)

-- ---- values
ended_is : (o : Outcome) → has_ended o ≡ true → o ≡ Ended
ended_is Ended e = refl
ended_is o e = absurd (false≢true e)

is_ended : (o : Outcome) → o ≡ Ended → has_ended o ≡ true
is_ended o e = ap has_ended e

not_ended : (o : Outcome) → (o ≡ Ended → ⊥) → has_ended o ≡ false
not_ended Ended h = absurd (h refl)
not_ended Going h = refl
not_ended Fired h = refl
not_ended (Trapped c pc) h = refl

module _ (f : Program) (s u : State) where
  abbrev both_end : Bool → Bool → Bool
  both_end a b = cond a b (not b)

  abbrev same_reg : ℕ → Bool
  same_reg r = reg u (r + 1) == reg s (r + 1)

  abbrev same_values : Bool
  same_values = each_below LAST_ORIGINAL same_reg && each_below (2 ^ 64) (has_byte f s u)

  pub values_from : Halves f s u → ((u.outcome ≡ Ended) ↔ (s.outcome ≡ Ended)) → has_values f s u ≡ true
  unfolding has_values
  values_from h e = and_from _ _ (and_from _ _ (each_from _ LAST_ORIGINAL (λ r l. eq-eqb _ _ (h.regs (r + 1) (omega arith) (omega (arith, l))))) (each_from (has_byte f s u) (2 ^ 64) (λ q l. bytes q (is_mapped f q) refl))) (ends (has_ended s.outcome) refl) where
    bytes : (q : ℕ) (b : Bool) → is_mapped f q ≡ b → (not b || (is_some (get u.memory q) && (byte_at u.memory q == byte_at s.memory q))) ≡ true
    bytes q false m = refl
    bytes q true m = and_from _ _ (h.mapped q m) (eq-eqb _ _ (h.bytes q m))

    ends : (b : Bool) → has_ended s.outcome ≡ b → both_end b (has_ended u.outcome) ≡ true
    ends true x = is_ended u.outcome (e.1 (ended_is s.outcome x))
    ends false x = ap not (not_ended u.outcome (λ y. false≢true (sym x ∙ is_ended s.outcome (e.0 y))))

  -- from the test to the values, if all that the input maps are addresses
  pub values_are : ((q : ℕ) → is_mapped f q ≡ true → q < 2 ^ 64) → has_values f s u ≡ true → Halves f s u × ((u.outcome ≡ Ended) ↔ (s.outcome ≡ Ended))
  unfolding has_values
  values_are low e =
      let p = and_parts same_values (both_end (has_ended s.outcome) (has_ended u.outcome)) e in
      let q = and_parts (each_below LAST_ORIGINAL same_reg) (each_below (2 ^ 64) (has_byte f s u)) p.0 in (
        record {
          regs = λ r one h. let k : r - 1 + 1 ≡ r = omega (arith, one) in subst (λ i. reg u i ≡ reg s i) k (eqb-true (reg u (r - 1 + 1)) (reg s (r - 1 + 1)) (each_at same_reg LAST_ORIGINAL q.0 (r - 1) (omega (arith, one, h))));
          mapped = λ a m. (byte q.1 a m).0;
          bytes = λ a m. eqb-true (byte_at u.memory a) (byte_at s.memory a) (byte q.1 a m).1;
        },
        ends (has_ended s.outcome) refl p.1,
      ) where
        byte : each_below (2 ^ 64) (has_byte f s u) ≡ true → (a : ℕ) → is_mapped f a ≡ true → (is_some (get u.memory a) ≡ true) × ((byte_at u.memory a == byte_at s.memory a) ≡ true)
        byte all a m = and_parts (is_some (get u.memory a)) (byte_at u.memory a == byte_at s.memory a) (subst (λ b. (not b || (is_some (get u.memory a) && (byte_at u.memory a == byte_at s.memory a))) ≡ true) m (each_at (has_byte f s u) (2 ^ 64) all a (low a m)))

        ends : (b : Bool) → has_ended s.outcome ≡ b → both_end b (has_ended u.outcome) ≡ true → (u.outcome ≡ Ended) ↔ (s.outcome ≡ Ended)
        ends true x t = (λ y. ended_is s.outcome x, λ y. ended_is u.outcome t)
        ends false x t = (λ y. absurd (false≢true (sym (ap not (is_ended u.outcome y)) ∙ t)), λ y. absurd (false≢true (sym x ∙ is_ended s.outcome y)))

-- ---- arrivals
module _ (f g : Program) (first bound : ℕ) (regs : List ℕ) where
  -- the output has the input's values after n steps, when it has made m steps itself
  abbrev test_at : ℕ → ℕ → Bool
  test_at n m = has_values f (after_input f n) (after_output g regs m)

  abbrev pub At : ℕ → ℕ → Type 0
  At n m = has_values f (after_input f n) (after_output g regs m) ≡ true

  -- the output had the values of the input's first steps in their order
  abbrev pub Marks : ℕ → ℕ → Type 0
  Marks zero m = At 0 m
  Marks (suc n) m = (k : ℕ) × (k < m) × Marks n k × At (suc n) m

  -- no arrival is later than a mark
  pub arrives : (n m : ℕ) → Marks n m → arrival f g first bound regs n ≤ m
  unfolding arrival
  arrives zero m t = first_least (test_at 0) (first + bound) 0 m (omega arith) t
  arrives (suc n) m t = let h = arrives n t.0 t.2 in first_least (test_at (suc n)) (first + (suc n + 1) * bound - (arrival f g first bound regs n + 1)) (arrival f g first bound regs n + 1) m (omega (arith, h, t.1)) t.3

  -- if there is a mark within the bound, the output has the values there
  pub arrived : (n m : ℕ) → Marks n m → m ≤ first + (n + 1) * bound → At n (arrival f g first bound regs n)
  unfolding arrival
  arrived zero m t l = first_passes (test_at 0) (first + bound) 0 m (omega arith) (omega (arith, l)) t
  arrived (suc n) m t l = let h = arrives n t.0 t.2 in first_passes (test_at (suc n)) (first + (suc n + 1) * bound - (arrival f g first bound regs n + 1)) (arrival f g first bound regs n + 1) m (omega (arith, h, t.1)) (omega (arith, h, t.1, l)) t.3

  pub arrival_grows : (n : ℕ) → arrival f g first bound regs n < arrival f g first bound regs (suc n)
  unfolding arrival
  arrival_grows n = let h = first_low (test_at (suc n)) (first + (suc n + 1) * bound - (arrival f g first bound regs n + 1)) (arrival f g first bound regs n + 1) in omega (arith, h)

  pub arrival_within : 1 ≤ bound → (n : ℕ) → arrival f g first bound regs n ≤ first + (n + 1) * bound
  unfolding arrival
  arrival_within one zero = let h = first_high (test_at 0) (first + bound) 0 in omega (arith, h)
  arrival_within one (suc n) =
      let b = arrival_within one n in
      let h = first_high (test_at (suc n)) (first + (suc n + 1) * bound - (arrival f g first bound regs n + 1)) (arrival f g first bound regs n + 1) in
      omega (arith, h, b, one)

  -- arrivals come in the order of the input's steps
  later : (n k : ℕ) → arrival f g first bound regs n ≤ arrival f g first bound regs (n + k)
  later n zero = let e : n ≡ n + 0 = omega arith in subst (λ m. arrival f g first bound regs n ≤ arrival f g first bound regs m) e (omega arith)
  later n (suc k) =
      let e : suc (n + k) ≡ n + suc k = omega arith in
      let h = later n k in
      let x = arrival_grows (n + k) in
      subst (λ m. arrival f g first bound regs n ≤ arrival f g first bound regs m) e (omega (arith, h, x))

  pub arrival_order : (n m : ℕ) → arrival f g first bound regs n < arrival f g first bound regs m → n < m
  arrival_order n m h =
      ⊎_elim
      (λ l. l)
      (λ ge.
      let e : m + (n - m) ≡ n = omega (arith, ge) in
      let x = subst (λ k. arrival f g first bound regs m ≤ arrival f g first bound regs k) e (later m (n - m)) in
      absurd (omega (arith, h, x)))
      (cases_lt n m)
