-- Which blocks have a tick, and that ticks count the steps to the next one.
use Rattle.std.proofs.Common.{◌≡◌, ℕ, ◌+◌, ◌%◌, ◌^◌, ◌<◌, ◌≤◌, inl, inr, ⊎_elim, Bool, true, false, cond, List, [], ◌∷◌, refl, sym, ap, ◌∙◌, arith, ◌⊎◌}
use Rattle.std.specs.Prelude.{◌==◌, ◌||◌, nat_lt, max}
use Rattle.std.proofs.lemmas.Bool.{cases_lt, eq-eqb, eqb-true, false≢true, lt-ltb, ne_eqb, or_cases, or_left, or_right}
use Rattle.std.proofs.Math.Nat.{le-max_left, le-max_right, max-le}
use Rattle.rv_isa.specs.declared.class.Class.TheVariants as class
use Rattle.tests.specs.Admission.Leaders.{is_indirect}
use Rattle.machine.specs.Step.{target, Class, Ins, class_of}
use Rattle.machine.specs.Members.{Among}
use Rattle.qed_model.specs.Weave.Sequences.{End, Falls, Stops, Block}
use Rattle.qed_model.specs.Weave.LeanCode.{Lean, end_at, block_steps, leads_as, leads_on, leads_in, TickRow, has_tick, most_at, owed_at, owed_as, owed_behind, Counting, needs_tick, tick_rows}
use Rattle.weave_core.proofs.Lemmas.{Ascend}
use Rattle.lean.specs.Woven.{owed, by_register, IsCounted, AreCounted}

-- ---- what is owed behind an end
module _ (most : ℕ) (owes : ℕ → ℕ) where
  owed_as_le : (c : Class) (i : Ins) (at t : ℕ) → leads_as c i at t ≡ true → owes t ≤ owed_as most owes c i at
  owed_as_le class.Jump i at t e = let k = ap owes (eqb-true (target i at) t e) in omega (arith, k)
  owed_as_le class.Branch i at t e =
      ⊎_elim
      (λ x. let k = ap owes (eqb-true (target i at) t x) in let h = le-max_left (owes (target i at)) (owes ((at + 4) % 2 ^ 64)) in omega (arith, k, h))
      (λ x. let k = ap owes (eqb-true ((at + 4) % 2 ^ 64) t x) in let h = le-max_right (owes (target i at)) (owes ((at + 4) % 2 ^ 64)) in omega (arith, k, h))
      (or_cases (target i at == t) ((at + 4) % 2 ^ 64 == t) e)
  owed_as_le _ i at t e = absurd (false≢true e)

  owed_le : (e : End) (at t : ℕ) → leads_on e at t ≡ true → owes t ≤ owed_behind most owes e at
  owed_le Falls at t e = let k = ap owes (eqb-true at t e) in omega (arith, k)
  owed_le (Stops i) at t e = owed_as_le (class_of i.kind) i at t e

  -- the most, behind a jump by register
  most_as : (c : Class) (i : Ins) (at : ℕ) → is_indirect c ≡ true → owed_as most owes c i at ≡ most
  most_as class.JumpReg i at e = refl
  most_as _ i at e = absurd (false≢true e)

  most_owed : (e : End) (at : ℕ) → by_register e ≡ true → owed_behind most owes e at ≡ most
  most_owed Falls at e = absurd (false≢true e)
  most_owed (Stops i) at e = most_as (class_of i.kind) i at e

module _ (c : Counting) where
  abbrev rows : List Block → List TickRow
  rows bs = tick_rows c bs

  abbrev most_of : Block → List Block → ℕ
  most_of b bs = block_steps c.diverse c.land c.leader b + owed_behind c.room (owed_at (rows bs)) b.end (end_at b)

  -- ---- looking up
  -- at the first block
  abbrev ticks_here : Block → List Block → Bool
  ticks_here b bs = needs_tick c b (leads_in (b ∷ bs) b.start) (most_of b bs)

  tick_first : (b : Block) (bs : List Block) (a : ℕ) → b.start ≡ a → has_tick (rows (b ∷ bs)) a ≡ ticks_here b bs
  tick_first b bs a e = ap (λ x. cond x (ticks_here b bs) (has_tick (rows bs) a)) (eq-eqb b.start a e)

  most_first : (b : Block) (bs : List Block) (a : ℕ) → b.start ≡ a → most_at (rows (b ∷ bs)) a ≡ most_of b bs
  most_first b bs a e = ap (λ x. cond {A = ℕ} x (most_of b bs) (most_at (rows bs) a)) (eq-eqb b.start a e)

  -- or behind it
  tick_later : (b : Block) (bs : List Block) (a : ℕ) → (b.start ≡ a → ⊥) → has_tick (rows (b ∷ bs)) a ≡ has_tick (rows bs) a
  tick_later b bs a e = ap (λ x. cond x (ticks_here b bs) (has_tick (rows bs) a)) (ne_eqb b.start a e)

  most_later : (b : Block) (bs : List Block) (a : ℕ) → (b.start ≡ a → ⊥) → most_at (rows (b ∷ bs)) a ≡ most_at (rows bs) a
  most_later b bs a e = ap (λ x. cond {A = ℕ} x (most_of b bs) (most_at (rows bs) a)) (ne_eqb b.start a e)

  -- before the first there is none
  tick_below : (bs : List Block) (low a : ℕ) → Ascend low bs → a < low → has_tick (rows bs) a ≡ true
  tick_below [] low a h lt = refl
  tick_below (b ∷ bs) low a h lt =
      tick_later b bs a (λ e. let l = h.0 in omega (arith, l, e, lt)) ∙ tick_below bs (b.start + 1) a h.1 (let l = h.0 in omega (arith, l, lt))

  -- ---- which blocks have a tick
  -- the first of the test
  pub entry_ticks : (bs : List Block) (a : ℕ) → a ≡ c.entry → has_tick (rows bs) a ≡ true
  entry_ticks [] a e = refl
  entry_ticks (b ∷ bs) a e = by (b.start == a) refl (entry_ticks bs a e) where
    by : (x : Bool) → (b.start == a) ≡ x → has_tick (rows bs) a ≡ true → has_tick (rows (b ∷ bs)) a ≡ true
    by true x rest =
        let s = eqb-true b.start a x in
        let is : (b.start == c.entry) ≡ true = eq-eqb b.start c.entry (s ∙ e) in
        tick_first b bs a s
        ∙ or_left (b.start == c.entry) (leads_in (b ∷ bs) b.start || nat_lt c.room (most_of b bs)) is
    by false x rest = tick_later b bs a (λ s. false≢true (sym x ∙ eq-eqb b.start a s)) ∙ rest

  -- one to which it or a later one leads
  led_ticks : (b : Block) (bs : List Block) (low a : ℕ) → Ascend low (b ∷ bs) → a ≤ b.start → leads_in (b ∷ bs) a ≡ true → has_tick (rows (b ∷ bs)) a ≡ true
  led_ticks b bs low a h le led = by (b.start == a) refl where
    by : (x : Bool) → (b.start == a) ≡ x → has_tick (rows (b ∷ bs)) a ≡ true
    by true x =
        let s = eqb-true b.start a x in
        let is : leads_in (b ∷ bs) b.start ≡ true = ap (leads_in (b ∷ bs)) s ∙ led in
        tick_first b bs a s
        ∙ or_right (b.start == c.entry) (leads_in (b ∷ bs) b.start || nat_lt c.room (most_of b bs)) (or_left (leads_in (b ∷ bs) b.start) (nat_lt c.room (most_of b bs)) is)
    by false x =
        let other : b.start ≡ a → ⊥ = λ s. false≢true (sym x ∙ eq-eqb b.start a s) in
        tick_later b bs a other ∙ tick_below bs (b.start + 1) a h.1 (let o : b.start ≡ a → ⊥ = other in omega (arith, le, o))

  -- ---- what is owed is little
  few_owed : (bs : List Block) (t : ℕ) → owed_at (rows bs) t ≤ c.room
  few_owed [] t = omega arith
  few_owed (b ∷ bs) t = by (b.start == t) refl (few_owed bs t) where
    small : (x : Bool) → ticks_here b bs ≡ x → cond {A = ℕ} x 0 (most_of b bs) ≤ c.room
    small true e = omega arith
    small false e =
        ⊎_elim
        (λ lt.
        absurd
        (false≢true
        (sym e
        ∙ or_right (b.start == c.entry) (leads_in (b ∷ bs) b.start || nat_lt c.room (most_of b bs)) (or_right (leads_in (b ∷ bs) b.start) (nat_lt c.room (most_of b bs)) (lt-ltb c.room (most_of b bs) lt)))))
        (λ le. le)
        (cases_lt c.room (most_of b bs))

    by : (x : Bool) → (b.start == t) ≡ x → owed_at (rows bs) t ≤ c.room → cond {A = ℕ} (cond x (ticks_here b bs) (has_tick (rows bs) t)) 0 (cond x (most_of b bs) (most_at (rows bs) t)) ≤ c.room
    by true x rest = small (ticks_here b bs) refl
    by false x rest = rest

  pub few_behind : (bs : List Block) (e : End) (at : ℕ) → owed_behind c.room (owed_at (rows bs)) e at ≤ c.room
  few_behind bs Falls at = few_owed bs at
  few_behind bs (Stops i) at = by (class_of i.kind) where
    by : (k : Class) → owed_as c.room (owed_at (rows bs)) k i at ≤ c.room
    by class.Jump = few_owed bs (target i at)
    by class.Branch = let x = few_owed bs (target i at) in let y = few_owed bs ((at + 4) % 2 ^ 64) in max_le (owed_at (rows bs) (target i at)) (owed_at (rows bs) ((at + 4) % 2 ^ 64)) x y where
      max_le : (m n : ℕ) → m ≤ c.room → n ≤ c.room → max m n ≤ c.room
      max_le m n h k = max-le h k
    by _ = omega arith

  -- so from any entry the steps to the next tick are at most `own`, those of a block, and the room
  pub few_most : (own : ℕ) (bs : List Block) → ((b : Block) → Among b bs → block_steps c.diverse c.land c.leader b ≤ own) → (a : ℕ) → most_at (rows bs) a ≤ own + c.room
  few_most own [] h a = omega arith
  few_most own (b ∷ bs) h a = by (b.start == a) refl (few_most own bs (λ d m. h d (inr m)) a) where
    by : (x : Bool) → (b.start == a) ≡ x → most_at (rows bs) a ≤ own + c.room → most_at (rows (b ∷ bs)) a ≤ own + c.room
    by true x rest =
        let is = most_first b bs a (eqb-true b.start a x) in
        let few = h b (inl refl) in
        let more = few_behind bs b.end (end_at b) in
        omega (arith, is, few, more)
    by false x rest = let is = most_later b bs a (λ s. false≢true (sym x ∙ eq-eqb b.start a s)) in omega (arith, is, rest)

  -- ---- so steps are counted
  module _ (l : Lean) (blocks : List Block) (ticks : (a : ℕ) → l.ticks a ≡ has_tick (rows blocks) a) (mosts : (a : ℕ) → l.most a ≡ most_at (rows blocks) a) (diverse : l.diverse ≡ c.diverse) (land : l.land ≡ c.land) where
    -- from an address on some of the blocks say the same as all, and before it stands a tick where they lead
    record Later (low : ℕ) (bs : List Block) : Type 0 where
      ticks_there : (a : ℕ) → low ≤ a → l.ticks a ≡ has_tick (rows bs) a
      mosts_there : (a : ℕ) → low ≤ a → l.most a ≡ most_at (rows bs) a
      led : (a : ℕ) → a < low → leads_in bs a ≡ true → l.ticks a ≡ true

    led_here : (low : ℕ) (b : Block) (bs : List Block) → Ascend low (b ∷ bs) → Later low (b ∷ bs) → (a : ℕ) → a ≤ b.start → leads_in (b ∷ bs) a ≡ true → l.ticks a ≡ true
    led_here low b bs h k a le led = ⊎_elim (λ lt. k.led a lt led) (λ from. k.ticks_there a from ∙ led_ticks b bs low a h le led) (cases_lt a low)

    rest_of : (low : ℕ) (b : Block) (bs : List Block) → Ascend low (b ∷ bs) → Later low (b ∷ bs) → Later (b.start + 1) bs
    rest_of low b bs h k = record {
      ticks_there = λ a le. k.ticks_there a (let s = h.0 in omega (arith, s, le)) ∙ tick_later b bs a (λ e. omega (arith, e, le));
      mosts_there = λ a le. k.mosts_there a (let s = h.0 in omega (arith, s, le)) ∙ most_later b bs a (λ e. omega (arith, e, le));
      led = λ a lt m. led_here low b bs h k a (omega (arith, lt)) (or_right (leads_on b.end (end_at b) a) (leads_in bs a) m);
    }

    counted_at : (low : ℕ) (b : Block) (bs : List Block) → Ascend low (b ∷ bs) → Later low (b ∷ bs) → IsCounted l c.leader b
    counted_at low b bs h k =
        let is : l.most b.start ≡ most_of b bs = k.mosts_there b.start h.0 ∙ most_first b bs b.start refl in
        let same : block_steps l.diverse l.land c.leader b ≡ block_steps c.diverse c.land c.leader b = ap (λ x. block_steps x l.land c.leader b) diverse ∙ ap (λ x. block_steps c.diverse x c.leader b) land in (
          omega (arith, is, same),
          λ t may.
              ⊎_elim
              (λ on.
              ⊎_elim
              (λ le. let none : owed l t ≡ 0 = ap (λ x. cond {A = ℕ} x 0 (l.most t)) (led_here low b bs h k t le (or_left (leads_on b.end (end_at b) t) (leads_in bs t) on)) in omega (arith, is, same, none))
              (λ lt.
              let r = rest_of low b bs h k in
              let there : owed l t ≡ owed_at (rows bs) t = ap (λ x. cond {A = ℕ} x 0 (l.most t)) (r.ticks_there t lt) ∙ ap (λ n. cond {A = ℕ} (has_tick (rows bs) t) 0 n) (r.mosts_there t lt) in
              let few = owed_le c.room (owed_at (rows bs)) b.end (end_at b) t on in
              omega (arith, is, same, there, few))
              (or_before t b.start))
              (λ leaps.
              let few = few_owed blocks t in
              let there : owed l t ≡ owed_at (rows blocks) t = ap (λ x. cond {A = ℕ} x 0 (l.most t)) (ticks t) ∙ ap (λ n. cond {A = ℕ} (has_tick (rows blocks) t) 0 n) (mosts t) in
              let all = most_owed c.room (owed_at (rows bs)) b.end (end_at b) leaps in
              omega (arith, is, same, few, there, all))
              (or_cases (leads_on b.end (end_at b) t) (by_register b.end) may),
        ) where
          or_before : (t s : ℕ) → (t ≤ s) ⊎ (s + 1 ≤ t)
          or_before t s = ⊎_elim (λ lt. inr (omega (arith, lt))) (λ le. inl le) (cases_lt s t)

    counted_from : (low : ℕ) (bs : List Block) → Ascend low bs → Later low bs → AreCounted l c.leader bs
    counted_from low [] h k = tt
    counted_from low (b ∷ bs) h k = (counted_at low b bs h k, counted_from (b.start + 1) bs h.1 (rest_of low b bs h k))

    pub all_counted : Ascend 0 blocks → AreCounted l c.leader blocks
    all_counted h = counted_from 0 blocks h (record { ticks_there = λ a le. ticks a; mosts_there = λ a le. mosts a; led = λ a lt m. absurd (omega (arith, lt)) })
