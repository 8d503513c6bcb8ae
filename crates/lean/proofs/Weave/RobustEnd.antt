-- The end of a test under any number of changes: the run ends with the input's values, or is over.
use Rattle.std.proofs.Common.{◌≡◌, ℕ, zero, suc, ◌+◌, ◌*◌, ◌/◌, ◌%◌, ◌^◌, ◌<◌, ◌≤◌, ◌⊎◌, inl, inr, ⊎_elim, Bool, true, false, cond, not, List, [], ◌∷◌, ◌++◌, Option, Some, None, is_some, refl, sym, ap, ◌∙◌, subst, arith, append_assoc}
use Rattle.std.specs.Prelude.{◌-◌, pos, neg_ℤ}
use Rattle.std.proofs.lemmas.Bool.{and_parts, cases_eq, cases_lt, ne_eqb, eq-eqb, false≢true}
use Rattle.rv_isa.specs.declared.class.Class.TheVariants as class
use Rattle.machine.specs.Memory.{Memory, Cell, allows, wrap, flags_at}
use Rattle.machine.specs.Table.{ins, Ins, Auipc, Ld, Add, Addi, Beq, Bne, Ebreak}
use Rattle.machine.specs.Offsets.{distance_between, upper_part, lower_part}
use Rattle.machine.specs.declared.outcome.Outcome.TheVariants.{Ended}
use Rattle.qed_model.specs.Promise.Kept.{NotTrapped, IsSteady, is_trapped}
use Rattle.qed_model.specs.Weave.Lean.{check_distance, leave_as, cost}
use Rattle.qed_model.specs.Weave.Sequences.{Reads, fired_check, check_sign, compare, sweep, before_end, DISTANCE, SIGNATURE, CURSOR, TEMPORARY, SPARE}
use Rattle.weave_core.specs.Kinds.{originals}
use Rattle.weave_core.specs.Rows.{Sourced}
use Rattle.weave_core.specs.WeaveLaws.{Holds}
use Rattle.weave_core.specs.World.{World, GoodSpans, AllBelow, Item, Mark, Plain, Constant, get, grants, place, wrapped, State, reg, moved, jumped, target, result, stopped, holds, computed_value, Going, Known, step, class_of}
use Rattle.lean.specs.Strayed.{IsOver, Stopped}
use Rattle.lean.specs.Undisturbed.{slip_steps}
use Rattle.lean.proofs.Weave.Beyond.{Beyond}
use Rattle.lean.proofs.Weave.Carry.{constant_value, keeps, keep_guards, keep_distance, one_run, run-ended, slice_index-set_reg_other, jumped_to, Over, known_at, addi_value, branch_taken, branch_passed, load_granted, allows-flags, met_ended, step-end, step-illegal}
use Rattle.lean.proofs.Weave.Half.{is_spare, but, Half, Into, half_over, half_moved, half_spare, spare_pair}
use Rattle.lean.proofs.Weave.Robust.{half_disturbed, Leads, With, LastsWith, Steps, Slides, Slip, Calm, Either, leads_zero, leads_less, leads_either, leads_step, leads_none, leads_original, leads_more, with_lasts, into_lasts, half_leads, computes, leads_next, leads_fired, Firing, walked, Onto, kept_step, set_step, compare_step, every_plain, mends, mends_compare, same_word, slip_gives, slip_branch, slip_skips, stopped_more, stopped_now}
use Rattle.lean.proofs.Weave.Skipped.{Loses, lost_steps}

-- ---- numbers
-- the last address of a loop leads back
back_to : (p h : ℕ) → p ≡ h + 32 → h < 2 ^ 64 → (p + (2 ^ 64 - 32)) % 2 ^ 64 ≡ h
back_to p h e low = omega (arith, e, low)

-- the words of a range behind the first
abbrev more : ℕ × ℕ → ℕ
more r = (r.1 - r.0 - 8) / 8

-- the steps of the sweep
abbrev pub sweep_most : List (ℕ × ℕ) → ℕ
sweep_most [] = 0
sweep_most (r ∷ rs) = 2 + (suc (more r) * 8 + sweep_most rs)

-- of the end of a test
abbrev pub end_most : World → ℕ
end_most w = cost compare + (2 + (3 + (sweep_most w.form.spans + (cost compare + 1))))

-- a load is granted below `top` alone
granted_low :
    (m g : Memory) (p n top : ℕ) → ((q : ℕ) → flags_at m q ≡ flags_at g q) → ((q : ℕ) → top ≤ q → is_some (get g q) ≡ false) → grants (λ f. f.read) m p (suc n) ≡ true → wrap p < top
unfolding grants
granted_low m g p n top flags none e =
    ⊎_elim
    (λ lt. lt)
    (λ ge. absurd (lacks (get g (wrap p)) (none (wrap p) (omega (arith, ge))) (sym (allows-flags (λ f. f.read) (get m (wrap p)) (get g (wrap p)) (flags (wrap p))) ∙ (and_parts _ _ e).0)))
    (cases_lt (wrap p) top) where
      lacks : (o : Option Cell) → is_some o ≡ false → allows (λ f. f.read) o ≡ true → ⊥
      lacks None e a = false≢true a
      lacks (Some c) e a = false≢true (sym e)

-- what a change in the sweep needs: no byte of the output stands from `top` on, and the price pays the way up to there
pub record Room (w : World) (price top : ℕ) : Type 0 where
  pub none : (q : ℕ) → top ≤ q → is_some (get w.output q) ≡ false
  pub low : top + 8 ≤ 2 ^ 64
  pub enough : top + 8 ≤ price

module _ (w : World) where
  -- both have ended, and the original half has the input's values
  record EndedHalf (t y : State) : Type 0 where
    ended : y.outcome ≡ Ended
    input : t.outcome ≡ Ended
    holds : Holds w y t

  -- a computing word that leaves x15
  leaves_15 : (u : State) (i : Ins) → Over w.code u → w.code u.pc ≡ Known i → class_of i.kind ≡ class.Compute → (15 ≡ i.rd → ⊥) → (reg (step u) 15 ≡ reg u 15) × ((step u).pc ≡ u.pc + 4)
  leaves_15 u i o k c ne = let e = computes w i u o k c in (ap (λ y. reg y 15) e ∙ slice_index-set_reg_other u.regs i.rd (result i.kind i u) 15 ne, ap (λ y. y.pc) e)

  -- a slip of a word gives its register any number
  given :
      (x : ℕ) (t u v : State) (i j : Ins) → Half w x t u → is_spare i.rd ≡ true → (class_of i.kind ≡ class.Compute) ⊎ (class_of i.kind ≡ class.Load) → w.code u.pc ≡ Known i → w.code u.pc ≡ Known j → Slip w j u v
      → Half w x t v × (v.pc ≡ u.pc + 4)
  given x t u v i j a spare c k known s =
      let g = slip_gives w i u v c (subst (λ z. Slip w z u v) (sym (same_word w u.pc i j k known)) s) in
      let e = g.1.2 in
      (subst (Half w x t) (sym e) (half_spare w x t u i.rd g.1.0 (u.pc + 4) spare a), ap (λ y. y.pc) e)

-- ---- the sweep of one range
-- its words, from a word of the range on
abbrev words : ℕ → List Item → List Item
words stop rest =
    Plain (ins Ld TEMPORARY CURSOR 0 (pos 0)) ∷ Plain (ins Add SPARE CURSOR DISTANCE (pos 0)) ∷ Plain (ins Ld SPARE SPARE 0 (pos 0)) ∷ Plain (ins Beq 0 TEMPORARY SPARE (pos 8)) ∷ fired_check
    ∷ Plain (ins Addi CURSOR CURSOR 0 (pos 8)) ∷ Constant TEMPORARY stop ∷ Plain (ins Bne 0 CURSOR TEMPORARY (neg_ℤ (pos 32))) ∷ rest

abbrev last : Ins
last = ins Bne 0 CURSOR TEMPORARY (neg_ℤ (pos 32))

module _ (w : World) (bound price : ℕ) (slip : Bool) where
  -- a step whose slips lead to the same property
  on_step :
      (N K : ℕ) (s : State) (D E : ℕ → State → Type 0) → LastsWith w bound price D → Steps w bound price D E → (slip ≡ true → Slides w bound price D E) → Leads w bound price slip N K s E
      → Leads w bound price slip (suc N) K s D
  on_step N K s D E lasts goes slides rest =
      let S = IsSteady w.reached s in
      leads_step w bound price slip N K s D E lasts goes (λ is. mends w bound price S (step s) N K D E (slides is) (every_plain w bound price slip S (step s) N K E rest)) rest

  on_next :
      (N K : ℕ) (s : State) (D E : ℕ → State → Type 0) → LastsWith w bound price D → Steps w bound price D E → (slip ≡ true → Slides w bound price D E) → Leads w bound price slip N K s E
      → Leads w bound price slip N K s D
  on_next N K s D E lasts goes slides rest = leads_less w bound price slip (suc N) N K K s D (omega arith) (omega arith) (on_step N K s D E lasts goes slides rest)

  module _ (x top stop few : ℕ) (t : State) (rest : List Item) (paid : bound ≤ price → Room w price top) (dear : slip ≡ true → bound ≤ price) (high : stop < 2 ^ 64) where
    -- the steps of a way that may lead up to `top`, which a change or a slip has paid
    abbrev Far : ℕ → ℕ → ℕ → Type 0
    Far many g m = (bound ≤ price) × (many + (top + 8 - g % 2 ^ 64) + few ≤ m)

    -- `many` steps to the comparison with `stop`, those of the way on, and `few` behind the loop
    abbrev Left : ℕ → ℕ → ℕ → Type 0
    Left many g m = ((n : ℕ) × (g + 8 * n ≡ stop) × (many + 8 * n + few ≤ m)) ⊎ Far many g m

    -- and at the loop's head, where the cursor is c
    abbrev Begins : ℕ → ℕ → Type 0
    Begins c m = ((n : ℕ) × (c + 8 * suc n ≡ stop) × (8 + 8 * n + few ≤ m)) ⊎ Far 0 c m

    -- a step less
    spent : (fewer many g m : ℕ) → suc fewer ≤ many → Left many g m → (j : ℕ) × (m ≡ suc j) × Left fewer g j
    spent fewer many g m le l =
        ⊎_elim
        (λ a. let h = a.2 in (m - 1, omega (arith, le, h), inl (a.0, a.1, omega (arith, le, h))))
        (λ p. let h = p.1 in (m - 1, omega (arith, le, h), inr (p.0, omega (arith, le, h))))
        l

    -- over the first load, which is granted below `top`
    loads : (c m : ℕ) → (bound ≤ price → c % 2 ^ 64 < top) → Begins c m → (j : ℕ) × (m ≡ suc j) × Left 7 (c + 8) j
    loads c m below b =
        ⊎_elim
        (λ a. let h = a.2 in let e = a.1 in (m - 1, omega (arith, h), inl (a.0, omega (arith, e), omega (arith, h))))
        (λ p.
        let h = p.1 in
        let room = (paid p.0).low in
        let low = below p.0 in
        let next : (c + 8) % 2 ^ 64 ≡ c % 2 ^ 64 + 8 = omega (arith, low, room) in
        (m - 1, omega (arith, h, low), inr (p.0, omega (arith, h, low, next))))
        b

    -- the cursor is one word on
    counts : (many c m : ℕ) → Left many (c + 8) m → Left many ((c + 8) % 2 ^ 64) m
    counts many c m l =
        ⊎_elim
        (λ a. let e = a.1 in inl (a.0, omega (arith, e, high), a.2))
        (λ p. inr (p.0, subst (λ g. many + (top + 8 - g) + few ≤ m) (again (c + 8)) p.1))
        l where
          again : (n : ℕ) → n % 2 ^ 64 ≡ n % 2 ^ 64 % 2 ^ 64
          again n = omega arith

    -- back at the head
    goes_back : (c m : ℕ) → (c ≡ stop → ⊥) → Left 1 c m → (j : ℕ) × (m ≡ suc j) × Begins c j
    goes_back c m ne l = ⊎_elim (λ a. by a.0 a.1 a.2) (λ p. let h = p.1 in (m - 1, omega (arith, h), inr (p.0, omega (arith, h)))) l where
      by : (n : ℕ) → c + 8 * n ≡ stop → 1 + 8 * n + few ≤ m → (j : ℕ) × (m ≡ suc j) × Begins c j
      by zero e h = absurd (ne (omega (arith, e)))
      by (suc n) e h = (m - 1, omega (arith, h), inl (n, e, omega (arith, h)))

    -- at least as many are left
    at_least : (many g m : ℕ) → Left many g m → many + few ≤ m
    at_least many g m l = ⊎_elim (λ a. let h = a.2 in omega (arith, h)) (λ p. let h = p.1 in omega (arith, h)) l

    -- the price pays the way from any number
    pays : (many d m : ℕ) → bound ≤ price → many + few ≤ m → Far many d (m + price)
    pays many d m one h = let enough = (paid one).enough in (one, omega (arith, h, enough))

    -- so a change may leave any
    changed : (many g d m : ℕ) → bound ≤ price → Left many g m → Left many d (m + price)
    changed many g d m one l = inr (pays many d m one (at_least many g m l))

    changed_head : (c d m : ℕ) → bound ≤ price → Begins c m → Begins d (m + price)
    changed_head c d m one b = inr (pays 0 d m one (⊎_elim (λ a. let h = a.2 in omega (arith, h)) (λ p. let h = p.1 in omega (arith, h)) b))

    -- at an address, with a property of the cursor and the budget
    abbrev At : ℕ → (ℕ → ℕ → Type 0) → ℕ → State → Type 0
    At p F m u = Half w x t u × (u.pc ≡ p) × F (reg u 15) m

    at_lasts : (p : ℕ) (F : ℕ → ℕ → Type 0) → ((c d m : ℕ) → bound ≤ price → F c m → F d (m + price)) → LastsWith w bound price (At p F)
    at_lasts p F turns m u v a one d = (half_disturbed w x t u v a.0 d, d.pc ∙ a.1, turns (reg u 15) (reg v 15) m one a.2)

    -- between the first load and the next word, and behind that
    abbrev Here : ℕ → ℕ → ℕ → State → Type 0
    Here p many = At p (λ c m. Left many (c + 8) m)

    abbrev There : ℕ → ℕ → ℕ → State → Type 0
    There p many = At p (λ c m. Left many c m)

    here_lasts : (p many : ℕ) → LastsWith w bound price (Here p many)
    here_lasts p many = at_lasts p (λ c m. Left many (c + 8) m) (λ c d m one l. changed many (c + 8) (d + 8) m one l)

    there_lasts : (p many : ℕ) → LastsWith w bound price (There p many)
    there_lasts p many = at_lasts p (λ c m. Left many c m) (changed many)

    -- a word that leaves the cursor
    word_on : (i : Ins) (p fewer many : ℕ) → suc fewer ≤ many → w.code p ≡ Known i → keeps (but 15) false i ≡ true → Steps w bound price (Here p many) (Here (p + 4) fewer)
    word_on i p fewer many le k e m u a =
        ⊎_elim
        (λ o. inl o)
        (λ g. let l = spent fewer many (reg u 15 + 8) m le a.2 in inr (l.0, l.1, (g.0.0, g.1 ∙ ap (λ q. q + 4) a.1, subst (λ c. Left fewer (c + 8) l.0) (sym g.0.1) l.2)))
        (kept_step w x t u a.0 i (ap w.code a.1 ∙ k) e)

    -- behind a slip of a word the way may lead up to `top`, wherever the cursor is
    far_slides :
        (i : Ins) (p many : ℕ) (D E : ℕ → State → Type 0) → is_spare i.rd ≡ true → (class_of i.kind ≡ class.Compute) ⊎ (class_of i.kind ≡ class.Load) → w.code p ≡ Known i → bound ≤ price
        → ((m : ℕ) (u : State) → D m u → Calm w u → Half w x t u × (u.pc ≡ p) × (many + few ≤ m)) → ((m : ℕ) (v : State) → Half w x t v → v.pc ≡ p + 4 → ((d : ℕ) → Far many d m) → E m v) → Slides w bound price D E
    far_slides i p many D E spare c k one has goes m u d j v known s calm =
        let a = has m u d calm in
        let g = given w x t u v i j a.0 spare c (ap w.code a.1 ∙ k) known s in
        inr (inr (goes (m + price) v g.0 (g.1 ∙ ap (λ q. q + 4) a.1) (λ d. pays many d m one a.2)))

    here_slides :
        (i : Ins) (p fewer many : ℕ) → fewer ≤ many → is_spare i.rd ≡ true → (class_of i.kind ≡ class.Compute) ⊎ (class_of i.kind ≡ class.Load) → w.code p ≡ Known i → bound ≤ price → Slides w bound price (Here p many) (Here (p + 4) fewer)
    here_slides i p fewer many le spare c k one =
        far_slides i p fewer (Here p many) (Here (p + 4) fewer) spare c k one (λ m u a calm. (a.0, a.1, let h = at_least many (reg u 15 + 8) m a.2 in omega (arith, h, le))) (λ m v a at far. (a, at, inr (far (reg v 15 + 8))))

    -- the load of the word, which is over where the cursor has no byte
    abbrev load : Ins
    load = ins Ld TEMPORARY CURSOR 0 (pos 0)

    load_on : (p : ℕ) → w.code p ≡ Known load → Steps w bound price (At p Begins) (Here (p + 4) 7)
    load_on p k m u a =
        let code : w.code u.pc ≡ Known load = ap w.code a.1 ∙ k in
        ⊎_elim
        (λ o. inl o)
        (λ g.
        let calm : NotTrapped (step u) = ap is_trapped g.0.0.going in
        let ok = load_granted u load a.0.going (known_at w.code u load (half_over w x t u a.0) code) refl calm in
        let l = loads (reg u 15) m (λ one. let low = granted_low u.memory w.output (place load u) 7 top a.0.standing.flagged.flags (paid one).none ok in omega (arith, low)) a.2 in
        inr (l.0, l.1, (g.0.0, g.1 ∙ ap (λ q. q + 4) a.1, subst (λ c. Left 7 (c + 8) l.0) (sym g.0.1) l.2)))
        (kept_step w x t u a.0 load code refl)

    load_slides : (p : ℕ) → w.code p ≡ Known load → bound ≤ price → Slides w bound price (At p Begins) (Here (p + 4) 7)
    load_slides p k one =
        far_slides load p 7 (At p Begins) (Here (p + 4) 7) refl (inr refl) k one
        (λ m u a calm. (
          a.0,
          a.1,
          ⊎_elim
              (λ o. absurd (calm.quiet 1 (omega arith) (subst (λ y. IsOver y.outcome) (sym (one_run u)) o)))
              (λ g. let e = g.1 in let h = at_least 7 (reg (step u) 15 + 8) g.0 g.2.2 in omega (arith, e, h))
              (load_on p k m u a),
        ))
        (λ m v a at far. (a, at, inr (far (reg v 15 + 8))))

    -- the comparison
    compare_on :
        (p : ℕ) → w.code p ≡ Known (ins Beq 0 TEMPORARY SPARE (pos 8)) → w.code (p + 4) ≡ Known (ins Ebreak 0 0 0 (pos 0))
        → Steps w bound price (Here p 5) (Either w bound price (With w bound price 0 (Firing w)) (Here (p + 4 + 4) 4))
    compare_on p k fires m u a =
        let l = spent 4 5 (reg u 15 + 8) m (omega arith) a.2 in
        let to = compare_step w u 30 31 (half_over w x t u a.0) (ap w.code a.1 ∙ k) (ap (λ z. w.code (z + 4)) a.1 ∙ fires) in
        inr (l.0, l.1, ⊎_elim (λ f. inl (f.0, omega arith)) (λ g. inr (subst (Here (p + 4 + 4) 4 l.0) (sym g.0) (half_moved w x t u (u.pc + 4 + 4) a.0, ap (λ q. q + 4 + 4) a.1, l.2))) to)

    -- the cursor goes on
    add_on : (p : ℕ) → w.code p ≡ Known (ins Addi CURSOR CURSOR 0 (pos 8)) → Steps w bound price (Here p 4) (There (p + 4) 3)
    add_on p k m u a =
        let z = (reg u 15 + 8) % 2 ^ 64 in
        let g = set_step w x t u a.0 (ins Addi 15 15 0 (pos 8)) z refl (omega arith) (omega arith) refl (ap w.code a.1 ∙ k) (addi_value u 15 15 (reg u 15) z (pos 8) refl refl) in
        let l = spent 3 4 (reg u 15 + 8) m (omega arith) a.2 in
        inr (l.0, l.1, (g.0.0, g.1 ∙ ap (λ q. q + 4) a.1, subst (λ c. Left 3 c l.0) (sym g.0.1) (counts 3 (reg u 15) l.0 l.2)))

    add_slides : (p : ℕ) → w.code p ≡ Known (ins Addi CURSOR CURSOR 0 (pos 8)) → bound ≤ price → Slides w bound price (Here p 4) (There (p + 4) 3)
    add_slides p k one =
        far_slides (ins Addi CURSOR CURSOR 0 (pos 8)) p 3 (Here p 4) (There (p + 4) 3) refl (inl refl) k one (λ m u a calm. (a.0, a.1, let h = at_least 4 (reg u 15 + 8) m a.2 in omega (arith, h))) (λ m v a at far. (a, at, inr (far (reg v 15))))

    -- ---- the end of the range, in x30
    -- x30 has a number, or any and the way may lead up to `top`
    abbrev Ends : ℕ → ℕ → ℕ → ℕ → State → Type 0
    Ends p many y m u = Half w x t u × (u.pc ≡ p) × (((reg u 30 ≡ y) × Left many (reg u 15) m) ⊎ Far many (reg u 15) m)

    ends_least : (p many y m : ℕ) (u : State) → Ends p many y m u → many + few ≤ m
    ends_least p many y m u a = ⊎_elim (λ b. at_least many (reg u 15) m b.1) (λ b. at_least many (reg u 15) m (inr b)) a.2

    ends_lasts : (p many y : ℕ) → LastsWith w bound price (Ends p many y)
    ends_lasts p many y m u v a one d = (half_disturbed w x t u v a.0 d, d.pc ∙ a.1, inr (pays many (reg v 15) m one (ends_least p many y m u a)))

    -- the number of the constant's first word, at p
    abbrev upper : ℕ → ℕ
    upper p = (p + wrapped (upper_part (distance_between p stop))) % 2 ^ 64

    first_on : (p : ℕ) → w.code p ≡ Known (ins Auipc 30 0 0 (upper_part (distance_between p stop))) → Steps w bound price (There p 3) (Ends (p + 4) 2 (upper p))
    unfolding computed_value
    first_on p r m u a =
        let i = ins Auipc 30 0 0 (upper_part (distance_between p stop)) in
        let code : w.code u.pc ≡ Known i = ap w.code a.1 ∙ r in
        let l = spent 2 3 (reg u 15) m (omega arith) a.2 in
        let g = set_step w x t u a.0 i (result Auipc i u) refl (omega arith) (omega arith) refl code refl in
        let k = leaves_15 w u i (half_over w x t u a.0) code refl (λ e. absurd (omega (arith, e))) in
        inr (l.0, l.1, (g.0.0, g.1 ∙ ap (λ q. q + 4) a.1, inl (g.0.1 ∙ ap (λ q. (q + wrapped (upper_part (distance_between p stop))) % 2 ^ 64) a.1, subst (λ c. Left 2 c l.0) (sym k.0) l.2)))

    second_on : (p q : ℕ) → p < 2 ^ 64 → w.code q ≡ Known (ins Addi 30 30 0 (lower_part (distance_between p stop))) → Steps w bound price (Ends q 2 (upper p)) (Ends (q + 4) 1 stop)
    second_on p q low r m u a =
        let d = lower_part (distance_between p stop) in
        let i = ins Addi 30 30 0 d in
        let code : w.code u.pc ≡ Known i = ap w.code a.1 ∙ r in
        let z = (reg u 30 + wrapped d) % 2 ^ 64 in
        let g = set_step w x t u a.0 i z refl (omega arith) (omega arith) refl code (addi_value u 30 30 (reg u 30) z d refl refl) in
        let k = leaves_15 w u i (half_over w x t u a.0) code refl (λ e. absurd (omega (arith, e))) in
        let there : (j : ℕ) → ((reg (step u) 30 ≡ stop) × Left 1 (reg (step u) 15) j) ⊎ Far 1 (reg (step u) 15) j → Ends (q + 4) 1 stop j (step u) = λ j b. (g.0.0, g.1 ∙ ap (λ q. q + 4) a.1, b) in
        inr (⊎_elim
        (λ b.
        let l = spent 1 2 (reg u 15) m (omega arith) b.1 in
        (l.0, l.1, there l.0 (inl (g.0.1 ∙ ap (λ y. (y + wrapped d) % 2 ^ 64) b.0 ∙ constant_value p stop low high, subst (λ c. Left 1 c l.0) (sym k.0) l.2))))
        (λ b. let h = b.1 in (m - 1, omega (arith, h), there (m - 1) (inr (subst (λ c. Far 1 c (m - 1)) (sym k.0) (b.0, omega (arith, h))))))
        a.2)

    first_slides : (p : ℕ) → w.code p ≡ Known (ins Auipc 30 0 0 (upper_part (distance_between p stop))) → bound ≤ price → Slides w bound price (There p 3) (Ends (p + 4) 2 (upper p))
    first_slides p r one =
        far_slides (ins Auipc 30 0 0 (upper_part (distance_between p stop))) p 2 (There p 3) (Ends (p + 4) 2 (upper p)) refl (inl refl) r one
        (λ m u a calm. (a.0, a.1, let h = at_least 3 (reg u 15) m a.2 in omega (arith, h)))
        (λ m v a at far. (a, at, inr (far (reg v 15))))

    second_slides : (p q : ℕ) → w.code q ≡ Known (ins Addi 30 30 0 (lower_part (distance_between p stop))) → bound ≤ price → Slides w bound price (Ends q 2 (upper p)) (Ends (q + 4) 1 stop)
    second_slides p q r one =
        far_slides (ins Addi 30 30 0 (lower_part (distance_between p stop))) q 1 (Ends q 2 (upper p)) (Ends (q + 4) 1 stop) refl (inl refl) r one
        (λ m u a calm. (a.0, a.1, let h = ends_least q 2 (upper p) m u a in omega (arith, h)))
        (λ m v a at far. (a, at, inr (far (reg v 15))))

    -- ---- the loop
    module _ (h : ℕ) (r : Reads false w.code w.entry h (words stop rest)) where
      abbrev Head : ℕ → State → Type 0
      Head = At h Begins

      -- where its last word stands
      abbrev end : ℕ
      end = h + 4 + 4 + 4 + 4 + 4 + 4 + 4 + 4

      abbrev Out : ℕ → State → Type 0
      Out = With w bound price few (Into w x t rest)

      last_reads : (u : State) → u.pc ≡ end → Reads false w.code w.entry u.pc (Plain last ∷ rest)
      last_reads u at = let there : h + 4 + 4 + 4 + 4 + 4 + 4 + 8 ≡ u.pc = omega (arith, at) in subst (λ p. Reads false w.code w.entry p (Plain last ∷ rest)) there r.1.1.1.1.1.1.2

      -- behind the last word, and back at the head
      goes_out : (m : ℕ) (u v : State) → Half w x t u → u.pc ≡ end → few ≤ m → v ≡ moved u.regs (u.pc + 4) u → Out m v
      goes_out m u v a at le is = (subst (Into w x t rest) (sym is) (half_moved w x t u (u.pc + 4) a, (last_reads u at).1), le)

      goes_head : (m : ℕ) (u v : State) → Half w x t u → Begins (reg u 15) m → v ≡ moved u.regs h u → Head m v
      goes_head m u v a b is = subst (Head m) (sym is) (half_moved w x t u h a, refl, b)

      -- the last word leads back or on
      close_on : Steps w bound price (Ends end 1 stop) (Either w bound price Out Head)
      unfolding holds
      close_on m u a =
          let at = a.1 in
          let k = (last_reads u at).0 in
          let o = half_over w x t u a.0 in
          let low = w.low h load r.0 in
          let grain = w.grain h load r.0 in
          ⊎_elim
          (λ e.
          let is = walked w u (moved u.regs (u.pc + 4) u) (branch_passed w u last o k refl (ap not (eq-eqb (reg u 15) (reg u 30) e))) in
          let l = ends_least end 1 stop m u a in
          inr (m - 1, omega (arith, l), inl (goes_out (m - 1) u (step u) a.0 at (omega (arith, l)) is)))
          (λ ne.
          let is = walked w u (moved u.regs h u) (branch_taken w u last h o k refl (ap not (ne_eqb (reg u 15) (reg u 30) ne)) (back_to u.pc h (omega (arith, at)) (omega (arith, low))) grain) in
          let l : (j : ℕ) × (m ≡ suc j) × Begins (reg u 15) j =
          ⊎_elim (λ b. goes_back (reg u 15) m (λ e. ne (e ∙ sym b.0)) b.1) (λ b. let c = b.1 in (m - 1, omega (arith, c), inr (b.0, omega (arith, c)))) a.2 in
          inr (l.0, l.1, inr (goes_head l.0 u (step u) a.0 l.2 is)))
          (cases_eq (reg u 15) (reg u 30))

      -- either way
      close_slides : bound ≤ price → Slides w bound price (Ends end 1 stop) (Either w bound price Out Head)
      close_slides one m u a j v known s calm =
          let at = a.1 in
          let low = w.low h load r.0 in
          let grain = w.grain h load r.0 in
          let l = ends_least end 1 stop m u a in
          let back : jumped u.regs (target last u.pc) u ≡ moved u.regs h u = ap (λ p. jumped u.regs p u) (back_to u.pc h (omega (arith, at)) (omega (arith, low))) ∙ jumped_to u.regs h u grain in
          ⊎_elim
          (λ e. inr (inr (inl (goes_out (m + price) u v a.0 at (omega (arith, l)) e))))
          (λ e. inr (inr (inr (goes_head (m + price) u v a.0 (inr (pays 0 (reg u 15) m one (omega (arith, l)))) (e ∙ back)))))
          (slip_branch w last u v refl (subst (λ z. Slip w z u v) (sym (same_word w u.pc last j (last_reads u at).0 known)) s))

      -- once around
      around : (N K : ℕ) (s : State) → Onto w bound price slip N K s few (Into w x t rest) → Leads w bound price slip N K s Head → Leads w bound price slip (suc N) K s Head
      around N K s on again =
          let p1 = h + 4 in
          let p2 = h + 4 + 4 in
          let p3 = h + 4 + 4 + 4 in
          let p5 = h + 4 + 4 + 4 + 4 + 4 in
          let p6 = h + 4 + 4 + 4 + 4 + 4 + 4 in
          let p7 = h + 4 + 4 + 4 + 4 + 4 + 4 + 4 in
          let r3 = r.1.1.1 in
          let r6 = r3.1.1.1 in
          let low = w.low h load r.0 in
          on_step N K s Head (Here p1 7) (at_lasts h Begins changed_head) (load_on h r.0) (λ is. load_slides h r.0 (dear is))
          (on_next N K s (Here p1 7) (Here p2 6) (here_lasts p1 7) (word_on (ins Add SPARE CURSOR DISTANCE (pos 0)) p1 6 7 (omega arith) r.1.0 refl)
          (λ is. here_slides (ins Add SPARE CURSOR DISTANCE (pos 0)) p1 6 7 (omega arith) refl (inl refl) r.1.0 (dear is))
          (on_next N K s (Here p2 6) (Here p3 5) (here_lasts p2 6) (word_on (ins Ld SPARE SPARE 0 (pos 0)) p2 5 6 (omega arith) r.1.1.0 refl)
          (λ is. here_slides (ins Ld SPARE SPARE 0 (pos 0)) p2 5 6 (omega arith) refl (inr refl) r.1.1.0 (dear is))
          (leads_next w bound price slip N K s (Here p3 5) (Either w bound price (With w bound price 0 (Firing w)) (Here p5 4)) (here_lasts p3 5) (compare_on p3 r3.0 r3.1.0)
          (λ is. mends_compare w bound price (IsSteady w.reached s) (step s) N K 30 31 (Here p3 5) (λ m u a. (half_over w x t u a.0, (ap w.code a.1 ∙ r3.0, ap (λ z. w.code (z + 4)) a.1 ∙ r3.1.0))))
          (leads_either w bound price slip N K s (With w bound price 0 (Firing w)) (Here p5 4) (leads_fired w bound price slip N K s)
          (on_next N K s (Here p5 4) (There p6 3) (here_lasts p5 4) (add_on p5 r3.1.1.0) (λ is. add_slides p5 r3.1.1.0 (dear is))
          (on_next N K s (There p6 3) (Ends p7 2 (upper p6)) (there_lasts p6 3) (first_on p6 r6.0) (λ is. first_slides p6 r6.0 (dear is))
          (on_next N K s (Ends p7 2 (upper p6)) (Ends end 1 stop) (ends_lasts p7 2 (upper p6)) (second_on p6 p7 (omega (arith, low)) r6.1) (λ is. second_slides p6 p7 r6.1 (dear is))
          (on_next N K s (Ends end 1 stop) (Either w bound price Out Head) (ends_lasts end 1 stop) close_on (λ is. close_slides (dear is))
          (leads_either w bound price slip N K s Out Head on again)))))))))

      loop : (N K : ℕ) (s : State) → Onto w bound price slip N K s few (Into w x t rest) → Leads w bound price slip N K s Head
      loop zero K s on = leads_zero w bound price slip K s Head
      loop (suc N) K s on = let less = leads_less w bound price slip (suc N) N K K s Out (omega arith) (omega arith) on in around N K s less (loop N K s less)

    -- ---- the range
    -- at the head, wherever that stands
    abbrev Heads : ℕ → State → Type 0
    Heads m u = (h : ℕ) × Reads false w.code w.entry h (words stop rest) × At h Begins m u

    -- behind the first word of the constant, with the steps that are left
    record Cursor (start n m : ℕ) (u : State) : Type 0 where
      half : Half w x t u
      from : ℕ
      low : from < 2 ^ 64
      word : w.code u.pc ≡ Known (ins Addi 15 15 0 (lower_part (distance_between from start)))
      reads : Reads false w.code w.entry (u.pc + 4) (words stop rest)
      left : ((reg u 15 ≡ (from + wrapped (upper_part (distance_between from start))) % 2 ^ 64) × (1 + suc n * 8 + few ≤ m)) ⊎ ((bound ≤ price) × (1 + (top + 8) + few ≤ m))

    module _ (start n : ℕ) (size : start + 8 * suc n ≡ stop) where
      abbrev Range : State → Type 0
      Range = Into w x t (Constant CURSOR start ∷ words stop rest)

      cursor_lasts : LastsWith w bound price (Cursor start n)
      cursor_lasts m u v a one d = record {
        half = half_disturbed w x t u v a.half d;
        from = a.from;
        low = a.low;
        word = ap w.code d.pc ∙ a.word;
        reads = subst (λ p. Reads false w.code w.entry (p + 4) (words stop rest)) (sym d.pc) a.reads;
        left = let enough = (paid one).enough in ⊎_elim (λ b. let h = b.1 in inr (one, omega (arith, h, enough))) (λ b. let h = b.1 in inr (one, omega (arith, h, enough))) a.left;
      }

      start_on : Steps w bound price (With w bound price (2 + suc n * 8 + few) Range) (Cursor start n)
      unfolding computed_value
      start_on m u a =
          let i = ins Auipc 15 0 0 (upper_part (distance_between u.pc start)) in
          let r = a.0.1 in
          let many = a.1 in
          let g = set_step w x t u a.0.0 i (result Auipc i u) refl (omega arith) (omega arith) refl r.0 refl in
          let low = w.low u.pc i r.0 in
          let far : u.pc + 8 ≡ u.pc + 4 + 4 = omega arith in
          inr (
            m - 1,
            omega (arith, many),
            record {
              half = g.0.0;
              from = u.pc;
              low = omega (arith, low);
              word = ap w.code g.1 ∙ r.1;
              reads = subst (λ p. Reads false w.code w.entry p (words stop rest)) (far ∙ ap (λ p. p + 4) (sym g.1)) r.2;
              left = inl (g.0.1, omega (arith, many));
            },
          )

      start_slides : bound ≤ price → Slides w bound price (With w bound price (2 + suc n * 8 + few) Range) (Cursor start n)
      start_slides one m u a j v known s calm =
          let i = ins Auipc 15 0 0 (upper_part (distance_between u.pc start)) in
          let r = a.0.1 in
          let many = a.1 in
          let g = given w x t u v i j a.0.0 refl (inl refl) r.0 known s in
          let low = w.low u.pc i r.0 in
          let enough = (paid one).enough in
          let far : u.pc + 8 ≡ u.pc + 4 + 4 = omega arith in
          inr (inr (record {
            half = g.0;
            from = u.pc;
            low = omega (arith, low);
            word = ap w.code g.1 ∙ r.1;
            reads = subst (λ p. Reads false w.code w.entry p (words stop rest)) (far ∙ ap (λ p. p + 4) (sym g.1)) r.2;
            left = inr (one, omega (arith, many, enough));
          }))

      stop_on : Steps w bound price (Cursor start n) Heads
      stop_on m u a =
          let d = lower_part (distance_between a.from start) in
          let z = (reg u 15 + wrapped d) % 2 ^ 64 in
          let g = set_step w x t u a.half (ins Addi 15 15 0 d) z refl (omega arith) (omega arith) refl a.word (addi_value u 15 15 (reg u 15) z d refl refl) in
          let there : (j : ℕ) → Begins (reg (step u) 15) j → Heads j (step u) = λ j b. (u.pc + 4, a.reads, (g.0.0, g.1, b)) in
          inr (⊎_elim
          (λ b.
          let many = b.1 in
          let is : z ≡ start = ap (λ y. (y + wrapped d) % 2 ^ 64) b.0 ∙ constant_value a.from start a.low (omega (arith, size, high)) in
          (m - 1, omega (arith, many), there (m - 1) (inl (n, ap (λ y. y + 8 * suc n) (g.0.1 ∙ is) ∙ size, omega (arith, many)))))
          (λ b. let many = b.1 in (m - 1, omega (arith, many), there (m - 1) (inr (b.0, omega (arith, many)))))
          a.left)

      stop_slides : bound ≤ price → Slides w bound price (Cursor start n) Heads
      stop_slides one m u a j v known s calm =
          let g = given w x t u v (ins Addi 15 15 0 (lower_part (distance_between a.from start))) j a.half refl (inl refl) a.word known s in
          let h : 0 + few ≤ m = ⊎_elim (λ b. let c = b.1 in omega (arith, c)) (λ b. let c = b.1 in omega (arith, c)) a.left in
          inr (inr (u.pc + 4, a.reads, (g.0, g.1, inr (pays 0 (reg v 15) m one h))))

      range_leads : (N K : ℕ) (s : State) → Onto w bound price slip N K s few (Into w x t rest) → Onto w bound price slip N K s (2 + suc n * 8 + few) Range
      range_leads N K s on =
          on_next N K s (With w bound price (2 + suc n * 8 + few) Range) (Cursor start n) (with_lasts w bound price (2 + suc n * 8 + few) Range (into_lasts w bound price x t (Constant CURSOR start ∷ words stop rest))) start_on (λ is. start_slides (dear is))
          (on_next N K s (Cursor start n) Heads cursor_lasts stop_on (λ is. stop_slides (dear is)) (λ k j m u n_le k_le st d. loop d.0 d.1 N K s on k j m u n_le k_le st d.2))

  -- ---- all ranges
  module _ (x top : ℕ) (t : State) (paid : bound ≤ price → Room w price top) (dear : slip ≡ true → bound ≤ price) where
    sweep_leads :
        (spans : List (ℕ × ℕ)) (base high : ℕ) → GoodSpans base spans → AllBelow spans high → high < 2 ^ 64 → (N K few : ℕ) (s : State) (rest : List Item)
        → Onto w bound price slip N K s few (Into w x t rest) → Onto w bound price slip N K s (sweep_most spans + few) (Into w x t (sweep spans ++ rest))
    sweep_leads [] base high g b low N K few s rest on = leads_more w bound price slip N K s (Into w x t rest) few (0 + few) (omega arith) on
    sweep_leads (q ∷ qs) base high g b low N K few s rest on =
        let more_on = sweep_leads qs (q.1 + 1) high g.1 b.1 low N K few s rest on in
        let start = g.0.start in
        let stop = g.0.stop in
        let some = g.0.some in
        let below = b.0 in
        leads_more w bound price slip N K s (Into w x t (sweep (q ∷ qs) ++ rest)) (2 + suc (more q) * 8 + (sweep_most qs + few)) (sweep_most (q ∷ qs) + few) (omega arith)
        (range_leads x top q.1 (sweep_most qs + few) t (sweep qs ++ rest) paid dear (omega (arith, below, low)) q.0 (more q) (size q.0 q.1 start stop some) N K s more_on) where
          size : (a b : ℕ) → a % 8 ≡ 0 → b % 8 ≡ 0 → a + 8 ≤ b → a + 8 * suc ((b - a - 8) / 8) ≡ b
          size a b s e h = omega (arith, s, e, h)

  -- ---- the end
  -- where both have ended all steps are the same
  ended_lead : 1 ≤ bound → (N K : ℕ) (t : State) → t.outcome ≡ Ended → Onto w bound price slip N K t 1 (EndedHalf w t)
  ended_lead one N zero t e = leads_none w bound price slip N t (With w bound price 1 (EndedHalf w t))
  ended_lead one N (suc K) t e =
      let stays : (y : State) → y.outcome ≡ Ended → step y ≡ y = λ y d. sym (one_run y) ∙ run-ended 1 y d in
      leads_original w bound price slip N K t (EndedHalf w t) (EndedHalf w t) 1 1 (omega arith) (omega (arith, one)) (λ u v a d. absurd (going_ended u a.ended d.before))
      (λ st u a. inr (met_ended w (step u) (step t) (subst (λ y. Holds w (step u) y) (sym (stays t e)) (subst (λ y. Holds w y t) (sym (stays u a.ended)) a.holds)) (ap (λ y. y.outcome) (stays u a.ended) ∙ a.ended) (ap (λ y. y.outcome) (stays t e) ∙ e), subst (EndedHalf w t) (sym (stays u a.ended)) a))
      (λ is n k m u n_le k_le st a j v known s calm. absurd (going_ended u a.0.ended calm.going))
      (λ st. subst (λ z. Onto w bound price slip N K z 1 (EndedHalf w t)) (sym (stays t e)) (ended_lead one N K t e)) where
        going_ended : (u : State) → u.outcome ≡ Ended → u.outcome ≡ Going → ⊥
        going_ended u a b = let e : Ended ≡ Going = sym a ∙ b in absurd (cc)

  -- an ECALL, and what stands behind it: an illegal word, or the entry of another block
  module _
      (x : ℕ) (s : State) (i : Ins) (so : Sourced w s) (has : w.source s.pc ≡ Known i) (c : class_of i.kind ≡ class.End) (one : 1 ≤ bound) (leader : ℕ → Bool) (loses : Loses w leader) (xs : List Item) (beyond : Beyond leader xs)
      (away : (c : ℕ) → xs ≡ Mark c ∷ [] → c ≡ x → ⊥) where
    stops : step s ≡ stopped Ended s
    stops = step-end s i so.over.going (known_at w.source s i so.over has) c

    ends : (u : State) → Into w x s (Plain i ∷ xs) u → EndedHalf w (step s) (step u)
    ends u b =
        let h = b.0 in
        let e = step-end u i h.going (known_at w.code u i (half_over w x s u h) b.1.0) c in
        let f = h.standing.flagged in
        subst (EndedHalf w (step s)) (sym e) (subst (λ t. EndedHalf w t (stopped Ended u)) (sym stops) (record {
          ended = refl;
          input = refl;
          holds = record { output = record { flags = f.flags; regs = f.regs; zero_reg = f.zero_reg }; originals = h.originals; bytes = h.bytes };
        }))

    -- there the run is over soon
    falls_away : (u : State) → Half w x s u → reg u SIGNATURE < 2 ^ 64 → reg u CURSOR < 2 ^ 64 → Reads false w.code w.entry u.pc xs → Stopped slip_steps u
    falls_away u h small low r =
        ⊎_elim
        (λ m.
        let marked : Reads false w.code w.entry u.pc (Mark m.0 ∷ []) = subst (Reads false w.code w.entry u.pc) m.2 r in
        stopped_more lost_steps slip_steps u (omega arith) (loses m.0 u m.1 h.going h.standing (sym marked.0) small low (inl (λ e. away m.0 m.2 (sym e ∙ h.sign)))))
        (λ m.
        let word : Reads false w.code w.entry u.pc (Plain m.0 ∷ []) = subst (Reads false w.code w.entry u.pc) m.2 r in
        stopped_more 1 slip_steps u (omega arith) (stopped_now u (inr (is_true (is_trapped (step u).outcome) (λ e. step-illegal u m.0 h.going (known_at w.code u m.0 (half_over w x s u h) word.0) m.1 e)))))
        beyond where
          is_true : (b : Bool) → (b ≡ false → ⊥) → b ≡ true
          is_true true f = refl
          is_true false f = absurd (f refl)

    ecall_slides : (u v : State) (j : Ins) → Into w x s (Plain i ∷ xs) u → w.code u.pc ≡ Known j → Slip w j u v → Calm w u → Stopped slip_steps v
    ecall_slides u v j b known sl calm =
        subst (Stopped slip_steps) (sym (slip_skips w i u v (inr (inr c)) (subst (λ z. Slip w z u v) (sym (same_word w u.pc i j b.1.0 known)) sl)))
        (falls_away (moved u.regs (u.pc + 4) u) (half_moved w x s u (u.pc + 4) b.0) (calm.small 16) (calm.small 15) b.1.1)

    ecall_leads : (N K : ℕ) → Onto w bound price slip N K s 1 (Into w x s (Plain i ∷ xs))
    ecall_leads N zero = leads_none w bound price slip N s (With w bound price 1 (Into w x s (Plain i ∷ xs)))
    ecall_leads N (suc K) =
        leads_original w bound price slip N K s (Into w x s (Plain i ∷ xs)) (EndedHalf w (step s)) 1 1 (omega arith) (omega (arith, one)) (into_lasts w bound price x s (Plain i ∷ xs))
        (λ st u b. let d = ends u b in inr (met_ended w (step u) (step s) d.holds d.ended d.input, d))
        (λ is n k m u n_le k_le st b j v known sl calm. inl (ecall_slides u v j b.0 known sl calm))
        (λ st. ended_lead one N K (step s) (ap (λ y. y.outcome) stops))

    -- behind the signature
    last_leads :
        (N K top : ℕ) → (bound ≤ price → Room w price top) → (slip ≡ true → bound ≤ price)
        → Onto w bound price slip N K s (sweep_most w.form.spans + (cost compare + 1)) (Into w x s (before_end w.form ++ (Plain i ∷ xs)))
    last_leads N K top paid dear = by w.form.sweep where
      by : (b : Bool) → Onto w bound price slip N K s (sweep_most w.form.spans + (cost compare + 1)) (Into w x s (cond b (sweep w.form.spans ++ compare) [] ++ (Plain i ∷ xs)))
      by true =
          subst (λ z. Onto w bound price slip N K s (sweep_most w.form.spans + (cost compare + 1)) (Into w x s z)) (sym (append_assoc (sweep w.form.spans) compare (Plain i ∷ xs)))
          (sweep_leads x top s paid dear w.form.spans w.base (w.base + w.distance) w.spans_good w.spans_low (let high = w.layout.top in omega (arith, high)) N K (cost compare + 1) s (compare ++ (Plain i ∷ xs))
          (half_leads w bound price slip compare (keep_guards is_spare false originals) N K x s s (Plain i ∷ xs) 1 (ecall_leads N K)))
      by false = leads_more w bound price slip N K s (Into w x s (Plain i ∷ xs)) 1 (sweep_most w.form.spans + (cost compare + 1)) (omega arith) (ecall_leads N K)

module _ (w : World) (near : w.form.far ≡ false) (bound price : ℕ) (slip : Bool) where
  -- an ECALL with what stands before it: `top` is behind all bytes of the output, at 8 bytes before 2^64 or lower
  pub end_leads :
      (x a : ℕ) (s : State) (i : Ins) (fall : ℕ → List Item) (N K top : ℕ) → Sourced w s → w.source s.pc ≡ Known i → class_of i.kind ≡ class.End → 1 ≤ bound
      → (bound ≤ price → Room w price top) → (slip ≡ true → bound ≤ price)
      → (leader : ℕ → Bool) (loses : Loses w leader) (xs : List Item) (beyond : Beyond leader xs) (away : (c : ℕ) → xs ≡ Mark c ∷ [] → c ≡ x → ⊥)
      → Onto w bound price slip N K s (end_most w) (Into w x s (leave_as w.distance (before_end w.form) fall class.End i a s.pc ++ xs))
  end_leads x a s i fall N K top so has c one paid dear leader loses xs beyond away =
      let short3 = before_end w.form ++ (Plain i ∷ []) in
      let short2 = check_sign a ++ short3 in
      let short1 = check_distance w.distance ++ short2 in
      let rest3 = before_end w.form ++ (Plain i ∷ xs) in
      let rest2 = check_sign a ++ rest3 in
      let rest1 = check_distance w.distance ++ rest2 in
      let e3 : short3 ++ xs ≡ rest3 = append_assoc (before_end w.form) (Plain i ∷ []) xs in
      let e2 : short2 ++ xs ≡ rest2 = append_assoc (check_sign a) short3 xs ∙ ap (λ z. check_sign a ++ z) e3 in
      let e1 : short1 ++ xs ≡ rest1 = append_assoc (check_distance w.distance) short2 xs ∙ ap (λ z. check_distance w.distance ++ z) e2 in
      let e : (compare ++ short1) ++ xs ≡ compare ++ rest1 = append_assoc compare short1 xs ∙ ap (λ z. compare ++ z) e1 in
      subst (λ z. Onto w bound price slip N K s (end_most w) (Into w x s z)) (sym e)
      (half_leads w bound price slip compare (keep_guards is_spare false originals) N K x s s rest1 _
      (half_leads w bound price slip (check_distance w.distance) (keep_distance is_spare false spare_pair refl refl w.distance) N K x s s rest2 _
      (half_leads w bound price slip (check_sign a) (refl, (inr (refl, refl, tt), (inl refl, tt))) N K x s s rest3 _
      (last_leads w bound price slip x s i so has c one leader loses xs beyond away N K top paid dear))))
