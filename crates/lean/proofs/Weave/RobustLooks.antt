-- The look-ups of the check and of a JALR, under changes and with a slip: then x30 has the signature's entry.
use Rattle.std.proofs.Common.{◌≡◌, ℕ, suc, ◌+◌, ◌*◌, ◌%◌, ◌^◌, ◌<◌, ◌≤◌, ◌⊎◌, inl, inr, ⊎_elim, Bool, true, false, List, [], ◌∷◌, ◌++◌, length, refl, sym, ap, ◌∙◌, subst, arith}
use Rattle.std.specs.Prelude.{◌==◌, ◌||◌, ◌-◌, slice_index, pos}
use Rattle.std.proofs.lemmas.Bool.{cases_eq, eqb-true, or_cases, false≢true}
use Rattle.rv_isa.specs.declared.class.Class.TheVariants as class
use Rattle.machine.specs.Table.{ins, Ins, Lui, Add, Beq, Jalr, Lw, Ebreak}
use Rattle.qed_model.specs.Promise.Kept.{IsSteady}
use Rattle.qed_model.specs.Weave.Lean.{look_up, look_again, cost}
use Rattle.qed_model.specs.Weave.Sequences.{Reads, fired_check, SIGNATURE, TEMPORARY, SPARE, DISTANCE}
use Rattle.weave_core.specs.Blocks.{IsEntryOf, TableAt}
use Rattle.weave_core.specs.World.{World, Item, Plain, State, run, reg, set_reg, moved, result, Known, step, class_of}
use Rattle.lean.specs.Strayed.{IsOver, Stopped}
use Rattle.lean.specs.Undisturbed.{slip_steps}
use Rattle.lean.proofs.Weave.Carry.{Keep, keeps, Carried, Standing, slice_index-set_reg_other, slice_index-set_reg_same, length-set_reg, Over, over_moved, one_run, run-more, Tabled, word, table_word, table_load, entry_leap, add_result}
use Rattle.lean.proofs.Weave.Half.{is_spare, but, Half, Into, half_over, half_spare, half_moved, spare_step, Holding, holding_set}
use Rattle.lean.proofs.Weave.Robust.{half_disturbed, set_disturbed, Calm, Slip, Recovers, mends, mends_compare, same_word, slip_gives, stopped_more, stopped_now, stopped_step, firing_over, every_plain, leads_compare, leads_compute, leads_keep, Leads, With, Lasts, LastsWith, leads_less, leads_map, Either, leads_either, leads_step, half_lasts, leads_more, Before_words, words_last, computes, Firing, compare_step, leads_fired, to_far, to_near, holding_lasts, Onto, walked, kept_step, Disturbed, lui_small}
use Rattle.lean.proofs.Weave.Skipped.{Loses, lost_steps}
use Rattle.std.proofs.lemmas.List.{set-set, set-get_or, set_comm}

-- a fact of x15
abbrev pub Fifteen : (ℕ → Type 0) → State → Type 0
Fifteen F u = F (reg u 15)

-- ---- with a fact that a change takes away
module _ (w : World) (bound price : ℕ) (slip : Bool) where
  -- `few` steps are left if the fact holds, else `gap` more
  abbrev pub Knows : ℕ → (State → Type 0) → (State → Type 0) → ℕ → ℕ → State → Type 0
  Knows gap P F few m u = P u × ((F u × (few ≤ m)) ⊎ (few + gap ≤ m))

  -- from a property that needs no fact, and to one
  pub known_with : (N K : ℕ) (s : State) (P F : State → Type 0) (gap few most : ℕ) → few + gap ≤ most → Leads w bound price slip N K s (Knows gap P F few) → Onto w bound price slip N K s most P
  known_with N K s P F gap few most le on = leads_map w bound price slip N K s (With w bound price most P) (Knows gap P F few) (λ m u d. (d.0, let h = d.1 in inr (omega (arith, h, le)))) on

  pub with_known : (N K : ℕ) (s : State) (P F : State → Type 0) (gap few most : ℕ) → most ≤ few → Onto w bound price slip N K s most P → Leads w bound price slip N K s (Knows gap P F few)
  with_known N K s P F gap few most le on =
      leads_map w bound price slip N K s (Knows gap P F few) (With w bound price most P) (λ m u d. (d.0, ⊎_elim (λ f. let h = f.1 in omega (arith, h, le)) (λ h. omega (arith, h, le)) d.1)) on

  pub known_more :
      (N K : ℕ) (s : State) (P F : State → Type 0) (gap few gap' few' : ℕ) → few ≤ few' → few + gap ≤ few' + gap' → Leads w bound price slip N K s (Knows gap P F few)
      → Leads w bound price slip N K s (Knows gap' P F few')
  known_more N K s P F gap few gap' few' a b on =
      leads_map w bound price slip N K s (Knows gap' P F few') (Knows gap P F few) (λ m u d. (d.0, ⊎_elim (λ f. let h = f.1 in inl (f.0, omega (arith, h, a))) (λ h. inr (omega (arith, h, b))) d.1)) on

  -- a step to another property, with another fact
  abbrev pub Gives : (State → Type 0) → (State → Type 0) → (State → Type 0) → (State → Type 0) → Type 0
  Gives P Q F G = (u : State) → P u → IsOver (step u).outcome ⊎ (Q (step u) × (F u → G (step u)))

  module _ (gap : ℕ) (small : gap ≤ price) where
    pub knows_lasts : (P F : State → Type 0) (few : ℕ) → Lasts w bound price P → LastsWith w bound price (Knows gap P F few)
    knows_lasts P F few l m u v d one c = (l u v d.0 c, inr (⊎_elim (λ f. let h = f.1 in omega (arith, small, h)) (λ h. omega (arith, h)) d.1))

    -- a word, with one move more
    pub leads_known :
        (N K : ℕ) (s : State) (P Q F G : State → Type 0) (few few' : ℕ) → suc few' ≤ few → Lasts w bound price P → Gives P Q F G
        → (slip ≡ true → Recovers w bound price (IsSteady w.reached s) (step s) N K (Knows gap P F few)) → Leads w bound price slip N K s (Knows gap Q G few') → Leads w bound price slip (suc N) K s (Knows gap P F few)
    leads_known N K s P Q F G few few' le lasts goes mend on =
        leads_step w bound price slip N K s (Knows gap P F few) (Knows gap Q G few') (knows_lasts P F few lasts)
        (λ m u d.
        ⊎_elim
        (λ o. inl o)
        (λ q.
        ⊎_elim
        (λ f. let h = f.1 in inr (m - 1, omega (arith, h, le), (q.0, inl (q.1 f.0, omega (arith, h, le)))))
        (λ h. inr (m - 1, omega (arith, h, le), (q.0, inr (omega (arith, h, le)))))
        d.1)
        (goes u d.0))
        mend on

    -- and with as many
    pub known_word :
        (N K : ℕ) (s : State) (P Q F G : State → Type 0) (few few' : ℕ) → suc few' ≤ few → Lasts w bound price P → Gives P Q F G
        → (slip ≡ true → Recovers w bound price (IsSteady w.reached s) (step s) N K (Knows gap P F few)) → Leads w bound price slip N K s (Knows gap Q G few') → Leads w bound price slip N K s (Knows gap P F few)
    known_word N K s P Q F G few few' le lasts goes mend on =
        leads_less w bound price slip (suc N) N K K s (Knows gap P F few) (omega arith) (omega arith) (leads_known N K s P Q F G few few' le lasts goes mend on)

    -- a comparison over an EBREAK, with a fact of x15
    pub known_compare :
        (N K : ℕ) (s : State) (P Q : State → Type 0) (F : ℕ → Type 0) (r q few few' : ℕ) → suc few' ≤ few → Lasts w bound price P
        → ((u : State) → P u → Over w.code u × (w.code u.pc ≡ Known (ins Beq 0 r q (pos 8))) × (w.code (u.pc + 4) ≡ Known (ins Ebreak 0 0 0 (pos 0))))
        → ((u : State) → P u → reg u r ≡ reg u q → Q (moved u.regs (u.pc + 4 + 4) u)) → Leads w bound price slip N K s (Knows gap Q (Fifteen F) few')
        → Leads w bound price slip N K s (Knows gap P (Fifteen F) few)
    known_compare N K s P Q F r q few few' le lasts stands equal on =
        let Either_way : State → Type 0 = λ u. Firing w u ⊎ Q u in
        known_word N K s P Either_way (Fifteen F) (Fifteen F) few few' le lasts
        (λ u b.
        let h = stands u b in
        ⊎_elim
        (λ f. inr (inl f.0, λ k. subst (λ y. F (reg y 15)) (sym f.1) k))
        (λ g. inr (inr (subst Q (sym g.0) (equal u b g.1)), λ k. subst (λ y. F (reg y 15)) (sym g.0) k))
        (compare_step w u r q h.0 h.1 h.2))
        (λ is. mends_compare w bound price (IsSteady w.reached s) (step s) N K r q (Knows gap P (Fifteen F) few) (λ m u d. let h = stands u d.0 in (h.0, (h.1, h.2))))
        (leads_map w bound price slip N K s (Knows gap Either_way (Fifteen F) few') (Either w bound price (With w bound price 0 (Firing w)) (Knows gap Q (Fifteen F) few'))
        (λ m u d. ⊎_elim (λ f. inl (f, omega arith)) (λ q. inr (q, d.1)) d.0)
        (leads_either w bound price slip N K s (With w bound price 0 (Firing w)) (Knows gap Q (Fifteen F) few') (leads_fired w bound price slip N K s) on))

-- a run begins with a step
run_later : (u : State) (k : ℕ) → run u (suc k) ≡ run (step u) k
unfolding run
run_later u k = refl

-- ---- the look-ups
module _ (w : World) (near : w.form.far ≡ false) where
  -- the last word of the look-ups, behind them
  abbrev pub leap : List Item
  leap = Plain (ins Jalr 0 TEMPORARY 0 (pos 0)) ∷ []

  -- it goes to the entry that x30 has
  pub leap_is : (a : ℕ) (t u : State) (xs : List Item) → IsEntryOf w a → Holding w a t 30 (w.entry a) u → Reads false w.code w.entry u.pc (leap ++ xs) → step u ≡ moved u.regs (w.entry a) u
  leap_is a t u xs entry b r = walked w u (moved u.regs (w.entry a) u) (entry_leap w u a xs entry b.1 (half_over w a t u b.0) (to_far w near u.pc (leap ++ xs) r))

  module _ (leader : ℕ → Bool) (loses : Loses w leader) (a : ℕ) (t : State) where
    -- with the distance in x14 again
    abbrev Restored : State → Type 0
    Restored u = (p : ℕ) → Half w a t (moved (set_reg 14 w.distance u.regs) p u)

    restored_lasts : (u v : State) → Restored u → Disturbed w u v → Restored v
    restored_lasts u v f c p =
        half_disturbed w a t (moved (set_reg 14 w.distance u.regs) p u) (moved (set_reg 14 w.distance v.regs) p v) (f p) (set_disturbed w 14 w.distance p u v (omega arith) c)

    restored_long : (u : State) → Restored u → length u.regs ≡ 32
    restored_long u f = sym (length-set_reg u.regs 14 w.distance) ∙ (f 0).standing.flagged.regs

    restored_over : (u : State) → Restored u → Over w.code u
    restored_over u f = record { going = (f 0).going; code = (f 0).standing.code }

    restored_half : (u : State) → Half w a t u → Restored u
    restored_half u h q = subst (λ l. Half w a t (moved l q u)) (sym (ap (λ n. set_reg 14 n u.regs) (sym h.distance) ∙ set-get_or u.regs 14 0)) (half_moved w a t u q h)

    -- x14 may be set, and x31
    restored_14 : (u : State) (v p : ℕ) → Restored u → Restored (moved (set_reg 14 v u.regs) p u)
    restored_14 u v p f q = subst (λ l. Half w a t (moved l q u)) (sym (set-set u.regs 14 v w.distance)) (f q)

    restored_31 : (u : State) (v p : ℕ) → Restored u → Restored (moved (set_reg 31 v u.regs) p u)
    restored_31 u v p f q =
        subst (λ l. Half w a t (moved l q u)) (set_comm u.regs 14 31 w.distance v (λ e. absurd (omega (arith, e)))) (half_spare w a t (moved (set_reg 14 w.distance u.regs) q u) 31 v q refl (f q))

    -- whatever is in x14
    restored_standing : (u : State) (v p : ℕ) → Restored u → Standing w.code w.output (moved (set_reg 14 v u.regs) p u)
    restored_standing u v p f =
        let s = (f p).standing in
        let zero_same : reg u 0 ≡ 0 = sym (slice_index-set_reg_other u.regs 14 w.distance 0 (λ e. absurd (omega (arith, e)))) ∙ s.flagged.zero_reg in
        record {
          code = s.code;
          flagged = record { flags = s.flagged.flags; regs = length-set_reg u.regs 14 v ∙ restored_long u f; zero_reg = slice_index-set_reg_other u.regs 14 v 0 (λ e. absurd (omega (arith, e))) ∙ zero_same };
        }

    -- behind the load
    abbrev Loaded : State → Type 0
    Loaded u = Restored u × ((reg u 31 + reg u 14) % 2 ^ 64 ≡ w.entry a)

    -- and with the entry in x31
    abbrev Led : State → Type 0
    Led u = Restored u × (reg u 31 ≡ w.entry a)

    -- with the entry in x30, whatever x14 and x31 have
    abbrev Aimed : State → Type 0
    Aimed u = Restored u × (reg u 30 ≡ w.entry a)

    aimed_lasts : (u v : State) → Aimed u → Disturbed w u v → Aimed v
    aimed_lasts u v b c = (restored_lasts u v b.0 c, c.thirty ∙ b.1)

    -- what the second look-up writes
    abbrev written : ℕ → Bool
    written r = (r == 0) || ((r == 14) || (r == 31))

    aimed_set : (u : State) (r x p : ℕ) → Aimed u → written r ≡ true → Aimed (moved (set_reg r x u.regs) p u)
    aimed_set u r x p b e =
        let As : ℕ → Type 0 = λ n. Aimed (moved (set_reg n x u.regs) p u) in
        ⊎_elim
        (λ z. subst As (sym (eqb-true r 0 z)) b)
        (λ h.
        ⊎_elim
        (λ z. subst As (sym (eqb-true r 14 z)) (restored_14 u x p b.0, slice_index-set_reg_other u.regs 14 x 30 (λ k. absurd (omega (arith, k))) ∙ b.1))
        (λ z. subst As (sym (eqb-true r 31 z)) (restored_31 u x p b.0, slice_index-set_reg_other u.regs 31 x 30 (λ k. absurd (omega (arith, k))) ∙ b.1))
        (or_cases (r == 14) _ h))
        (or_cases (r == 0) _ e)

    aimed_keeps : Carried w written false Aimed
    aimed_keeps = record {
      over = λ u b. restored_over u b.0;
      word = λ u i b h k. ⊎_elim (λ o. inl o) (λ z. inr (subst Aimed (sym z.ends) (aimed_set u z.rd z.value (u.pc + 4) b z.may), ap (λ y. y.pc) z.ends)) (spare_step w written u i refl (restored_over u b.0) h k);
      goes = λ u p b. b;
    }

    module _ (tb : TableAt w a) (entry : IsEntryOf w a) (leads : leader a ≡ true) (xs : List Item) where
      abbrev d : ℕ
      d = w.distance

      -- the words of the second look-up
      abbrev adds_14 : Ins
      adds_14 = ins Add SPARE DISTANCE DISTANCE (pos 0)

      abbrev adds_16 : Ins
      adds_16 = ins Add SPARE SPARE SIGNATURE (pos 0)

      abbrev loads : Ins
      loads = ins Lw DISTANCE SPARE 0 (pos 0)

      abbrev adds_word : Ins
      adds_word = ins Add SPARE SPARE DISTANCE (pos 0)

      abbrev restores : Ins
      restores = ins Lui DISTANCE 0 0 (pos d)

      -- from its end
      abbrev tail5 : List Item
      tail5 = Plain (ins Beq 0 TEMPORARY SPARE (pos 8)) ∷ fired_check ∷ leap ++ xs

      abbrev tail4 : List Item
      tail4 = Plain restores ∷ tail5

      abbrev tail3 : List Item
      tail3 = Plain adds_word ∷ tail4

      abbrev tail2 : List Item
      tail2 = Plain loads ∷ tail3

      abbrev tail1 : List Item
      tail1 = Plain adds_16 ∷ tail2

      -- ---- both look-ups, with a fact of x15
      module _ (bound price : ℕ) (slip : Bool) (N K : ℕ) (s : State) (F : ℕ → Type 0) (gap few : ℕ) (small : gap ≤ price) where
        abbrev S : ℕ → Type 0
        S = IsSteady w.reached s

        abbrev Before : (State → Type 0) → List Item → State → Type 0
        Before P items = Before_words w bound price P items

        -- some words, with `n` steps more
        abbrev At : (State → Type 0) → List Item → ℕ → ℕ → State → Type 0
        At P items n = Knows w bound price slip gap (Before P items) (Fifteen F) (n + few)

        abbrev Has : (State → Type 0) → List Item → ℕ → Type 0
        Has P items n = Leads w bound price slip N K s (At P items n)

        -- behind a slip, with no fact
        abbrev Behind : (State → Type 0) → List Item → ℕ → Type 0
        Behind P items n = Onto w bound price false N K s (n + (few + gap)) (Before P items)

        -- what stands before the last word
        abbrev pub Found : State → Type 0
        Found = Before (Holding w a t 30 (w.entry a)) (leap ++ xs)

        holds_31 : (n : ℕ) → Lasts w bound price (Holding w a t 31 n)
        holds_31 n u v b c = (half_lasts w bound price a t u v b.0 c, c.last ∙ b.1)

        plain_of : (P : State → Type 0) (items : List Item) (n : ℕ) → Has P items n → Behind P items n
        plain_of P items n on = known_with w bound price false N K s (Before P items) (Fifteen F) gap (n + few) (n + (few + gap)) (omega arith) (every_plain w bound price slip S (step s) N K (At P items n) on)

        -- a slip of a word that computes or loads: with any number in its register the state has R
        gives_any :
            (i : Ins) (P R : State → Type 0) (rest : List Item) (n k : ℕ) → k ≤ n → (class_of i.kind ≡ class.Compute) ⊎ (class_of i.kind ≡ class.Load)
            → ((u : State) (x : ℕ) → Before P (Plain i ∷ rest) u → Calm w u → R (moved (set_reg i.rd x u.regs) (u.pc + 4) u)) → Behind R rest k → Recovers w bound price S (step s) N K (At P (Plain i ∷ rest) n)
        gives_any i P R rest n k le c any off =
            mends w bound price S (step s) N K (At P (Plain i ∷ rest) n) (With w bound price (k + (few + gap)) (Before R rest))
            (λ m u b j v known sl calm.
            let g = slip_gives w i u v c (subst (λ z. Slip w z u v) (sym (same_word w u.pc i j b.0.1.0 known)) sl) in
            inr (inr (subst (Before R rest) (sym g.1.2) (any u g.1.0 b.0 calm, b.0.1.1), ⊎_elim (λ f. let h = f.1 in omega (arith, h, le, small)) (λ h. omega (arith, h, le)) b.1)))
            off

        -- a word that leaves x15 alone
        kept_word :
            (i : Ins) (rest : List Item) (n k : ℕ) → suc k ≤ n → (class_of i.kind ≡ class.Compute) ⊎ (class_of i.kind ≡ class.Load) → is_spare i.rd ≡ true → keeps (but 15) false i ≡ true
            → Has (Half w a t) rest k → Has (Half w a t) (Plain i ∷ rest) n
        kept_word i rest n k h c spare e on =
            let H : State → Type 0 = Half w a t in
            known_word w bound price slip gap small N K s (Before H (Plain i ∷ rest)) (Before H rest) (Fifteen F) (Fifteen F) (n + few) (k + few) (omega (arith, h)) (words_last w bound price H (Plain i ∷ rest) (half_lasts w bound price a t))
            (λ u b.
            ⊎_elim
            (λ o. inl o)
            (λ g. inr ((g.0.0, subst (λ p. Reads false w.code w.entry p rest) (sym g.1) b.1.1), λ f. subst F (sym g.0.1) f))
            (kept_step w a t u b.0 i b.1.0 e))
            (λ is. gives_any i H H rest n k (omega (arith, h)) c (λ u x b calm. half_spare w a t u i.rd x (u.pc + 4) spare b.0) (plain_of H rest k on))
            on

        -- ---- the words of the second look-up: they leave x15 and x30
        abbrev Goes : Ins → (State → Type 0) → (State → Type 0) → List Item → Type 0
        Goes i P Q rest = (u : State) → Before P (Plain i ∷ rest) u → Before Q rest (step u) × ((reg (step u) 15 ≡ reg u 15) × (reg (step u) 30 ≡ reg u 30))

        again_word : (i : Ins) (P Q : State → Type 0) (rest : List Item) (n k : ℕ) → suc k ≤ n → Lasts w bound price P → Goes i P Q rest → Recovers w bound price S (step s) N K (At P (Plain i ∷ rest) n) → Has Q rest k → Has P (Plain i ∷ rest) n
        again_word i P Q rest n k h lasts goes mend on =
            known_word w bound price slip gap small N K s (Before P (Plain i ∷ rest)) (Before Q rest) (Fifteen F) (Fifteen F) (n + few) (k + few) (omega (arith, h))
            (words_last w bound price P (Plain i ∷ rest) lasts) (λ u b. let g = goes u b in inr (g.0, λ f. subst F (sym g.1.0) f)) (λ is. mend) on

        computing :
            (i : Ins) (P Q : State → Type 0) (rest : List Item) → class_of i.kind ≡ class.Compute → (15 ≡ i.rd → ⊥) → (30 ≡ i.rd → ⊥) → ((u : State) → P u → Over w.code u)
            → ((u : State) (p : ℕ) → P u → Q (moved (set_reg i.rd (result i.kind i u) u.regs) p u)) → Goes i P Q rest
        computing i P Q rest c ne15 ne30 over goes u b =
            let e = computes w i u (over u b.0) b.1.0 c in
            let v = result i.kind i u in (
              subst (Before Q rest) (sym e) (goes u (u.pc + 4) b.0, b.1.1),
              (ap (λ y. reg y 15) e ∙ slice_index-set_reg_other u.regs i.rd v 15 ne15, ap (λ y. reg y 30) e ∙ slice_index-set_reg_other u.regs i.rd v 30 ne30),
            )

        -- x31 gets the address of the table's word
        sums_31 :
            (b c x y z : ℕ) (u : State) (p : ℕ) → (x + y) % 2 ^ 64 ≡ z → Half w a t u → reg u b ≡ x → reg u c ≡ y
            → Holding w a t 31 z (moved (set_reg 31 (result Add (ins Add 31 b c (pos 0)) u) u.regs) p u)
        sums_31 b c x y z u p e h eb ec =
            holding_set w a t u 31 (result Add (ins Add 31 b c (pos 0)) u) z p refl (omega arith) (omega arith) h (add_result u 31 b c x y z eb ec e)

        doubles : Goes adds_14 (Half w a t) (Holding w a t 31 (2 * d)) tail1
        doubles =
            computing adds_14 (Half w a t) (Holding w a t 31 (2 * d)) tail1 refl (λ e. absurd (omega (arith, e))) (λ e. absurd (omega (arith, e))) (half_over w a t)
            (λ u p h. sums_31 14 14 d d (2 * d) u p (omega (arith, tb.low)) h h.distance h.distance)

        points : Goes adds_16 (Holding w a t 31 (2 * d)) (Holding w a t 31 (a + 2 * d)) tail2
        points =
            computing adds_16 (Holding w a t 31 (2 * d)) (Holding w a t 31 (a + 2 * d)) tail2 refl (λ e. absurd (omega (arith, e))) (λ e. absurd (omega (arith, e))) (λ u b. half_over w a t u b.0)
            (λ u p b. sums_31 31 16 (2 * d) a (a + 2 * d) u p (omega (arith, tb.low)) b.0 b.1 b.0.sign)

        -- x14 gets it
        loading : Goes loads (Holding w a t 31 (a + 2 * d)) Loaded tail3
        loading u b =
            let h = b.0.0 in
            let long = h.standing.flagged.regs in
            let o = half_over w a t u h in
            let tab : Tabled w u = record { output = h.standing.flagged; distance = h.distance; fixed = h.fixed } in
            let v = word w u a tb o tab in
            let there = table_word w u a tb o tab in
            let s = table_load w u a tb o tab 14 31 u.regs u.pc tail3 b.0.1 (λ e. absurd (omega (arith, e))) (to_far w near u.pc tail2 b.1) in
            let is : step u ≡ moved (set_reg 14 v u.regs) s.pc u = walked w u _ s.walk in
            let e31 : reg (step u) 31 ≡ a + 2 * d = ap (λ y. reg y 31) is ∙ slice_index-set_reg_other u.regs 14 v 31 (λ e. absurd (omega (arith, e))) ∙ b.0.1 in
            let e14 : reg (step u) 14 ≡ v = ap (λ y. reg y 14) is ∙ slice_index-set_reg_same u.regs 14 v (omega arith) (omega (arith, long)) in (
              (
                (subst Restored (sym is) (restored_14 u v s.pc (restored_half u h)), ap (λ n. (reg (step u) 31 + n) % 2 ^ 64) e14 ∙ ap (λ n. (n + v) % 2 ^ 64) e31 ∙ turned (a + 2 * d) v (w.entry a) there),
                subst (λ p. Reads false w.code w.entry p tail3) (sym (ap (λ y. y.pc) is)) (to_near w near s.pc tail3 s.reads),
              ),
              (
                ap (λ y. reg y 15) is ∙ slice_index-set_reg_other u.regs 14 v 15 (λ e. absurd (omega (arith, e))),
                ap (λ y. reg y 30) is ∙ slice_index-set_reg_other u.regs 14 v 30 (λ e. absurd (omega (arith, e))),
              ),
            ) where
              turned : (n v e : ℕ) → (v + n) % 2 ^ 64 ≡ e → (n + v) % 2 ^ 64 ≡ e
              turned n v e h = omega (arith, h)

        -- x31 gets the entry
        leading : Goes adds_word Loaded Led tail4
        leading =
            computing adds_word Loaded Led tail4 refl (λ e. absurd (omega (arith, e))) (λ e. absurd (omega (arith, e))) (λ u b. restored_over u b.0)
            (λ u p b.
            let v = result Add (ins Add 31 31 14 (pos 0)) u in
            let long = restored_long u b.0 in
            (restored_31 u v p b.0, slice_index-set_reg_same u.regs 31 v (omega arith) (omega (arith, long)) ∙ add_result u 31 31 14 (reg u 31) (reg u 14) (w.entry a) refl refl b.1))

        -- x14 is the distance again
        restored_behind : (u : State) (p : ℕ) → Restored u → Half w a t (moved (set_reg 14 (result Lui restores u) u.regs) p u)
        restored_behind u p f = subst (λ n. Half w a t (moved (set_reg 14 n u.regs) p u)) (sym (lui_small u 14 d (omega (arith, tb.low)))) (f p)

        restoring : Goes restores Led (Holding w a t 31 (w.entry a)) tail5
        restoring =
            computing restores Led (Holding w a t 31 (w.entry a)) tail5 refl (λ e. absurd (omega (arith, e))) (λ e. absurd (omega (arith, e))) (λ u b. restored_over u b.0)
            (λ u p b. (restored_behind u p b.0, slice_index-set_reg_other u.regs 14 (result Lui restores u) 31 (λ e. absurd (omega (arith, e))) ∙ b.1))

        -- ---- what a run tells that is not over soon: x30 has the entry
        abbrev Tells : (State → Type 0) → List Item → ℕ → Type 0
        Tells P items n = (u : State) → Before P items u → ((k : ℕ) → k ≤ n → IsOver (run u k).outcome → ⊥) → reg u 30 ≡ w.entry a

        tells_word : (i : Ins) (P Q : State → Type 0) (rest : List Item) (n m : ℕ) → suc n ≤ m → Goes i P Q rest → Tells Q rest n → Tells P (Plain i ∷ rest) m
        tells_word i P Q rest n m h goes on u b quiet =
            let g = goes u b in
            sym g.1.1 ∙ on (step u) g.0 (λ k le o. quiet (suc k) (omega (arith, le, h)) (subst (λ y. IsOver y.outcome) (sym (run_later u k)) o))

        -- the comparison passes
        tells_5 : Tells (Holding w a t 31 (w.entry a)) tail5 2
        tells_5 u b quiet =
            ⊎_elim
            (λ f. absurd (quiet 2 (omega arith) (subst (λ y. IsOver y.outcome) (sym (run-more u 1 1 ∙ ap (λ z. run z 1) (one_run u) ∙ one_run (step u))) (firing_over w (step u) f.0))))
            (λ g. g.1 ∙ b.0.1)
            (compare_step w u 30 31 (half_over w a t u b.0.0) b.1.0 b.1.1.0)

        tells_4 : Tells Led tail4 3
        tells_4 = tells_word restores Led (Holding w a t 31 (w.entry a)) tail5 2 3 (omega arith) restoring tells_5

        tells_3 : Tells Loaded tail3 4
        tells_3 = tells_word adds_word Loaded Led tail4 3 4 (omega arith) leading tells_4

        tells_2 : Tells (Holding w a t 31 (a + 2 * d)) tail2 5
        tells_2 = tells_word loads (Holding w a t 31 (a + 2 * d)) Loaded tail3 4 5 (omega arith) loading tells_3

        tells_1 : Tells (Holding w a t 31 (2 * d)) tail1 6
        tells_1 = tells_word adds_16 (Holding w a t 31 (2 * d)) (Holding w a t 31 (a + 2 * d)) tail2 5 6 (omega arith) points tells_2

        tells_0 : Tells (Half w a t) (Plain adds_14 ∷ tail1) 7
        tells_0 = tells_word adds_14 (Half w a t) (Holding w a t 31 (2 * d)) tail1 6 7 (omega arith) doubles tells_1

        -- ---- behind a slip x30 has the entry, x14 and x31 have anything
        aimed_restores : Leads w bound price slip N K s (Knows w bound price slip gap Found (Fifteen F) few) → Behind Aimed tail4 2
        aimed_restores on =
            let H : State → Type 0 = Holding w a t 30 (w.entry a) in
            let m = few + gap in
            leads_compute w bound price false S (step s) N K restores Aimed H tail5 (1 + m) (2 + m) (omega arith) refl aimed_lasts (λ u b. restored_over u b.0)
            (λ u p b. (restored_behind u p b.0, slice_index-set_reg_other u.regs 14 (result Lui restores u) 30 (λ e. absurd (omega (arith, e))) ∙ b.1))
            (λ e. absurd (false≢true e))
            (leads_compare w bound price false N K s 30 31 H H (leap ++ xs) m (1 + m) (omega arith) (holding_lasts w bound price a t (w.entry a)) (λ u b. half_over w a t u b.0) (λ u p b e. (half_moved w a t u p b.0, b.1))
            (known_with w bound price false N K s Found (Fifteen F) gap few m (omega arith) (every_plain w bound price slip S (step s) N K (Knows w bound price slip gap Found (Fifteen F) few) on)))

        aimed_words : (words : List Item) (n : ℕ) → Keep written false words → cost words + 2 ≤ n → Behind Aimed tail4 2 → Behind Aimed (words ++ tail4) n
        aimed_words words n k le on =
            let m = few + gap in
            leads_more w bound price false N K s (Before Aimed (words ++ tail4)) (cost words + (2 + m)) (n + m) (omega (arith, le)) (leads_keep w bound price false written false Aimed aimed_keeps aimed_lasts aimed_set N K s tail4 (2 + m) on words k)

        -- a slip of a word before the comparison
        aims :
            (i : Ins) (P : State → Type 0) (rest : List Item) (n m : ℕ) → m ≤ 9 → (class_of i.kind ≡ class.Compute) ⊎ (class_of i.kind ≡ class.Load) → written i.rd ≡ true → ((u : State) → P u → Restored u)
            → Tells P (Plain i ∷ rest) m → Behind Aimed rest n → Recovers w bound price S (step s) N K (At P (Plain i ∷ rest) n)
        aims i P rest n m le c may restored tells off =
            gives_any i P Aimed rest n n (omega arith) c (λ u x b calm. aimed_set u i.rd x (u.pc + 4) (restored u b.0, tells u b (λ k h. calm.quiet k (omega (arith, h, le)))) may) off

        -- another number in x14: the comparison fires, or the run is lost at the entry
        stops_14 : (u : State) (y : ℕ) → Before Led tail4 u → Calm w u → (y ≡ d → ⊥) → Stopped slip_steps (moved (set_reg 14 y u.regs) (u.pc + 4) u)
        stops_14 u y b calm ne =
            let v = moved (set_reg 14 y u.regs) (u.pc + 4) u in
            let o = over_moved w.code u (set_reg 14 y u.regs) (u.pc + 4) (restored_over u b.0.0) in
            let long = restored_long u b.0.0 in
            let z = moved v.regs (v.pc + 4 + 4) v in
            let end = moved v.regs (w.entry a) v in
            ⊎_elim
            (λ f. stopped_more 2 slip_steps v (omega arith) (stopped_step 1 v (stopped_now (step v) (firing_over w (step v) f.0))))
            (λ g.
            let at30 : reg z 30 ≡ w.entry a = g.1 ∙ other 31 (λ e. absurd (omega (arith, e))) ∙ b.0.1 in
            let is : step z ≡ end = walked w z end (entry_leap w z a xs entry at30 (over_moved w.code v v.regs (v.pc + 4 + 4) o) (to_far w near z.pc (leap ++ xs) b.1.1.1.1)) in
            let same : reg end 14 ≡ y = slice_index-set_reg_same u.regs 14 y (omega arith) (omega (arith, long)) in
            let lost : Stopped lost_steps end =
            loses a end leads (b.0.0 0).going (restored_standing u y (w.entry a) b.0.0) refl (few_of 16 (λ e. absurd (omega (arith, e)))) (few_of 15 (λ e. absurd (omega (arith, e)))) (inr (λ e. ne (sym same ∙ e))) in
            stopped_more (suc (suc lost_steps)) slip_steps v (omega arith) (stopped_step (suc lost_steps) v (subst (Stopped (suc lost_steps)) (sym g.0) (stopped_step lost_steps z (subst (Stopped lost_steps) (sym is) lost)))))
            (compare_step w v 30 31 o b.1.1.0 b.1.1.1.0) where
              other : (q : ℕ) → (q ≡ 14 → ⊥) → slice_index (set_reg 14 y u.regs) q ≡ reg u q
              other q n = slice_index-set_reg_other u.regs 14 y q n

              few_of : (q : ℕ) → (q ≡ 14 → ⊥) → slice_index (set_reg 14 y u.regs) q < 2 ^ 64
              few_of q n = subst (λ x. x < 2 ^ 64) (sym (other q n)) (calm.small q)

        -- a slip of LUI
        mends_14 : Recovers w bound price S (step s) N K (At Led tail4 2)
        mends_14 =
            mends w bound price S (step s) N K (At Led tail4 2) (λ m u. ⊥)
            (λ m u b j v known sl calm.
            let g = slip_gives w restores u v (inl refl) (subst (λ z. Slip w z u v) (sym (same_word w u.pc restores j b.0.1.0 known)) sl) in
            ⊎_elim
            (λ e.
            let lui = lui_small u 14 d (omega (arith, tb.low)) in
            inr (inl (g.1.2 ∙ ap (λ n. moved (set_reg 14 n u.regs) (u.pc + 4) u) (e ∙ sym lui) ∙ sym (computes w restores u (restored_over u b.0.0.0) b.0.1.0 refl))))
            (λ ne. inl (subst (Stopped slip_steps) (sym g.1.2) (stops_14 u g.1.0 b.0 calm ne)))
            (cases_eq g.1.0 d))
            (λ n k m u n_le k_le st b. absurd b)

        -- ---- the second look-up, up to before its last word
        again_known : Leads w bound price slip N K s (Knows w bound price slip gap Found (Fifteen F) few) → Has (Half w a t) (Plain adds_14 ∷ tail1) 6
        again_known on =
            let H : ℕ → State → Type 0 = λ n. Holding w a t 31 n in
            let off : Behind Aimed tail4 2 = aimed_restores on in
            let compared : Has (H (w.entry a)) tail5 1 =
            known_compare w bound price slip gap small N K s (Before (H (w.entry a)) tail5) Found F 30 31 (1 + few) few (omega arith) (words_last w bound price (H (w.entry a)) tail5 (holds_31 (w.entry a)))
            (λ u b. (half_over w a t u b.0.0, b.1.0, b.1.1.0)) (λ u b e. ((half_moved w a t u (u.pc + 4 + 4) b.0.0, e ∙ b.0.1), b.1.1.1)) on in
            again_word adds_14 (Half w a t) (H (2 * d)) tail1 6 5 (omega arith) (half_lasts w bound price a t) doubles
            (aims adds_14 (Half w a t) tail1 6 7 (omega arith) (inl refl) refl restored_half tells_0 (aimed_words (Plain adds_16 ∷ Plain loads ∷ Plain adds_word ∷ []) 6 (inl refl, (inl refl, (inl refl, tt))) (omega arith) off))
            (again_word adds_16 (H (2 * d)) (H (a + 2 * d)) tail2 5 4 (omega arith) (holds_31 (2 * d)) points
            (aims adds_16 (H (2 * d)) tail2 5 6 (omega arith) (inl refl) refl (λ u b. restored_half u b.0) tells_1 (aimed_words (Plain loads ∷ Plain adds_word ∷ []) 5 (inl refl, (inl refl, tt)) (omega arith) off))
            (again_word loads (H (a + 2 * d)) Loaded tail3 4 3 (omega arith) (holds_31 (a + 2 * d)) loading
            (aims loads (H (a + 2 * d)) tail3 4 5 (omega arith) (inr refl) refl (λ u b. restored_half u b.0) tells_2 (aimed_words (Plain adds_word ∷ []) 4 (inl refl, tt) (omega arith) off))
            (again_word adds_word Loaded Led tail4 3 2 (omega arith)
            (λ u v b k. (restored_lasts u v b.0 k, ap (λ n. (n + reg v 14) % 2 ^ 64) k.last ∙ ap (λ n. (reg u 31 + n) % 2 ^ 64) (k.low 14 (omega arith)) ∙ b.1)) leading
            (aims adds_word Loaded tail4 3 4 (omega arith) (inl refl) refl (λ u b. b.0) tells_3 (aimed_words [] 3 tt (omega arith) off))
            (again_word restores Led (H (w.entry a)) tail5 2 1 (omega arith) (λ u v b k. (restored_lasts u v b.0 k, k.last ∙ b.1)) restoring mends_14 compared))))

        -- both
        pub looks_known : (r : ℕ) → Leads w bound price slip N K s (Knows w bound price slip gap Found (Fifteen F) few) → Has (Half w a t) ((look_up r ++ look_again d) ++ xs) 10
        looks_known r on =
            let load = ins Lw TEMPORARY SPARE 0 (pos 0) in
            let last = ins Add TEMPORARY TEMPORARY SPARE (pos 0) in
            let again = Plain adds_14 ∷ tail1 in
            kept_word (ins Add SPARE r DISTANCE (pos 0)) (Plain adds_word ∷ Plain load ∷ Plain last ∷ again) 10 9 (omega arith) (inl refl) refl refl
            (kept_word adds_word (Plain load ∷ Plain last ∷ again) 9 8 (omega arith) (inl refl) refl refl
            (kept_word load (Plain last ∷ again) 8 7 (omega arith) (inr refl) refl refl
            (kept_word last again 7 6 (omega arith) (inl refl) refl refl (again_known on))))

      -- with no fact, from any state of the half
      pub looks_to :
          (bound price : ℕ) (slip : Bool) (s : State) (r N K most : ℕ) → Onto w bound price slip N K s most (Before_words w bound price (Holding w a t 30 (w.entry a)) (leap ++ xs))
          → Onto w bound price slip N K s (10 + most) (Into w a t ((look_up r ++ look_again w.distance) ++ xs))
      looks_to bound price slip s r N K most on =
          let F : ℕ → Type 0 = λ n. ⊥ in
          known_with w bound price slip N K s (Into w a t ((look_up r ++ look_again w.distance) ++ xs)) (Fifteen F) 0 (10 + most) (10 + most) (omega arith)
          (looks_known bound price slip N K s F 0 most (omega arith) r (with_known w bound price slip N K s (Before_words w bound price (Holding w a t 30 (w.entry a)) (leap ++ xs)) (Fifteen F) 0 most most (omega arith) on))
