-- An entry, under changes of the duplicate half, and with a slip: its tick passes, or the check returns to it, and then
-- it passes or it cost a change.
use Rattle.std.proofs.Common.{◌≡◌, ℕ, zero, suc, ◌+◌, ◌*◌, ◌%◌, ◌^◌, ◌<◌, ◌≤◌, ◌⊎◌, inl, inr, ⊎_elim, Bool, true, false, cond, List, [], ◌∷◌, ◌++◌, refl, sym, ap, ◌∙◌, subst, append_assoc, arith}
use Rattle.std.specs.Prelude.{◌-◌, pos}
use Rattle.std.proofs.lemmas.Bool.{cases_lt}
use Rattle.rv_isa.specs.declared.class.Class.TheVariants as class
use Rattle.machine.specs.Table.{ins, Ins, Auipc, Beq, Bge, Jal, Jalr, Ebreak, Slli, Addi, Sub}
use Rattle.machine.specs.Offsets.{distance_between, upper_part, lower_part}
use Rattle.qed_model.specs.Promise.Kept.{IsSteady}
use Rattle.qed_model.specs.Weave.Lean.{tick, enter, call_at, called, check, check_distance, begun, done, first_word, look_up, look_again, cost}
use Rattle.qed_model.specs.Weave.LeanBounds.{entry_steps, call_steps}
use Rattle.qed_model.specs.Weave.LeanCode.{Lean}
use Rattle.qed_model.specs.Weave.Sequences.{Reads, check_sign, compare, visit, visit_word, wraps, CURSOR, SIGNATURE, TEMPORARY, SPARE}
use Rattle.weave_core.specs.Kinds.{originals}
use Rattle.weave_core.specs.World.{World, Item, Plain, Constant, State, reg, set_reg, moved, jumped, target, wrapped, holds, Known, step, class_of}
use Rattle.lean.specs.Strayed.{IsOver, Stopped}
use Rattle.lean.specs.Undisturbed.{slip_steps}
use Rattle.lean.specs.Woven.{LeanIn}
use Rattle.lean.proofs.Weave.Beyond.{Beyond}
use Rattle.lean.proofs.Weave.Carry.{Keep, keeps, keep_append, keep_guards, keep_distance, branch_taken, branch_passed, jumped_to, over_moved, addi_value}
use Rattle.lean.proofs.Weave.Check.{slli_value as slli_12}
use Rattle.lean.proofs.Weave.Tick.{shifted, slli_value, low_holds, high_holds, jal_walk, jump_at}
use Rattle.lean.proofs.Weave.Half.{is_spare, but, Half, Into, half_over, half_spare, half_moved, spare_pair, Holding}
use Rattle.lean.proofs.Weave.Robust.{Slip, Calm, Recovers, mends, slip_gives, slip_branch, slip_skips, same_word, every_plain, stopped_more, stopped_now, firing_over, Leads, With, Lasts, leads_zero, leads_less, leads_map, Either, leads_either, half_lasts, into_lasts, half_leads, leads_word, leads_more, leads_as, Before_words, words_last, holding_lasts, Onto, walked, kept_step, set_step, leads_next}
use Rattle.lean.proofs.Weave.RobustLooks.{Fifteen, Knows, known_with, with_known, known_more, knows_lasts, leads_known, known_word, known_compare, leap, leap_is, looks_known}
use Rattle.lean.proofs.Weave.Skipped.{Loses, falls_beyond}

-- ---- numbers
-- a tick behind the check does not pass 2047
count_low : (x c most : ℕ) → x % 4096 ≡ c → c + most ≤ 2047 → shifted ((x + wrapped (pos most)) % 2 ^ 64) < 2 ^ 63
count_low x c most e h = omega (arith, e, h)

-- what the check leaves
count_none : (n : ℕ) → n * 2 ^ 12 % 2 ^ 64 % 4096 ≡ 0
count_none n = omega arith

count_left : (n every : ℕ) → n % 4096 ≡ 0 → every ≤ 2047 → (n + wrapped (pos (2047 - every))) % 2 ^ 64 % 4096 ≡ 2047 - every
count_left n every e h = omega (arith, e, h)

-- ---- words of the check
keep_wraps : (spans : List (ℕ × ℕ)) (first : ℕ) → Keep is_spare false (wraps spans first)
keep_wraps [] first = tt
keep_wraps (r ∷ []) first = (refl, (inr (refl, refl, tt), (refl, tt)))
keep_wraps (r ∷ n ∷ rs) first = (refl, (inr (refl, refl, tt), (refl, keep_wraps (n ∷ rs) first)))

keep_word : (spans : List (ℕ × ℕ)) → Keep is_spare false (visit_word spans)
keep_word [] = tt
keep_word (r ∷ rs) = (inl refl, (inl refl, (inl refl, (inr (refl, refl, tt), (inl refl, (inl refl, keep_wraps (r ∷ rs) r.0))))))

keep_visit : (round : ℕ) (spans : List (ℕ × ℕ)) → Keep is_spare false (visit round spans)
keep_visit zero spans = tt
keep_visit (suc n) spans = keep_append is_spare false (visit_word spans) (visit n spans) (keep_word spans) (keep_visit n spans)

-- ---- slips
module _ (w : World) (bound price : ℕ) (slip : Bool) (N K : ℕ) (s : State) where
  -- a word that computes gives any number
  mends_any :
      (D E : ℕ → State → Type 0) (i : Ins) → class_of i.kind ≡ class.Compute → ((m : ℕ) (u : State) → D m u → w.code u.pc ≡ Known i)
      → ((m : ℕ) (u : State) (x : ℕ) → D m u → E (m + price) (moved (set_reg i.rd x u.regs) (u.pc + 4) u)) → Leads w bound price slip N K s E → Recovers w bound price (IsSteady w.reached s) (step s) N K D
  mends_any D E i c stands any on =
      mends w bound price (IsSteady w.reached s) (step s) N K D E
      (λ m u d j v known g calm.
      let h = slip_gives w i u v (inl c) (subst (λ z. Slip w z u v) (sym (same_word w u.pc i j (stands m u d) known)) g) in
      inr (inr (subst (E (m + price)) (sym h.1.2) (any m u h.1.0 d))))
      (every_plain w bound price slip (IsSteady w.reached s) (step s) N K E on)

  -- a jump is skipped: the run is over soon, or it jumps all the same
  mends_jump :
      (D : ℕ → State → Type 0) (i : Ins) → (class_of i.kind ≡ class.Jump) ⊎ (class_of i.kind ≡ class.JumpReg) → ((m : ℕ) (u : State) → D m u → w.code u.pc ≡ Known i)
      → ((m : ℕ) (u : State) → D m u → Calm w u → Stopped slip_steps (moved u.regs (u.pc + 4) u) ⊎ (moved u.regs (u.pc + 4) u ≡ step u)) → Recovers w bound price (IsSteady w.reached s) (step s) N K D
  mends_jump D i c stands falls =
      mends w bound price (IsSteady w.reached s) (step s) N K D (λ m u. ⊥)
      (λ m u d j v known g calm.
      let e = slip_skips w i u v (⊎_elim (λ k. inl k) (λ k. inr (inl k)) c) (subst (λ z. Slip w z u v) (sym (same_word w u.pc i j (stands m u d) known)) g) in
      ⊎_elim (λ o. inl (subst (Stopped slip_steps) (sym e) o)) (λ q. inr (inl (e ∙ q))) (falls m u d calm))
      (λ n k m u n_le k_le st d. absurd d)

  -- a word that computes, with a fact of x15, which a slip takes away
  known_compute :
      (gap : ℕ) (small : gap ≤ price) (P Q F G : State → Type 0) (few few' : ℕ) (i : Ins) → suc few' ≤ few → class_of i.kind ≡ class.Compute → Lasts w bound price P → ((u : State) → P u → w.code u.pc ≡ Known i)
      → ((u : State) (x : ℕ) → P u → Q (moved (set_reg i.rd x u.regs) (u.pc + 4) u)) → ((u : State) → P u → IsOver (step u).outcome ⊎ (Q (step u) × (F u → G (step u))))
      → Leads w bound price slip N K s (Knows w bound price slip gap Q G few') → Leads w bound price slip N K s (Knows w bound price slip gap P F few)
  known_compute gap small P Q F G few few' i le c lasts stands any goes on =
      known_word w bound price slip gap small N K s P Q F G few few' le lasts goes
      (λ is.
      mends_any (Knows w bound price slip gap P F few) (Knows w bound price slip gap Q G few') i c (λ m u d. stands u d.0)
      (λ m u y d. (any u y d.0, inr (⊎_elim (λ f. let h = f.1 in omega (arith, h, le, small)) (λ h. omega (arith, h, le)) d.1)))
      on)
      on

-- ---- places
module _ (w : World) where
  -- at an address
  abbrev pub At : ℕ → State → ℕ → State → Type 0
  At a t p u = Half w a t u × (u.pc ≡ p)

  at_lasts : (bound price a : ℕ) (t : State) (p : ℕ) → Lasts w bound price (At a t p)
  at_lasts bound price a t p u v b c = (half_lasts w bound price a t u v b.0 c, c.pc ∙ b.1)

  -- behind a word that sets a register for which nothing is asked
  at_spare : (a : ℕ) (t : State) (p r v : ℕ) (u : State) → is_spare r ≡ true → At a t p u → At a t (p + 4) (moved (set_reg r v u.regs) (u.pc + 4) u)
  at_spare a t p r v u e b = (half_spare w a t u r v (u.pc + 4) e b.0, ap (λ z. z + 4) b.1)

  -- at the entry
  abbrev pub EntryOf : ℕ → State → State → Type 0
  EntryOf a t = At a t (w.entry a)

-- ---- numbers of steps
module _ (w : World) (l : Lean) where
  -- the most of an entry, but for the check
  abbrev pub entry_most : ℕ
  entry_most = entry_steps l.land + call_steps l.land

  abbrev first : ℕ
  first = first_word w.base w.form.spans

  -- of the check
  abbrev pub check_most : ℕ
  check_most = cost called + (cost (check_distance w.distance) + (cost compare + (cost (begun first) + (cost (visit w.form.round w.form.spans) + 16))))

-- ---- an entry
-- behind the check stand xs
module _ (w : World) (l : Lean) (leader : ℕ → Bool) (x : LeanIn w l leader) (bound price : ℕ) (slip : Bool) (loses : Loses w leader) (xs : List Item) (beyond : Beyond leader xs)
    (whole : Reads false w.code w.entry l.check (check w.base w.distance l.every w.form.round w.form.spans ++ xs)) where
  abbrev looks : List Item
  looks = look_up SIGNATURE ++ look_again w.distance

  -- the check and what stands behind it
  abbrev words : List Item
  words = check w.base w.distance l.every w.form.round w.form.spans ++ xs

  -- a count behind the check
  abbrev Fresh : ℕ → Type 0
  Fresh n = n % 4096 ≡ 2047 - l.every

  -- ---- the check
  module _ (a : ℕ) (t s : State) (gap few K : ℕ) (small : gap ≤ price) where
    -- the word that sets the count, and all from the one before it on
    abbrev adds : Ins
    adds = ins Addi CURSOR CURSOR 0 (pos (2047 - l.every))

    abbrev start : List Item
    start = Plain (ins Slli CURSOR CURSOR 0 (pos 12)) ∷ Plain adds ∷ (looks ++ xs)

    -- a state at the entry with a new count, with one move less
    abbrev Back : ℕ → Type 0
    Back N = Leads w bound price slip N K s (Knows w bound price slip gap (EntryOf w a t) (Fifteen Fresh) few)

    -- before the jump back
    abbrev Found : State → Type 0
    Found = Before_words w bound price (Holding w a t 30 (w.entry a)) (leap w x.near ++ xs)

    -- the jump back
    back : (N : ℕ) → leader a ≡ true → Back N → Leads w bound price slip (suc N) K s (Knows w bound price slip gap Found (Fifteen Fresh) (1 + few))
    back N leads on =
        leads_known w bound price slip gap small N K s Found (EntryOf w a t) (Fifteen Fresh) (Fifteen Fresh) (1 + few) few (omega arith)
        (words_last w bound price (Holding w a t 30 (w.entry a)) (leap w x.near ++ xs) (holding_lasts w bound price a t (w.entry a)))
        (λ u b.
        let e = leaps u b in
        inr (subst (EntryOf w a t) (sym e) (half_moved w a t u (w.entry a) b.0.0, refl), λ f. subst (λ y. Fresh (reg y 15)) (sym e) f))
        (λ is.
        mends_jump w bound price slip N K s (Knows w bound price slip gap Found (Fifteen Fresh) (1 + few)) (ins Jalr 0 TEMPORARY 0 (pos 0)) (inr refl) (λ m u d. d.0.1.0)
        (λ m u d calm.
        let p = u.pc + 4 in
        ⊎_elim
        (λ o. inl o)
        (λ e. inr (ap (λ z. moved u.regs z u) e ∙ sym (leaps u d.0)))
        (falls_beyond w leader loses a t (moved u.regs p u) xs (half_moved w a t u p d.0.0.0) (calm.small 16) (calm.small 15) d.0.1.1 beyond)))
        on where
          leaps : (u : State) → Found u → step u ≡ moved u.regs (w.entry a) u
          leaps u b = leap_is w x.near a t u xs (x.known a leads) b.0 b.1

    -- the count is set
    counts : (N : ℕ) → leader a ≡ true → Back N → Onto w bound price slip (suc N) K s (1 + (12 + few)) (Into w a t start)
    counts N leads on =
        let M = suc N in
        let Zero : State → Type 0 = Fifteen (λ n. n % 4096 ≡ 0) in
        let None : State → Type 0 = λ u. Unit {0} in
        leads_map w bound price slip M K s (With w bound price (1 + (12 + few)) (Into w a t start)) (Knows w bound price slip gap (Into w a t start) None (1 + (12 + few))) (λ m u b. (b.0, inl (tt, b.1)))
        (known_compute w bound price slip M K s gap small (Into w a t start) (Into w a t (Plain adds ∷ (looks ++ xs))) None Zero (1 + (12 + few)) (12 + few) (ins Slli 15 15 0 (pos 12)) (omega arith) refl
        (into_lasts w bound price a t start) (λ u b. b.1.0) (λ u y b. (half_spare w a t u 15 y (u.pc + 4) refl b.0, b.1.1))
        (λ u b.
        let v = reg u 15 * 2 ^ 12 % 2 ^ 64 in
        let g = set_step w a t u b.0 (ins Slli 15 15 0 (pos 12)) v refl (omega arith) (omega arith) refl b.1.0 (slli_12 u 15 15 (reg u 15) v refl refl) in
        inr ((g.0.0, subst (λ p. Reads false w.code w.entry p (Plain adds ∷ (looks ++ xs))) (sym g.1) b.1.1), λ k. ap (λ n. n % 4096) g.0.1 ∙ count_none (reg u 15)))
        (known_compute w bound price slip M K s gap small (Into w a t (Plain adds ∷ (looks ++ xs))) (Into w a t (looks ++ xs)) Zero (Fifteen Fresh) (12 + few) (10 + (1 + few)) adds (omega arith) refl
        (into_lasts w bound price a t (Plain adds ∷ (looks ++ xs))) (λ u b. b.1.0) (λ u y b. (half_spare w a t u 15 y (u.pc + 4) refl b.0, b.1.1))
        (λ u b.
        let v = (reg u 15 + wrapped (pos (2047 - l.every))) % 2 ^ 64 in
        let g = set_step w a t u b.0 adds v refl (omega arith) (omega arith) refl b.1.0 (addi_value u 15 15 (reg u 15) v (pos (2047 - l.every)) refl refl) in
        inr ((g.0.0, subst (λ p. Reads false w.code w.entry p (looks ++ xs)) (sym g.1) b.1.1), λ k. ap (λ n. n % 4096) g.0.1 ∙ count_left (reg u 15) l.every k x.few))
        (looks_known w x.near leader loses a t (x.table a leads) (x.known a leads) leads xs bound price slip M K s Fresh gap (1 + few) small SIGNATURE (back N leads on))))

    -- xs behind seven lists
    shape : (c1 c2 c3 c4 c5 c6 c7 : List Item) → (c1 ++ (c2 ++ (c3 ++ (c4 ++ (c5 ++ (c6 ++ c7)))))) ++ xs ≡ c1 ++ (c2 ++ (c3 ++ (c4 ++ (c5 ++ (c6 ++ (c7 ++ xs))))))
    shape c1 c2 c3 c4 c5 c6 c7 =
        let e6 = append_assoc c6 c7 xs in
        let e5 = append_assoc c5 (c6 ++ c7) xs ∙ ap (λ z. c5 ++ z) e6 in
        let e4 = append_assoc c4 (c5 ++ (c6 ++ c7)) xs ∙ ap (λ z. c4 ++ z) e5 in
        let e3 = append_assoc c3 (c4 ++ (c5 ++ (c6 ++ c7))) xs ∙ ap (λ z. c3 ++ z) e4 in
        let e2 = append_assoc c2 (c3 ++ (c4 ++ (c5 ++ (c6 ++ c7)))) xs ∙ ap (λ z. c2 ++ z) e3 in
        append_assoc c1 (c2 ++ (c3 ++ (c4 ++ (c5 ++ (c6 ++ c7))))) xs ∙ ap (λ z. c1 ++ z) e2

    -- the whole check, wherever it stands
    whole_check : (N n : ℕ) → check_most w l + few ≤ n → leader a ≡ true → Back N → Onto w bound price slip (suc N) K s n (Into w a t words)
    whole_check N n le leads on =
        let d = w.distance in
        let from = first w l in
        let v = visit w.form.round w.form.spans in
        let rest5 = done from l.every ++ (looks ++ xs) in
        let rest4 = v ++ rest5 in
        let rest3 = begun from ++ rest4 in
        let rest2 = compare ++ rest3 in
        let rest1 = check_distance d ++ rest2 in
        let n5 = 3 + (1 + (12 + few)) in
        let n4 = cost v + n5 in
        let n3 = cost (begun from) + n4 in
        let n2 = cost compare + n3 in
        let n1 = cost (check_distance d) + n2 in
        let M = suc N in
        leads_as w bound price slip M K s (Into w a t words) (Into w a t (called ++ rest1)) n (λ u b. (b.0, subst (λ z. Reads false w.code w.entry u.pc z) (shape called (check_distance d) compare (begun from) v (done from l.every) looks) b.1))
        (leads_more w bound price slip M K s (Into w a t (called ++ rest1)) (cost called + n1) n (omega (arith, le))
        (half_leads w bound price slip called (inr (refl, refl, tt), (inl refl, tt)) M K a s t rest1 n1
        (half_leads w bound price slip (check_distance d) (keep_distance is_spare false spare_pair refl refl d) M K a s t rest2 n2
        (half_leads w bound price slip compare (keep_guards is_spare false originals) M K a s t rest3 n3
        (half_leads w bound price slip (begun from) (inl refl, (refl, (inl refl, tt))) M K a s t rest4 n4
        (half_leads w bound price slip v (keep_visit w.form.round w.form.spans) M K a s t rest5 n5
        (half_leads w bound price slip (Constant TEMPORARY from ∷ Plain (ins Sub CURSOR CURSOR TEMPORARY (pos 0)) ∷ []) (refl, (inl refl, tt)) M K a s t start (1 + (12 + few)) (counts N leads on))))))))

    -- at its address
    checks : (N n : ℕ) → check_most w l + few ≤ n → leader a ≡ true → Back N → Onto w bound price slip (suc N) K s n (At w a t l.check)
    checks N n le leads on =
        leads_as w bound price slip (suc N) K s (At w a t l.check) (Into w a t words) n (λ u b. (b.0, subst (λ p. Reads false w.code w.entry p words) (sym b.1) whole))
        (whole_check N n le leads on)

  -- ---- the words of the entry
  module _ (a : ℕ) (t s : State) (body : List Item) (N K most extra : ℕ) (leads : leader a ≡ true) where
    abbrev Far : ℕ → ℕ → Type 0
    Far p n = Onto w bound price slip N K s n (At w a t p)

    -- a word before the jump
    goes : (p n m : ℕ) (i : Ins) → suc n ≤ m → w.code p ≡ Known i → keeps (but 15) false i ≡ true → class_of i.kind ≡ class.Compute → is_spare i.rd ≡ true → Far (p + 4) n → Far p m
    goes p n m i le k e c spare on =
        leads_word w bound price slip (IsSteady w.reached s) (step s) N K (At w a t p) (At w a t (p + 4)) n m le (at_lasts w bound price a t p)
        (λ u b. ⊎_elim (λ o. inl o) (λ g. inr (g.0.0, g.1 ∙ ap (λ z. z + 4) b.1)) (kept_step w a t u b.0 i (ap w.code b.1 ∙ k) e))
        (λ is.
        mends_any w bound price slip N K s (With w bound price m (At w a t p)) (With w bound price n (At w a t (p + 4))) i c (λ m u d. ap w.code d.0.1 ∙ k)
        (λ m u y d. (at_spare w a t p i.rd y u spare d.0, let h = d.1 in omega (arith, h, le))) on)
        on

    -- the jump to the check, before an EBREAK
    jumps : (p n m : ℕ) → suc n ≤ m → w.code p ≡ Known (ins Jal 0 0 0 (distance_between p l.check)) → w.code (p + 4) ≡ Known (ins Ebreak 0 0 0 (pos 0)) → Far l.check n → Far p m
    jumps p n m le k fires on =
        leads_word w bound price slip (IsSteady w.reached s) (step s) N K (At w a t p) (At w a t l.check) n m le (at_lasts w bound price a t p)
        (λ u b.
        let i = ins Beq 0 SIGNATURE TEMPORARY (pos 8) in
        let low = w.low l.check i x.check.0 in
        let known : w.code u.pc ≡ Known (ins Jal 0 0 0 (distance_between u.pc l.check)) = subst (λ q. w.code q ≡ Known (ins Jal 0 0 0 (distance_between q l.check))) (sym b.1) k in
        let e = walked w u (moved u.regs l.check u) (jal_walk w u l.check (half_over w a t u b.0) known (omega (arith, low)) (w.grain l.check i x.check.0)) in
        inr (subst (At w a t l.check) (sym e) (half_moved w a t u l.check b.0, refl)))
        (λ is.
        mends_jump w bound price slip N K s (With w bound price m (At w a t p)) (ins Jal 0 0 0 (distance_between p l.check)) (inl refl) (λ m u d. ap w.code d.0.1 ∙ k)
        (λ m u d calm.
        let q = u.pc + 4 in
        let y = moved u.regs q u in
        inl (stopped_more 1 slip_steps y (omega arith) (stopped_now y (firing_over w y (over_moved w.code u u.regs q (half_over w a t u d.0.0), ap (λ z. w.code (z + 4)) d.0.1 ∙ fires))))))
        on

    -- a count that is low
    abbrev Low : State → Type 0
    Low u = reg u 31 < 2 ^ 63

    -- where the branch jumps to, and where it goes on
    ways :
        (p d : ℕ) (u : State) → At w a t p u → w.code p ≡ Known (ins Bge 0 SPARE 0 (pos d)) → d ≤ 20 → d % 4 ≡ 0 → Reads false w.code w.entry (p + d) body
        → (Into w a t body (moved u.regs (u.pc + d) u) × (jumped u.regs (target (ins Bge 0 SPARE 0 (pos d)) u.pc) u ≡ moved u.regs (u.pc + d) u)) × At w a t (p + 4) (moved u.regs (u.pc + 4) u)
    ways p d u b k few grain r =
        let i = ins Bge 0 SPARE 0 (pos d) in
        let known : w.code u.pc ≡ Known i = ap w.code b.1 ∙ k in
        let low = w.low u.pc i known in
        let even = w.grain u.pc i known in
        let there : target i u.pc ≡ u.pc + d = omega (arith, low, few) in (
          (
            (half_moved w a t u (u.pc + d) b.0, subst (λ q. Reads false w.code w.entry q body) (sym (ap (λ z. z + d) b.1)) r),
            ap (λ q. jumped u.regs q u) there ∙ jumped_to u.regs (u.pc + d) u (omega (arith, even, grain)),
          ),
          (half_moved w a t u (u.pc + 4) b.0, ap (λ z. z + 4) b.1),
        )

    -- the branch goes to the body or on
    forks :
        (p d : ℕ) (u : State) → At w a t p u → w.code p ≡ Known (ins Bge 0 SPARE 0 (pos d)) → d ≤ 20 → d % 4 ≡ 0 → Reads false w.code w.entry (p + d) body
        → Into w a t body (step u) ⊎ (At w a t (p + 4) (step u) × (2 ^ 63 ≤ reg u 31))
    forks p d u b k few grain r =
        let i = ins Bge 0 SPARE 0 (pos d) in
        let known : w.code u.pc ≡ Known i = ap w.code b.1 ∙ k in
        let o = half_over w a t u b.0 in
        let low = w.low u.pc i known in
        let even = w.grain u.pc i known in
        let both = ways p d u b k few grain r in
        let test : (v : Bool) → holds Bge (reg u 31) 0 ≡ v → holds Bge (reg u 31) (reg u 0) ≡ v = λ v e. ap (holds Bge (reg u 31)) b.0.standing.flagged.zero_reg ∙ e in
        ⊎_elim
        (λ lt.
        inl (subst (Into w a t body) (sym (walked w u (moved u.regs (u.pc + d) u) (branch_taken w u i (u.pc + d) o known refl (test true (low_holds (reg u 31) lt)) (omega (arith, low, few)) (omega (arith, even, grain))))) both.0.0))
        (λ ge. inr (subst (At w a t (p + 4)) (sym (walked w u (moved u.regs (u.pc + 4) u) (branch_passed w u i o known refl (test false (high_holds (reg u 31) ge))))) both.1, ge))
        (cases_lt (reg u 31) (2 ^ 63))

    -- ---- with a new count `few` steps are enough
    abbrev Row : ℕ → ℕ → ℕ → Type 0
    Row gap p few = Leads w bound price slip N K s (Knows w bound price slip gap (At w a t p) (Fifteen Fresh) few)

    module _ (gap : ℕ) (small : gap ≤ price) where
      branches :
          (p d : ℕ) → w.code p ≡ Known (ins Bge 0 SPARE 0 (pos d)) → d ≤ 20 → d % 4 ≡ 0 → Reads false w.code w.entry (p + d) body → Onto w bound price slip N K s most (Into w a t body)
          → Far (p + 4) (most + gap) → Leads w bound price slip N K s (Knows w bound price slip gap (At w a t p) Low (1 + most))
      branches p d k few grain r on calls =
          let i = ins Bge 0 SPARE 0 (pos d) in
          let D : ℕ → State → Type 0 = Knows w bound price slip gap (At w a t p) Low (1 + most) in
          let E : ℕ → State → Type 0 = Either w bound price (With w bound price most (Into w a t body)) (With w bound price (most + gap) (At w a t (p + 4))) in
          let both = leads_either w bound price slip N K s (With w bound price most (Into w a t body)) (With w bound price (most + gap) (At w a t (p + 4))) on calls in
          leads_next w bound price slip N K s D E
          (knows_lasts w bound price slip gap small (At w a t p) Low (1 + most) (at_lasts w bound price a t p))
          (λ m u b.
          ⊎_elim
          (λ f. ⊎_elim (λ g. let h = f.1 in inr (m - 1, omega (arith, h), inl (g, omega (arith, h)))) (λ g. let high = g.1 in let lt = f.0 in absurd (omega (arith, high, lt)))
          (forks p d u b.0 k few grain r))
          (λ h. ⊎_elim (λ g. inr (m - 1, omega (arith, h), inl (g, omega (arith, h)))) (λ g. inr (m - 1, omega (arith, h), inr (g.0, omega (arith, h)))) (forks p d u b.0 k few grain r))
          b.1)
          (λ is.
          mends w bound price (IsSteady w.reached s) (step s) N K D E
          (λ m u b j v known g calm.
          let room : 1 + most + gap ≤ m + price = ⊎_elim (λ f. let h = f.1 in omega (arith, h, small)) (λ h. omega (arith, h)) b.1 in
          let goals = ways p d u b.0 k few grain r in
          inr (inr (⊎_elim
          (λ e. inr (subst (At w a t (p + 4)) (sym e) goals.1, omega (arith, room)))
          (λ e. inl (subst (Into w a t body) (sym (e ∙ goals.0.1)) goals.0.0, omega (arith, room)))
          (slip_branch w i u v refl (subst (λ z. Slip w z u v) (sym (same_word w u.pc i j (ap w.code b.0.1 ∙ k) known)) g)))))
          (every_plain w bound price slip (IsSteady w.reached s) (step s) N K E both))
          both

      -- the words before it
      ticks_on :
          (q : ℕ) → w.code q ≡ Known (ins Addi CURSOR CURSOR 0 (pos (l.most a))) → w.code (q + 4) ≡ Known (ins Slli SPARE CURSOR 0 (pos 52))
          → Leads w bound price slip N K s (Knows w bound price slip gap (At w a t (q + 4 + 4)) Low (1 + most)) → Row gap q (3 + most)
      ticks_on q k1 k2 on =
          let Short : State → Type 0 = Fifteen (λ v. shifted v < 2 ^ 63) in
          known_compute w bound price slip N K s gap small (At w a t q) (At w a t (q + 4)) (Fifteen Fresh) Short (3 + most) (2 + most) (ins Addi 15 15 0 (pos (l.most a))) (omega arith) refl (at_lasts w bound price a t q)
          (λ u b. ap w.code b.1 ∙ k1) (λ u y b. at_spare w a t q 15 y u refl b)
          (λ u b.
          let v = (reg u 15 + wrapped (pos (l.most a))) % 2 ^ 64 in
          let g = set_step w a t u b.0 (ins Addi 15 15 0 (pos (l.most a))) v refl (omega arith) (omega arith) refl (ap w.code b.1 ∙ k1) (addi_value u 15 15 (reg u 15) v (pos (l.most a)) refl refl) in
          let few = x.few in
          let less = x.ticks a leads in
          inr ((g.0.0, g.1 ∙ ap (λ z. z + 4) b.1), λ f. subst (λ z. shifted z < 2 ^ 63) (sym g.0.1) (count_low (reg u 15) (2047 - l.every) (l.most a) f (omega (arith, few, less)))))
          (known_compute w bound price slip N K s gap small (At w a t (q + 4)) (At w a t (q + 4 + 4)) Short Low (2 + most) (1 + most) (ins Slli 31 15 0 (pos 52)) (omega arith) refl (at_lasts w bound price a t (q + 4))
          (λ u b. ap w.code b.1 ∙ k2) (λ u y b. at_spare w a t (q + 4) 31 y u refl b)
          (λ u b.
          let v = shifted (reg u 15) in
          let g = set_step w a t u b.0 (ins Slli 31 15 0 (pos 52)) v refl (omega arith) (omega arith) refl (ap w.code b.1 ∙ k2) (slli_value u 31 15 (reg u 15) v refl refl) in
          inr ((g.0.0, g.1 ∙ ap (λ z. z + 4) b.1), λ f. subst (λ z. z < 2 ^ 63) (sym g.0.1) f))
          on)

      -- a word that leaves x15
      keeps_on : (p few few' : ℕ) (i : Ins) → w.code p ≡ Known i → keeps (but 15) false i ≡ true → class_of i.kind ≡ class.Compute → is_spare i.rd ≡ true → suc few' ≤ few → Row gap (p + 4) few' → Row gap p few
      keeps_on p few few' i k e c spare le on =
          known_compute w bound price slip N K s gap small (At w a t p) (At w a t (p + 4)) (Fifteen Fresh) (Fifteen Fresh) few few' i le c (at_lasts w bound price a t p)
          (λ u b. ap w.code b.1 ∙ k) (λ u y b. at_spare w a t p i.rd y u spare b)
          (λ u b. ⊎_elim (λ o. inl o) (λ h. inr ((h.0.0, h.1 ∙ ap (λ z. z + 4) b.1), λ c. subst Fresh (sym h.0.1) c)) (kept_step w a t u b.0 i (ap w.code b.1 ∙ k) e))
          on

      -- the test of the signature
      signs_on : (p few n : ℕ) (rest : List Item) → 3 + few ≤ n → Reads false w.code w.entry p (check_sign a ++ rest) → Row gap (p + 8 + 4 + 4) few → Row gap p n
      signs_on p few n rest le r on =
          let eight : p + 8 ≡ p + 4 + 4 = omega arith in
          keeps_on p n (2 + few) (ins Auipc TEMPORARY 0 0 (upper_part (distance_between p a))) r.0 refl refl refl (omega (arith, le))
          (keeps_on (p + 4) (2 + few) (1 + few) (ins Addi TEMPORARY TEMPORARY 0 (lower_part (distance_between p a))) r.1 refl refl refl (omega arith)
          (subst (λ z. Row gap z (1 + few)) eight
          (known_compare w bound price slip gap small N K s (At w a t (p + 8)) (At w a t (p + 8 + 4 + 4)) Fresh SIGNATURE TEMPORARY (1 + few) few (omega arith) (at_lasts w bound price a t (p + 8))
          (λ u b. (half_over w a t u b.0, ap w.code b.1 ∙ r.2.0, ap (λ z. w.code (z + 4)) b.1 ∙ r.2.1.0))
          (λ u b e. (half_moved w a t u (u.pc + 4 + 4) b.0, ap (λ z. z + 4 + 4) b.1)) on)))

    -- ---- all of it
    module _ (on : Onto w bound price slip N K s most (Into w a t body)) (calls : Far l.check (most + extra)) where
      ticks_lead :
          (land : Bool) (q : ℕ) (small : call_steps land + extra ≤ price) → Reads false w.code w.entry q (tick land a (l.most a) (distance_between (q + jump_at land) l.check) ++ body)
          → Row (call_steps land + extra) q (3 + most)
      ticks_lead true q small r =
          let p = q + 4 + 4 + 4 in
          let there : q + 12 ≡ p = omega arith in
          let end : p + 4 + 4 ≡ q + 4 + 4 + 12 = omega arith in
          let j : w.code p ≡ Known (ins Jal 0 0 0 (distance_between p l.check)) = subst (λ z. w.code p ≡ Known (ins Jal 0 0 0 (distance_between z l.check))) there r.1.1.1.0 in
          ticks_on (1 + extra) small q r.0 r.1.0
          (branches (1 + extra) small (q + 4 + 4) 12 r.1.1.0 (omega arith) refl (subst (λ z. Reads false w.code w.entry z body) end r.1.1.1.1.1) on
          (jumps p (most + extra) (most + (1 + extra)) (omega arith) j r.1.1.1.1.0 calls))
      ticks_lead false q small r =
          let p = q + 4 + 4 + 4 in
          let n = most + extra in
          let there : q + 20 ≡ p + 8 = omega arith in
          let eight : p + 8 ≡ p + 4 + 4 = omega arith in
          let end : p + 8 + 4 + 4 ≡ q + 4 + 4 + 20 = omega arith in
          let j : w.code (p + 8) ≡ Known (ins Jal 0 0 0 (distance_between (p + 8) l.check)) = subst (λ z. w.code (p + 8) ≡ Known (ins Jal 0 0 0 (distance_between z l.check))) there r.1.1.1.2.0 in
          ticks_on (3 + extra) small q r.0 r.1.0
          (branches (3 + extra) small (q + 4 + 4) 20 r.1.1.0 (omega arith) refl (subst (λ z. Reads false w.code w.entry z body) end r.1.1.1.2.1.1) on
          (goes p (2 + n) (most + (3 + extra)) (ins Auipc TEMPORARY 0 0 (upper_part (distance_between p a))) (omega arith) r.1.1.1.0 refl refl refl
          (goes (p + 4) (1 + n) (2 + n) (ins Addi TEMPORARY TEMPORARY 0 (lower_part (distance_between p a))) (omega arith) r.1.1.1.1 refl refl refl
          (subst (λ z. Far z (1 + n)) eight (jumps (p + 8) n (1 + n) (omega arith) j r.1.1.1.2.1.0 calls)))))

      -- if there is one
      cond_leads :
          (land ticks : Bool) (q : ℕ) (small : call_steps land + extra ≤ price)
          → Reads false w.code w.entry q (cond ticks (tick land a (l.most a) (distance_between (q + jump_at land) l.check)) [] ++ body) → Row (call_steps land + extra) q (3 + most)
      cond_leads land true q small r = ticks_lead land q small r
      cond_leads land false q small r =
          with_known w bound price slip N K s (At w a t q) (Fifteen Fresh) (call_steps land + extra) (3 + most) most (omega arith)
          (leads_as w bound price slip N K s (At w a t q) (Into w a t body) most (λ u b. (b.0, subst (λ z. Reads false w.code w.entry z body) (sym b.1) r)) on)

      entry_leads :
          (land : Bool) (small : call_steps land + extra ≤ price)
          → Reads false w.code w.entry (w.entry a) (enter land (l.ticks a) a (l.most a) (distance_between (w.entry a + call_at land) l.check) ++ body)
          → Row (call_steps land + extra) (w.entry a) (entry_steps land + most)
      entry_leads true small r =
          let p = w.entry a in
          let rest = cond (l.ticks a) (tick true a (l.most a) (distance_between (p + 28) l.check)) [] ++ body in
          let far : p + 28 ≡ p + 8 + 4 + 4 + 12 = omega arith in
          let q = subst (λ z. Reads false w.code w.entry (p + 8 + 4 + 4) (cond (l.ticks a) (tick true a (l.most a) (distance_between z l.check)) [] ++ body)) far r.2.1.1 in
          signs_on (1 + extra) small p (3 + most) (6 + most) rest (omega arith) r (cond_leads true (l.ticks a) (p + 8 + 4 + 4) small q)
      entry_leads false small r = cond_leads false (l.ticks a) (w.entry a) small r

  -- ---- from an entry to the check and back
  module _ (a : ℕ) (s t : State) (body : List Item) (K most : ℕ) (leads : leader a ≡ true)
      (reads : Reads false w.code w.entry (w.entry a) (enter l.land (l.ticks a) a (l.most a) (distance_between (w.entry a + call_at l.land) l.check) ++ body))
      (dear : entry_most w l + (check_most w l + entry_most w l) ≤ price) where
    loops : (N : ℕ) → Onto w bound price slip N K s most (Into w a t body) → Leads w bound price slip N K s (Knows w bound price slip (check_most w l + entry_most w l) (EntryOf w a t) (Fifteen Fresh) (entry_most w l + most))
    loops zero on = leads_zero w bound price slip K s (Knows w bound price slip (check_most w l + entry_most w l) (EntryOf w a t) (Fifteen Fresh) (entry_most w l + most))
    loops (suc N) on =
        let extra = check_most w l + entry_most w l in
        let back = loops N (leads_less w bound price slip (suc N) N K K s (With w bound price most (Into w a t body)) (omega arith) (omega arith) on) in
        known_more w bound price slip (suc N) K s (EntryOf w a t) (Fifteen Fresh) (call_steps l.land + extra) (entry_steps l.land + most) extra (entry_most w l + most) (omega arith) (omega arith)
        (entry_leads a t s body (suc N) K most extra leads on (checks a t s extra (entry_most w l + most) K (omega (arith, dear)) N (most + extra) (omega arith) leads back) l.land (omega (arith, dear)) reads)

    -- an entry, with any count
    pub enters_lead : (N : ℕ) → Onto w bound price slip N K s most (Into w a t body) → Onto w bound price slip N K s (entry_most w l + (check_most w l + entry_most w l) + most) (EntryOf w a t)
    enters_lead N on =
        known_with w bound price slip N K s (EntryOf w a t) (Fifteen Fresh) (check_most w l + entry_most w l) (entry_most w l + most) (entry_most w l + (check_most w l + entry_most w l) + most) (omega arith) (loops N on)

    -- the check, as where the jump of the start is skipped: it leads to the entry with a new count
    pub check_leads : (N : ℕ) → Onto w bound price slip N K s most (Into w a t body) → Onto w bound price slip N K s (check_most w l + (entry_most w l + most)) (Into w a t words)
    check_leads N on =
        let n = check_most w l + (entry_most w l + most) in
        let C = Into w a t words in
        leads_less w bound price slip (suc N) N K K s (With w bound price n C) (omega arith) (omega arith)
        (whole_check a t s (check_most w l + entry_most w l) (entry_most w l + most) K (omega (arith, dear)) N n (omega arith) leads (loops N on))
