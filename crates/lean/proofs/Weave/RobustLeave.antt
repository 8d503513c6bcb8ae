-- A leave, where the duplicate half changes at any steps and one instruction slips: the next entry has the input's
-- values in the original half, or the run is over.
use Rattle.std.proofs.Common.{◌≡◌, ℕ, zero, suc, ◌+◌, ◌%◌, ◌^◌, ◌<◌, ◌≤◌, ◌⊎◌, inl, inr, ⊎_elim, Bool, true, false, cond, not, List, [], ◌∷◌, ◌++◌, refl, sym, ap, ◌∙◌, subst, arith, append_assoc}
use Rattle.std.specs.Prelude.{◌==◌, ◌||◌, ◌-◌, ℤ, pos, neg_ℤ, nat_le, slice_index, ◌+ℤ◌, ◌-ℤ◌}
use Rattle.std.proofs.lemmas.Bool.{or_cases, or_right, eqb-true, le-leb, leb-true, cases_eq, ne_eqb, false≢true}
use Rattle.std.proofs.lemmas.Int.{ints}
use Rattle.rv_isa.specs.declared.class.Class.TheVariants as class
use Rattle.machine.specs.declared.outcome.Cause.TheVariants as cause
use Rattle.machine.specs.Table.{ins, Ins, Lui, Add, Addi, Andi, Jal, Jalr, Lw}
use Rattle.machine.specs.Offsets.{distance_between, upper_part, lower_part}
use Rattle.qed_model.specs.Promise.Kept.{is_trapped, IsSteady, LeadsToReached}
use Rattle.qed_model.specs.Weave.Lean.{is_short, turn_by, turn, goes, opposite, check_way, taken, take_target, turn_leap, called, check_distance, look_up, look_again, leave_as, cost}
use Rattle.qed_model.specs.Weave.LeanCode.{Lean, fall_to}
use Rattle.qed_model.specs.Weave.Placed.{sum_of_sizes}
use Rattle.qed_model.specs.Weave.Sequences.{Reads, guard, links, LAST_ORIGINAL, CURSOR, DISTANCE, SIGNATURE, TEMPORARY, SPARE, pair}
use Rattle.weave_core.specs.Blocks.{Goes}
use Rattle.weave_core.specs.Rows.{Sourced}
use Rattle.weave_core.specs.WeaveLaws.{Met}
use Rattle.weave_core.specs.World.{World, Item, Mark, Plain, Constant, Go, State, reg, set_reg, moved, trapped, jumped, imm, next_pc, wrapped, holds, result, Kind, Known, step, target, class_of}
use Rattle.lean.specs.Strayed.{IsOver, Stopped}
use Rattle.lean.specs.Undisturbed.{slip_steps}
use Rattle.lean.specs.Woven.{LeanIn}
use Rattle.lean.proofs.Weave.Beyond.{Beyond}
use Rattle.lean.proofs.Weave.Carry.{step-jump, step-illegal, Keep, Carried, keep_guard, keep_distance, Leaps, leap_step, aim, andi_value, run-none, Branches, branch_step, branch_to, jump_step, keep_way, no_code, known_at, Over, over_moved, jumped_to, difference, slice_index-set_reg_other, slice_index-set_reg_same, length-set_reg, branch_taken, branch_passed, addi_value, add_result, wrapped-add}
use Rattle.lean.proofs.Weave.Chain.{cost_append}
use Rattle.lean.proofs.Weave.Costs.{guard_most, links_most, turn_most, way_most, goes_most, falls_cost}
use Rattle.lean.proofs.Weave.Half.{is_spare, Half, Into, Holding, half_over, half_regs, half_spare, half_moved, half_original, spare_step, spare_pair, half_view}
use Rattle.lean.proofs.Weave.Leave.{linking, far_enough, beyond_taken}
use Rattle.lean.proofs.Weave.Robust.{half_disturbed, Leads, With, Lasts, Either, EveryOf, Recovers, Slip, Calm, slip_gives, slip_branch, slip_skips, same_word, stopped_more, stopped_now, stopped_step, mends, constant_own, every_plain, every_on, Firing, firing_over, compare_step, takes_eight, leads_fired, leads_either, leads_next, with_lasts, leads_map, leads_word, leads_original, leads_more, leads_as, half_lasts, into_lasts, half_leads, half_met, Before_words, words_last, computes, leads_compute, leads_constant, leads_keep, Onto, walked, to_far, to_near, steady_calm, leads_steady, holding_lasts, leads_compare, leads_none}
use Rattle.lean.proofs.Weave.RobustLooks.{leap, leap_is, looks_to}
use Rattle.lean.proofs.Weave.Skipped.{lost_steps, Loses, falls_beyond}
use Rattle.lean.proofs.Weave.Turn.{lui_value}
use Rattle.lean.proofs.Weave.Ways.{opposite_is}

-- both parts together
parts_sum : (d : ℤ) → (wrapped (upper_part d) + wrapped (lower_part d)) % 2 ^ 64 ≡ wrapped d
parts_sum d = sym (wrapped-add (upper_part d) (lower_part d)) ∙ ap wrapped (both d (upper_part d)) where
  both : (x y : ℤ) → y +ℤ (x -ℤ y) ≡ x
  both x y = omega (arith, ints)

-- the two kinds of a turn
abbrev near_turn : ℤ → List Item
near_turn d = Plain (ins Addi SIGNATURE SIGNATURE 0 d) ∷ []

abbrev far_turn : ℤ → List Item
far_turn d =
    Plain (ins Lui TEMPORARY 0 0 (upper_part d)) ∷ Plain (ins Addi TEMPORARY TEMPORARY 0 (lower_part d)) ∷ Plain (ins Add SIGNATURE SIGNATURE TEMPORARY (pos 0)) ∷ []

-- x0, and x15 to x31
abbrev pub is_upper : ℕ → Bool
is_upper r = (r == 0) || nat_le 15 r

-- pairs are among them
upper_pair : (r : ℕ) → is_upper (pair r) ≡ true
upper_pair zero = refl
upper_pair (suc r) = or_right (suc r + 16 == 0) _ (le-leb 15 (suc r + 16) (omega arith))

-- a write of such a register leaves x0 to x14
upper_out : (l : List ℕ) (d v q : ℕ) → is_upper d ≡ true → q ≤ 14 → slice_index (set_reg d v l) q ≡ slice_index l q
upper_out l zero v q e h = refl
upper_out l (suc d) v q e h =
    slice_index-set_reg_other l (suc d) v q (λ same.
    ⊎_elim (λ z. let n = eqb-true (suc d) 0 z in absurd (omega (arith, n))) (λ k. let n = leb-true 15 (suc d) k in absurd (omega (arith, n, h, same))) (or_cases (suc d == 0) _ e))

module _ (w : World) (bound price : ℕ) (slip : Bool) where
  -- where the input has no code it makes no step
  pub leads_dead : (N K : ℕ) (t : State) (D : ℕ → State → Type 0) → Sourced w t → ((i : Ins) → w.source t.pc ≡ Known i → ⊥) → Leads w bound price slip N K t D
  leads_dead N zero t D so lacks = leads_none w bound price slip N t D
  leads_dead N (suc K) t D so lacks = leads_steady w bound price slip N K t D (λ st. absurd (no_code w t so lacks (steady_calm w.reached t st)))

-- ---- registers
-- a pair is not x16 or x30
pair_apart : (q r : ℕ) → q ≤ LAST_ORIGINAL → (r ≡ 16) ⊎ (r ≡ 30) → pair q ≡ r → ⊥
pair_apart zero r h e same = ⊎_elim (λ z. omega (arith, z, same)) (λ z. omega (arith, z, same)) e
pair_apart (suc q) r h e same = ⊎_elim (λ z. omega (arith, z, same)) (λ z. omega (arith, z, same, h)) e

module _ (w : World) where
  -- a run that is over soon is not calm
  calm_stops : (u : State) (n : ℕ) → n ≤ 9 → Calm w u → Stopped n u → ⊥
  calm_stops u n le c s = c.quiet s.steps (omega (arith, le, s.within)) s.over

  -- one step more
  stops_on : (u : State) (n m : ℕ) → suc n ≤ m → Stopped n (step u) → Stopped m u
  stops_on u n m le s = stopped_more (suc n) m u le (stopped_step n u s)

  -- x16 gets another number
  signs : (z p : ℕ) (t u : State) (v q : ℕ) → Half w z t u → v ≡ p → Half w p t (moved (set_reg 16 v u.regs) q u)
  signs z p t u v q h e =
      let long = h.standing.flagged.regs in
      half_regs w z p t u (set_reg 16 v u.regs) q h (length-set_reg u.regs 16 v ∙ long) (λ r l. slice_index-set_reg_other u.regs 16 v r (λ k. absurd (omega (arith, l, k))))
      (slice_index-set_reg_same u.regs 16 v (omega arith) (omega (arith, long)) ∙ e)

  -- ---- under any signature
  abbrev Under : State → State → Type 0
  Under s u = (z : ℕ) × Half w z s u

  -- a register from x15 on is set
  under_set : (s u : State) (d v p : ℕ) → is_upper d ≡ true → Under s u → Under s (moved (set_reg d v u.regs) p u)
  under_set s u d v p e b =
      let regs = set_reg d v u.regs in
      (slice_index regs 16, half_regs w b.0 (slice_index regs 16) s u regs p b.1 (length-set_reg u.regs d v ∙ b.1.standing.flagged.regs) (λ q h. upper_out u.regs d v q e h) refl)

  -- words that set only such registers keep it
  under_keeps : (s : State) → Carried w is_upper false (Under s)
  under_keeps s = record {
    over = λ u b. half_over w b.0 s u b.1;
    word = λ u i b h d.
        ⊎_elim
        (λ o. inl o)
        (λ z. inr (subst (Under s) (sym z.ends) (under_set s u z.rd z.value (u.pc + 4) z.may b), ap (λ y. y.pc) z.ends))
        (spare_step w is_upper u i refl (half_over w b.0 s u b.1) h d);
    goes = λ u p b. (b.0, half_moved w b.0 s u p b.1);
  }

  -- with a number in x30
  abbrev Aims : State → ℕ → State → Type 0
  Aims s n u = Under s u × (reg u TEMPORARY ≡ n)

  aims_set : (s u : State) (v n q : ℕ) → Under s u → v ≡ n → Aims s n (moved (set_reg 30 v u.regs) q u)
  aims_set s u v n q b e = let long = b.1.standing.flagged.regs in (under_set s u 30 v q refl b, slice_index-set_reg_same u.regs 30 v (omega arith) (omega (arith, long)) ∙ e)

  -- ---- a jump to an entry
  -- where it leads
  abbrev gone : State → ℕ → ℕ
  gone u p = (u.pc + wrapped (distance_between u.pc (w.entry p))) % 2 ^ 64

  -- its word
  abbrev go_word : State → ℕ → Ins
  go_word u p = ins Jal 0 0 0 (distance_between u.pc (w.entry p))

  -- its step goes there, or traps
  go_step : (u : State) (p : ℕ) (rest : List Item) → Over w.code u → Reads false w.code w.entry u.pc (Go p ∷ rest) → IsOver (step u).outcome ⊎ (step u ≡ moved u.regs (gone u p) u)
  unfolding jumped
  go_step u p rest o r =
      let q = gone u p in
      let is = step-jump u (go_word u p) o.going (known_at w.code u (go_word u p) o r.0.0) refl in
      ⊎_elim
      (λ e. inr (is ∙ jumped_to u.regs q u e))
      (λ ne. inl (inr (ap (λ y. is_trapped y.outcome) is ∙ ap (λ b. is_trapped (cond b (moved u.regs q u) (trapped (cause.Target q) u)).outcome) (ne_eqb (q % 4) 0 ne))))
      (cases_eq (q % 4) 0)

  -- that is the entry
  gone_to : (u : State) (p : ℕ) (rest : List Item) → Reads false w.code w.entry u.pc (Go p ∷ rest) → w.entry p < 2 ^ 64 → gone u p ≡ w.entry p
  gone_to u p rest r low = let near = w.low u.pc (go_word u p) r.0.0 in difference u.pc (w.entry p) (omega (arith, near)) low

  -- skipped, it leads behind
  go_skips : (u v : State) (p : ℕ) (rest : List Item) (i : Ins) → Reads false w.code w.entry u.pc (Go p ∷ rest) → w.code u.pc ≡ Known i → Slip w i u v → v ≡ moved u.regs (u.pc + 4) u
  go_skips u v p rest i r known s = slip_skips w (go_word u p) u v (inl refl) (subst (λ z. Slip w z u v) (sym (same_word w u.pc (go_word u p) i r.0.0 known)) s)

  -- ---- the check of a way
  abbrev way_word : Kind → Ins → Ins
  way_word k i = ins k 0 (pair i.rs1) (pair i.rs2) (pos 8)

  -- of a branch k, whether the pairs choose it
  abbrev Chosen : Kind → Ins → State → Bool → Type 0
  Chosen k i u b = holds k (reg u (pair i.rs1)) (reg u (pair i.rs2)) ≡ b

  -- it goes on where the pairs choose it, or to its EBREAK
  way_step :
      (k : Kind) (i : Ins) (u : State) (rest : List Item) → class_of k ≡ class.Branch → Over w.code u → Reads false w.code w.entry u.pc (check_way k i ++ rest)
      → Firing w (step u) ⊎ ((step u ≡ moved u.regs (u.pc + 4 + 4) u) × Chosen k i u true)
  way_step k i u rest c o r = by (holds k (reg u (pair i.rs1)) (reg u (pair i.rs2))) refl where
    by : (b : Bool) → Chosen k i u b → Firing w (step u) ⊎ ((step u ≡ moved u.regs (u.pc + 4 + 4) u) × Chosen k i u true)
    by true e =
        let j = way_word k i in
        let low = w.low u.pc j r.0 in
        let grain = w.grain u.pc j r.0 in
        let p = u.pc + 4 + 4 in
        inr (walked w u (moved u.regs p u) (branch_taken w u j p o r.0 c e (omega (arith, low)) (omega (arith, grain))), e)
    by false e = inl (subst (Firing w) (sym (walked w u (moved u.regs (u.pc + 4) u) (branch_passed w u (way_word k i) o r.0 c e))) (over_moved w.code u u.regs (u.pc + 4) o, r.1.0))

  -- so the other way is over
  way_stops : (k : Kind) (i : Ins) (u : State) (rest : List Item) → class_of k ≡ class.Branch → Over w.code u → Reads false w.code w.entry u.pc (check_way k i ++ rest) → Chosen k i u false → Stopped 2 u
  way_stops k i u rest c o r e =
      ⊎_elim
      (λ f. stopped_step 1 u (stopped_now (step u) (firing_over w (step u) f)))
      (λ g. absurd (false≢true (sym e ∙ g.1)))
      (way_step k i u rest c o r)

  -- that the pairs choose a way outlasts a turn
  chosen_set : (k : Kind) (i : Ins) (u : State) (r v q : ℕ) → i.rs1 ≤ LAST_ORIGINAL → i.rs2 ≤ LAST_ORIGINAL → (r ≡ 16) ⊎ (r ≡ 30) → Chosen k i u true → Chosen k i (moved (set_reg r v u.regs) q u) true
  chosen_set k i u r v q m1 m2 e c =
      ap (λ n. holds k n (slice_index (set_reg r v u.regs) (pair i.rs2))) (slice_index-set_reg_other u.regs r v (pair i.rs1) (pair_apart i.rs1 r m1 e))
      ∙ ap (λ n. holds k (reg u (pair i.rs1)) n) (slice_index-set_reg_other u.regs r v (pair i.rs2) (pair_apart i.rs2 r m2 e)) ∙ c

module _ (w : World) (bound price : ℕ) where
  under_lasts : (s : State) → Lasts w bound price (Under w s)
  under_lasts s u v b d = (b.0, half_disturbed w b.0 s u v b.1 d)

  aims_last : (s : State) (n : ℕ) → Lasts w bound price (Aims w s n)
  aims_last s n u v b d = (under_lasts s u v b.0 d, d.thirty ∙ b.1)

  -- with a slip or without, words that set registers from x15 on
  under_leads :
      (slip : Bool) (N K : ℕ) (s t : State) (xs rest : List Item) (few : ℕ) → Keep is_upper false xs → Onto w bound price slip N K s few (Before_words w bound price (Under w t) rest)
      → Onto w bound price slip N K s (cost xs + few) (Before_words w bound price (Under w t) (xs ++ rest))
  under_leads slip N K s t xs rest few k on =
      leads_keep w bound price slip is_upper false (Under w t) (under_keeps w t) (under_lasts t) (λ u r x p b e. under_set w t u r x p e b) N K s rest few on xs k

  -- a computing word gives any number: the run is over soon, or has another property
  gives_or :
      (S : ℕ → Type 0) (t : State) (N K : ℕ) (i : Ins) (B E : State → Type 0) (less many : ℕ) → class_of i.kind ≡ class.Compute → less ≤ many + price → ((u : State) → B u → w.code u.pc ≡ Known i)
      → ((u : State) (x : ℕ) → B u → x < 2 ^ 64 → Calm w u → Stopped slip_steps (moved (set_reg i.rd x u.regs) (u.pc + 4) u) ⊎ E (moved (set_reg i.rd x u.regs) (u.pc + 4) u))
      → EveryOf w bound price false S t N K (With w bound price less E) → Recovers w bound price S t N K (With w bound price many B)
  gives_or S t N K i B E less many c le word any off =
      mends w bound price S t N K (With w bound price many B) (With w bound price less E)
      (λ m u d j v known s calm.
      let h = d.1 in
      let g = slip_gives w i u v (inl c) (subst (λ z. Slip w z u v) (sym (same_word w u.pc i j (word u d.0) known)) s) in
      ⊎_elim
      (λ o. inl (subst (Stopped slip_steps) (sym g.1.2) o))
      (λ r. inr (inr (subst E (sym g.1.2) r, omega (arith, h, le))))
      (any u g.1.0 d.0 g.1.1 calm))
      off

-- ---- facts that changes take away
module _ (w : World) (bound price : ℕ) (slip : Bool) where
  -- a word, with a fact that is not needed without a slip
  fact_word :
      (S : ℕ → Type 0) (t : State) (N K : ℕ) (P F Q : State → Type 0) (few many : ℕ) → suc few ≤ many → Lasts w bound price P → ((u : State) → P u → F u → IsOver (step u).outcome ⊎ Q (step u))
      → (slip ≡ true → Recovers w bound price S t N K (With w bound price many (λ u. P u × F u))) → EveryOf w bound price false S t N K (With w bound price many P)
      → EveryOf w bound price slip S t N K (With w bound price few Q) → EveryOf w bound price slip S t N K (With w bound price many (λ u. P u × F u))
  fact_word S t N K P F Q few many le lasts goes mend plain rest n k m u n_le k_le st d =
      every_on w bound price slip S t N K (With w bound price many (λ u. P u × F u)) (With w bound price few Q) (With w bound price many P)
      (λ m u v d one c. (lasts u v d.0.0 c, let h = d.1 in omega (arith, h)))
      (λ m u d. ⊎_elim (λ o. inl o) (λ q. inr (m - 1, (let h = d.1 in omega (arith, h, le)), (q, let h = d.1 in omega (arith, h, le)))) (goes u d.0.0 d.0.1))
      mend plain rest n k m u (omega (arith, n_le)) k_le st d

-- ---- at the next entry
module _ (w : World) (l : Lean) (leader : ℕ → Bool) (x : LeanIn w l leader) (bound price : ℕ) (slip : Bool) where
  -- at the entry of the input's pc
  abbrev pub Entered : State → State → Type 0
  Entered t y = Half w t.pc t y × (y.pc ≡ w.entry t.pc) × (leader t.pc ≡ true)

  -- each state at the entry where the input's next step leads is robust
  abbrev pub Next : ℕ → ℕ → State → ℕ → Type 0
  Next N K s most = IsSteady w.reached s 1 → Onto w bound price slip N K (step s) most (Entered (step s))

  -- a jump leads to the entry
  pub go_enters : (p : ℕ) (t u : State) (rest : List Item) → t.pc ≡ p → leader p ≡ true → Into w p t (Go p ∷ rest) u → IsOver (step u).outcome ⊎ Entered t (step u)
  go_enters p t u rest here leads b =
      ⊎_elim
      (λ o. inl o)
      (λ e.
      let q = gone w u p in
      let to : q ≡ w.entry t.pc = gone_to w u p rest b.1 (x.known p leads).entry_low ∙ ap w.entry (sym here) in
      inr (subst (Entered t) (sym e) (subst (λ z. Half w z t (moved u.regs q u)) (sym here) (half_moved w p t u q b.0), to, ap leader here ∙ leads)))
      (go_step w u p rest (half_over w p t u b.0) b.1)

  -- the target of a JALR is an entry, or no code
  pub aim_goes :
      (s : State) (i : Ins) → Sourced w s → w.source s.pc ≡ Known i → class_of i.kind ≡ class.JumpReg
      → ((a : ℕ) → w.reached a ≡ true → a % 4 ≡ 0 → Goes w leader a) → IsSteady w.reached s 1 → Goes w leader (aim s i)
  aim_goes s i so has c to st =
      let lp = leap_step w s i so has c (steady_calm w.reached s st) in
      let first = subst (LeadsToReached w.reached) (run-none s) (st.leads 0 (omega arith)) in
      to (aim s i) (ap w.reached (sym lp.pc) ∙ first i so.over.going (known_at w.source s i so.over has) c) lp.grain

-- ---- runs that are over soon
module _ (w : World) (l : Lean) (leader : ℕ → Bool) (x : LeanIn w l leader) (loses : Loses w leader) where
  -- at the entry of a leader, under another signature
  entry_lost : (p y q : ℕ) (t v : State) → leader p ≡ true → y < 2 ^ 64 → (y ≡ p → ⊥) → Half w y t v → q ≡ w.entry p → reg v CURSOR < 2 ^ 64 → Stopped lost_steps (moved v.regs q v)
  entry_lost p y q t v leads small ne h at cursor =
      let z : Half w y t (moved v.regs q v) = half_moved w y t v q h in
      loses p (moved v.regs q v) leads z.going z.standing at (subst (λ n. n < 2 ^ 64) (sym h.sign) small) cursor (inl (λ e. ne (sym h.sign ∙ e)))

  mark_lost : (p y : ℕ) (t v : State) → leader p ≡ true → y < 2 ^ 64 → (y ≡ p → ⊥) → Half w y t v → v.pc ≡ w.entry p → reg v CURSOR < 2 ^ 64 → Stopped lost_steps v
  mark_lost p y t v leads small ne h at cursor = loses p v leads h.going h.standing at (subst (λ n. n < 2 ^ 64) (sym h.sign) small) cursor (inl (λ e. ne (sym h.sign ∙ e)))

  -- before a jump to one
  go_lost : (p y : ℕ) (t v : State) (rest : List Item) → leader p ≡ true → y < 2 ^ 64 → (y ≡ p → ⊥) → Into w y t (Go p ∷ rest) v → reg v CURSOR < 2 ^ 64 → Stopped (1 + lost_steps) v
  go_lost p y t v rest leads small ne b cursor =
      ⊎_elim
      (λ o. stopped_more 1 (1 + lost_steps) v (omega arith) (stopped_now v o))
      (λ e. stopped_step lost_steps v (subst (Stopped lost_steps) (sym e) (entry_lost p y (gone w v p) t v leads small ne b.0 (gone_to w v p rest b.1 (x.known p leads).entry_low) cursor)))
      (go_step w v p rest (half_over w y t v b.0) b.1)

  -- behind a block, under a signature that belongs to no leader
  falls_off :
      (a : ℕ) (t u : State) (xs : List Item) → leader a ≡ false → Half w a t u → reg u SIGNATURE < 2 ^ 64 → reg u CURSOR < 2 ^ 64 → Reads false w.code w.entry u.pc xs → Beyond leader xs → Stopped slip_steps u
  falls_off a t u xs none h small low r b =
      ⊎_elim
      (λ m.
      let marked : Reads false w.code w.entry u.pc (Mark m.0 ∷ []) = subst (Reads false w.code w.entry u.pc) m.2 r in
      stopped_more lost_steps slip_steps u (omega arith) (loses m.0 u m.1 h.going h.standing (sym marked.0) small low (inl (λ e. false≢true (sym none ∙ ap leader (sym h.sign ∙ e) ∙ m.1)))))
      (λ m.
      let word : Reads false w.code w.entry u.pc (Plain m.0 ∷ []) = subst (Reads false w.code w.entry u.pc) m.2 r in
      stopped_more 1 slip_steps u (omega arith) (stopped_now u (inr (is_true (is_trapped (step u).outcome) (λ e. step-illegal u m.0 h.going (known_at w.code u m.0 (half_over w a t u h) word.0) m.1 e)))))
      b where
        is_true : (b : Bool) → (b ≡ false → ⊥) → b ≡ true
        is_true true f = refl
        is_true false f = absurd (f refl)

  -- a jump to a leader that is skipped at the end of a block
  go_slides :
      (p : ℕ) (t u v : State) (xs : List Item) (i : Ins) → leader p ≡ true → Beyond leader xs → Into w p t (Go p ∷ xs) u → w.code u.pc ≡ Known i → Slip w i u v → Calm w u → Stopped slip_steps v ⊎ (v ≡ step u)
  go_slides p t u v xs i leads beyond b known s c =
      let e = go_skips w u v p xs i b.1 known s in
      let y = moved u.regs (u.pc + 4) u in
      ⊎_elim
      (λ o. inl (subst (Stopped slip_steps) (sym e) o))
      (λ at.
      ⊎_elim
      (λ o. absurd (calm_stops w u 1 (omega arith) c (stopped_now u o)))
      (λ g. inr (e ∙ ap (λ q. moved u.regs q u) (at ∙ sym (gone_to w u p xs b.1 (x.known p leads).entry_low)) ∙ sym g))
      (go_step w u p xs (half_over w p t u b.0) b.1))
      (falls_beyond w leader loses p t y xs (half_moved w p t u (u.pc + 4) b.0) (c.small SIGNATURE) (c.small CURSOR) b.1.1 beyond)

module _ (w : World) (l : Lean) (leader : ℕ → Bool) (x : LeanIn w l leader) (loses : Loses w leader) (bound price : ℕ) (slip : Bool) where
  -- ---- with a fact that changes take away
  -- before some words, with a fact or without a slip
  abbrev Both : ℕ → ℕ → State → ℕ → (State → Type 0) → (State → Type 0) → List Item → Type 0
  Both N K s most P F rest = Onto w bound price slip N K s most (λ u. Before_words w bound price P rest u × F u) × Onto w bound price false N K s most (Before_words w bound price P rest)

  -- a computing word that keeps the fact
  fact_compute :
      (N K : ℕ) (s : State) (i : Ins) (P Q F : State → Type 0) (rest : List Item) (few many : ℕ) → suc few ≤ many → class_of i.kind ≡ class.Compute → Lasts w bound price P → ((u : State) → P u → Over w.code u)
      → ((u : State) (p : ℕ) → P u → Q (moved (set_reg i.rd (result i.kind i u) u.regs) p u)) → ((u : State) (x p : ℕ) → F u → F (moved (set_reg i.rd x u.regs) p u))
      → Recovers w bound price (IsSteady w.reached s) (step s) N K (With w bound price many (λ u. Before_words w bound price P (Plain i ∷ rest) u × F u))
      → Both N K s few Q F rest → Both N K s many P F (Plain i ∷ rest)
  fact_compute N K s i P Q F rest few many le c lasts over goes kept mend on =
      let plain = leads_compute w bound price false (IsSteady w.reached s) (step s) N K i P Q rest few many le c lasts over goes (λ e. absurd (false≢true e)) on.1 in (
        fact_word w bound price slip (IsSteady w.reached s) (step s) N K (Before_words w bound price P (Plain i ∷ rest)) F (λ u. Before_words w bound price Q rest u × F u) few many le
            (words_last w bound price P (Plain i ∷ rest) lasts)
            (λ u b f. inr (subst (λ y. Before_words w bound price Q rest y × F y) (sym (computes w i u (over u b.0) b.1.0 c)) ((goes u (u.pc + 4) b.0, b.1.1), kept u (result i.kind i u) (u.pc + 4) f)))
            (λ is. mend)
            plain on.0,
        plain,
      )

  -- ---- a turn
  -- behind it, with another number in x16
  abbrev Strays : ℕ → State → List Item → ℕ → Type 0
  Strays p t rest few = (y : ℕ) (v : State) → y < 2 ^ 64 → (y ≡ p → ⊥) → Into w y t rest v → reg v CURSOR < 2 ^ 64 → Stopped few v

  -- the run is over soon, or the signature makes no difference
  abbrev Apart : ℕ → ℕ → State → State → ℕ → List Item → ℕ → Type 0
  Apart N K s t p rest most = ((few : ℕ) × (few + 2 ≤ slip_steps) × Strays p t rest few) ⊎ Onto w bound price false N K s most (Before_words w bound price (Under w t) rest)

  module _ (F : State → Type 0) (kept : (u : State) (r v q : ℕ) → (r ≡ 16) ⊎ (r ≡ 30) → F u → F (moved (set_reg r v u.regs) q u))
      (a p : ℕ) (la : a < 2 ^ 64) (lp : p < 2 ^ 64) (N K : ℕ) (s t : State) (rest : List Item) (most : ℕ) (apart : Apart N K s t p rest most) (on : Both N K s most (Half w p t) F rest) where
    abbrev S : ℕ → Type 0
    S = IsSteady w.reached s

    abbrev d : ℤ
    d = distance_between a p

    -- x15 is left alone
    small_behind : (u : State) (r v : ℕ) → 16 ≤ r → reg u CURSOR < 2 ^ 64 → slice_index (set_reg r v u.regs) 15 < 2 ^ 64
    small_behind u r v high small = subst (λ n. n < 2 ^ 64) (sym (slice_index-set_reg_other u.regs r v 15 (λ e. absurd (omega (arith, e, high))))) small

    -- a slip of the word that turns, with a property before it
    turn_slips :
        (i : Ins) (P : State → Type 0) → i.rd ≡ 16 → class_of i.kind ≡ class.Compute → ((u : State) → P u → Half w a t u)
        → Recovers w bound price S (step s) N K (With w bound price (1 + most) (λ u. Before_words w bound price P (Plain i ∷ rest) u × F u))
    turn_slips i P sixteen c half =
        let B : State → Type 0 = λ u. Before_words w bound price P (Plain i ∷ rest) u × F u in
        ⊎_elim
        (λ k.
        let le = k.1 in
        gives_or w bound price S (step s) N K i B (Into w p t rest) most (1 + most) c (omega arith) (λ u b. b.0.1.0)
        (λ u x b lt calm.
        let h = half u b.0.0 in
        let q = u.pc + 4 in
        let v = moved (set_reg 16 x u.regs) q u in
        subst (λ r. Stopped slip_steps (moved (set_reg r x u.regs) q u) ⊎ Into w p t rest (moved (set_reg r x u.regs) q u)) (sym sixteen)
        (⊎_elim
        (λ e. inr (signs w a p t u x q h e, b.0.1.1))
        (λ ne. inl (stopped_more k.0 slip_steps v (omega (arith, le)) (k.2 x v lt ne (signs w a x t u x q h refl, b.0.1.1) (small_behind u 16 x (omega arith) (calm.small CURSOR)))))
        (cases_eq x p)))
        on.1)
        (λ off.
        gives_or w bound price S (step s) N K i B (Before_words w bound price (Under w t) rest) most (1 + most) c (omega arith) (λ u b. b.0.1.0)
        (λ u x b lt calm. inr (under_set w t u i.rd x (u.pc + 4) (ap is_upper sixteen) (a, half u b.0.0), b.0.1.1))
        off)
        apart

    -- by one word
    turn_short : Both N K s (1 + most) (Half w a t) F (near_turn d ++ rest)
    turn_short =
        fact_compute N K s (ins Addi 16 16 0 d) (Half w a t) (Half w p t) F rest most (1 + most) (omega arith) refl (half_lasts w bound price a t) (half_over w a t)
        (λ u q h. signs w a p t u (result Addi (ins Addi 16 16 0 d) u) q h (addi_value u 16 16 a p d h.sign (difference a p la lp)))
        (λ u v q f. kept u 16 v q (inl refl) f)
        (turn_slips (ins Addi 16 16 0 d) (Half w a t) refl refl (λ u h. h))
        on

    -- ---- by three
    abbrev hi : Ins
    hi = ins Lui 30 0 0 (upper_part d)

    abbrev lo : Ins
    lo = ins Addi 30 30 0 (lower_part d)

    abbrev add : Ins
    add = ins Add 16 16 30 (pos 0)

    -- what x16 gets by the last of them, and by the last two, if x30 has a number
    abbrev added : ℕ → ℕ
    added n = (a + n) % 2 ^ 64

    abbrev lowered : ℕ → ℕ
    lowered n = added ((n + wrapped (lower_part d)) % 2 ^ 64)

    -- by which it gets p
    abbrev Held : (ℕ → ℕ) → State → Type 0
    Held f u = Half w a t u × (f (reg u 30) ≡ p)

    held_last : (f : ℕ → ℕ) → Lasts w bound price (Held f)
    held_last f u v b c = (half_lasts w bound price a t u v b.0 c, ap f c.thirty ∙ b.1)

    -- x30 set
    thirty : (u : State) (v q : ℕ) → Half w a t u → Half w a t (moved (set_reg 30 v u.regs) q u) × (reg (moved (set_reg 30 v u.regs) q u) 30 ≡ v)
    thirty u v q h = let long = h.standing.flagged.regs in (half_spare w a t u 30 v q refl h, slice_index-set_reg_same u.regs 30 v (omega arith) (omega (arith, long)))

    held_set : (f : ℕ → ℕ) (u : State) (v q : ℕ) → Half w a t u → f v ≡ p → Held f (moved (set_reg 30 v u.regs) q u)
    held_set f u v q h e = let g = thirty u v q h in (g.0, ap f g.1 ∙ e)

    low_value : (u : State) → result Addi lo u ≡ (reg u 30 + wrapped (lower_part d)) % 2 ^ 64
    low_value u = addi_value u 30 30 (reg u 30) ((reg u 30 + wrapped (lower_part d)) % 2 ^ 64) (lower_part d) refl refl

    -- with another number in x30 the run is over soon
    abbrev Fails : (ℕ → ℕ) → List Item → ℕ → Type 0
    Fails f words n = (few : ℕ) (v : State) → Strays p t rest few → Into w a t (words ++ rest) v → (f (reg v 30) ≡ p → ⊥) → reg v CURSOR < 2 ^ 64 → Stopped (n + few) v

    add_fails : Fails added (Plain add ∷ []) 1
    add_fails few v strays b ne small =
        let y = added (reg v 30) in
        let z = result Add add v in
        let is : z ≡ y = add_result v 16 16 30 a (reg v 30) y b.0.sign refl refl in
        stops_on w v few (1 + few) (omega arith) (subst (Stopped few) (sym (computes w add v (half_over w a t v b.0) b.1.0 refl))
        (strays y (moved (set_reg 16 z v.regs) (v.pc + 4) v) (omega arith) ne (signs w a y t v z (v.pc + 4) b.0 is, b.1.1) (small_behind v 16 z (omega arith) small)))

    low_fails : Fails lowered (Plain lo ∷ Plain add ∷ []) 2
    low_fails few v strays b ne small =
        let n = result Addi lo v in
        let g = thirty v n (v.pc + 4) b.0 in
        stops_on w v (1 + few) (2 + few) (omega arith) (subst (Stopped (1 + few)) (sym (computes w lo v (half_over w a t v b.0) b.1.0 refl))
        (add_fails few (moved (set_reg 30 n v.regs) (v.pc + 4) v) strays (g.0, b.1.1) (λ k. ne (ap added (sym (g.1 ∙ low_value v)) ∙ k)) (small_behind v 30 n (omega arith) small)))

    -- a slip of a word that gives x30
    thirty_slips :
        (i : Ins) (P : State → Type 0) (f : ℕ → ℕ) (words : List Item) (n many : ℕ) → n ≤ 2 → cost words + most ≤ many → i.rd ≡ 30 → class_of i.kind ≡ class.Compute → ((u : State) → P u → Half w a t u) → Keep is_upper false words → Fails f words n
        → Onto w bound price false N K s (cost words + most) (Before_words w bound price (Held f) (words ++ rest))
        → Recovers w bound price S (step s) N K (With w bound price many (λ u. Before_words w bound price P (Plain i ∷ words ++ rest) u × F u))
    thirty_slips i P f words n many few fits is c half keep fails on =
        let B : State → Type 0 = λ u. Before_words w bound price P (Plain i ∷ words ++ rest) u × F u in
        let E : State → Type 0 = Before_words w bound price (Held f) (words ++ rest) in
        ⊎_elim
        (λ k.
        let le = k.1 in
        gives_or w bound price S (step s) N K i B E (cost words + most) many c (omega (arith, fits)) (λ u b. b.0.1.0)
        (λ u x b lt calm.
        let h = half u b.0.0 in
        let q = u.pc + 4 in
        let v = moved (set_reg 30 x u.regs) q u in
        let g = thirty u x q h in
        subst (λ r. Stopped slip_steps (moved (set_reg r x u.regs) q u) ⊎ E (moved (set_reg r x u.regs) q u)) (sym is)
        (⊎_elim
        (λ e. inr (held_set f u x q h e, b.0.1.1))
        (λ ne. inl (stopped_more (n + k.0) slip_steps v (omega (arith, le, few)) (fails k.0 v k.2 (g.0, b.0.1.1) (λ z. ne (ap f (sym g.1) ∙ z)) (small_behind u 30 x (omega arith) (calm.small CURSOR)))))
        (cases_eq (f x) p)))
        on)
        (λ off.
        gives_or w bound price S (step s) N K i B (Before_words w bound price (Under w t) (words ++ rest)) (cost words + most) many c (omega (arith, fits)) (λ u b. b.0.1.0)
        (λ u x b lt calm. inr (under_set w t u i.rd x (u.pc + 4) (ap is_upper is) (a, half u b.0.0), b.0.1.1))
        (under_leads w bound price false N K s t words rest most keep off))
        apart

    turn_far : Both N K s (3 + most) (Half w a t) F (far_turn d ++ rest)
    turn_far =
        fact_compute N K s hi (Half w a t) (Held lowered) F (Plain lo ∷ Plain add ∷ rest) (2 + most) (3 + most) (omega arith) refl (half_lasts w bound price a t) (half_over w a t)
        (λ u q h. held_set lowered u (result Lui hi u) q h (ap lowered (lui_value u 30 (upper_part d)) ∙ ap added (parts_sum d) ∙ difference a p la lp))
        (λ u v q f. kept u 30 v q (inr refl) f)
        (thirty_slips hi (Half w a t) lowered (Plain lo ∷ Plain add ∷ []) 2 (3 + most) (omega arith) (omega arith) refl refl (λ u h. h) (inl refl, (inl refl, tt)) low_fails lows.1)
        lows where
          adds : Both N K s (1 + most) (Held added) F (Plain add ∷ rest)
          adds =
              fact_compute N K s add (Held added) (Half w p t) F rest most (1 + most) (omega arith) refl (held_last added) (λ u b. half_over w a t u b.0)
              (λ u q b. signs w a p t u (result Add add u) q b.0 (add_result u 16 16 30 a (reg u 30) p b.0.sign refl b.1))
              (λ u v q f. kept u 16 v q (inl refl) f)
              (turn_slips add (Held added) refl refl (λ u b. b.0))
              on

          lows : Both N K s (2 + most) (Held lowered) F (Plain lo ∷ Plain add ∷ rest)
          lows =
              fact_compute N K s lo (Held lowered) (Held added) F (Plain add ∷ rest) (1 + most) (2 + most) (omega arith) refl (held_last lowered) (λ u b. half_over w a t u b.0)
              (λ u q b. held_set added u (result Addi lo u) q b.0 (ap added (low_value u) ∙ b.1))
              (λ u v q f. kept u 30 v q (inr refl) f)
              (thirty_slips lo (Held lowered) added (Plain add ∷ []) 1 (2 + most) (omega arith) (omega arith) refl refl (λ u b. b.0) (inl refl, tt) add_fails adds.1)
              adds

    -- the signature turned
    turn_leads : Both N K s (cost (turn a p) + most) (Half w a t) F (turn a p ++ rest)
    turn_leads = by (a == p) refl where
      long : (b : Bool) → Both N K s (cost (cond b (near_turn d) (far_turn d)) + most) (Half w a t) F (cond b (near_turn d) (far_turn d) ++ rest)
      long true = turn_short
      long false = turn_far

      by : (b : Bool) → (a == p) ≡ b → Both N K s (cost (cond b [] (turn_by d)) + most) (Half w a t) F (cond b [] (turn_by d) ++ rest)
      by true e = (
        leads_map w bound price slip N K s _ (With w bound price most (λ u. Into w p t rest u × F u))
            (λ m u z. (((subst (λ y. Half w y t u) (eqb-true a p e) z.0.0.0, z.0.0.1), z.0.1), let h = z.1 in omega (arith, h)))
            on.0,
        leads_map w bound price false N K s _ (With w bound price most (Into w p t rest))
            (λ m u z. ((subst (λ y. Half w y t u) (eqb-true a p e) z.0.0, z.0.1), let h = z.1 in omega (arith, h)))
            on.1,
      )
      by false e = long (is_short d)

  -- no fact at all
  abbrev None : State → Type 0
  None u = Unit {0}

  turn_on :
      (a p : ℕ) → a < 2 ^ 64 → p < 2 ^ 64 → (N K : ℕ) (s t : State) (rest : List Item) (most : ℕ) → Apart N K s t p rest most → Onto w bound price slip N K s most (Into w p t rest)
      → Onto w bound price slip N K s (cost (turn a p) + most) (Into w a t (turn a p ++ rest))
  turn_on a p la lp N K s t rest most apart on =
      leads_as w bound price slip N K s (Into w a t (turn a p ++ rest)) (λ u. Into w a t (turn a p ++ rest) u × None u) (cost (turn a p) + most) (λ u b. (b, tt))
      (turn_leads None (λ u r v q e f. tt) a p la lp N K s t rest most apart
      (leads_as w bound price slip N K s (λ u. Into w p t rest u × None u) (Into w p t rest) most (λ u b. b.0) on, every_plain w bound price slip _ _ N K _ on)).0

  -- ---- to an address
  -- by a jump, where the input stands there already, with a fact by which the run is over soon if that is skipped
  goes_lead :
      (F : State → Type 0) → ((u : State) (r v q : ℕ) → (r ≡ 16) ⊎ (r ≡ 30) → F u → F (moved (set_reg r v u.regs) q u)) → (a p : ℕ) (s : State) (N K most : ℕ) (rest : List Item) → a < 2 ^ 64
      → Sourced w s → s.pc ≡ p → Goes w leader p → ((u : State) → Into w p s rest (moved u.regs (u.pc + 4) u) → F u → Stopped slip_steps (moved u.regs (u.pc + 4) u))
      → Onto w bound price slip N K s most (Entered w l leader x bound price slip s)
      → Onto w bound price slip N K s (cost (goes a p) + most) (λ u. Into w a s (goes a p ++ rest) u × F u)
  goes_lead F kept a p s N K most rest low so here to skipped on =
      ⊎_elim
      (λ leads.
      let few : 1 + lost_steps + 2 ≤ slip_steps = omega arith in
      let plain = leads_word w bound price false (IsSteady w.reached s) (step s) N K (Into w p s (Go p ∷ rest)) (Entered w l leader x bound price slip s) most (1 + most) (omega arith) (into_lasts w bound price p s (Go p ∷ rest))
      (λ u b. go_enters w l leader x bound price slip p s u rest here leads b)
      (λ e. absurd (false≢true e))
      (every_plain w bound price slip (IsSteady w.reached s) (step s) N K (With w bound price most (Entered w l leader x bound price slip s)) on) in
      leads_map w bound price slip N K s _ (With w bound price (cost (turn a p) + (1 + most)) (λ u. Into w a s (turn a p ++ (Go p ∷ rest)) u × F u))
      (λ m u d.
      let h = d.1 in
      let c = cost_append (turn a p) (Go p ∷ []) in
      (((d.0.0.0, subst (λ xs. Reads false w.code w.entry u.pc xs) (append_assoc (turn a p) (Go p ∷ []) rest) d.0.0.1), d.0.1), omega (arith, h, c)))
      (turn_leads F kept a p low (x.known p leads).low N K s s (Go p ∷ rest) (1 + most)
      (inl (1 + lost_steps, few, λ y v lt ne b small. go_lost w l leader x loses p y s v rest leads lt ne b small)) (
        fact_word w bound price slip (IsSteady w.reached s) (step s) N K (Into w p s (Go p ∷ rest)) F (Entered w l leader x bound price slip s) most (1 + most) (omega arith) (into_lasts w bound price p s (Go p ∷ rest))
            (λ u b f. go_enters w l leader x bound price slip p s u rest here leads b)
            (λ is n k m u n_le k_le st d i v known sl c.
            let e = go_skips w u v p rest i d.0.0.1 known sl in
            inl (subst (Stopped slip_steps) (sym e) (skipped u (half_moved w p s u (u.pc + 4) d.0.0.0, d.0.0.1.1) d.0.1)))
            plain on,
        plain,
      )).0)
      (λ lacks. leads_dead w bound price slip N K s _ so (λ i m. lacks i (ap w.source (sym here) ∙ m)))
      to

  -- by a fall
  pub falls_lead :
      (a p : ℕ) (s : State) (N K most : ℕ) → a < 2 ^ 64 → Sourced w s → s.pc ≡ p → Goes w leader p → Onto w bound price slip N K s most (Entered w l leader x bound price slip s)
      → Onto w bound price slip N K s (cost (turn a p ++ fall_to leader p) + most) (Into w a s (turn a p ++ fall_to leader p))
  falls_lead a p s N K most low so here to on =
      ⊎_elim
      (λ leads.
      let few : lost_steps + 2 ≤ slip_steps = omega arith in
      leads_map w bound price slip N K s _ (With w bound price (cost (turn a p) + most) (Into w a s (turn a p ++ fall_to leader p)))
      (λ m u d. (d.0, let h = d.1 in let c = cost_append (turn a p) (fall_to leader p) in omega (arith, h, c)))
      (turn_on a p low (x.known p leads).low N K s s (fall_to leader p) most
      (inl (lost_steps, few, λ y v lt ne b small. mark_lost w l leader x loses p y s v leads lt ne b.0 (sym (marked leads v b.1).0) small))
      (leads_as w bound price slip N K s (Into w p s (fall_to leader p)) (Entered w l leader x bound price slip s) most (λ u b.
      (subst (λ q. Half w q s u) (sym here) b.0, sym (marked leads u b.1).0 ∙ ap w.entry (sym here), ap leader here ∙ leads))
      on)))
      (λ lacks. leads_dead w bound price slip N K s _ so (λ i m. lacks i (ap w.source (sym here) ∙ m)))
      to where
        marked : leader p ≡ true → (u : State) → Reads false w.code w.entry u.pc (fall_to leader p) → Reads false w.code w.entry u.pc (Mark p ∷ [])
        marked leads u r = subst (λ c. Reads false w.code w.entry u.pc (cond c (Mark p ∷ []) (Go p ∷ []))) leads r

  -- ---- a jump
  -- the jump to the entry makes the input's next state
  go_makes :
      (p : ℕ) (s : State) (N K few many : ℕ) (xs : List Item) → Beyond leader xs → 1 ≤ many → suc few ≤ many + bound → Sourced w (step s) → (step s).pc ≡ p → leader p ≡ true
      → Next w l leader x bound price slip N K s few → Onto w bound price slip N (suc K) s many (Into w p (step s) (Go p ∷ xs))
  go_makes p s N K few many xs beyond some le so here leads on =
      leads_original w bound price slip N K s (Into w p (step s) (Go p ∷ xs)) (Entered w l leader x bound price slip (step s)) few many some le (into_lasts w bound price p (step s) (Go p ∷ xs))
      (λ st u b. ⊎_elim (λ o. inl o) (λ e. inr (half_met w bound price (step s).pc (step s) (step u) e.0, e)) (go_enters w l leader x bound price slip p (step s) u xs here leads b))
      (λ is n k m u n_le k_le st d i v known sl c. ⊎_elim (λ o. inl o) (λ e. inr (inl e)) (go_slides w l leader x loses p (step s) u v xs i leads beyond d.0 known sl c))
      on

  -- where no code is it makes the last one
  go_ends :
      (b : Bool) (p : ℕ) (s : State) (N K many : ℕ) (xs : List Item) (P : State → Type 0) → Lasts w bound price P → ((u : State) → P u → Under w (step s) u) → 1 ≤ many → Sourced w (step s)
      → ((i : Ins) → w.source (step s).pc ≡ Known i → ⊥) → (b ≡ true → Recovers w bound price (IsSteady w.reached s) (step s) N (suc K) (With w bound price many (Before_words w bound price P (Go p ∷ xs))))
      → Onto w bound price b N (suc K) s many (Before_words w bound price P (Go p ∷ xs))
  go_ends b p s N K many xs P lasts under some so lacks mend =
      leads_original w bound price b N K s (Before_words w bound price P (Go p ∷ xs)) (Under w (step s)) 0 many some (omega (arith, some)) (words_last w bound price P (Go p ∷ xs) lasts)
      (λ st u c.
      let z = under u c.0 in
      ⊎_elim
      (λ o. inl o)
      (λ e.
      let h : Half w z.0 (step s) (step u) = subst (Half w z.0 (step s)) (sym e) (half_moved w z.0 (step s) u (gone w u p) z.1) in
      inr (half_met w bound price z.0 (step s) (step u) h, (z.0, h)))
      (go_step w u p xs (half_over w z.0 (step s) u z.1) c.1))
      mend
      (λ st. leads_dead w bound price b N K (step s) _ so lacks)

  -- the words of a return address: behind them the original half is that of the input's next state
  links_lead :
      (r v z p : ℕ) (s : State) (N K : ℕ) (rest : List Item) (most : ℕ) → r ≤ LAST_ORIGINAL → v < 2 ^ 64 → step s ≡ moved (set_reg r v s.regs) p s → Sourced w (step s)
      → Onto w bound price slip N K s most (Into w z (step s) rest) → Onto w bound price slip N K s (cost (linking w r v) + most) (Into w z s (linking w r v ++ rest))
  links_lead zero v z p s N K rest most m lv is so on =
      leads_map w bound price slip N K s _ (With w bound price most (Into w z (step s) rest)) (λ m u d. ((half_view w z s (step s) u p d.0.0 is so, d.0.1), let h = d.1 in omega (arith, h))) on
  links_lead (suc r) v z p s N K rest most m lv is so on =
      let lacks : (suc r == 0) ≡ false = ne_eqb (suc r) 0 (λ e. absurd (omega arith)) in
      let both : List Item = Constant (suc r) v ∷ Constant (pair (suc r)) v ∷ [] in
      let more : List Item = Constant (pair (suc r)) v ∷ rest in
      subst (λ b. Onto w bound price slip N K s (cost (cond b [] both) + most) (Into w z s (cond b [] both ++ rest))) (sym lacks)
      (leads_constant w bound price slip _ _ N K (suc r) v (Half w z s) (Half w z (step s)) more (2 + most) (4 + most) (omega arith) (inl (omega (arith, m))) lv
      (half_lasts w bound price z s) (half_lasts w bound price z (step s))
      (λ u h. (half_over w z s u h, h.standing.flagged.regs))
      (λ u q h. subst (λ t. Half w z t (moved (set_reg (suc r) v u.regs) q u)) (sym is) (half_original w z s u (suc r) v q p m h (subst (Sourced w) is so)))
      (λ e. constant_own w bound price (IsSteady w.reached s) (step s) N K (suc r) v (Half w z s) (Half w z (step s)) more (2 + most) (4 + most) m)
      (half_leads w bound price slip (Constant (pair (suc r)) v ∷ []) (spare_pair (suc r), tt) N K z s (step s) rest most on))

  -- a JAL: its last word makes the input's next state
  pub jump_leads :
      (a : ℕ) (s : State) (i : Ins) (N K most e : ℕ) (xs : List Item) → Beyond leader xs → a < 2 ^ 64 → Sourced w s → w.source s.pc ≡ Known i → class_of i.kind ≡ class.Jump → i.rd ≤ LAST_ORIGINAL
      → Goes w leader (target i s.pc) → 31 + most ≤ e + bound → Next w l leader x bound price slip N K s most
      → Onto w bound price slip N (suc K) s (31 + e) (Into w a s ((links i s.pc ++ goes a (target i s.pc)) ++ xs))
  jump_leads a s i N K most e xs beyond low so has c m to le on =
      leads_steady w bound price slip N K s _ (λ st.
      let j = jump_step w s i so has c (steady_calm w.reached s st) in
      let t = target i s.pc in
      let few = links_most i s.pc in
      let turns = turn_most a t in
      let words : List Item = turn a t ++ (Go t ∷ xs) in
      let flat : (links i s.pc ++ goes a t) ++ xs ≡ links i s.pc ++ words = append_assoc (links i s.pc) (goes a t) xs ∙ ap (λ k. links i s.pc ++ k) (append_assoc (turn a t) (Go t ∷ []) xs) in
      leads_map w bound price slip N (suc K) s _ (With w bound price (cost (links i s.pc) + (cost (turn a t) + (24 + e))) (Into w a s (links i s.pc ++ words)))
      (λ n u d. ((d.0.0, subst (λ k. Reads false w.code w.entry u.pc k) flat d.0.1), let h = d.1 in omega (arith, h, few, turns)))
      (links_lead i.rd (next_pc s) a t s N (suc K) words (cost (turn a t) + (24 + e)) m (omega arith) j.is j.sourced
      (by (leader t) t refl (omega arith) j.pc j.sourced to)))
    where
      by : (b : Bool) (t : ℕ) → leader t ≡ b → t < 2 ^ 64 → (step s).pc ≡ t → Sourced w (step s) → Goes w leader t → Onto w bound price slip N (suc K) s (cost (turn a t) + (24 + e)) (Into w a (step s) (turn a t ++ (Go t ∷ xs)))
      by true t leads lt pc sourced to =
          let size : 1 + lost_steps + 2 ≤ slip_steps = omega arith in
          turn_on a t low (x.known t leads).low N (suc K) s (step s) (Go t ∷ xs) (24 + e)
          (inl (1 + lost_steps, size, λ y v lt ne b small. go_lost w l leader x loses t y (step s) v xs leads lt ne b small))
          (go_makes t s N K most (24 + e) xs beyond (omega arith) (omega (arith, le)) sourced pc leads on)
      by false t none lt pc sourced to =
          ⊎_elim
          (λ leads. absurd (false≢true (sym none ∙ leads)))
          (λ lacks.
          let dead : (i : Ins) → w.source (step s).pc ≡ Known i → ⊥ = λ i k. lacks i (ap w.source (sym pc) ∙ k) in
          turn_on a t low lt N (suc K) s (step s) (Go t ∷ xs) (24 + e)
          (inr (go_ends false t s N K (24 + e) xs (Under w (step s)) (under_lasts w bound price (step s)) (λ u z. z) (omega arith) sourced dead (λ k. absurd (false≢true k))))
          (go_ends slip t s N K (24 + e) xs (Half w t (step s)) (half_lasts w bound price t (step s)) (λ u h. (t, h)) (omega arith) sourced dead
          (λ is n k m u n_le k_le st d i v known sl c.
          let g = go_skips w u v t xs i d.0.1 known sl in
          inl (subst (Stopped slip_steps) (sym g) (falls_off w l leader x loses t (step s) (moved u.regs (u.pc + 4) u) xs none (half_moved w t (step s) u (u.pc + 4) d.0.0) (c.small SIGNATURE) (c.small CURSOR) d.0.1.1 beyond)))))
          to

  -- ---- a branch
  module _ (a : ℕ) (s : State) (i : Ins) (N K most e : ℕ) (low : a < 2 ^ 64) (c : class_of i.kind ≡ class.Branch)
      (m1 : i.rs1 ≤ LAST_ORIGINAL) (m2 : i.rs2 ≤ LAST_ORIGINAL) (le : 31 + most ≤ e + bound) where
    abbrev after : ℕ
    after = (s.pc + 4) % 2 ^ 64

    abbrev behind : List Item
    behind = turn a after ++ fall_to leader after

    abbrev other : List Item
    other = check_way (opposite i.kind) i ++ behind

    abbrev words : List Item
    words = leave_as l.distance [] (fall_to leader) class.Branch i a s.pc

    abbrev size : ℕ
    size = sum_of_sizes false (taken i a (target i s.pc))

    -- the branch of the output
    abbrev own : Ins
    own = ins (opposite i.kind) 0 i.rs1 i.rs2 (pos (4 + size))

    -- where it jumps
    abbrev Far : State → Type 0
    Far u = (jumped u.regs (target own u.pc) u ≡ moved u.regs (u.pc + 4 + size) u) × ((u.pc + wrapped (pos (4 + size))) % 2 ^ 64 ≡ u.pc + 4 + size) × ((u.pc + 4 + size) % 4 ≡ 0) × Reads false w.code w.entry (u.pc + 4 + size) other

    far_to : (u : State) → Into w a s words u → Far u
    far_to u d =
        let p = u.pc + 4 + size in
        let k = beyond_taken w leader x.known x.codes x.near i (u.pc + 4) a (target i s.pc) other (to_far w x.near (u.pc + 4) (taken i a (target i s.pc) ++ other) d.1.1) in
        let far = far_enough u.pc size k.low in
        (ap (λ q. jumped u.regs q u) far ∙ jumped_to u.regs p u k.grain, far, k.grain, to_near w x.near p other k.reads)

    -- its test, by the originals
    tests : (b : Bool) (u : State) → Branches w s i b → Half w a s u → holds (opposite i.kind) (reg u i.rs1) (reg u i.rs2) ≡ not b
    tests b u br h =
        (opposite_is i.kind c).1 (reg u i.rs1) (reg u i.rs2) ∙ ap (λ p. not (holds i.kind p (reg u i.rs2))) (h.originals i.rs1 m1)
        ∙ ap (λ p. not (holds i.kind (reg s i.rs1) p)) (h.originals i.rs2 m2) ∙ ap not br.test

    -- its step makes the input's next state
    makes : (b : Bool) (u : State) (p : ℕ) (xs : List Item) → Branches w s i b → Half w a s u → step u ≡ moved u.regs p u → Reads false w.code w.entry p xs
        → Met w (step u) (step s) × Into w a (step s) xs (step u)
    makes b u p xs br h e r =
        let y : Half w a (step s) (step u) = subst (Half w a (step s)) (sym e) (half_view w a s (step s) (moved u.regs p u) (branch_to w b i s) (half_moved w a s u p h) br.is br.sourced) in
        (half_met w bound price a (step s) (step u) y, (y, subst (λ p. Reads false w.code w.entry p xs) (sym (ap (λ z. z.pc) e)) r))

    -- a way that the pairs refuse is over
    refused : (k : Kind) (u : State) (q : ℕ) (rest : List Item) → class_of k ≡ class.Branch → Half w a s u → Reads false w.code w.entry q (check_way k i ++ rest) → Chosen w k i u false → Stopped 2 (moved u.regs q u)
    refused k u q rest ck h r f = way_stops w k i (moved u.regs q u) rest ck (over_moved w.code u u.regs q (half_over w a s u h)) r f

    -- the run without a slip goes the way that the pairs choose
    chooses : (k : Kind) (u : State) (q : ℕ) (rest : List Item) → class_of k ≡ class.Branch → Half w a s u → Calm w u → step u ≡ moved u.regs q u → Reads false w.code w.entry q (check_way k i ++ rest) → Chosen w k i u true
    chooses k u q rest ck h calm is r = by (holds k (reg u (pair i.rs1)) (reg u (pair i.rs2))) refl where
      by : (b : Bool) → Chosen w k i u b → Chosen w k i u true
      by true f = f
      by false f = absurd (calm_stops w u 3 (omega arith) calm (stopped_step 2 u (subst (Stopped 2) (sym is) (refused k u q rest ck h r f))))

    -- what the opposite is
    turned_over : (u : State) (b : Bool) → Chosen w i.kind i u b → Chosen w (opposite i.kind) i u (not b)
    turned_over u b f = (opposite_is i.kind c).1 (reg u (pair i.rs1)) (reg u (pair i.rs2)) ∙ ap not f

    turned_back : (u : State) → Chosen w (opposite i.kind) i u true → Chosen w i.kind i u false
    turned_back u f = by (holds i.kind (reg u (pair i.rs1)) (reg u (pair i.rs2))) refl where
      by : (b : Bool) → Chosen w i.kind i u b → Chosen w i.kind i u false
      by true g = absurd (false≢true (sym (turned_over u true g) ∙ f))
      by false g = g

    -- the slip of the branch
    slips_own : (u v : State) (j : Ins) → Into w a s words u → w.code u.pc ≡ Known j → Slip w j u v → (v ≡ moved u.regs (u.pc + 4) u) ⊎ (v ≡ moved u.regs (u.pc + 4 + size) u)
    slips_own u v j d known sl =
        ⊎_elim (λ e. inl e) (λ e. inr (e ∙ (far_to u d).0)) (slip_branch w own u v (opposite_is i.kind c).0 (subst (λ z. Slip w z u v) (sym (same_word w u.pc own j d.1.0 known)) sl))

    -- behind the check of the way that is taken the pairs choose it
    way_on : (few many : ℕ) (more : List Item) → suc few ≤ many → Onto w bound price slip N K (step s) few (λ u. Into w a (step s) more u × Chosen w i.kind i u true) → Onto w bound price slip N K (step s) many (Into w a (step s) (check_way i.kind i ++ more))
    way_on few many more fits on =
        let k = i.kind in
        let t = step s in
        let B : State → Type 0 = Into w a t (check_way k i ++ more) in
        let E : ℕ → State → Type 0 = With w bound price few (λ u. Into w a t more u × Chosen w k i u true) in
        leads_next w bound price slip N K t (With w bound price many B) (Either w bound price E (With w bound price 0 (Firing w))) (with_lasts w bound price many B (into_lasts w bound price a t (check_way k i ++ more)))
        (λ m u d.
        let h = d.1 in
        inr (
          m - 1,
          omega (arith, h, fits),
          ⊎_elim
              (λ f. inr (f, omega arith))
              (λ g. inl (subst (λ y. Into w a t more y × Chosen w k i y true) (sym g.0) ((half_moved w a t u (u.pc + 4 + 4) d.0.0, d.0.1.1.1), g.1), omega (arith, h, fits)))
              (way_step w k i u more c (half_over w a t u d.0.0) d.0.1),
        ))
        (λ is n kk m u n_le k_le st d j v known sl calm.
        let o = half_over w a t u d.0.0 in
        ⊎_elim
        (λ f. absurd (calm_stops w u 2 (omega arith) calm (stopped_step 1 u (stopped_now (step u) (firing_over w (step u) f)))))
        (λ g.
        ⊎_elim
        (λ e. inl (stopped_more 1 slip_steps v (omega arith) (stopped_now v (subst (λ z. IsOver (step z).outcome) (sym e) (firing_over w (moved u.regs (u.pc + 4) u) (over_moved w.code u u.regs (u.pc + 4) o, d.0.1.1.0))))))
        (λ e. inr (inl (e ∙ takes_eight w u (way_word w k i) o d.0.1.0 refl ∙ sym g.0)))
        (slip_branch w (way_word w k i) u v c (subst (λ z. Slip w z u v) (sym (same_word w u.pc (way_word w k i) j d.0.1.0 known)) sl)))
        (way_step w k i u more c o d.0.1))
        (leads_either w bound price slip N K t E (With w bound price 0 (Firing w)) on (leads_fired w bound price slip N K t))

    -- the input's branch is taken, and that of the output is not
    takes : Branches w s i true → Goes w leader (target i s.pc) → Next w l leader x bound price slip N K s most → Onto w bound price slip N (suc K) s (31 + e) (Into w a s words)
    takes br to on =
        let t = target i s.pc in
        let more = goes a t ++ other in
        let way = check_way i.kind i in
        let few = goes_most a t in
        let opp = (opposite_is i.kind c).0 in
        leads_original w bound price slip N K s (Into w a s words) (Into w a (step s) (way ++ more)) (1 + (cost (goes a t) + most)) (31 + e)
        (omega arith) (omega (arith, le, few)) (into_lasts w bound price a s words)
        (λ st u d. inr (makes true u (u.pc + 4) (way ++ more) br d.0 (passed u br d) d.1.1))
        (λ is n k m u n_le k_le st d j v known sl calm.
        let p = passed u br d.0 in
        ⊎_elim
        (λ g. inr (inl (g ∙ sym p)))
        (λ g.
        let chosen = chooses i.kind u (u.pc + 4) more c d.0.0 calm p d.0.1.1 in
        inl (subst (Stopped slip_steps) (sym g) (stopped_more 2 slip_steps (moved u.regs (u.pc + 4 + size) u) (omega arith) (refused (opposite i.kind) u (u.pc + 4 + size) behind opp d.0.0 (far_to u d.0).3 (turned_over u true chosen)))))
        (slips_own u v j d.0 known sl))
        (λ st.
        way_on (cost (goes a t) + most) (1 + (cost (goes a t) + most)) more (omega arith)
        (goes_lead (λ u. Chosen w i.kind i u true) (λ u r v q f g. chosen_set w i.kind i u r v q m1 m2 f g) a t (step s) N K most other low br.sourced br.pc to
        (λ u b f. stopped_more 2 slip_steps (moved u.regs (u.pc + 4) u) (omega arith)
        (way_stops w (opposite i.kind) i (moved u.regs (u.pc + 4) u) behind opp (half_over w t (step s) (moved u.regs (u.pc + 4) u) b.0) b.1 (turned_over u true f)))
        (on st)))
      where
        passed : (u : State) → Branches w s i true → Into w a s words u → step u ≡ moved u.regs (u.pc + 4) u
        passed u br d = walked w u (moved u.regs (u.pc + 4) u) (branch_passed w u own (half_over w a s u d.0) d.1.0 (opposite_is i.kind c).0 (tests true u br d.0))

    -- the other way round
    passes : Branches w s i false → Goes w leader after → Next w l leader x bound price slip N K s most → Onto w bound price slip N (suc K) s (31 + e) (Into w a s words)
    passes br to on =
        let way = check_way (opposite i.kind) i in
        let one = way_most (opposite i.kind) i in
        let few = falls_cost leader a after in
        let opp = (opposite_is i.kind c).0 in
        leads_original w bound price slip N K s (Into w a s words) (Into w a (step s) other) (cost way + (cost behind + most)) (31 + e)
        (omega arith) (omega (arith, le, one, few)) (into_lasts w bound price a s words)
        (λ st u d. inr (makes false u (u.pc + 4 + size) other br d.0 (jumps u br d) (far_to u d).3))
        (λ is n k m u n_le k_le st d j v known sl calm.
        let p = jumps u br d.0 in
        ⊎_elim
        (λ g.
        let chosen = chooses (opposite i.kind) u (u.pc + 4 + size) behind opp d.0.0 calm p (far_to u d.0).3 in
        inl (subst (Stopped slip_steps) (sym g) (stopped_more 2 slip_steps (moved u.regs (u.pc + 4) u) (omega arith) (refused i.kind u (u.pc + 4) (goes a (target i s.pc) ++ other) c d.0.0 d.0.1.1 (turned_back u chosen)))))
        (λ g. inr (inl (g ∙ sym p)))
        (slips_own u v j d.0 known sl))
        (λ st.
        half_leads w bound price slip way (keep_way is_spare false (opposite i.kind) i opp) N K a (step s) (step s) behind (cost behind + most)
        (falls_lead a after (step s) N K most low br.sourced br.pc to (on st)))
      where
        jumps : (u : State) → Branches w s i false → Into w a s words u → step u ≡ moved u.regs (u.pc + 4 + size) u
        jumps u br d =
            let f = far_to u d in
            let p = u.pc + 4 + size in
            walked w u (moved u.regs p u) (branch_taken w u own p (half_over w a s u d.0) d.1.0 (opposite_is i.kind c).0 (tests false u br d.0) f.1 f.2)

  -- a branch: the first word makes the input's next state
  pub branch_leads :
      (a : ℕ) (s : State) (i : Ins) (N K most e : ℕ) → a < 2 ^ 64 → Sourced w s → w.source s.pc ≡ Known i → class_of i.kind ≡ class.Branch
      → i.rs1 ≤ LAST_ORIGINAL → i.rs2 ≤ LAST_ORIGINAL → Goes w leader (target i s.pc) → Goes w leader ((s.pc + 4) % 2 ^ 64) → 31 + most ≤ e + bound → Next w l leader x bound price slip N K s most
      → Onto w bound price slip N (suc K) s (31 + e) (Into w a s (leave_as l.distance [] (fall_to leader) class.Branch i a s.pc))
  branch_leads a s i N K most e low so has c m1 m2 to on le next =
      leads_steady w bound price slip N K s _ (λ st. by (holds i.kind (reg s i.rs1) (reg s i.rs2)) (branch_step w s i so has c (steady_calm w.reached s st))) where
        by : (b : Bool) → Branches w s i b → Onto w bound price slip N (suc K) s (31 + e) (Into w a s (leave_as l.distance [] (fall_to leader) class.Branch i a s.pc))
        by true br = takes a s i N K most e low c m1 m2 le br to next
        by false br = passes a s i N K most e low c m1 m2 le br on next

  -- ---- a JALR
  module _ (s : State) (i : Ins) (N K most e : ℕ) (xs : List Item) (beyond : Beyond leader xs) (m1 : i.rs1 ≤ LAST_ORIGINAL) (m : i.rd ≤ LAST_ORIGINAL) (le : 31 + most ≤ e + bound) where
    abbrev looks : List Item
    looks = look_up TEMPORARY ++ look_again w.distance

    module _ (lp : Leaps w s i) (to : Goes w leader (aim s i)) (on : Next w l leader x bound price slip N K s most) where
      abbrev t : ℕ
      t = aim s i

      abbrev Steady : ℕ → Type 0
      Steady = IsSteady w.reached s

      -- the last word goes to the entry
      last_makes : leader t ≡ true → Onto w bound price slip N (suc K) s (5 + e) (Before_words w bound price (Holding w t (step s) 30 (w.entry t)) (leap w x.near ++ xs))
      last_makes leads =
          let Found : State → Type 0 = Holding w t (step s) 30 (w.entry t) in
          let goes_to : (u : State) → Before_words w bound price Found (leap w x.near ++ xs) u → step u ≡ moved u.regs (w.entry t) u = λ u b. leap_is w x.near t (step s) u xs (x.known t leads) b.0 b.1 in
          leads_original w bound price slip N K s (Before_words w bound price Found (leap w x.near ++ xs)) (Entered w l leader x bound price slip (step s)) most (5 + e) (omega arith) (omega (arith, le))
          (words_last w bound price Found (leap w x.near ++ xs) (holding_lasts w bound price t (step s) (w.entry t)))
          (λ st u b.
          let is = goes_to u b in
          let h : Half w t (step s) (step u) = subst (Half w t (step s)) (sym is) (half_moved w t (step s) u (w.entry t) b.0.0) in
          inr (half_met w bound price t (step s) (step u) h, (subst (λ q. Half w q (step s) (step u)) (sym lp.pc) h, ap (λ y. y.pc) is ∙ ap w.entry (sym lp.pc), ap leader lp.pc ∙ leads)))
          (λ is n k m u n_le k_le st d j v known sl c.
          let word = ins Jalr 0 TEMPORARY 0 (pos 0) in
          let g = slip_skips w word u v (inr (inl refl)) (subst (λ z. Slip w z u v) (sym (same_word w u.pc word j d.0.1.0 known)) sl) in
          ⊎_elim
          (λ o. inl (subst (Stopped slip_steps) (sym g) o))
          (λ at. inr (inl (g ∙ ap (λ q. moved u.regs q u) at ∙ sym (goes_to u d.0))))
          (falls_beyond w leader loses t (step s) (moved u.regs (u.pc + 4) u) xs (half_moved w t (step s) u (u.pc + 4) d.0.0.0) (c.small SIGNATURE) (c.small CURSOR) d.0.1.1 beyond))
          on

      -- where no code stands a computing word makes the input's next state
      word_ends :
          (b : Bool) (j : Ins) (rest : List Item) (many : ℕ) → ((k : Ins) → w.source t ≡ Known k → ⊥) → is_spare j.rd ≡ true → class_of j.kind ≡ class.Compute → 1 ≤ many
          → (b ≡ true → Recovers w bound price Steady (step s) N (suc K) (With w bound price many (Into w t (step s) (Plain j ∷ rest)))) → Onto w bound price b N (suc K) s many (Into w t (step s) (Plain j ∷ rest))
      word_ends b j rest many lacks spare c some mend =
          leads_original w bound price b N K s (Into w t (step s) (Plain j ∷ rest)) (Half w t (step s)) 0 many some (omega (arith, some)) (into_lasts w bound price t (step s) (Plain j ∷ rest))
          (λ st u z.
          let is = computes w j u (half_over w t (step s) u z.0) z.1.0 c in
          let h : Half w t (step s) (step u) = subst (Half w t (step s)) (sym is) (half_spare w t (step s) u j.rd (result j.kind j u) (u.pc + 4) spare z.0) in
          inr (half_met w bound price t (step s) (step u) h, h))
          mend
          (λ st. leads_dead w bound price b N K (step s) _ lp.sourced (λ k z. lacks k (ap w.source (sym lp.pc) ∙ z)))

      -- the first look-up, and if that slips the second
      first_makes : ((k : Ins) → w.source t ≡ Known k → ⊥) → Onto w bound price slip N (suc K) s (15 + e) (Into w t (step s) (looks ++ xs))
      first_makes lacks =
          let j = ins Add SPARE TEMPORARY DISTANCE (pos 0) in
          let k = ins Add SPARE SPARE DISTANCE (pos 0) in
          let more : List Item = Plain (ins Lw TEMPORARY SPARE 0 (pos 0)) ∷ Plain (ins Add TEMPORARY TEMPORARY SPARE (pos 0)) ∷ (look_again w.distance ++ xs) in
          word_ends slip j (Plain k ∷ more) (15 + e) lacks refl refl (omega arith)
          (λ is.
          gives_or w bound price Steady (step s) N (suc K) j (Into w t (step s) (Plain j ∷ Plain k ∷ more)) (Into w t (step s) (Plain k ∷ more)) 1 (15 + e) refl (omega arith) (λ u b. b.1.0)
          (λ u y b lt calm. inr (half_spare w t (step s) u 31 y (u.pc + 4) refl b.0, b.1.1))
          (word_ends false k more 1 lacks refl refl (omega arith) (λ z. absurd (false≢true z))))

      -- from the look-ups on
      look_on : Onto w bound price slip N (suc K) s (15 + e) (Into w t (step s) (looks ++ xs))
      look_on =
          ⊎_elim
          (λ leads.
          leads_more w bound price slip N (suc K) s (Into w t (step s) (looks ++ xs)) (10 + (5 + e)) (15 + e) (omega arith)
          (looks_to w x.near leader loses t (step s) (x.table t leads) (x.known t leads) leads xs bound price slip s TEMPORARY N (suc K) (5 + e) (last_makes leads)))
          first_makes
          to

      -- from the return address on
      abbrev linked : List Item
      linked = links i s.pc ++ (looks ++ xs)

      link_on : Onto w bound price slip N (suc K) s (19 + e) (Into w t s linked)
      link_on =
          let few = links_most i s.pc in
          leads_more w bound price slip N (suc K) s (Into w t s linked) (cost (links i s.pc) + (15 + e)) (19 + e) (omega (arith, few))
          (links_lead i.rd (next_pc s) t t s N (suc K) (looks ++ xs) (15 + e) m (omega arith) lp.is lp.sourced look_on)

      -- behind the comparison the signature is the target
      called_on : Onto w bound price slip N (suc K) s (20 + e) (Before_words w bound price (Aims w s t) (called ++ linked))
      called_on =
          leads_compare w bound price slip N (suc K) s 16 30 (Aims w s t) (Half w t s) linked (19 + e) (20 + e) (omega arith) (aims_last w bound price s t) (λ u b. half_over w b.0.0 s u b.0.1)
          (λ u p b g. subst (λ n. Half w n s (moved u.regs p u)) (sym b.0.1.sign ∙ g ∙ b.1) (half_moved w b.0.0 s u p b.0.1))
          link_on

      -- ---- the target is taken by the original
      abbrev sum : ℕ
      sum = (reg s i.rs1 + imm i) % 2 ^ 64

      abbrev add_word : Ins
      add_word = ins Addi TEMPORARY i.rs1 0 i.imm

      abbrev and_word : Ins
      and_word = ins Andi TEMPORARY TEMPORARY 0 (neg_ℤ (pos 2))

      add_goes : (u : State) (q : ℕ) → Under w s u → Aims w s sum (moved (set_reg 30 (result Addi add_word u) u.regs) q u)
      add_goes u q b = aims_set w s u (result Addi add_word u) sum q b (addi_value u 30 i.rs1 (reg s i.rs1) sum i.imm (b.1.originals i.rs1 m1) refl)

      and_goes : (u : State) (q : ℕ) → Aims w s sum u → Aims w s t (moved (set_reg 30 (result Andi and_word u) u.regs) q u)
      and_goes u q b = aims_set w s u (result Andi and_word u) t q b.0 (andi_value u 30 sum b.1 (omega arith))

      -- under another signature the run is over
      abbrev Other : State → Type 0
      Other u = reg u SIGNATURE ≡ t → ⊥

      other_set : (u : State) (v q : ℕ) → Other u → Other (moved (set_reg 30 v u.regs) q u)
      other_set u v q ne e = ne (sym (slice_index-set_reg_other u.regs 30 v 16 (λ k. absurd (omega (arith, k)))) ∙ e)

      called_stops : (u : State) → Before_words w bound price (Aims w s t) (called ++ linked) u → Other u → Stopped 2 u
      called_stops u b ne =
          ⊎_elim
          (λ f. stopped_step 1 u (stopped_now (step u) (firing_over w (step u) f.0)))
          (λ g. absurd (ne (g.1 ∙ b.0.1)))
          (compare_step w u 16 30 (half_over w b.0.0.0 s u b.0.0.1) b.1.0 b.1.1.0)

      and_stops : (u : State) → Before_words w bound price (Aims w s sum) (Plain and_word ∷ (called ++ linked)) u → Other u → Stopped 3 u
      and_stops u b ne =
          let v = result Andi and_word u in
          stopped_step 2 u (subst (Stopped 2) (sym (computes w and_word u (half_over w b.0.0.0 s u b.0.0.1) b.1.0 refl))
          (called_stops (moved (set_reg 30 v u.regs) (u.pc + 4) u) (and_goes u (u.pc + 4) b.0, b.1.1) (other_set u v (u.pc + 4) ne)))

      add_stops_too : (u : State) → Before_words w bound price (Under w s) (Plain add_word ∷ Plain and_word ∷ (called ++ linked)) u → Other u → Stopped 4 u
      add_stops_too u b ne =
          let v = result Addi add_word u in
          stopped_step 3 u (subst (Stopped 3) (sym (computes w add_word u (half_over w b.0.0 s u b.0.1) b.1.0 refl))
          (and_stops (moved (set_reg 30 v u.regs) (u.pc + 4) u) (add_goes u (u.pc + 4) b.0, b.1.1) (other_set u v (u.pc + 4) ne)))

      -- so where it goes on the signature is the target already, whatever x30 has
      signed : (u : State) (y q : ℕ) → Under w s u → (Other u → ⊥) → Half w t s (moved (set_reg 30 y u.regs) q u)
      signed u y q b never = ⊎_elim (λ g. half_spare w t s u 30 y q refl (subst (λ n. Half w n s u) (sym b.1.sign ∙ g) b.1)) (λ ne. absurd (never ne)) (cases_eq (reg u SIGNATURE) t)

      aim_on : Onto w bound price slip N (suc K) s (22 + e) (Before_words w bound price (Under w s) (take_target i i.rs1 ++ (called ++ linked)))
      aim_on =
          let plain = every_plain w bound price slip Steady (step s) N (suc K) (With w bound price (19 + e) (Into w t s linked)) link_on in
          let rest : List Item = called ++ linked in
          leads_compute w bound price slip Steady (step s) N (suc K) add_word (Under w s) (Aims w s sum) (Plain and_word ∷ rest) (21 + e) (22 + e) (omega arith) refl (under_lasts w bound price s) (λ u b. half_over w b.0 s u b.1)
          add_goes
          (λ is.
          gives_or w bound price Steady (step s) N (suc K) add_word (Before_words w bound price (Under w s) (Plain add_word ∷ Plain and_word ∷ rest)) (Into w t s (Plain and_word ∷ rest)) (2 + (19 + e)) (22 + e) refl (omega arith) (λ u b. b.1.0)
          (λ u y b lt calm. inr (signed u y (u.pc + 4) b.0 (λ ne. calm_stops w u 4 (omega arith) calm (add_stops_too u b ne)), b.1.1))
          (half_leads w bound price false (Plain and_word ∷ called) (inl refl, (inr (refl, refl, tt), (inl refl, tt))) N (suc K) t s s linked (19 + e) plain))
          (leads_compute w bound price slip Steady (step s) N (suc K) and_word (Aims w s sum) (Aims w s t) rest (20 + e) (21 + e) (omega arith) refl (aims_last w bound price s sum) (λ u b. half_over w b.0.0 s u b.0.1)
          and_goes
          (λ is.
          gives_or w bound price Steady (step s) N (suc K) and_word (Before_words w bound price (Aims w s sum) (Plain and_word ∷ rest)) (Into w t s rest) (1 + (19 + e)) (21 + e) refl (omega arith) (λ u b. b.1.0)
          (λ u y b lt calm. inr (signed u y (u.pc + 4) b.0.0 (λ ne. calm_stops w u 3 (omega arith) calm (and_stops u b ne)), b.1.1))
          (half_leads w bound price false called (inr (refl, refl, tt), (inl refl, tt)) N (suc K) t s s linked (19 + e) plain))
          called_on)

      -- the words before it keep the original half, whatever the pair gives
      front_on : (a : ℕ) → Onto w bound price slip N (suc K) s (31 + e) (Into w a s (leave_as w.distance [] (fall_to leader) class.JumpReg i a s.pc ++ xs))
      front_on a =
          let tail : List Item = take_target i i.rs1 ++ (called ++ (links i s.pc ++ looks)) in
          let rest2 : List Item = take_target i i.rs1 ++ (called ++ linked) in
          let rest1 : List Item = guard i.rs1 ++ rest2 in
          let rest : List Item = check_distance w.distance ++ rest1 in
          let few = guard_most i.rs1 in
          let flat : (guard i.rs1 ++ tail) ++ xs ≡ rest1 = append_assoc (guard i.rs1) tail xs ∙ ap (λ k. guard i.rs1 ++ (take_target i i.rs1 ++ (called ++ k))) (append_assoc (links i s.pc) looks xs) in
          leads_map w bound price slip N (suc K) s _ (With w bound price (6 + (2 + (cost (guard i.rs1) + (22 + e)))) (Before_words w bound price (Under w s) (turn_leap i a ++ rest)))
          (λ n u d. (((a, d.0.0), subst (λ k. Reads false w.code w.entry u.pc (turn_leap i a ++ (check_distance w.distance ++ k))) flat d.0.1), let h = d.1 in omega (arith, h, few)))
          (under_leads w bound price slip N (suc K) s s (turn_leap i a) rest (2 + (cost (guard i.rs1) + (22 + e))) (inl refl, (inl refl, (inl refl, (refl, (inl refl, tt)))))
          (under_leads w bound price slip N (suc K) s s (check_distance w.distance) rest1 (cost (guard i.rs1) + (22 + e)) (keep_distance is_upper false upper_pair refl refl w.distance)
          (under_leads w bound price slip N (suc K) s s (guard i.rs1) rest2 (22 + e) (keep_guard is_upper false i.rs1)
          aim_on)))

  -- a JALR: the last word makes the input's next state, or the first look-up where no code is
  pub leap_leads :
      (a : ℕ) (s : State) (i : Ins) (N K most e : ℕ) (xs : List Item) → Beyond leader xs → a < 2 ^ 64 → Sourced w s → w.source s.pc ≡ Known i → class_of i.kind ≡ class.JumpReg
      → i.rs1 ≤ LAST_ORIGINAL → i.rd ≤ LAST_ORIGINAL → (IsSteady w.reached s 1 → Goes w leader (aim s i)) → 31 + most ≤ e + bound → Next w l leader x bound price slip N K s most
      → Onto w bound price slip N (suc K) s (31 + e) (Into w a s (leave_as w.distance [] (fall_to leader) class.JumpReg i a s.pc ++ xs))
  leap_leads a s i N K most e xs beyond low so has c m1 m to le on =
      leads_steady w bound price slip N K s _ (λ st. front_on s i N K most e xs beyond m1 m le (leap_step w s i so has c (steady_calm w.reached s st)) (to st) on a)
