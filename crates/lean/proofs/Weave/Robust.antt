-- Runs whose duplicate half is changed at any steps: what comes of them, and how words carry it on.
use Rattle.std.proofs.Common.{◌≡◌, ℕ, zero, suc, ◌+◌, ◌*◌, ◌%◌, ◌^◌, ◌<◌, ◌≤◌, ◌⊎◌, inl, inr, ⊎_elim, Bool, true, false, cond, List, [], ◌∷◌, ◌++◌, length, refl, sym, ap, ◌∙◌, subst, arith}
use Rattle.std.specs.Prelude.{◌-◌, slice_index, pos}
use Rattle.std.proofs.lemmas.Bool.{cases_eq, cases_lt, ne_eqb, false≢true}
use Rattle.std.proofs.lemmas.List.{set-set}
use Rattle.machine.specs.Memory.{byte_in}
use Rattle.rv_isa.specs.declared.class.Class.TheVariants as class
use Rattle.machine.specs.Table.{ins, Ins, Auipc, Addi, Beq, Ebreak, Lui}
use Rattle.machine.specs.Offsets.{distance_between, upper_part, lower_part}
use Rattle.qed_model.specs.Promise.Kept.{NotTrapped, IsSteady, LeadsToReached}
use Rattle.qed_model.specs.Weave.Lean.{is_break, cost}
use Rattle.qed_model.specs.Weave.Sequences.{Reads, fired_check, LAST_ORIGINAL}
use Rattle.weave_core.specs.WeaveLaws.{Met}
use Rattle.weave_core.specs.World.{computed_value, value, World, Item, Mark, Plain, Constant, Go, Going, wrapped, get, byte_at, flags_at, imm, State, reg, set_reg, moved, jumped, result, execute, Known, step, run, target, Class, class_of, fetched_at, Quiet, holds}
use Rattle.lean.specs.Strayed.{IsOver, Stopped}
use Rattle.lean.specs.Undisturbed.{slip_steps}
use Rattle.lean.proofs.Weave.Chain.{break_is, no_break}
use Rattle.lean.proofs.Weave.Carry.{both_ways, jumped_to, constant_value, met_going, Keep, Skips, keeps_as, behind, Carried, skipped, keeps, slice_index-set_reg_same, length-set_reg, step-class, step-compute, Over, known_at, pc_four, one_run, run-more, steady_le, steady_rest, Walk, branch_taken, branch_passed, equal_holds, over_moved, step-break}
use Rattle.lean.proofs.Weave.Half.{is_spare, half_spare, Half, Into, half_over, half_keeps, Holding, set_alike, but, holding_keeps, holding_set}
use Rattle.lean.proofs.Weave.Turn.{lui_value}

-- ---- the input's steps
-- n steady steps, and then m
pub steady_join : (reached : ℕ → Bool) (s : State) (n m : ℕ) → IsSteady reached s n → IsSteady reached (run s n) m → IsSteady reached s (n + m)
steady_join reached s n m a b = record {
  no_trap = subst NotTrapped (sym (run-more s n m)) b.no_trap;
  leads = λ k h.
      ⊎_elim
      (λ few. a.leads k few)
      (λ ge.
      let e : n + (k - n) ≡ k = omega (arith, ge) in
      subst (LeadsToReached reached) (sym (run-more s n (k - n)) ∙ ap (run s) e) (b.leads (k - n) (omega (arith, h, ge))))
      (cases_lt k n);
}

-- one, and then n
pub steady_first : (reached : ℕ → Bool) (s : State) (n : ℕ) → IsSteady reached s 1 → IsSteady reached (step s) n → IsSteady reached s (suc n)
steady_first reached s n a b =
    let one : 1 + n ≡ suc n = omega arith in
    subst (IsSteady reached s) one (steady_join reached s 1 n a (subst (λ z. IsSteady reached z n) (sym (one_run s)) b))

-- it does not trap
pub steady_calm : (reached : ℕ → Bool) (s : State) → IsSteady reached s 1 → NotTrapped (step s)
steady_calm reached s st = subst NotTrapped (one_run s) st.no_trap

-- LUI gives a small number itself
pub lui_small : (u : State) (r n : ℕ) → n < 2 ^ 64 → result Lui (ins Lui r 0 0 (pos n)) u ≡ n
lui_small u r n h = lui_value u r (pos n) ∙ omega (arith, h)

module _ (w : World) where
  -- ---- changes
  -- v is u with other numbers in x15, x17 to x29 and the duplicate half
  pub record Disturbed (u v : State) : Type 0 where
    pub before : u.outcome ≡ Going
    pub going : v.outcome ≡ Going
    pub pc : v.pc ≡ u.pc
    pub long : length u.regs ≡ 32
    pub count : length v.regs ≡ 32
    pub low : (r : ℕ) → r ≤ 14 → reg v r ≡ reg u r
    pub sign : reg v 16 ≡ reg u 16
    pub thirty : reg v 30 ≡ reg u 30
    pub last : reg v 31 ≡ reg u 31
    pub code : (a : ℕ) → fetched_at v.memory v.ranges a ≡ fetched_at u.memory u.ranges a
    pub flags : (q : ℕ) → flags_at v.memory q ≡ flags_at u.memory q
    pub cells : (q : ℕ) → q < 2 ^ 64 → (q < w.base + w.distance) ⊎ (w.base + 2 * w.distance ≤ q) → get v.memory q ≡ get u.memory q

  pub half_disturbed : (x : ℕ) (s u v : State) → Half w x s u → Disturbed u v → Half w x s v
  unfolding byte_at
  half_disturbed x s u v a d = record {
    going = d.going;
    standing = record { code = λ p. d.code p ∙ a.standing.code p; flagged = record { flags = λ q. d.flags q ∙ a.standing.flagged.flags q; regs = d.count; zero_reg = d.low 0 (omega arith) ∙ a.standing.flagged.zero_reg } };
    sourced = a.sourced;
    sign = d.sign ∙ a.sign;
    distance = d.low 14 (omega arith) ∙ a.distance;
    originals = λ r h. d.low r (omega (arith, h)) ∙ a.originals r h;
    bytes = λ q e. let h = w.layout.high q e in let top = w.layout.top in ap (λ c. byte_in c) (d.cells q (omega (arith, h, top)) (inl h)) ∙ a.bytes q e;
    fixed = λ q h l. d.cells q l (inr h) ∙ a.fixed q h l;
  }

  -- a register set in both
  pub set_disturbed : (r x p : ℕ) (u v : State) → r < 32 → Disturbed u v → Disturbed (moved (set_reg r x u.regs) p u) (moved (set_reg r x v.regs) p v)
  set_disturbed r x p u v h d = record {
    before = d.before;
    going = d.going;
    pc = refl;
    long = length-set_reg u.regs r x ∙ d.long;
    count = length-set_reg v.regs r x ∙ d.count;
    low = λ q l. alike q (d.low q l);
    sign = alike 16 d.sign;
    thirty = alike 30 d.thirty;
    last = alike 31 d.last;
    code = d.code;
    flags = d.flags;
    cells = d.cells;
  } where
    alike : (q : ℕ) → reg v q ≡ reg u q → slice_index (set_reg r x v.regs) q ≡ slice_index (set_reg r x u.regs) q
    alike q e = set_alike v.regs u.regs r x q d.count d.long h e

  pub over_disturbed : (u v : State) → Over w.code u → Disturbed u v → Over w.code v
  over_disturbed u v o d = record { going = d.going; code = λ p. d.code p ∙ o.code p }

  -- ---- one step
  pub walked : (u y : State) → Walk (Quiet w) u 1 y → step u ≡ y
  walked u y k = sym (one_run u) ∙ k.ends

  -- a computing word
  pub computes : (i : Ins) (u : State) → Over w.code u → w.code u.pc ≡ Known i → class_of i.kind ≡ class.Compute → step u ≡ moved (set_reg i.rd (result i.kind i u) u.regs) (u.pc + 4) u
  computes i u o k c = step-compute u i o.going (known_at w.code u i o k) c ∙ ap (λ p. moved (set_reg i.rd (result i.kind i u) u.regs) p u) (pc_four w u i k)

  module _ (a : ℕ) (t u : State) (h : Half w a t u) where
    -- a word that leaves x15
    pub kept_step : (i : Ins) → w.code u.pc ≡ Known i → keeps (but 15) false i ≡ true → IsOver (step u).outcome ⊎ (Holding w a t 15 (reg u 15) (step u) × ((step u).pc ≡ u.pc + 4))
    kept_step i k e = (holding_keeps w a t 15 (reg u 15) refl).word u i (h, refl) k e

    -- a computing word that sets a register for which nothing is asked
    pub set_step :
        (i : Ins) (v : ℕ) → is_spare i.rd ≡ true → 1 ≤ i.rd → i.rd < 32 → class_of i.kind ≡ class.Compute → w.code u.pc ≡ Known i → result i.kind i u ≡ v
        → Holding w a t i.rd v (step u) × ((step u).pc ≡ u.pc + 4)
    set_step i v spare one few c k is =
        let e = computes i u (half_over w a t u h) k c in
        (subst (Holding w a t i.rd v) (sym e) (holding_set w a t u i.rd (result i.kind i u) v (u.pc + 4) spare one few h is), ap (λ y. y.pc) e)

  -- before an EBREAK
  abbrev pub Firing : State → Type 0
  Firing u = Over w.code u × (w.code u.pc ≡ Known (ins Ebreak 0 0 0 (pos 0)))

  pub firing_over : (u : State) → Firing u → IsOver (step u).outcome
  firing_over u f = inl (step-break u f.0.going (f.0.code u.pc ∙ f.1))

  -- a branch over one word that jumps
  pub takes_eight : (u : State) (i : Ins) → Over w.code u → w.code u.pc ≡ Known i → i.imm ≡ pos 8 → jumped u.regs (target i u.pc) u ≡ moved u.regs (u.pc + 4 + 4) u
  takes_eight u i o k e =
      let low = w.low u.pc i k in
      let grain = w.grain u.pc i k in
      let eight : imm i ≡ 8 = ap wrapped e in
      let there : target i u.pc ≡ u.pc + 4 + 4 = omega (arith, eight, low) in
      ap (λ p. jumped u.regs p u) there ∙ jumped_to u.regs (u.pc + 4 + 4) u (omega (arith, grain))

  -- a comparison goes on where both registers are equal, or to its EBREAK
  pub compare_step :
      (u : State) (r q : ℕ) → Over w.code u → w.code u.pc ≡ Known (ins Beq 0 r q (pos 8)) → w.code (u.pc + 4) ≡ Known (ins Ebreak 0 0 0 (pos 0))
      → (Firing (step u) × (step u ≡ moved u.regs (u.pc + 4) u)) ⊎ ((step u ≡ moved u.regs (u.pc + 4 + 4) u) × (reg u r ≡ reg u q))
  unfolding holds
  compare_step u r q o k fires =
      let i = ins Beq 0 r q (pos 8) in
      let low = w.low u.pc i k in
      let grain = w.grain u.pc i k in
      ⊎_elim
      (λ e.
      let p = u.pc + 4 + 4 in
      inr (walked u (moved u.regs p u) (branch_taken w u i p o k refl (equal_holds (reg u r) (reg u q) e) (omega (arith, low)) (omega (arith, grain))), e))
      (λ ne.
      let is = walked u (moved u.regs (u.pc + 4) u) (branch_passed w u i o k refl (ne_eqb (reg u r) (reg u q) ne)) in
      inl (subst Firing (sym is) (over_moved w.code u u.regs (u.pc + 4) o, fires), is))
      (cases_eq (reg u r) (reg u q))

module _ (w : World) (near : w.form.far ≡ false) where
  pub to_far : (a : ℕ) (xs : List Item) → Reads false w.code w.entry a xs → Reads w.form.far w.code w.entry a xs
  to_far a xs r = subst (λ b. Reads b w.code w.entry a xs) (sym near) r

  pub to_near : (a : ℕ) (xs : List Item) → Reads w.form.far w.code w.entry a xs → Reads false w.code w.entry a xs
  to_near a xs r = subst (λ b. Reads b w.code w.entry a xs) near r

-- ---- slips
module _ (w : World) where
  -- v is the state behind an instruction i of u that goes wrong once. It gives x14 to x31 any number, or stores
  -- anything in the duplicate half. A branch goes on or jumps; a jump or the end is skipped
  pub data Slip (i : Ins) (u v : State) : Type 0 where
    gives : (x : ℕ) → (class_of i.kind ≡ class.Compute) ⊎ (class_of i.kind ≡ class.Load) → 14 ≤ i.rd → x < 2 ^ 64 → v ≡ moved (set_reg i.rd x u.regs) (u.pc + 4) u → Slip i u v
    passes : class_of i.kind ≡ class.Branch → v ≡ moved u.regs (u.pc + 4) u → Slip i u v
    takes : class_of i.kind ≡ class.Branch → v ≡ jumped u.regs (target i u.pc) u → Slip i u v
    stores : class_of i.kind ≡ class.Store → 14 ≤ i.rs1 → Disturbed w (step u) v → Slip i u v
    skips : (class_of i.kind ≡ class.Jump) ⊎ ((class_of i.kind ≡ class.JumpReg) ⊎ (class_of i.kind ≡ class.End)) → v ≡ moved u.regs (u.pc + 4) u → Slip i u v

  -- u goes on, and is not over soon
  pub record Calm (u : State) : Type 0 where
    pub going : u.outcome ≡ Going
    pub quiet : (k : ℕ) → k ≤ 9 → IsOver (run u k).outcome → ⊥
    pub small : (r : ℕ) → reg u r < 2 ^ 64

  -- none of them is an instruction of the test's own
  abbrev pub IsOwn : Ins → Type 0
  IsOwn i = (((class_of i.kind ≡ class.Compute) ⊎ (class_of i.kind ≡ class.Load)) × (i.rd ≤ LAST_ORIGINAL)) ⊎ (((class_of i.kind ≡ class.Store) × (i.rs1 ≤ LAST_ORIGINAL)) ⊎ (class_of i.kind ≡ class.Fence))

  pub own_slips : (i : Ins) (u v : State) → IsOwn i → Slip i u v → ⊥
  own_slips i u v o (gives x k h l e) = ⊎_elim (λ a. let z = a.1 in absurd (omega (arith, z, h))) (λ a. ⊎_elim (λ b. ⊎_elim (λ c. absurd (cc)) (λ c. absurd (cc)) k) (λ b. ⊎_elim (λ c. absurd (cc)) (λ c. absurd (cc)) k) a) o
  own_slips i u v o (passes k e) = ⊎_elim (λ a. ⊎_elim (λ c. absurd (cc)) (λ c. absurd (cc)) a.0) (λ a. ⊎_elim (λ b. let c = b.0 in absurd (cc)) (λ b. absurd (cc)) a) o
  own_slips i u v o (takes k e) = ⊎_elim (λ a. ⊎_elim (λ c. absurd (cc)) (λ c. absurd (cc)) a.0) (λ a. ⊎_elim (λ b. let c = b.0 in absurd (cc)) (λ b. absurd (cc)) a) o
  own_slips i u v o (stores k h d) = ⊎_elim (λ a. ⊎_elim (λ c. absurd (cc)) (λ c. absurd (cc)) a.0) (λ a. ⊎_elim (λ b. let z = b.1 in absurd (omega (arith, z, h))) (λ b. absurd (cc)) a) o
  own_slips i u v o (skips k e) =
      ⊎_elim
      (λ a. ⊎_elim (λ c. ⊎_elim (λ z. absurd (cc)) (λ y. ⊎_elim (λ z. absurd (cc)) (λ z. absurd (cc)) y) k) (λ c. ⊎_elim (λ z. absurd (cc)) (λ y. ⊎_elim (λ z. absurd (cc)) (λ z. absurd (cc)) y) k) a.0)
      (λ a. ⊎_elim (λ b. let c = b.0 in ⊎_elim (λ z. absurd (cc)) (λ y. ⊎_elim (λ z. absurd (cc)) (λ z. absurd (cc)) y) k) (λ c. ⊎_elim (λ z. absurd (cc)) (λ y. ⊎_elim (λ z. absurd (cc)) (λ z. absurd (cc)) y) k) a)
      o

  -- how one is made
  pub as_gives : (i : Ins) (u v : State) (x : ℕ) → (class_of i.kind ≡ class.Compute) ⊎ (class_of i.kind ≡ class.Load) → 14 ≤ i.rd → x < 2 ^ 64 → v ≡ moved (set_reg i.rd x u.regs) (u.pc + 4) u → Slip i u v
  as_gives i u v x k h l e = gives x k h l e

  pub as_passes : (i : Ins) (u v : State) → class_of i.kind ≡ class.Branch → v ≡ moved u.regs (u.pc + 4) u → Slip i u v
  as_passes i u v k e = passes k e

  pub as_takes : (i : Ins) (u v : State) → class_of i.kind ≡ class.Branch → v ≡ jumped u.regs (target i u.pc) u → Slip i u v
  as_takes i u v k e = takes k e

  pub as_skips : (i : Ins) (u v : State) → (class_of i.kind ≡ class.Jump) ⊎ ((class_of i.kind ≡ class.JumpReg) ⊎ (class_of i.kind ≡ class.End)) → v ≡ moved u.regs (u.pc + 4) u → Slip i u v
  as_skips i u v k e = skips k e

  -- of a computing word, and of a branch
  pub slip_gives :
      (i : Ins) (u v : State) → (class_of i.kind ≡ class.Compute) ⊎ (class_of i.kind ≡ class.Load) → Slip i u v
      → (14 ≤ i.rd) × ((x : ℕ) × (x < 2 ^ 64) × (v ≡ moved (set_reg i.rd x u.regs) (u.pc + 4) u))
  slip_gives i u v c (gives x k h l e) = (h, (x, l, e))
  slip_gives i u v c (passes k e) = ⊎_elim (λ z. absurd (cc)) (λ z. absurd (cc)) c
  slip_gives i u v c (takes k e) = ⊎_elim (λ z. absurd (cc)) (λ z. absurd (cc)) c
  slip_gives i u v c (stores k h d) = ⊎_elim (λ z. absurd (cc)) (λ z. absurd (cc)) c
  slip_gives i u v c (skips k e) = ⊎_elim (λ c. ⊎_elim (λ z. absurd (cc)) (λ y. ⊎_elim (λ z. absurd (cc)) (λ z. absurd (cc)) y) k) (λ c. ⊎_elim (λ z. absurd (cc)) (λ y. ⊎_elim (λ z. absurd (cc)) (λ z. absurd (cc)) y) k) c

  pub slip_branch : (i : Ins) (u v : State) → class_of i.kind ≡ class.Branch → Slip i u v → (v ≡ moved u.regs (u.pc + 4) u) ⊎ (v ≡ jumped u.regs (target i u.pc) u)
  slip_branch i u v c (gives x k h l e) = ⊎_elim (λ z. absurd (cc)) (λ z. absurd (cc)) k
  slip_branch i u v c (passes k e) = inl e
  slip_branch i u v c (takes k e) = inr e
  slip_branch i u v c (stores k h d) = absurd (cc)
  slip_branch i u v c (skips k e) = ⊎_elim (λ z. absurd (cc)) (λ y. ⊎_elim (λ z. absurd (cc)) (λ z. absurd (cc)) y) k

  -- of any word
  pub slip_elim :
      (i : Ins) (u v : State) (C : Type 0) → ((x : ℕ) → (class_of i.kind ≡ class.Compute) ⊎ (class_of i.kind ≡ class.Load) → v ≡ moved (set_reg i.rd x u.regs) (u.pc + 4) u → C) → (class_of i.kind ≡ class.Branch → C)
      → (Disturbed w (step u) v → C) → ((class_of i.kind ≡ class.Jump) ⊎ ((class_of i.kind ≡ class.JumpReg) ⊎ (class_of i.kind ≡ class.End)) → C) → Slip i u v → C
  slip_elim i u v C a b c d (gives x k h l e) = a x k e
  slip_elim i u v C a b c d (passes k e) = b k
  slip_elim i u v C a b c d (takes k e) = b k
  slip_elim i u v C a b c d (stores k h e) = c e
  slip_elim i u v C a b c d (skips k e) = d k

  -- a jump, or the end, is skipped
  pub slip_skips : (i : Ins) (u v : State) → (class_of i.kind ≡ class.Jump) ⊎ ((class_of i.kind ≡ class.JumpReg) ⊎ (class_of i.kind ≡ class.End)) → Slip i u v → v ≡ moved u.regs (u.pc + 4) u
  slip_skips i u v c (gives x k h l e) = ⊎_elim (λ c. ⊎_elim (λ z. absurd (cc)) (λ z. absurd (cc)) k) (λ y. ⊎_elim (λ c. ⊎_elim (λ z. absurd (cc)) (λ z. absurd (cc)) k) (λ c. ⊎_elim (λ z. absurd (cc)) (λ z. absurd (cc)) k) y) c
  slip_skips i u v c (passes k e) = e
  slip_skips i u v c (takes k e) = ⊎_elim (λ z. absurd (cc)) (λ y. ⊎_elim (λ z. absurd (cc)) (λ z. absurd (cc)) y) c
  slip_skips i u v c (stores k h d) = ⊎_elim (λ z. absurd (cc)) (λ y. ⊎_elim (λ z. absurd (cc)) (λ z. absurd (cc)) y) c
  slip_skips i u v c (skips k e) = e

  -- one word stands at an address
  pub same_word : (p : ℕ) (i j : Ins) → w.code p ≡ Known i → w.code p ≡ Known j → i ≡ j
  same_word p i j a b = known_same (sym a ∙ b) where
    known_same : Known i ≡ Known j → i ≡ j
    known_same e = cc

-- ---- runs that stop
pub stopped_more : (few many : ℕ) (u : State) → few ≤ many → Stopped few u → Stopped many u
stopped_more few many u h s = record { steps = s.steps; within = omega (arith, h, s.within); over = s.over }

pub stopped_now : (u : State) → IsOver (step u).outcome → Stopped 1 u
stopped_now u o = record { steps = 1; within = omega arith; over = subst (λ y. IsOver y.outcome) (sym (one_run u)) o }

pub stopped_step : (n : ℕ) (u : State) → Stopped n (step u) → Stopped (suc n) u
unfolding run
stopped_step n u s = record { steps = suc s.steps; within = omega (arith, s.within); over = s.over }

module _ (w : World) (bound price : ℕ) where
  -- ---- robust states
  -- A game of n moves, each a step or a change, or once a slip if there was no change before. The run comes to k states
  -- of the input, one after the other, or is over. It takes m steps to the first of them, t, and `bound` more to each
  -- later one. A change costs `price` more, and there are none if that is below the bound. Behind a slip the run is
  -- over soon, or it is as without it, or it costs `price` more
  unfoldable pub Robust : (slip : Bool) (n k : ℕ) (t : State) (m : ℕ) (u : State) → Type 0
  Robust slip zero k t m u = Unit {0}
  Robust slip (suc n) zero t m u = Unit {0}
  Robust slip (suc n) (suc k) t m u =
      (IsOver (step u).outcome ⊎ ((j : ℕ) × (m ≡ suc j) × (Robust slip n (suc k) t j (step u) ⊎ (Met w (step u) t × Robust slip n k (step t) (j + bound) (step u)))))
      × (((v : State) → bound ≤ price → Disturbed w u v → Robust false n (suc k) t (m + price) v)
      × (slip ≡ true → (i : Ins) (v : State) → w.code u.pc ≡ Known i → Slip w i u v → Calm w u → Stopped slip_steps v ⊎ ((v ≡ step u) ⊎ Robust false n (suc k) t (m + price) v)))

  -- without a slip
  pub robust_plain : (slip : Bool) (n k : ℕ) (t : State) (m : ℕ) (u : State) → Robust slip n k t m u → Robust false n k t m u
  unfolding Robust
  robust_plain slip zero k t m u r = tt
  robust_plain slip (suc n) zero t m u r = tt
  robust_plain slip (suc n) (suc k) t m u r = (
    ⊎_elim
        (λ o. inl o)
        (λ g. inr (g.0, g.1, ⊎_elim (λ a. inl (robust_plain slip n (suc k) t g.0 (step u) a)) (λ b. inr (b.0, robust_plain slip n k (step t) (g.0 + bound) (step u) b.1)) g.2))
        r.0,
    (r.1.0, λ e. absurd (false≢true e)),
  )

  -- each state with the property D is robust; D also has the steps that are left, and S what is asked of k states from
  -- t on
  abbrev pub EveryOf : Bool → (ℕ → Type 0) → State → ℕ → ℕ → (ℕ → State → Type 0) → Type 0
  EveryOf slip S t N K D = (n k m : ℕ) (u : State) → n ≤ N → k ≤ K → S k → D m u → Robust slip n k t m u

  -- at least `most` steps are left
  abbrev pub With : ℕ → (State → Type 0) → ℕ → State → Type 0
  With most P m u = P u × (most ≤ m)

  -- a change leaves the property
  abbrev pub Lasts : (State → Type 0) → Type 0
  Lasts P = (u v : State) → P u → Disturbed w u v → P v

  abbrev pub LastsWith : (ℕ → State → Type 0) → Type 0
  LastsWith D = (m : ℕ) (u v : State) → D m u → bound ≤ price → Disturbed w u v → D (m + price) v

  pub with_lasts : (most : ℕ) (P : State → Type 0) → Lasts P → LastsWith (With most P)
  with_lasts most P l m u v d one c = (l u v d.0 c, let h = d.1 in omega (arith, h))

  -- either of two
  abbrev pub Either : (ℕ → State → Type 0) → (ℕ → State → Type 0) → ℕ → State → Type 0
  Either D E m u = D m u ⊎ E m u

  -- one step leads from a property to another, or the run is over
  abbrev pub Steps : (ℕ → State → Type 0) → (ℕ → State → Type 0) → Type 0
  Steps D E = (m : ℕ) (u : State) → D m u → IsOver (step u).outcome ⊎ ((j : ℕ) × (m ≡ suc j) × E j (step u))

  -- that step makes the input's next state
  abbrev pub Makes : State → (ℕ → State → Type 0) → (ℕ → State → Type 0) → Type 0
  Makes s D E = (m : ℕ) (u : State) → D m u → IsOver (step u).outcome ⊎ ((j : ℕ) × (m ≡ suc j) × Met w (step u) (step s) × E (j + bound) (step u))

  -- a property of a state before some words
  abbrev pub Before_words : (State → Type 0) → List Item → State → Type 0
  Before_words P xs u = P u × Reads false w.code w.entry u.pc xs

  pub words_last : (P : State → Type 0) (xs : List Item) → Lasts P → Lasts (Before_words P xs)
  words_last P xs lasts u v b d = (lasts u v b.0 d, subst (λ p. Reads false w.code w.entry p xs) (sym d.pc) b.1)

  -- of the original half
  pub half_lasts : (x : ℕ) (s : State) → Lasts (Half w x s)
  half_lasts x s u v a d = half_disturbed w x s u v a d

  pub into_lasts : (x : ℕ) (s : State) (rest : List Item) → Lasts (Into w x s rest)
  into_lasts x s rest = words_last (Half w x s) rest (half_lasts x s)

  -- no change reaches x30
  pub holding_lasts : (x : ℕ) (s : State) (n : ℕ) → Lasts (Holding w x s 30 n)
  holding_lasts x s n u v b d = (half_disturbed w x s u v b.0 d, d.thirty ∙ b.1)

  -- the original half has the input's values
  pub half_met : (x : ℕ) (s u : State) → Half w x s u → Met w u s
  half_met x s u h = met_going w u s (record { output = h.standing.flagged; originals = h.originals; bytes = h.bytes }) h.going h.sourced.over.going

  -- ---- what becomes of slips
  -- behind a slip of a state with D the run is over soon, or is as without it, or each state with E
  abbrev pub Slides : (ℕ → State → Type 0) → (ℕ → State → Type 0) → Type 0
  Slides D E = (m : ℕ) (u : State) → D m u → (i : Ins) (v : State) → w.code u.pc ≡ Known i → Slip w i u v → Calm w u → Stopped slip_steps v ⊎ ((v ≡ step u) ⊎ E (m + price) v)

  -- behind a slip of a state with D the run is over soon, or is as without it, or is robust
  abbrev pub Recovers : (ℕ → Type 0) → State → ℕ → ℕ → (ℕ → State → Type 0) → Type 0
  Recovers S t N K D =
      (n k m : ℕ) (u : State) → n ≤ N → suc k ≤ K → S (suc k) → D m u → (i : Ins) (v : State) → w.code u.pc ≡ Known i → Slip w i u v → Calm w u
      → Stopped slip_steps v ⊎ ((v ≡ step u) ⊎ Robust false n (suc k) t (m + price) v)

  -- since each state with E is robust
  pub mends : (S : ℕ → Type 0) (t : State) (N K : ℕ) (D E : ℕ → State → Type 0) → Slides D E → EveryOf false S t N K E → Recovers S t N K D
  mends S t N K D E slides off n k m u n_le k_le st d i v known s c = ⊎_elim (λ o. inl o) (λ r. inr (⊎_elim (λ e. inl e) (λ f. inr (off n (suc k) (m + price) v n_le k_le st f)) r)) (slides m u d i v known s c)

  -- since the test's own instructions are left out
  pub mends_own : (S : ℕ → Type 0) (t : State) (N K : ℕ) (D : ℕ → State → Type 0) → ((m : ℕ) (u : State) → D m u → (i : Ins) × (w.code u.pc ≡ Known i) × IsOwn w i) → Recovers S t N K D
  mends_own S t N K D own n k m u n_le k_le st d j v known s c = let o = own m u d in absurd (own_slips w o.0 u v o.2 (subst (λ z. Slip w z u v) (sym (same_word w u.pc o.0 j o.1 known)) s))

  -- since it is over at once
  pub mends_over : (S : ℕ → Type 0) (t : State) (N K : ℕ) (D : ℕ → State → Type 0) → ((m : ℕ) (u : State) → D m u → IsOver (step u).outcome) → Recovers S t N K D
  mends_over S t N K D over n k m u n_le k_le st d i v known s c = absurd (c.quiet 1 (omega arith) (subst (λ y. IsOver y.outcome) (sym (one_run u)) (over m u d)))

  -- of a word that computes or loads: any number in its register
  pub mends_gives :
      (S : ℕ → Type 0) (t : State) (N K : ℕ) (i : Ins) (P R : State → Type 0) (rest : List Item) (less many : ℕ) → (class_of i.kind ≡ class.Compute) ⊎ (class_of i.kind ≡ class.Load) → less ≤ many + price
      → ((u : State) (x p : ℕ) → P u → 14 ≤ i.rd → x < 2 ^ 64 → Calm w u → w.code u.pc ≡ Known i → R (moved (set_reg i.rd x u.regs) p u)) → EveryOf false S t N K (With less (Before_words R rest))
      → Recovers S t N K (With many (Before_words P (Plain i ∷ rest)))
  mends_gives S t N K i P R rest less many c le any off =
      mends S t N K (With many (Before_words P (Plain i ∷ rest))) (With less (Before_words R rest))
      (λ m u d j v known s calm.
      let h = d.1 in
      let g = slip_gives w i u v c (subst (λ z. Slip w z u v) (sym (same_word w u.pc i j d.0.1.0 known)) s) in
      inr (inr (subst (Before_words R rest) (sym g.1.2) (any u g.1.0 (u.pc + 4) d.0.0 g.0 g.1.1 calm d.0.1.0, d.0.1.1), omega (arith, h, le))))
      off

  -- of a comparison over an EBREAK: it fires, or is as without it
  pub mends_compare :
      (S : ℕ → Type 0) (t : State) (N K r q : ℕ) (D : ℕ → State → Type 0) → ((m : ℕ) (u : State) → D m u → Over w.code u × ((w.code u.pc ≡ Known (ins Beq 0 r q (pos 8))) × (w.code (u.pc + 4) ≡ Known (ins Ebreak 0 0 0 (pos 0)))))
      → Recovers S t N K D
  mends_compare S t N K r q D stands n k m u n_le k_le st d j v known s c =
      let i = ins Beq 0 r q (pos 8) in
      let h = stands m u d in
      ⊎_elim
      (λ f. absurd (c.quiet 2 (omega arith) (subst (λ y. IsOver y.outcome) (sym (run-more u 1 1 ∙ ap (λ z. run z 1) (one_run u) ∙ one_run (step u))) (firing_over w (step u) f.0))))
      (λ g.
      ⊎_elim
      (λ e. inl (stopped_more 1 slip_steps v (omega arith) (stopped_now v (subst (λ z. IsOver (step z).outcome) (sym e) (firing_over w (moved u.regs (u.pc + 4) u) (over_moved w.code u u.regs (u.pc + 4) h.0, h.1.1))))))
      (λ e. inr (inl (e ∙ takes_eight w u i h.0 h.1.0 refl ∙ sym g.0)))
      (slip_branch w i u v refl (subst (λ z. Slip w z u v) (sym (same_word w u.pc i j h.1.0 known)) s)))
      (compare_step w u r q h.0 h.1.0 h.1.1)

  -- behind the first word of a constant, for a register that no change reaches
  pub record Begun (r v : ℕ) (rest : List Item) (Q : State → Type 0) (u : State) : Type 0 where
    pub over : Over w.code u
    pub from : ℕ
    pub low : from < 2 ^ 64
    pub has : 1 ≤ r → reg u r ≡ (from + wrapped (upper_part (distance_between from v))) % 2 ^ 64
    pub word : w.code u.pc ≡ Known (ins Addi r r 0 (lower_part (distance_between from v)))
    pub reads : Reads false w.code w.entry (u.pc + 4) rest
    pub goes : (p : ℕ) → Q (moved (set_reg r v u.regs) p u)

  -- x0 to x14, x16, x30 and x31
  abbrev pub IsSafe : ℕ → Type 0
  IsSafe r = (r ≤ 14) ⊎ ((r ≡ 16) ⊎ ((r ≡ 30) ⊎ (r ≡ 31)))

  pub safe_same : (r : ℕ) (u v : State) → IsSafe r → Disturbed w u v → reg v r ≡ reg u r
  safe_same r u v s d = ⊎_elim (λ h. d.low r h) (⊎_elim (λ e. rw e d.sign) (⊎_elim (λ e. rw e d.thirty) (λ e. rw e d.last))) s

  pub safe_few : (r : ℕ) → IsSafe r → r < 32
  safe_few r s = ⊎_elim (λ h. omega (arith, h)) (⊎_elim (λ e. omega (arith, e)) (⊎_elim (λ e. omega (arith, e)) (λ e. omega (arith, e)))) s

  pub begun_lasts : (r v : ℕ) (rest : List Item) (Q : State → Type 0) → IsSafe r → Lasts Q → Lasts (Begun r v rest Q)
  begun_lasts r v rest Q safe lasts a b g d = record {
    over = over_disturbed w a b g.over d;
    from = g.from;
    low = g.low;
    has = λ one. safe_same r a b safe d ∙ g.has one;
    word = ap w.code d.pc ∙ g.word;
    reads = subst (λ p. Reads false w.code w.entry (p + 4) rest) (sym d.pc) g.reads;
    goes = λ p. lasts (moved (set_reg r v a.regs) p a) (moved (set_reg r v b.regs) p b) (g.goes p) (set_disturbed w r v p a b (safe_few r safe) d);
  }

  -- the first word
  pub begins :
      (r v : ℕ) (rest : List Item) (Q : State → Type 0) (u : State) → Over w.code u → length u.regs ≡ 32 → r < 32 → Reads false w.code w.entry u.pc (Constant r v ∷ rest) → ((p : ℕ) → Q (moved (set_reg r v u.regs) p u))
      → Begun r v rest Q (step u)
  unfolding computed_value
  begins r v rest Q u o long few h goes =
      let i = ins Auipc r 0 0 (upper_part (distance_between u.pc v)) in
      let y = result Auipc i u in
      let e = computes w i u o h.0 refl in
      let low = w.low u.pc i h.0 in
      subst (Begun r v rest Q) (sym e) (record {
        over = record { going = o.going; code = o.code };
        from = u.pc;
        low = omega (arith, low);
        has = λ one. slice_index-set_reg_same u.regs r y one (omega (arith, few, long));
        word = h.1;
        reads = subst (λ p. Reads false w.code w.entry p rest) (eight u.pc) h.2;
        goes = λ p. subst (λ l. Q (moved l p u)) (sym (set_twice u.regs r y v)) (goes p);
      }) where
        eight : (n : ℕ) → n + 8 ≡ n + 4 + 4
        eight n = omega arith

        set_twice : (l : List ℕ) (r x v : ℕ) → set_reg r v (set_reg r x l) ≡ set_reg r v l
        set_twice l zero x v = refl
        set_twice l (suc k) x v = set-set l (suc k) x v

  -- the second word sets the register to the number
  pub ends_begun : (r v : ℕ) (rest : List Item) (Q : State → Type 0) (u : State) → v < 2 ^ 64 → Begun r v rest Q u → Before_words Q rest (step u)
  unfolding computed_value value
  ends_begun r v rest Q u low g =
      let i = ins Addi r r 0 (lower_part (distance_between g.from v)) in
      let e = computes w i u g.over g.word refl in
      let is : step u ≡ moved (set_reg r v u.regs) (u.pc + 4) u = e ∙ ap (λ l. moved l (u.pc + 4) u) (set_to r (reg u r) g.has) in
      subst (Before_words Q rest) (sym is) (g.goes (u.pc + 4), g.reads) where
        set_to : (r x : ℕ) → (1 ≤ r → x ≡ (g.from + wrapped (upper_part (distance_between g.from v))) % 2 ^ 64) → set_reg r ((x + wrapped (lower_part (distance_between g.from v))) % 2 ^ 64) u.regs ≡ set_reg r v u.regs
        set_to zero x h = refl
        set_to (suc k) x h = ap (λ n. set_reg (suc k) n u.regs) (ap (λ n. (n + wrapped (lower_part (distance_between g.from v))) % 2 ^ 64) (h (omega arith)) ∙ constant_value g.from v g.low low)

  -- what becomes of slips of both words of a constant
  abbrev pub Constant_recovers : (ℕ → Type 0) → State → ℕ → ℕ → ℕ → ℕ → (State → Type 0) → (State → Type 0) → List Item → ℕ → ℕ → Type 0
  Constant_recovers S t N K r v P Q rest few many = Recovers S t N K (With many (Before_words P (Constant r v ∷ rest))) × Recovers S t N K (With (1 + few) (Begun r v rest Q))

  -- of a register of the test's own
  pub constant_own : (S : ℕ → Type 0) (t : State) (N K r v : ℕ) (P Q : State → Type 0) (rest : List Item) (few many : ℕ) → r ≤ LAST_ORIGINAL → Constant_recovers S t N K r v P Q rest few many
  constant_own S t N K r v P Q rest few many low = (
    mends_own S t N K (With many (Before_words P (Constant r v ∷ rest))) (λ m u d. (ins Auipc r 0 0 (upper_part (distance_between u.pc v)), d.0.1.0, inl (inl refl, low))),
    mends_own S t N K (With (1 + few) (Begun r v rest Q)) (λ m u d. (ins Addi r r 0 (lower_part (distance_between d.0.from v)), d.0.word, inl (inl refl, low))),
  )

  -- ---- without a slip
  plainly : (S : ℕ → Type 0) (t : State) (N K : ℕ) (D E : ℕ → State → Type 0) → LastsWith D → Steps D E → EveryOf false S t N K E → EveryOf false S t (suc N) K D
  unfolding Robust
  plainly S t N K D E lasts goes rest zero k m u n_le k_le st d = tt
  plainly S t N K D E lasts goes rest (suc n) zero m u n_le k_le st d = tt
  plainly S t N K D E lasts goes rest (suc n) (suc k) m u n_le k_le st d = (
    ⊎_elim (λ o. inl o) (λ g. inr (g.0, g.1, inl (rest n (suc k) g.0 (step u) (omega (arith, n_le)) k_le st g.2))) (goes m u d),
    (λ v one c. plainly S t N K D E lasts goes rest n (suc k) (m + price) v (omega (arith, n_le)) k_le st (lasts m u v d one c), λ e. absurd (false≢true e)),
  )

  steady_behind : (s : State) (k : ℕ) → IsSteady w.reached s (suc k) → IsSteady w.reached (step s) k
  steady_behind s k st = subst (λ z. IsSteady w.reached z k) (one_run s) (steady_rest w.reached s 1 k (subst (IsSteady w.reached s) (more k) st)) where
    more : (n : ℕ) → suc n ≡ 1 + n
    more n = omega arith

  makes_plainly :
      (N K : ℕ) (s : State) (D E : ℕ → State → Type 0) → LastsWith D → (IsSteady w.reached s 1 → Makes s D E) → (IsSteady w.reached s 1 → EveryOf false (IsSteady w.reached (step s)) (step (step s)) N K E)
      → EveryOf false (IsSteady w.reached s) (step s) (suc N) (suc K) D
  unfolding Robust
  makes_plainly N K s D E lasts goes rest zero k m u n_le k_le st d = tt
  makes_plainly N K s D E lasts goes rest (suc n) zero m u n_le k_le st d = tt
  makes_plainly N K s D E lasts goes rest (suc n) (suc k) m u n_le k_le st d =
      let first = steady_le w.reached s 1 (suc k) (omega arith) st in (
        ⊎_elim (λ o. inl o) (λ g. inr (g.0, g.1, inr (g.2, rest first n k (g.0 + bound) (step u) (omega (arith, n_le)) (omega (arith, k_le)) (steady_behind s k st) g.3))) (goes first m u d),
        (λ v one c. makes_plainly N K s D E lasts goes rest n (suc k) (m + price) v (omega (arith, n_le)) k_le st (lasts m u v d one c), λ e. absurd (false≢true e)),
      )

  -- ---- the lemmas, with a slip or without
  module _ (slip : Bool) where
    abbrev pub Every : (ℕ → Type 0) → State → ℕ → ℕ → (ℕ → State → Type 0) → Type 0
    Every S t N K D = EveryOf slip S t N K D

    -- t is what the input's next step makes of s
    abbrev pub Leads : ℕ → ℕ → State → (ℕ → State → Type 0) → Type 0
    Leads N K s D = Every (IsSteady w.reached s) (step s) N K D

    -- each state with a property is robust, if `most` steps are left
    abbrev pub Onto : ℕ → ℕ → State → ℕ → (State → Type 0) → Type 0
    Onto N K s most P = Leads N K s (With most P)

    -- and without a slip
    pub every_plain : (S : ℕ → Type 0) (t : State) (N K : ℕ) (D : ℕ → State → Type 0) → Every S t N K D → EveryOf false S t N K D
    every_plain S t N K D f n k m u n_le k_le st d = robust_plain slip n k t m u (f n k m u n_le k_le st d)

    -- no move at all
    pub leads_zero : (K : ℕ) (s : State) (D : ℕ → State → Type 0) → Leads zero K s D
    unfolding Robust
    leads_zero K s D zero k m u n_le k_le st d = tt
    leads_zero K s D (suc n) k m u n_le k_le st d = absurd (omega (arith, n_le))

    pub leads_less : (N N' K K' : ℕ) (s : State) (D : ℕ → State → Type 0) → N' ≤ N → K' ≤ K → Leads N K s D → Leads N' K' s D
    leads_less N N' K K' s D h g f n k m u n_le k_le st d = f n k m u (omega (arith, n_le, h)) (omega (arith, k_le, g)) st d

    pub leads_map : (N K : ℕ) (s : State) (D E : ℕ → State → Type 0) → ((m : ℕ) (u : State) → D m u → E m u) → Leads N K s E → Leads N K s D
    leads_map N K s D E f g n k m u n_le k_le st d = g n k m u n_le k_le st (f m u d)

    pub leads_either : (N K : ℕ) (s : State) (D E : ℕ → State → Type 0) → Leads N K s D → Leads N K s E → Leads N K s (Either D E)
    leads_either N K s D E f g n k m u n_le k_le st d = ⊎_elim (λ x. f n k m u n_le k_le st x) (λ x. g n k m u n_le k_le st x) d

    -- a word, where changes lead from D to other states, which are robust
    pub every_on :
        (S : ℕ → Type 0) (t : State) (N K : ℕ) (D E C : ℕ → State → Type 0) → ((m : ℕ) (u v : State) → D m u → bound ≤ price → Disturbed w u v → C (m + price) v) → Steps D E → (slip ≡ true → Recovers S t N K D)
        → EveryOf false S t N K C → Every S t N K E → Every S t (suc N) K D
    unfolding Robust
    every_on S t N K D E C changes goes mend off rest zero k m u n_le k_le st d = tt
    every_on S t N K D E C changes goes mend off rest (suc n) zero m u n_le k_le st d = tt
    every_on S t N K D E C changes goes mend off rest (suc n) (suc k) m u n_le k_le st d = (
      ⊎_elim (λ o. inl o) (λ g. inr (g.0, g.1, inl (rest n (suc k) g.0 (step u) (omega (arith, n_le)) k_le st g.2))) (goes m u d),
      (λ v one c. off n (suc k) (m + price) v (omega (arith, n_le)) k_le st (changes m u v d one c), λ is i v known s c. mend is n k m u (omega (arith, n_le)) k_le st d i v known s c),
    )

    pub every_step : (S : ℕ → Type 0) (t : State) (N K : ℕ) (D E : ℕ → State → Type 0) → LastsWith D → Steps D E → (slip ≡ true → Recovers S t N K D) → Every S t N K E → Every S t (suc N) K D
    every_step S t N K D E lasts goes mend rest =
        let plain = every_plain S t N K E rest in
        every_on S t N K D E D lasts goes mend (λ n k m u n_le k_le st d. plainly S t N K D E lasts goes plain n k m u (omega (arith, n_le)) k_le st d) rest

    pub leads_step : (N K : ℕ) (s : State) (D E : ℕ → State → Type 0) → LastsWith D → Steps D E → (slip ≡ true → Recovers (IsSteady w.reached s) (step s) N K D) → Leads N K s E → Leads (suc N) K s D
    leads_step N K s D E lasts goes mend rest = every_step (IsSteady w.reached s) (step s) N K D E lasts goes mend rest

    -- and with as many moves
    pub leads_next : (N K : ℕ) (s : State) (D E : ℕ → State → Type 0) → LastsWith D → Steps D E → (slip ≡ true → Recovers (IsSteady w.reached s) (step s) N K D) → Leads N K s E → Leads N K s D
    leads_next N K s D E lasts goes mend rest = leads_less (suc N) N K K s D (omega arith) (omega arith) (leads_step N K s D E lasts goes mend rest)

    -- an EBREAK needs no step
    pub leads_fired : (N K : ℕ) (s : State) → Onto N K s 0 (Firing w)
    leads_fired N K s =
        leads_next N K s (With 0 (Firing w)) (λ m u. ⊥) (with_lasts 0 (Firing w) (λ u v f d. (over_disturbed w u v f.0 d, ap w.code d.pc ∙ f.1)))
        (λ m u d. inl (firing_over w u d.0))
        (λ is. mends_over (IsSteady w.reached s) (step s) N K (With 0 (Firing w)) (λ m u d. firing_over w u d.0))
        (λ n k m u n_le k_le st d. absurd d)

    -- a word that makes the input's next state, where changes lead from D to other states, which are robust
    pub makes_on :
        (N K : ℕ) (s : State) (D E C : ℕ → State → Type 0) → ((m : ℕ) (u v : State) → D m u → bound ≤ price → Disturbed w u v → C (m + price) v) → (IsSteady w.reached s 1 → Makes s D E)
        → (slip ≡ true → Recovers (IsSteady w.reached s) (step s) N (suc K) D) → EveryOf false (IsSteady w.reached s) (step s) N (suc K) C → (IsSteady w.reached s 1 → Leads N K (step s) E) → Leads (suc N) (suc K) s D
    unfolding Robust
    makes_on N K s D E C changes goes mend off rest zero k m u n_le k_le st d = tt
    makes_on N K s D E C changes goes mend off rest (suc n) zero m u n_le k_le st d = tt
    makes_on N K s D E C changes goes mend off rest (suc n) (suc k) m u n_le k_le st d =
        let first = steady_le w.reached s 1 (suc k) (omega arith) st in (
          ⊎_elim (λ o. inl o) (λ g. inr (g.0, g.1, inr (g.2, rest first n k (g.0 + bound) (step u) (omega (arith, n_le)) (omega (arith, k_le)) (steady_behind s k st) g.3))) (goes first m u d),
          (λ v one c. off n (suc k) (m + price) v (omega (arith, n_le)) k_le st (changes m u v d one c), λ is i v known sl c. mend is n k m u (omega (arith, n_le)) k_le st d i v known sl c),
        )

    pub leads_make : (N K : ℕ) (s : State) (D E : ℕ → State → Type 0) → LastsWith D → (IsSteady w.reached s 1 → Makes s D E) → (slip ≡ true → Recovers (IsSteady w.reached s) (step s) N (suc K) D) → (IsSteady w.reached s 1 → Leads N K (step s) E) → Leads (suc N) (suc K) s D
    leads_make N K s D E lasts goes mend rest =
        makes_on N K s D E D lasts goes mend
        (λ n k m u n_le k_le st d. makes_plainly N K s D E lasts goes (λ st. every_plain (IsSteady w.reached (step s)) (step (step s)) N K E (rest st)) n k m u (omega (arith, n_le)) k_le st d)
        rest

    -- a step that the input does not make is not asked for
    pub leads_none : (N : ℕ) (s : State) (D : ℕ → State → Type 0) → Leads N zero s D
    unfolding Robust
    leads_none N s D zero k m u n_le k_le st d = tt
    leads_none N s D (suc n) zero m u n_le k_le st d = tt
    leads_none N s D (suc n) (suc k) m u n_le k_le st d = absurd (omega (arith, k_le))

    -- more steps are left
    pub leads_more : (N K : ℕ) (s : State) (P : State → Type 0) (few many : ℕ) → few ≤ many → Onto N K s few P → Onto N K s many P
    leads_more N K s P few many h f = leads_map N K s (With many P) (With few P) (λ m u d. (d.0, let e = d.1 in omega (arith, e, h))) f

    pub leads_as : (N K : ℕ) (s : State) (P Q : State → Type 0) (most : ℕ) → ((u : State) → P u → Q u) → Onto N K s most Q → Onto N K s most P
    leads_as N K s P Q most f g = leads_map N K s (With most P) (With most Q) (λ m u d. (f u d.0, d.1)) g

    -- a word that leads from one property to another, or is over
    pub leads_word :
        (S : ℕ → Type 0) (t : State) (N K : ℕ) (P Q : State → Type 0) (few many : ℕ) → suc few ≤ many → Lasts P → ((u : State) → P u → IsOver (step u).outcome ⊎ Q (step u)) → (slip ≡ true → Recovers S t N K (With many P)) → Every S t N K (With few Q)
        → Every S t N K (With many P)
    leads_word S t N K P Q few many le lasts goes mend rest n k m u n_le k_le st d =
        every_step S t N K (With many P) (With few Q) (with_lasts many P lasts) (λ m u d. ⊎_elim (λ o. inl o) (λ q. inr (m - 1, (let h = d.1 in omega (arith, h, le)), (q, let h = d.1 in omega (arith, h, le)))) (goes u d.0)) mend rest n k m u (omega (arith, n_le)) k_le st d

    -- ---- words that keep a property
    module _ (free : ℕ → Bool) (stores : Bool) (P : State → Type 0) (keeper : Carried w free stores P) (lasts : Lasts P) (sets : (u : State) (r x p : ℕ) → P u → free r ≡ true → P (moved (set_reg r x u.regs) p u)) where
      abbrev Before : List Item → State → Type 0
      Before = Before_words P

      -- one word
      word_steps : (i : Ins) (rest : List Item) (most : ℕ) → keeps free stores i ≡ true → Steps (With (cond (is_break i.kind) 0 1 + most) (Before (Plain i ∷ rest))) (With most (Before rest))
      unfolding execute
      word_steps i rest most k m u d = by (is_break i.kind) refl d.1 where
        by : (b : Bool) → is_break i.kind ≡ b → cond b 0 1 + most ≤ m → IsOver (step u).outcome ⊎ ((j : ℕ) × (m ≡ suc j) × With most (Before rest) j (step u))
        by true e h = inl (inl (ap (λ s. s.outcome) (step-class u i class.Break (keeper.over u d.0.0).going (known_at w.code u i (keeper.over u d.0.0) d.0.1.0) (break_is i.kind e))))
        by false e h =
            ⊎_elim
            (λ o. inl o)
            (λ g. inr (m - 1, omega (arith, h), ((g.0, subst (λ p. Reads false w.code w.entry p rest) (sym g.1) d.0.1.1), omega (arith, h))))
            (keeper.word u i d.0.0 d.0.1.0 k)

      -- its slips
      word_slides : (i : Ins) (rest : List Item) (n most : ℕ) → keeps free stores i ≡ true → Slides (With (n + most) (Before (Plain i ∷ rest))) (With most (Before rest))
      word_slides i rest n most k m u d j v known s c = by (subst (λ z. Slip w z u v) (sym (same_word w u.pc i j d.0.1.0 known)) s) where
        at : (regs : List ℕ) → P (moved regs (u.pc + 4) u) → With most (Before rest) (m + price) (moved regs (u.pc + 4) u)
        at regs p = ((p, d.0.1.1), let h = d.1 in omega (arith, h))

        not_other : (q : Class) → class_of i.kind ≡ q → keeps_as free stores q i ≡ true
        not_other q e = subst (λ z. keeps_as free stores z i ≡ true) e k

        by : Slip w i u v → Stopped slip_steps v ⊎ ((v ≡ step u) ⊎ With most (Before rest) (m + price) v)
        by = slip_elim w i u v (Stopped slip_steps v ⊎ ((v ≡ step u) ⊎ With most (Before rest) (m + price) v))
            (λ x e is. inr (inr (subst (With most (Before rest) (m + price)) (sym is) (at (set_reg i.rd x u.regs) (sets u i.rd x (u.pc + 4) d.0.0 (⊎_elim (λ z. not_other class.Compute z) (λ z. not_other class.Load z) e))))))
            (λ e. absurd (false≢true (not_other class.Branch e)))
            (λ dis.
            ⊎_elim
            (λ o. absurd (c.quiet 1 (omega arith) (subst (λ y. IsOver y.outcome) (sym (one_run u)) o)))
            (λ g. inr (inr ((lasts (step u) v g.0 dis, subst (λ p. Reads false w.code w.entry p rest) (sym (dis.pc ∙ g.1)) d.0.1.1), let h = d.1 in omega (arith, h))))
            (keeper.word u i d.0.0 d.0.1.0 k))
            (λ e. absurd (false≢true (⊎_elim (λ z. not_other class.Jump z) (λ y. ⊎_elim (λ z. not_other class.JumpReg z) (λ z. not_other class.End z) y) e)))

      -- behind the first word of a constant
      abbrev Middle : ℕ → ℕ → List Item → State → Type 0
      Middle r v rest u = P u × ((p : ℕ) × ((w.code u.pc ≡ Known (ins Addi r r 0 (lower_part (distance_between p v)))) × Reads false w.code w.entry (u.pc + 4) rest))

      middle_lasts : (r v : ℕ) (rest : List Item) → Lasts (Middle r v rest)
      middle_lasts r v rest a b m d = (lasts a b m.0 d, (m.1.0, subst (λ q. (w.code q ≡ Known (ins Addi r r 0 (lower_part (distance_between m.1.0 v)))) × Reads false w.code w.entry (q + 4) rest) (sym d.pc) m.1.1))

      eight : (p : ℕ) → p + 8 ≡ p + 4 + 4
      eight p = omega arith

      middle_of : (u : State) (r v : ℕ) (rest : List Item) (regs : List ℕ) → Before (Constant r v ∷ rest) u → P (moved regs (u.pc + 4) u) → Middle r v rest (moved regs (u.pc + 4) u)
      middle_of u r v rest regs d p = (p, (u.pc, (d.1.1, subst (λ q. Reads false w.code w.entry q rest) (eight u.pc) d.1.2)))

      first_step : (r v : ℕ) (rest : List Item) → free r ≡ true → (u : State) → Before (Constant r v ∷ rest) u → IsOver (step u).outcome ⊎ Middle r v rest (step u)
      first_step r v rest f u d =
          ⊎_elim
          (λ o. inl o)
          (λ g. let far : u.pc + 8 ≡ (step u).pc + 4 = let e = g.1 in omega (arith, e) in inr (g.0, (u.pc, (ap w.code g.1 ∙ d.1.1, subst (λ p. Reads false w.code w.entry p rest) far d.1.2))))
          (keeper.word u (ins Auipc r 0 0 (upper_part (distance_between u.pc v))) d.0 d.1.0 f)

      first_slides : (r v : ℕ) (rest : List Item) (most many : ℕ) → 1 + most ≤ many → free r ≡ true → Slides (With many (Before (Constant r v ∷ rest))) (With (1 + most) (Middle r v rest))
      first_slides r v rest most many le f m u d j y known s c =
          let i = ins Auipc r 0 0 (upper_part (distance_between u.pc v)) in
          let g = slip_gives w i u y (inl refl) (subst (λ z. Slip w z u y) (sym (same_word w u.pc i j d.0.1.0 known)) s) in
          let h = d.1 in
          inr (inr (subst (Middle r v rest) (sym g.1.2) (middle_of u r v rest (set_reg r g.1.0 u.regs) d.0 (sets u r g.1.0 (u.pc + 4) d.0.0 f)), omega (arith, h, le)))

      second_step : (r v : ℕ) (rest : List Item) → free r ≡ true → (u : State) → Middle r v rest u → IsOver (step u).outcome ⊎ Before rest (step u)
      second_step r v rest f u d =
          ⊎_elim (λ o. inl o) (λ g. inr (g.0, subst (λ p. Reads false w.code w.entry p rest) (sym g.1) d.1.1.1)) (keeper.word u (ins Addi r r 0 (lower_part (distance_between d.1.0 v))) d.0 d.1.1.0 f)

      second_slides : (r v : ℕ) (rest : List Item) (most : ℕ) → free r ≡ true → Slides (With (1 + most) (Middle r v rest)) (With most (Before rest))
      second_slides r v rest most f m u d j y known s c =
          let i = ins Addi r r 0 (lower_part (distance_between d.0.1.0 v)) in
          let g = slip_gives w i u y (inl refl) (subst (λ z. Slip w z u y) (sym (same_word w u.pc i j d.0.1.1.0 known)) s) in
          let h = d.1 in
          inr (inr (subst (Before rest) (sym g.1.2) (sets u r g.1.0 (u.pc + 4) d.0.0 f, d.0.1.1.1), omega (arith, h)))

      module _ (N K : ℕ) (s : State) (rest : List Item) (most : ℕ) (on : Onto N K s most (Before rest)) where
        abbrev On : ℕ → List Item → Type 0
        On n xs = Onto N K s (n + most) (Before (xs ++ rest))

        abbrev S : ℕ → Type 0
        S = IsSteady w.reached s

        -- from their begin, and from behind their first
        both : (xs : List Item) → Keep free stores xs → On (cost xs) xs × On (cost xs) (behind xs)
        both [] d = let e : most ≡ 0 + most = omega arith in (subst (λ z. Onto N K s z (Before rest)) e on, subst (λ z. Onto N K s z (Before rest)) e on)
        both (Mark a ∷ xs) d = absurd d
        both (Plain i ∷ xs) d =
            let more = both xs d.1 in
            let n : ℕ = cond (is_break i.kind) 0 1 in
            let B : State → Type 0 = Before (Plain i ∷ xs ++ rest) in
            let lasting : Lasts B = words_last P (Plain i ∷ xs ++ rest) lasts in
            let near : ℕ → State → Type 0 = With (cost xs + most) (Before (xs ++ rest)) in
            let far : ℕ → State → Type 0 = With (cost xs + most) (Before (behind xs ++ rest)) in (
              ⊎_elim
                  (λ k.
                  subst (λ z. Onto N K s z B) (omega arith)
                  (leads_next N K s (With (n + (cost xs + most)) B) near (with_lasts _ B lasting) (word_steps i (xs ++ rest) (cost xs + most) k)
                  (λ is. mends S (step s) N K (With (n + (cost xs + most)) B) near (word_slides i (xs ++ rest) n (cost xs + most) k) (every_plain S (step s) N K near more.0))
                  more.0))
                  (λ k.
                  leads_next N K s (With (n + cost xs + most) B) (Either near far) (with_lasts _ B lasting) (skip_steps i xs k)
                  (λ is. mends S (step s) N K (With (n + cost xs + most) B) (Either near far) (skip_slides i xs k) (every_plain S (step s) N K (Either near far) (leads_either N K s near far more.0 more.1)))
                  (leads_either N K s near far more.0 more.1))
                  d.0,
              leads_more N K s (Before (xs ++ rest)) (cost xs + most) (n + cost xs + most) (omega arith) more.0,
            ) where
              skip_steps : (i : Ins) (xs : List Item) → Skips i xs → Steps (With (cond (is_break i.kind) 0 1 + cost xs + most) (Before (Plain i ∷ xs ++ rest))) (Either (With (cost xs + most) (Before (xs ++ rest))) (With (cost xs + most) (Before (behind xs ++ rest))))
              skip_steps i xs k m u d =
                  let counts : cond {A = ℕ} (is_break i.kind) 0 1 ≡ 1 = ap (λ b. cond {A = ℕ} b 0 1) (no_break i.kind class.Branch k.0 (λ e. absurd (cc))) in
                  let h = d.1 in
                  inr (m - 1, omega (arith, h, counts), ⊎_elim (λ a. inl (a, omega (arith, h, counts))) (λ a. inr (a, omega (arith, h, counts))) (skipped w free stores P keeper u i xs rest d.0.0 d.0.1 k))

              skip_slides : (i : Ins) (xs : List Item) → Skips i xs → Slides (With (cond (is_break i.kind) 0 1 + cost xs + most) (Before (Plain i ∷ xs ++ rest))) (Either (With (cost xs + most) (Before (xs ++ rest))) (With (cost xs + most) (Before (behind xs ++ rest))))
              skip_slides i xs k m u d j v known s c =
                  let b = slip_branch w i u v k.0 (subst (λ z. Slip w z u v) (sym (same_word w u.pc i j d.0.1.0 known)) s) in
                  let ways = both_ways w free stores P keeper u i xs rest d.0.0 d.0.1 k in
                  let h = d.1 in
                  ⊎_elim
                  (λ e. inr (inr (inl (subst (Before (xs ++ rest)) (sym e) ways.0, omega (arith, h)))))
                  (λ e. inr (inr (inr (subst (Before (behind xs ++ rest)) (sym e) ways.1, omega (arith, h)))))
                  b
        both (Constant r v ∷ xs) d =
            let more = both xs d.1 in
            let B : State → Type 0 = Before (Constant r v ∷ xs ++ rest) in
            let M : State → Type 0 = Middle r v (xs ++ rest) in
            let E : State → Type 0 = Before (xs ++ rest) in
            let n : ℕ = cost xs + most in
            let second : Onto N K s (1 + n) M =
            leads_word S (step s) N K M E n (1 + n) (omega arith) (middle_lasts r v (xs ++ rest)) (second_step r v (xs ++ rest) d.0)
            (λ is. mends S (step s) N K (With (1 + n) M) (With n E) (second_slides r v (xs ++ rest) n d.0) (every_plain S (step s) N K (With n E) more.0))
            more.0 in (
              leads_word S (step s) N K B M (1 + n) (2 + cost xs + most) (omega arith) (words_last P (Constant r v ∷ xs ++ rest) lasts) (first_step r v (xs ++ rest) d.0)
                  (λ is. mends S (step s) N K (With (2 + cost xs + most) B) (With (1 + n) M) (first_slides r v (xs ++ rest) n (2 + cost xs + most) (omega arith) d.0) (every_plain S (step s) N K (With (1 + n) M) second))
                  second,
              leads_more N K s (Before (xs ++ rest)) (cost xs + most) (2 + cost xs + most) (omega arith) more.0,
            )
        both (Go t ∷ xs) d = absurd d

        pub leads_keep : (xs : List Item) → Keep free stores xs → Onto N K s (cost xs + most) (Before (xs ++ rest))
        leads_keep xs d = (both xs d).0

    pub half_leads :
        (xs : List Item) → Keep is_spare false xs → (N K x : ℕ) (s t : State) (rest : List Item) (most : ℕ) → Onto N K s most (Into w x t rest) → Onto N K s (cost xs + most) (Into w x t (xs ++ rest))
    half_leads xs d N K x s t rest most on = leads_keep is_spare false (Half w x t) (half_keeps w x t) (half_lasts x t) (λ u r v p a e. half_spare w x t u r v p e a) N K s rest most on xs d

    -- ---- the input's next step
    -- a word that makes the input's next state too
    pub leads_original :
        (N K : ℕ) (s : State) (P Q : State → Type 0) (few many : ℕ) → 1 ≤ many → suc few ≤ many + bound → Lasts P → (IsSteady w.reached s 1 → (u : State) → P u → IsOver (step u).outcome ⊎ (Met w (step u) (step s) × Q (step u)))
        → (slip ≡ true → Recovers (IsSteady w.reached s) (step s) N (suc K) (With many P)) → (IsSteady w.reached s 1 → Onto N K (step s) few Q) → Onto N (suc K) s many P
    leads_original N K s P Q few many some le lasts goes mend rest =
        leads_less (suc N) N (suc K) (suc K) s (With many P) (omega arith) (omega arith)
        (leads_make N K s (With many P) (With few Q) (with_lasts many P lasts) (λ st m u d. ⊎_elim (λ o. inl o) (λ q. inr (m - 1, (let h = d.1 in omega (arith, h, some)), q.0, (q.1, let h = d.1 in omega (arith, h, some, le)))) (goes st u d.0)) mend rest)

    -- what is asked of the input's next step may be taken as given
    pub leads_steady : (N K : ℕ) (s : State) (D : ℕ → State → Type 0) → (IsSteady w.reached s 1 → Leads N (suc K) s D) → Leads N (suc K) s D
    unfolding Robust
    leads_steady N K s D f zero k m u n_le k_le st d = tt
    leads_steady N K s D f (suc n) zero m u n_le k_le st d = tt
    leads_steady N K s D f (suc n) (suc k) m u n_le k_le st d = f (steady_le w.reached s 1 (suc k) (omega arith) st) (suc n) (suc k) m u n_le k_le st d

    -- ---- words that give a known number
    -- a computing word leads from a property to one of the registers behind it
    pub leads_compute :
        (S : ℕ → Type 0) (t : State) (N K : ℕ) (i : Ins) (P Q : State → Type 0) (rest : List Item) (few many : ℕ) → suc few ≤ many → class_of i.kind ≡ class.Compute → Lasts P → ((u : State) → P u → Over w.code u)
        → ((u : State) (p : ℕ) → P u → Q (moved (set_reg i.rd (result i.kind i u) u.regs) p u)) → (slip ≡ true → Recovers S t N K (With many (Before_words P (Plain i ∷ rest))))
        → Every S t N K (With few (Before_words Q rest)) → Every S t N K (With many (Before_words P (Plain i ∷ rest)))
    leads_compute S t N K i P Q rest few many le c lasts over goes mend on =
        leads_word S t N K (Before_words P (Plain i ∷ rest)) (Before_words Q rest) few many le (words_last P (Plain i ∷ rest) lasts)
        (λ u b. inr (subst (Before_words Q rest) (sym (computes w i u (over u b.0) b.1.0 c)) (goes u (u.pc + 4) b.0, b.1.1)))
        mend on

    -- behind a BEQ over an EBREAK both registers are equal, and its slips are found at once
    pub leads_compare :
        (N K : ℕ) (s : State) (r q : ℕ) (P Q : State → Type 0) (rest : List Item) (few many : ℕ) → suc few ≤ many → Lasts P → ((u : State) → P u → Over w.code u)
        → ((u : State) (p : ℕ) → P u → reg u r ≡ reg u q → Q (moved u.regs p u))
        → Onto N K s few (Before_words Q rest) → Onto N K s many (Before_words P (Plain (ins Beq 0 r q (pos 8)) ∷ fired_check ∷ rest))
    leads_compare N K s r q P Q rest few many le lasts over equal on =
        let words = Plain (ins Beq 0 r q (pos 8)) ∷ fired_check ∷ rest in
        let E : ℕ → State → Type 0 = With few (Before_words Q rest) in
        leads_next N K s (With many (Before_words P words)) (Either E (With 0 (Firing w))) (with_lasts many (Before_words P words) (words_last P words lasts))
        (λ m u d.
        let h = d.1 in
        inr (
          m - 1,
          omega (arith, h, le),
          ⊎_elim
              (λ f. inr (f.0, omega arith))
              (λ g. inl (subst (Before_words Q rest) (sym g.0) (equal u (u.pc + 4 + 4) d.0.0 g.1, d.0.1.1.1), omega (arith, h, le)))
              (compare_step w u r q (over u d.0.0) d.0.1.0 d.0.1.1.0),
        ))
        (λ is. mends_compare (IsSteady w.reached s) (step s) N K r q (With many (Before_words P words)) (λ m u d. (over u d.0.0, (d.0.1.0, d.0.1.1.0))))
        (leads_either N K s E (With 0 (Firing w)) on (leads_fired N K s))

    -- both words lead from a property to one of the registers behind them
    pub leads_constant :
        (S : ℕ → Type 0) (t : State) (N K r v : ℕ) (P Q : State → Type 0) (rest : List Item) (few many : ℕ) → 2 + few ≤ many → IsSafe r → v < 2 ^ 64 → Lasts P → Lasts Q → ((u : State) → P u → Over w.code u × (length u.regs ≡ 32))
        → ((u : State) (p : ℕ) → P u → Q (moved (set_reg r v u.regs) p u)) → (slip ≡ true → Constant_recovers S t N K r v P Q rest few many)
        → Every S t N K (With few (Before_words Q rest)) → Every S t N K (With many (Before_words P (Constant r v ∷ rest)))
    leads_constant S t N K r v P Q rest few many le safe low lp lq over goes mend on =
        leads_word S t N K (Before_words P (Constant r v ∷ rest)) (Begun r v rest Q) (1 + few) many (omega (arith, le)) (words_last P (Constant r v ∷ rest) lp)
        (λ u b. let o = over u b.0 in inr (begins r v rest Q u o.0 o.1 (safe_few r safe) b.1 (λ p. goes u p b.0)))
        (λ is. (mend is).0)
        (leads_word S t N K (Begun r v rest Q) (Before_words Q rest) few (1 + few) (omega arith) (begun_lasts r v rest Q safe lq) (λ u g. inr (ends_begun r v rest Q u low g)) (λ is. (mend is).1) on)

module _ (w : World) (bound price : ℕ) where
  -- ---- slips of a constant
  -- before its second word, which gives any number
  record Any (r v : ℕ) (rest : List Item) (R : State → Type 0) (u : State) : Type 0 where
    over : Over w.code u
    from : ℕ
    word : w.code u.pc ≡ Known (ins Addi r r 0 (lower_part (distance_between from v)))
    reads : Reads false w.code w.entry (u.pc + 4) rest
    goes : (x p : ℕ) → x < 2 ^ 64 → R (moved (set_reg r x u.regs) p u)

  any_lasts : (r v : ℕ) (rest : List Item) (R : State → Type 0) → IsSafe w bound price r → Lasts w bound price R → Lasts w bound price (Any r v rest R)
  any_lasts r v rest R safe lasts a b g d = record {
    over = over_disturbed w a b g.over d;
    from = g.from;
    word = ap w.code d.pc ∙ g.word;
    reads = subst (λ p. Reads false w.code w.entry (p + 4) rest) (sym d.pc) g.reads;
    goes = λ x p h. lasts (moved (set_reg r x a.regs) p a) (moved (set_reg r x b.regs) p b) (g.goes x p h) (set_disturbed w r x p a b (safe_few w bound price r safe) d);
  }

  any_leads :
      (S : ℕ → Type 0) (t : State) (N K r v : ℕ) (rest : List Item) (R : State → Type 0) (less : ℕ) → IsSafe w bound price r → Lasts w bound price R → EveryOf w bound price false S t N K (With w bound price less (Before_words w bound price R rest))
      → EveryOf w bound price false S t N K (With w bound price (1 + less) (Any r v rest R))
  unfolding computed_value value
  any_leads S t N K r v rest R less safe lasts on =
      leads_word w bound price false S t N K (Any r v rest R) (Before_words w bound price R rest) less (1 + less) (omega arith) (any_lasts r v rest R safe lasts)
      (λ u g.
      let lo = lower_part (distance_between g.from v) in
      inr (subst (Before_words w bound price R rest) (sym (computes w (ins Addi r r 0 lo) u g.over g.word refl)) (g.goes ((reg u r + wrapped lo) % 2 ^ 64) (u.pc + 4) (omega arith), g.reads)))
      (λ e. absurd (false≢true e))
      on

  -- whatever the register has, the rest leads on
  pub constant_gives :
      (S : ℕ → Type 0) (t : State) (N K r v : ℕ) (P Q R : State → Type 0) (rest : List Item) (few many less : ℕ) → IsSafe w bound price r → 14 ≤ r → 1 + less ≤ many + price → less ≤ few + price → Lasts w bound price R
      → ((u : State) → P u → Over w.code u) → ((u : State) (x p : ℕ) → P u → x < 2 ^ 64 → R (moved (set_reg r x u.regs) p u)) → ((u : State) (x p : ℕ) → Q u → x < 2 ^ 64 → R (moved (set_reg r x u.regs) p u))
      → EveryOf w bound price false S t N K (With w bound price less (Before_words w bound price R rest)) → Constant_recovers w bound price S t N K r v P Q rest few many
  constant_gives S t N K r v P Q R rest few many less safe high le1 le2 lasts over first second on = (
    mends w bound price S t N K (With w bound price many (Before_words w bound price P (Constant r v ∷ rest))) (With w bound price (1 + less) (Any r v rest R))
        (λ m u d j y known s c.
        let i = ins Auipc r 0 0 (upper_part (distance_between u.pc v)) in
        let g = slip_gives w i u y (inl refl) (subst (λ z. Slip w z u y) (sym (same_word w u.pc i j d.0.1.0 known)) s) in
        let h = d.1 in
        inr (inr (
          subst (Any r v rest R) (sym g.1.2) (record {
            over = over_moved w.code u (set_reg r g.1.0 u.regs) (u.pc + 4) (over u d.0.0);
            from = u.pc;
            word = d.0.1.1;
            reads = subst (λ q. Reads false w.code w.entry q rest) (eight u.pc) d.0.1.2;
            goes = λ x p l. subst (λ k. R (moved k p u)) (sym (set_twice u.regs r g.1.0 x)) (first u x p d.0.0 l);
          }),
          omega (arith, h, le1),
        )))
        (any_leads S t N K r v rest R less safe lasts on),
    mends w bound price S t N K (With w bound price (1 + few) (Begun w bound price r v rest Q)) (With w bound price less (Before_words w bound price R rest))
        (λ m u d j y known s c.
        let i = ins Addi r r 0 (lower_part (distance_between d.0.from v)) in
        let g = slip_gives w i u y (inl refl) (subst (λ z. Slip w z u y) (sym (same_word w u.pc i j d.0.word known)) s) in
        let h = d.1 in
        let p = u.pc + 4 in
        inr (inr (subst (Before_words w bound price R rest) (sym g.1.2) (subst (λ k. R (moved k p u)) (set_twice u.regs r v g.1.0) (second (moved (set_reg r v u.regs) p u) g.1.0 p (d.0.goes p) g.1.1), d.0.reads), omega (arith, h, le2))))
        on,
  ) where
    eight : (n : ℕ) → n + 8 ≡ n + 4 + 4
    eight n = omega arith

    set_twice : (l : List ℕ) (r x v : ℕ) → set_reg r v (set_reg r x l) ≡ set_reg r v l
    set_twice l zero x v = refl
    set_twice l (suc k) x v = set-set l (suc k) x v
