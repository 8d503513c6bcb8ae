-- In the default form a branch on x0 to x13 that goes wrong leads to an entry, but x16 has the other way's signature.
use Rattle.std.proofs.Common.{◌≡◌, ℕ, ◌+◌, ◌-◌, ◌*◌, ◌%◌, ◌^◌, ◌<◌, ◌≤◌, ⊎_elim, Bool, true, false, not, List, ◌∷◌, ◌++◌, length, refl, sym, ap, ◌∙◌, subst, arith, append_assoc, length-append}
use Rattle.std.specs.Prelude.{pos, slice_index}
use Rattle.std.proofs.lemmas.Bool.{cases_Bool, cases_eq}
use Rattle.std.proofs.lemmas.List.{ext_get_or}
use Rattle.rv_isa.proofs.RegsLaws.{slice_index-set_reg_same, slice_index-set_reg_other, length-set_reg}
use Rattle.machine.proofs.Lemmas.{run-more, run-last, constant_walk, set_reg-pos, over_moved}
use Rattle.qed_model.specs.Promise.Faults.{IsOwnBranch, other_way, misled, IsTurned, turns, joins, strays, BranchesFound}
use Rattle.qed_model.specs.Promise.Kept.{after_output, is_trapped, NotTrapped}
use Rattle.qed_model.specs.Promise.OwnSteps.{Covers, KeptInStep}
use Rattle.qed_model.specs.Weave.Blocks.{begins_at}
use Rattle.qed_model.specs.Weave.Code.{sequences, body_of, entries_of, code_of}
use Rattle.qed_model.specs.Weave.Placed.{go_size, instructions_from}
use Rattle.qed_model.specs.Weave.Sequences.{Block, prologue, stub}
use Rattle.weave_core.specs.World.{World, Quiet, Go, Going, Program, start, AreStartRegs, State, reg, set_reg, holds, moved, jumped, imm, Known, next, step, run, Ins, Illegal, ins, SIGNATURE, TEMPORARY}
use Rattle.weave_core.specs.Rows.{Mirrors}
use Rattle.weave_core.specs.Weave.{Weave, most_before_start, stage_steps}
use Rattle.weave_core.specs.WeaveForms.{weave_of}
use Rattle.weave_core.specs.WeaveLaws.{Rows, EntryAt}
use Rattle.weave_core.specs.WeavePromise.{PlanOf}
use Rattle.machine.specs.Walks.{Over}
use Rattle.weave_core.proofs.Lemmas.{Arrives, Standing, WeaveIn, both, both_steps, branch_passed, branch_taken, form_guarded, form_rows, form_starts, go_most, go_walk, in_step, instructions_then, jumped_to, pc_four, mirrors_of, plan_in, quiet_before, skipped, skipped_grain, standing_at, step-illegal}
use Rattle.lockstep.specs.Closes.{Closes}
use Rattle.lockstep.specs.Tests.{TestsTurned}
use Rattle.lockstep.proofs.FormWords.{stage_is, start_is}
use Rattle.lockstep.proofs.Tests as tests
use Rattle.weave_core.proofs.TestKept as kept
use Rattle.machine.specs.Loading.{loaded_file}
use Rattle.weave_core.specs.Promise.{piece_of}
use Rattle.lockstep.proofs.Forks.{ForksAt, forks_code, forked_at}
use Rattle.lockstep.proofs.Weaves.{all_blocks}

-- registers that agree beside x30 are one where it is set
set_one : (xs ys : List ℕ) (v : ℕ) → length xs ≡ 32 → length ys ≡ 32 → ((q : ℕ) → (q ≡ TEMPORARY → ⊥) → slice_index xs q ≡ slice_index ys q) → set_reg TEMPORARY v xs ≡ set_reg TEMPORARY v ys
set_one xs ys v lx ly same = ext_get_or 0 (set_reg TEMPORARY v xs) (set_reg TEMPORARY v ys) (length-set_reg xs 30 v ∙ lx ∙ sym ly ∙ sym (length-set_reg ys 30 v))
    (λ q h. ⊎_elim
    (λ e. subst (λ r. slice_index (set_reg TEMPORARY v xs) r ≡ slice_index (set_reg TEMPORARY v ys) r) (sym e) (slice_index-set_reg_same xs 30 v (omega arith) (omega (arith, lx)) ∙ sym (slice_index-set_reg_same ys 30 v (omega arith) (omega (arith, ly)))))
    (λ ne. slice_index-set_reg_other xs 30 v q ne ∙ same q ne ∙ sym (slice_index-set_reg_other ys 30 v q ne))
    (cases_eq q 30))

module _ (f g : Program) (w : World) (most : ℕ) (blocks : List Block) (plan : PlanOf f g w (weave_of w.form most) blocks) (law : Mirrors w) (closes : Closes f g w blocks) where
  abbrev v : Weave
  v = weave_of w.form most

  rows : Rows w v (begins_at blocks)
  rows = (form_rows w most (begins_at blocks) law).rows

  woven : WeaveIn f g w v (begins_at blocks)
  woven = plan_in f g w v blocks plan rows (form_starts w most (begins_at blocks) f g)

  follows : KeptInStep f g w.reached w.distance (most_before_start v) (stage_steps v)
  follows = in_step f g w v (begins_at blocks) woven (omega arith)

  -- an entry, or the stub, is an address of the code
  entry_ok : (m : ℕ) → (w.entry m < 2 ^ 64) × (w.entry m % 4 ≡ 0)
  entry_ok m = ⊎_elim (λ l. let x = rows.known m (woven.entries m l) in (x.entry_low, x.grain)) (λ z. let low = w.low (w.entry m) _ z in (omega (arith, low), w.grain (w.entry m) _ z)) (closes.only.stubbed m)

  -- the jumps behind a branch
  fork : (a : ℕ) (i : Ins) → w.code a ≡ Known i → IsOwnBranch i → ForksAt w.form.far w.code w.entry a i
  fork a i at b =
      let body = prologue w.distance w.form.spans f.entry ++ entries_of (sequences w.form) blocks in
      let o = closes.only.only a i at in
      let whole = append_assoc (prologue w.distance w.form.spans f.entry) (entries_of (sequences w.form) blocks) stub in
      let count : length (instructions_from w.form.far w.entry g.entry (body ++ stub)) ≡ length (instructions_from w.form.far w.entry g.entry body) + 1 = ap length (instructions_then w.form.far w.entry g.entry body stub) ∙ length-append (instructions_from w.form.far w.entry g.entry body) _ in
      let more : length (instructions_from w.form.far w.entry g.entry (code_of (sequences w.form) w.distance f.entry blocks)) ≡ length (instructions_from w.form.far w.entry g.entry body) + 1 = ap (λ l. length (instructions_from w.form.far w.entry g.entry l)) (sym whole) ∙ count in
      let place : a ≡ g.entry + 4 * o.0 = o.1 in
      forked_at w.code w.entry i b a at w.form.far (code_of (sequences w.form) w.distance f.entry blocks) g.entry o.0
      (forks_code w.form closes.mirrors w.distance f.entry blocks (all_blocks w v (begins_at blocks) blocks plan.good))
      plan.words (omega (arith, more, place, o.2)) place

  -- ---- at an entry
  module _ (u : State) (over : Over w.code u) (m : ℕ) (leads : begins_at blocks m ≡ true) where
    entry : EntryAt w v (begins_at blocks) m
    entry = woven.entries m leads

    -- two states that differ in x30 are one after two steps
    meet : (xs ys : List ℕ) → length xs ≡ 32 → length ys ≡ 32 → ((q : ℕ) → (q ≡ TEMPORARY → ⊥) → slice_index xs q ≡ slice_index ys q) → run (moved xs (w.entry m) u) 2 ≡ run (moved ys (w.entry m) u) 2
    meet xs ys lx ly same = set xs lx ∙ ap (λ l. moved l (w.entry m + 8) u) (set_one xs ys m lx ly same) ∙ sym (set ys ly) where
      set : (xs : List ℕ) → length xs ≡ 32 → run (moved xs (w.entry m) u) 2 ≡ moved (set_reg TEMPORARY m xs) (w.entry m + 8) u
      set xs long =
          let low = w.low (w.entry m) _ entry.reads.1.0 in
          (constant_walk w.code (moved xs (w.entry m) u) 30 m (over_moved w.code u xs (w.entry m) over) (entry.reads.1.0, (entry.reads.1.1, tt)) (omega (arith, low)) entry.good.low (omega arith) (omega (arith, long))).ends
          ∙ ap (λ l. moved l (w.entry m + 8) u) (sym (set_reg-pos xs 30 m (omega arith)))

  -- ---- behind the branch
  module _ (regs : List ℕ) (are : AreStartRegs regs) (n : ℕ) (i : Ins) (go : (after_output g regs n).outcome ≡ Going) (at : next (after_output g regs n) ≡ Known i) (b : IsOwnBranch i) (covered : Covers f g w.reached (most_before_start v) (stage_steps v) regs (n + 1 + 6)) where
    abbrev u : State
    u = after_output g regs n

    st : Standing w.code w.output u
    st = standing_at f g w v (begins_at blocks) woven regs are n

    over : Over w.code u
    over = record { going = go; code = st.code }

    known : w.code u.pc ≡ Known i
    known = sym (st.code u.pc) ∙ at

    two : ForksAt w.form.far w.code w.entry u.pc i
    two = fork u.pc i known b

    -- where the jump of a way stands, by whether the branch is taken, and where it leads
    abbrev jump : Bool → ℕ
    jump true = u.pc + 4 + go_size w.form.far
    jump false = u.pc + 4

    abbrev leads : Bool → ℕ
    leads true = two.taken
    leads false = two.passed

    abbrev behind : Bool → State
    behind t = moved u.regs (jump t) u

    aimed : (u.pc + imm i) % 2 ^ 64 ≡ jump true
    aimed = ap (λ z. (u.pc + imm (record i { imm = z })) % 2 ^ 64) two.skips ∙ skipped w w.form.far u.pc (w.low u.pc i known)

    grain : jump true % 4 ≡ 0
    grain = skipped_grain w w.form.far u.pc (w.grain u.pc i known)

    -- the jump of a way
    arrives : (t : Bool) → Arrives w (behind t) (leads t) (go_most w.form.far)
    arrives true = go_walk w (behind true) two.taken two.rest (over_moved w.code u u.regs (jump true) over) two.reads.1 st.flagged.regs (entry_ok two.taken).0 (entry_ok two.taken).1
    arrives false = go_walk w (behind false) two.passed (Go two.taken ∷ two.rest) (over_moved w.code u u.regs (jump false) over) two.reads st.flagged.regs (entry_ok two.passed).0 (entry_ok two.passed).1

    -- the state behind it
    abbrev lands : Bool → State
    lands t = moved (arrives t).regs (w.entry (leads t)) u

    over_lands : (t : Bool) → Over w.code (lands t)
    over_lands t = over_moved w.code u (arrives t).regs (w.entry (leads t)) over

    -- the zero word traps
    stops : (t : Bool) → w.code (w.entry (leads t)) ≡ Known (ins Illegal 0 0 0 (pos 0)) → NotTrapped (step (lands t)) → ⊥
    stops t z calm = step-illegal (lands t) _ go (st.code (w.entry (leads t)) ∙ z) refl calm

    -- the right way, and the wrong way
    right : (t : Bool) → holds i.kind (reg u i.rs1) (reg u i.rs2) ≡ t → after_output g regs (n + 1) ≡ behind t
    right true e = run-more (start g regs) n 1 ∙ (branch_taken w u i (jump true) over known b.branch e aimed grain).ends
    right false e = run-more (start g regs) n 1 ∙ (branch_passed w u i over known b.branch e).ends

    wrong : (t : Bool) → holds i.kind (reg u i.rs1) (reg u i.rs2) ≡ t → misled i u ≡ behind (not t)
    wrong t e = ap (λ x. other_way x i u) e ∙ by t where
      by : (t : Bool) → other_way t i u ≡ behind (not t)
      by true = ap (λ p. moved u.regs p u) (pc_four w u i known)
      by false = ap (λ p. jumped u.regs p u) aimed ∙ jumped_to u.regs (jump true) u grain

    -- some steps behind it
    later : (t : Bool) → holds i.kind (reg u i.rs1) (reg u i.rs2) ≡ t → (k : ℕ) → after_output g regs (n + 1 + k) ≡ run (behind t) k
    later t e k = run-more (start g regs) (n + 1) k ∙ ap (λ s. run s k) (right t e)

    few : go_most w.form.far ≤ 2
    few = by w.form.far where
      by : (far : Bool) → go_most far ≤ 2
      by true = omega arith
      by false = omega arith

    there : (t : Bool) → holds i.kind (reg u i.rs1) (reg u i.rs2) ≡ t → after_output g regs (n + 1 + (arrives t).steps) ≡ lands t
    there t e = later t e (arrives t).steps ∙ (arrives t).walk.ends

    -- at the entry of the right way the signature is its own
    signed : (t : Bool) → holds i.kind (reg u i.rs1) (reg u i.rs2) ≡ t → begins_at blocks (leads t) ≡ true → reg (lands t) SIGNATURE ≡ leads t
    signed t e l =
        let x = woven.entries (leads t) l in
        let a = arrives t in
        let quiet = quiet_before f g w v (begins_at blocks) woven regs are covered.steps (n + 1 + a.steps) covered.steady (omega (arith, a.within, few, covered.until)) (ap (λ s. s.outcome) (there t e) ∙ go) in
        (form_guarded w most (both w most) 0 (both_steps w most)).signed (lands t) (leads t) (body_of v.code x.body x.end (leads t)) x.good.low x.reads.1 (over_lands t) (subst (λ s. Quiet w s) (there t e) quiet)

    -- the run without faults does not trap there
    leads_right : (t : Bool) → holds i.kind (reg u i.rs1) (reg u i.rs2) ≡ t → begins_at blocks (leads t) ≡ true
    leads_right t e = ⊎_elim (λ l. l) (λ z. absurd (stops t z (subst NotTrapped (run-last (start g regs) (n + 1 + (arrives t).steps) ∙ ap step (there t e)) calm))) (closes.only.stubbed (leads t)) where
      calm : NotTrapped (after_output g regs (n + 1 + (arrives t).steps + 1))
      calm = let a = arrives t in ((follows regs are).quiet covered.steps (n + 1 + a.steps + 1) covered.steady (omega (arith, a.within, few, covered.until))).1

    -- the wrong way
    pub found : IsTurned 6 (misled i u) (after_output g regs (n + 1 + 6))
    found = by (holds i.kind (reg u i.rs1) (reg u i.rs2)) refl where
      by : (t : Bool) → holds i.kind (reg u i.rs1) (reg u i.rs2) ≡ t → IsTurned 6 (misled i u) (after_output g regs (n + 1 + 6))
      by t e = subst (λ s. IsTurned 6 s (after_output g regs (n + 1 + 6))) (sym (wrong t e)) (⊎_elim (λ l. ⊎_elim (λ same. one l same) (λ ne. another l ne) (cases_eq (leads t) (leads (not t)))) (λ z. lost z) (closes.only.stubbed (leads (not t)))) where
        -- at the stub
        lost : w.code (w.entry (leads (not t))) ≡ Known (ins Illegal 0 0 0 (pos 0)) → IsTurned 6 (behind (not t)) (after_output g regs (n + 1 + 6))
        lost z = let a = arrives (not t) in ⊎_elim
            (λ trap. let within = a.within in strays (a.steps + 1) (omega (arith, within, few)) (ap (λ s. is_trapped s.outcome) (run-last (behind (not t)) a.steps ∙ ap step a.walk.ends) ∙ trap))
            (λ calm. absurd (stops (not t) z calm))
            (cases_Bool (is_trapped (step (lands (not t))).outcome))

        -- at another entry
        another : begins_at blocks (leads (not t)) ≡ true → (leads t ≡ leads (not t) → ⊥) → IsTurned 6 (behind (not t)) (after_output g regs (n + 1 + 6))
        another l ne =
            let x = woven.entries (leads (not t)) l in
            let a = arrives (not t) in
            let r = arrives t in
            let sign : reg (lands (not t)) SIGNATURE ≡ leads t = a.same 16 (λ z. absurd (omega arith)) ∙ sym (r.same 16 (λ z. absurd (omega arith))) ∙ signed t e (leads_right t e) in
            let fired = (form_guarded w most (both w most) 0 (both_steps w most)).fires (lands (not t)) (leads (not t)) (body_of v.code x.body x.end (leads (not t))) x.good.low x.reads.1 (over_lands (not t)) (a.long ∙ st.flagged.regs) (λ q. ne (sym sign ∙ q)) in
            let within = a.within in
            turns (record { steps = a.steps + 4; within = omega (arith, within, few); fired = ap (λ s. s.outcome) (run-more (behind (not t)) a.steps 4 ∙ ap (λ s. run s 4) a.walk.ends) ∙ fired })

        -- at the same entry
        one : begins_at blocks (leads (not t)) ≡ true → leads t ≡ leads (not t) → IsTurned 6 (behind (not t)) (after_output g regs (n + 1 + 6))
        one l same =
            let a = arrives (not t) in
            let r = arrives t in
            let k = go_most w.form.far in
            let rest = 4 - go_most w.form.far in
            let sum : k + 2 + rest ≡ 6 = omega (arith, few) in
            let met = meet u over (leads (not t)) l a.regs r.regs (a.long ∙ st.flagged.regs) (r.long ∙ st.flagged.regs) (λ q z. a.same q z ∙ sym (r.same q z)) in
            let on : lands t ≡ moved r.regs (w.entry (leads (not t))) u = ap (λ m. moved r.regs (w.entry m) u) same in
            joins (ap (run (behind (not t))) (sym sum) ∙ run-more (behind (not t)) (k + 2) rest ∙ ap (λ s. run s rest) (after (not t) ∙ met ∙ ap (λ s. run s 2) (sym on) ∙ sym (after t)) ∙ sym (run-more (behind t) (k + 2) rest) ∙ ap (run (behind t)) sum ∙ sym (later t e 6)) where
              after : (x : Bool) → run (behind x) (go_most w.form.far + 2) ≡ run (lands x) 2
              after x = run-more (behind x) (go_most w.form.far) 2 ∙ ap (λ s. run s 2) (ap (run (behind x)) (sym (arrives x).exact) ∙ (arrives x).walk.ends)

  -- in a plan
  pub plan_turned : BranchesFound 6 f g w.reached (most_before_start v) (stage_steps v)
  plan_turned = record { found = λ regs n i are go at b covered. found regs are n i go at b covered }

-- ---- of each test
pub tests_turned : TestsTurned
tests_turned f o blocks words plan t told reached aims =
    let loads = t.file.loads in
    let w = kept.w f o t.sound loads t.admitted blocks t.are words t.code t.few reached aims in
    let input = tests.input f o t.sound loads t.admitted blocks t.are words t.code t.few reached aims in
    let output = tests.output f o t.sound loads t.admitted blocks t.are words t.code t.few reached aims in
    subst (λ b. BranchesFound 6 (loaded_file f) output reached b.start b.piece) (sym told.bounds)
    (subst (λ n. BranchesFound 6 input output reached n (piece_of w.form o.inst_max)) (sym (start_is w o.inst_max))
    (subst (λ n. BranchesFound 6 input output reached (most_before_start (weave_of w.form o.inst_max)) n) (sym (stage_is w o.inst_max))
    (plan_turned input output w o.inst_max blocks (kept.plan f o t.sound loads t.admitted blocks t.are words t.code t.few reached aims)
    (mirrors_of o.diverse w refl refl) (tests.closes f o t.sound loads t.admitted blocks t.are words t.code t.few reached aims))))
