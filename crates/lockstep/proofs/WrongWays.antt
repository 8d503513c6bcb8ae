-- A branch that is checked behind it goes the way that it does not take: the pairs lead to the EBREAK there.
use Rattle.std.proofs.Common.{◌≡◌, ℕ, ◌+◌, ◌≤◌, ⊎_elim, Bool, true, false, not, List, refl, sym, ap, ◌∙◌, subst, arith}
use Rattle.std.proofs.lemmas.Bool.{false≢true, eq-eqb}
use Rattle.rv_isa.specs.declared.class.Class.TheVariants as class
use Rattle.machine.specs.Step.{target}
use Rattle.qed_model.specs.Promise.Closed.{is_checked}
use Rattle.qed_model.specs.Promise.Faults.{IsCheckedBranch, other_way, misled}
use Rattle.qed_model.specs.Promise.Landed.{Fires}
use Rattle.qed_model.specs.Promise.OwnSteps.{Covers}
use Rattle.machine.proofs.Lemmas.{run-last, fetched_aligned}
use Rattle.weave_core.specs.Lock.{no_bytes, span_bytes, no_reg, HasKind, scratch_compute, scratch_load, scratch_store, scratch_branch, jumps, scratch_jump, computes, fences, loads, stores, guards, guards_back, breaks, takes, branches, forks, ends, no_word, visits, Undisturbed, Loaded, ChecksWays, way_of}
use Rattle.weave_core.specs.World.{World, Going, Program, start, AreStartRegs, State, reg, holds, moved, jumped, next_pc, Known, next, step, run, Class, class_of, Ins}
use Rattle.lockstep.proofs.Agreeing.{agree_moved}
use Rattle.lockstep.proofs.Calm.{CalmCode, loaded_at, quiet_run}
use Rattle.lockstep.proofs.Doom.{astray_fires}
use Rattle.lockstep.proofs.ManyChanges.{lock_self}
use Rattle.lockstep.proofs.OneStep.{branch_step}

module _ (f g : Program) (w : World) (before per : ℕ) (code : CalmCode f g w before per) (regs : List ℕ) (are : AreStartRegs regs) (n : ℕ) (i : Ins) (go : (run (start g regs) n).outcome ≡ Going) (at : next (run (start g regs) n) ≡ Known i) (b : IsCheckedBranch i (run (start g regs) n)) (covered : Covers f g w.reached before per regs (n + 1 + 2)) where
  abbrev u : State
  u = run (start g regs) n

  loaded : Loaded w.code (span_bytes w.form.spans) u
  loaded = loaded_at f g w before per code regs are n

  quiet_at : (k : ℕ) → k ≤ n + 1 → (run (start g regs) k).outcome ≡ Going → Undisturbed w.code (span_bytes w.form.spans) (run (start g regs) k)
  quiet_at k h g1 = (quiet_run f g w before per code regs are (n + 1 + 2) covered).each k (omega (arith, h)) g1

  -- of the kinds of word it is the branch whose ways are checked
  ways : ChecksWays w.code u.pc i
  ways = by (subst (HasKind w.code u.pc) (one (sym here.quiet.known ∙ sym (loaded.code u.pc) ∙ at)) here.quiet.fits) where
    one : {j k : Ins} → Known j ≡ Known k → j ≡ k
    one e = cc

    here : Undisturbed w.code (span_bytes w.form.spans) u
    here = quiet_at n (omega arith) go

    checked : is_checked (Known i) (w.code (u.pc + 4)) ≡ true
    checked =
        let on : u.pc + 4 ≡ next_pc u = let near = here.quiet.near in omega (arith, near) in
        ap (λ p. is_checked (Known i) (w.code p)) on ∙ ap (is_checked (Known i)) (sym (loaded.code (next_pc u))) ∙ b.checked

    no : (k : Class) → class_of i.kind ≡ k → (k ≡ class.Branch → ⊥) → ChecksWays w.code u.pc i
    no k e ne = absurd (ne (sym e ∙ b.own.branch))

    by : HasKind w.code u.pc i → ChecksWays w.code u.pc i
    by (scratch_compute e x y o) = no class.Compute e (λ z. absurd (cc))
    by (scratch_load e x y o) = no class.Load e (λ z. absurd (cc))
    by (scratch_store e x y o) = no class.Store e (λ z. absurd (cc))
    by (scratch_branch e x y o) =
        let first = b.own.first in
        let second = b.own.second in
        let some = b.own.some in
        ⊎_elim (λ p. ⊎_elim (λ q. absurd (omega (arith, some, p, q))) (λ q. absurd (omega (arith, second, q))) y) (λ p. absurd (omega (arith, first, p))) x
    by (jumps e) = no class.Jump e (λ z. absurd (cc))
    by (scratch_jump e x) = no class.JumpReg e (λ z. absurd (cc))
    by (computes e x o) = no class.Compute e (λ z. absurd (cc))
    by (fences e o) = no class.Fence e (λ z. absurd (cc))
    by (loads e x y o) = no class.Load e (λ z. absurd (cc))
    by (stores e x y o) = no class.Store e (λ z. absurd (cc))
    by (guards q x is one most high brk behind) = let r : i.rs2 ≡ x = ap (λ j. j.rs2) is in let second = b.own.second in absurd (omega (arith, second, r, high))
    by (guards_back q d is one most brk behind) = let r : i.rs2 ≡ q + 16 = ap (λ j. j.rs2) is in let second = b.own.second in absurd (omega (arith, second, r))
    by (breaks e) = no class.Break e (λ z. absurd (cc))
    by (takes e x y o) = no class.Compute (ap class_of e) (λ z. absurd (cc))
    by (branches e x y not_checked o) = absurd (false≢true (sym not_checked ∙ checked))
    by (forks e x y checks o) = checks
    by (ends e) = no class.End e (λ z. absurd (cc))
    by (no_word e) = no class.Illegal e (λ z. absurd (cc))
    by (visits x d is high m few tail o) = no class.Load (ap (λ j. class_of j.kind) is) (λ z. absurd (cc))

  -- it fires there
  pub wrong_way : Fires 2 (misled i u)
  unfolding jumped
  wrong_way = by (holds i.kind (reg u i.rs1) (reg u i.rs2)) refl where
    there : (t : Bool) → other_way t i u ≡ moved u.regs (way_of i u.pc (not t)) u
    there true = refl
    there false = rw (eq-eqb _ _ (fetched_aligned u.memory u.ranges (target i u.pc) (ways true).ins (loaded.code (target i u.pc) ∙ (ways true).known))) refl

    by : (t : Bool) → holds i.kind (reg u i.rs1) (reg u i.rs2) ≡ t → Fires 2 (other_way t i u)
    by t e =
        let v = moved u.regs (way_of i u.pc (not t)) u in
        let did : step u ≡ moved u.regs (way_of i u.pc t) u = branch_step u i (ways t).ins t go at b.own.branch (loaded.code (way_of i u.pc t) ∙ (ways t).known) e in
        let next_is : run (start g regs) (n + 1) ≡ moved u.regs (way_of i u.pc t) u = run-last (start g regs) n ∙ did in
        let on : Undisturbed w.code (span_bytes w.form.spans) (moved u.regs (way_of i u.pc t) u) = subst (Undisturbed w.code (span_bytes w.form.spans)) next_is (quiet_at (n + 1) (omega arith) (ap (λ s. s.outcome) next_is ∙ go)) in
        subst (Fires 2) (sym (there t))
        (astray_fires w.code (span_bytes w.form.spans) no_bytes (λ q z. absurd (false≢true z)) (moved u.regs (way_of i u.pc t) u) v on u.pc i t
        (record {
          checks = ways;
          here = refl;
          there = refl;
          going = go;
          agree = agree_moved no_bytes no_reg u u (lock_self w.code no_bytes u loaded.small).agree (way_of i u.pc t) (way_of i u.pc t) refl;
        }))
