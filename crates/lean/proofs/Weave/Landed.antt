-- Where entries test the signature, a jump from one entry to another fires.
use Rattle.std.proofs.Common.{◌≡◌, ℕ, ◌+◌, ◌*◌, Bool, true, List, [], ◌++◌, subst, cond}
use Rattle.qed_model.specs.Promise.InStep.{LandedInStep}
use Rattle.qed_model.specs.Weave.Blocks.{begins_at}
use Rattle.qed_model.specs.Weave.Code.{body_of}
use Rattle.qed_model.specs.Weave.Lean.{tick, enter, call_at}
use Rattle.qed_model.specs.Weave.LeanBounds.{cost_of}
use Rattle.qed_model.specs.Weave.LeanCode.{Lean}
use Rattle.machine.specs.Offsets.{distance_between}
use Rattle.qed_model.specs.Weave.Sequences.{Reads, Block, check_sign}
use Rattle.weave_core.specs.Weave.{Weave}
use Rattle.weave_core.specs.WeaveForms.{weave_with}
use Rattle.weave_core.specs.WeaveLaws.{Guarded}
use Rattle.weave_core.specs.World.{World, Item, Program}
use Rattle.weave_core.proofs.Lemmas.{WeaveIn, form_guarded, landed}
use Rattle.lean.specs.Woven.{LeanPlan, LeanLanded, lean_weave_of, check_steps, lean_start_of}
use Rattle.lean.proofs.Weave.Promise.{stage_is, woven}

module _ (f g : Program) (w : World) (l : Lean) (blocks : List Block) (p : LeanPlan f g w l blocks) (land : l.land ≡ true) where
  abbrev pub leader : ℕ → Bool
  leader a = begins_at blocks a

  abbrev pub v : Weave
  v = lean_weave_of w l leader

  pub in_it : WeaveIn f g w v leader
  in_it = woven f g w l blocks p

  -- the tick of an entry, if it has one, behind the test of the signature
  abbrev tick_of : ℕ → List Item
  tick_of a = cond (l.ticks a) (tick true a (l.most a) (distance_between (w.entry a + 28) l.check)) []

  -- what stands behind the test at an entry
  abbrev pub behind : (a : ℕ) → leader a ≡ true → List Item
  behind a h = let b = in_it.entries a h in tick_of a ++ body_of v.code b.body b.end a

  tests_at : (a p : ℕ) (rest : List Item) → Reads w.form.far w.code w.entry p (v.code.enter a ++ rest) → Reads w.form.far w.code w.entry p (check_sign a ++ (tick_of a ++ rest))
  tests_at a p rest h = subst (λ x. Reads w.form.far w.code w.entry p (enter x (l.ticks a) a (l.most a) (distance_between (w.entry a + call_at x) l.check) ++ rest)) land h

  pub tests : (a : ℕ) (h : leader a ≡ true) → Reads w.form.far w.code w.entry (w.entry a) (check_sign a ++ behind a h)
  tests a h = let b = in_it.entries a h in tests_at a (w.entry a) (body_of v.code b.body b.end a) b.reads.1

  -- an entry has the laws of the test
  guarded : Guarded w v 4
  guarded = record {
    signed = λ u a rest low h o q. test.signed u a (tick_of a ++ rest) low (tests_at a u.pc rest h) o q;
    fires = λ u a rest low h o long ne. test.fires u a (tick_of a ++ rest) low (tests_at a u.pc rest h) o long ne;
  } where
    test : Guarded w (weave_with w.form 0 [] 0 0) 4
    test = form_guarded w 0 [] 0 0

pub lean_landed : LeanLanded
lean_landed f g w l blocks entries p land known =
    subst (λ n. LandedInStep 4 f g w.reached entries (lean_start_of w) n) (stage_is l (check_steps w) (cost_of l.diverse * l.inst_max))
    (landed f g w (lean_weave_of w l (begins_at blocks)) (begins_at blocks) entries (in_it f g w l blocks p land) (guarded f g w l blocks p land) known)
