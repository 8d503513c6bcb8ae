-- At the entry of a block with a wrong signature or a wrong x14 the run is over soon, whatever x15 has.
use Rattle.std.proofs.Common.{ℕ, ◌+◌, inl, inr, ⊎_elim, Bool, true, List, refl, arith}
use Rattle.qed_model.specs.Weave.Blocks.{begins_at}
use Rattle.qed_model.specs.Weave.LeanCode.{Lean}
use Rattle.qed_model.specs.Weave.Sequences.{Block, CURSOR, SIGNATURE, DISTANCE}
use Rattle.weave_core.specs.World.{World, Program, reg}
use Rattle.lean.specs.Woven.{LeanPlan}
use Rattle.lean.proofs.Weave.Offset.{Lost}
use Rattle.lean.proofs.Weave.Off.{off_any}
use Rattle.lean.proofs.Weave.Skipped.{Loses}

module _ (f g : Program) (w : World) (l : Lean) (blocks : List Block) (p : LeanPlan f g w l blocks) where
  pub lost : Loses w (begins_at blocks)
  lost a y leads going standing at small_sign small_cursor wrong =
      let on : ℕ → Bool = λ t. true in
      let c = reg y CURSOR in
      let q = reg y DISTANCE in
      let z : Lost f g w l blocks p true c q on y = record {
        at = a;
        sign = reg y SIGNATURE;
        way = refl;
        leads = leads;
        here = at;
        wrong = ⊎_elim (λ o. inl o) (λ o. inr (refl, o)) wrong;
        small = small_sign;
        state = record { going = going; standing = standing; sign = refl; cursor = refl; distance = refl };
      } in
      let s = off_any f g w l blocks p q c on y z in
      record { steps = s.steps + 1; within = omega (arith, s.within); over = ⊎_elim (λ o. o) (λ e. absurd e) s.is }
