-- The laws of the entry and of the leave.
use Rattle.std.proofs.Common.{◌≡◌, ℕ, ◌⊎◌, inl, inr, ⊎_elim, Bool, [], refl, sym, subst}
use Rattle.rv_isa.specs.declared.class.Class.TheVariants as class
use Rattle.qed_model.specs.Weave.Sequences.{class_of, Class, Ins, enter, leave_as}
use Rattle.weave_core.specs.KindItems.{LockItems, LandItems, IsEnd, end_branches, end_jumps, end_jumps_reg, end_ends, end_illegal}
pub use Rattle.weave_core.specs.Parts.{any}
use Rattle.weave_core.proofs.Lemmas.{enter_items, go_items, leave_items, land_enter, land_go_on, land_leave, plain_mirrors_fit}
use Rattle.passes.specs.Pass.{Honest, Lockstep}
use Rattle.passes.proofs.HonestWords.{honest_enter}
use Rattle.flow_tracking.specs.Leaving.{leave_form, left_as, left, IsLeft}
pub use Rattle.weave_core.proofs.Lemmas.{quiet_enter, quiet_leave}

-- ---- the entry
pub honest_entry : (at : ℕ) → Honest any (enter at)
honest_entry at = record { honest = λ far s. honest_enter far at }

pub lockstep_enter : (at : ℕ) → Lockstep any [] (enter at)
lockstep_enter at = record { locks = λ far s. enter_items far at; lands = λ far s. land_enter far at }

-- ---- the leave: Lockstep
end_as : (c : Class) (next : ℕ) (i : Ins) (at : ℕ) → class_of i.kind ≡ c → (c ≡ class.Compute → ⊥) → IsLeft c next i at → IsEnd i
end_as class.Compute next i at e ne f = absurd (ne refl)
end_as class.Branch next i at e ne f = end_branches e f.0 f.1
end_as class.Jump next i at e ne f = end_jumps e f
end_as class.JumpReg next i at e ne f = end_jumps_reg e f.0 f.1
end_as class.End next i at e ne f = end_ends e
end_as class.Illegal next i at e ne f = end_illegal e
end_as c next i at e ne f = absurd f

other_as : (c : Class) (next : ℕ) (far : Bool) (i : Ins) (at : ℕ) → (c ≡ class.Compute → ⊥) → left_as c next far i at ≡ leave_as (leave_form far) c i at
other_as class.Compute next far i at ne = absurd (ne refl)
other_as c next far i at ne = refl

is_compute : (c : Class) → (c ≡ class.Compute) ⊎ (c ≡ class.Compute → ⊥)
is_compute class.Compute = inl refl
is_compute c = inr (λ e. absurd (cc))

pub lockstep_leave : (next : ℕ) (far : Bool) (i : Ins) (at : ℕ) → IsLeft (class_of i.kind) next i at → Lockstep (λ f. f ≡ far) [] (left next far i at)
lockstep_leave next far i at f = record {
  locks = λ g e. subst (λ b. LockItems b (left next far i at)) (sym e) locks_here;
  lands = λ g e. subst (λ b. LandItems b (left next far i at)) (sym e) lands_here;
} where
  locks_here : LockItems far (left next far i at)
  locks_here = ⊎_elim
      (λ e. subst (λ c. LockItems far (left_as c next far i at)) (sym e) (go_items far next))
      (λ ne. subst (LockItems far) (sym (other_as (class_of i.kind) next far i at ne))
      (leave_items (leave_form far) (plain_mirrors_fit far) i at (end_as (class_of i.kind) next i at refl ne f)))
      (is_compute (class_of i.kind))

  lands_here : LandItems far (left next far i at)
  lands_here = ⊎_elim
      (λ e. subst (λ c. LandItems far (left_as c next far i at)) (sym e) (land_go_on far next))
      (λ ne. subst (LandItems far) (sym (other_as (class_of i.kind) next far i at ne))
      (land_leave (leave_form far) (plain_mirrors_fit far) i at (end_as (class_of i.kind) next i at refl ne f)))
      (is_compute (class_of i.kind))
