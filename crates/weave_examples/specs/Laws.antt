-- The three laws of the comparison of x10.
use Rattle.std.proofs.Common.{◌≡◌, [], ◌∷◌, ap, arith}
use Rattle.machine.specs.Step.{reg}
use Rattle.qed_model.specs.Weave.Sequences.{guard}
use Rattle.weave_core.proofs.Lemmas.{quiet_guards, compare_lockstep, straight_lands, straight_guard}
use Rattle.passes.specs.Pass.{Does, same_state, Quiet, Honest, Lockstep}
use Rattle.passes.proofs.Guards.{honest_guards}
pub use Rattle.weave_core.specs.Parts.{any}

pub quiet_one : Quiet any (guard 10) (λ w v. v.original ≡ v.shadow) (λ w. Does w same_state same_state 0) (λ w v n z. ⊥) 1
quiet_one = record { leads = λ w v rest s st e. (quiet_guards any (10 ∷ []) (omega arith, tt)).leads w v rest s st (ap (λ t. reg t 10) e, tt) }

pub honest_one : Honest any (guard 10)
honest_one = honest_guards any (10 ∷ []) (omega arith, tt)

pub lockstep_one : Lockstep any [] (guard 10)
lockstep_one = record {
  locks = λ far s e a. compare_lockstep (10 ∷ []) (omega arith, omega arith, tt);
  lands = λ far s. straight_lands far (guard 10) (straight_guard far 10 (omega arith));
}
