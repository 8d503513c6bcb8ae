-- The promises on a hart's file hold of the hart after turns without changes.
use Rattle.std.proofs.Common.{ℕ, List, [], refl, sym, ap, ◌∙◌}
use Rattle.std.specs.Prelude.{slice_get}
use Rattle.machine.specs.Program.{Program}
use Rattle.machine.specs.Step.{State}
use Rattle.qed_model.specs.Promise.Kept.{NotTrapped}
use Rattle.harts.specs.Harts.{state_of}
use Rattle.harts.specs.HartSteps.{StandsAfter, TurnsKeep}
use Rattle.harts.specs.Shared.{AreSound, AreUnshared}
use Rattle.harts.specs.Together.{IsProgram, IsSeen, own_run}
use Rattle.harts.proofs.Files.{none_shared}
use Rattle.harts.proofs.PerHart.{per_hart}
use Rattle.harts.proofs.Steps.{same_world}

module _ (gs : List Program) (ts : List ℕ) (sound : AreSound gs) (none : AreUnshared gs) (calm : (i : ℕ) (g : Program) → IsProgram gs i g → NotTrapped (own_run (λ i. []) ts i g)) where
  seen : (i k : ℕ) (u : State) → StandsAfter gs ts i k u → IsSeen gs i [] k u
  seen i k u s = record {
    changes = λ i. [];
    schedule = ts;
    alone = record { files = (none_shared gs sound none).files; words = λ i g e. tt; no_trap = calm };
    own = refl;
    turns = s.turns;
    hart = s.hart;
    stands = ap (λ w. slice_get w.harts i) (sym (same_world gs ts)) ∙ s.stands;
    is = s.is ∙ ap (λ w. state_of s.hart w.memory) (same_world gs ts);
  }

pub turns_keep : (gs : List Program) (ts : List ℕ) → AreSound gs → AreUnshared gs → TurnsKeep gs ts
turns_keep gs ts sound none calm i f g reached first bound e kept =
    let all = per_hart.kept gs i f g reached first bound e kept in
    record {
      values = λ n steady.
          let v = all.values n steady in
          record {
            turns = v.turns;
            within = v.within;
            halves = λ u s. v.halves u (seen gs ts sound none calm i v.turns u s);
            ends = λ u s. v.ends u (seen gs ts sound none calm i v.turns u s);
          };
      quiet = λ m u steady s. all.quiet m u steady (seen gs ts sound none calm i m u s);
    }
