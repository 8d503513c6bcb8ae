use Rattle.std.proofs.Common.{◌≡◌, ℕ, ◌<◌, false}
use Rattle.std.specs.Prelude.{slice_get, slice_index, Some}
use Rattle.harts.specs.Harts.{Hart}
use Rattle.rv_step.specs.Known.{does_step}
use Rattle.harts.proofs.world.World.one_goes_on.Given as goal

-- the harts so far do not go on
abbrev pub invariant-loop-hart : goal.invariant-loop-hart
invariant-loop-hart l = (k : ℕ) (h : Hart) → k < l.hart-index → slice_get l.self.world.harts (slice_index l.harts k) ≡ Some h → does_step h.outcome ≡ false
