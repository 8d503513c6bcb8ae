-- The options with which files are transformed.
use Rattle.std.specs.Prelude.{◌≡◌, ◌+◌, ◌*◌, ◌%◌, ◌<◌, ◌≤◌, IfSome}
use Rattle.rv_isa.specs.declared.profile.TheConstants.{PAGE}
use Rattle.machine.specs.declared.limits.TheConstants.{MAX_HALF}
use Rattle.tests.specs.declared.options.Options.{Options}
use Rattle.tests.specs.declared.options.Entries.TheVariants as entries
use Rattle.qed_model.specs.declared.steps.TheConstants.{LEAN_LEAVE_STEPS}
use Rattle.qed_model.specs.Weave.LeanBounds.{cost_of, entry_steps}

-- options with which files are transformed
pub record AreSoundOptions (o : Options) : Type 0 where
  pub some : 1 ≤ o.inst_min
  pub room : 2 * o.inst_min ≤ o.inst_max + 1
  pub most : o.inst_max ≤ 1024
  pub visits : 1 ≤ o.round
  pub few_visits : o.round ≤ 1024
  pub half : IfSome o.half (λ h. (h % PAGE ≡ 0) × (PAGE ≤ h) × (h ≤ MAX_HALF))
  -- in the lean form a block has fewer steps than a period: those of its entry, of one piece, and of its leave
  pub lean : IfSome o.lean (λ every. (o.entries ≡ entries.Reached) × (every ≤ 2047)
      × (entry_steps o.land + LEAN_LEAVE_STEPS + cost_of o.diverse * o.inst_max < every))
