use Rattle.std.proofs.Common.{take, ◌≡◌, ℕ}
use Rattle.std.specs.Prelude.{◌==◌, ◌&&◌}
use Rattle.std.specs.List.{list_any}
use Rattle.flow_recovery.specs.Sets.{lists}
use Rattle.tests.specs.Admission.Reached.{is_reached}
use Rattle.qed_top.proofs.run.reached_list.Given as goal

-- the reached addresses so far
abbrev pub invariant-loop-place : goal.invariant-loop-place
invariant-loop-place l = (a : ℕ) → lists l.list.items a ≡ list_any (λ c. (c.at == a) && is_reached l.file l.test c.at) (take l.place l.words)
