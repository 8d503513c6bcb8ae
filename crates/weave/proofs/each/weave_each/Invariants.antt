use Rattle.std.proofs.Common.{◌≡◌, ◌+◌, ◌*◌, drop}
use Rattle.qed_model.specs.Weave.Parts.{each_parts}
use Rattle.weave_core.specs.Blocks.{AllFit}
use Rattle.weave.specs.Halves.{half_role}
use Rattle.weave.proofs.Taking.{UpTo}
use Rattle.weave.proofs.each.weave_each.Given as goal

-- the parts so far, and those of the other instructions
abbrev pub invariant-loop-ins : goal.invariant-loop-ins
invariant-loop-ins g l =
    AllFit (drop l.ins-index l.list) × (l.at ≡ l.first + 4 * l.ins-index)
    × UpTo (g.S.ItemSink.took l.initial.to.sink) (g.S.ItemSink.took l.to.sink) l.to.items (each_parts (half_role l.half) (g.P.Pass.items l.pass) l.list l.first) (each_parts (half_role l.half) (g.P.Pass.items l.pass) (drop l.ins-index l.list) l.at)
