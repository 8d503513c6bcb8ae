use Rattle.std.proofs.Common.{drop}
use Rattle.qed_model.specs.Weave.Diverse.{part_items}
use Rattle.passes.specs.Emitted.{Done}
use Rattle.mirror_forms.proofs.parts.put_parts.Given as goal

-- the words so far, and those of the rest
abbrev pub invariant-loop-part : goal.invariant-loop-part
invariant-loop-part l = Done l.initial.out l.out (part_items l.ins l.parts) (part_items l.ins (drop l.part-index l.parts))
