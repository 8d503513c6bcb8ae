use Rattle.std.proofs.Common.{◌≡◌, ◌++◌, drop}
use Rattle.test_admission.specs.Stretches.{stretch_parts, cut}
use Rattle.test_admission.proofs.stretches.cut.Given as goal

-- the pieces so far and those of the rest are those of all
abbrev pub invariant-loop-part : goal.invariant-loop-part
invariant-loop-part l = stretch_parts l.pieces.items ++ cut l.done (stretch_parts (drop l.part-index l.parts)) ≡ cut 0 (stretch_parts l.parts)
