-- The roles of the items of an instruction of a piece.
use Rattle.std.specs.Prelude.{ℕ}
use Rattle.qed_model.specs.declared.role.Role.{Role}
use Rattle.qed_model.specs.declared.role.Role.TheVariants as role
use Rattle.weave.specs.declared.each.Half.{Half}
use Rattle.weave.specs.declared.each.Half.TheVariants as half

abbrev pub half_role : Half → ℕ → Role
half_role half.Original = role.Original
half_role half.Mirror = role.Mirror
