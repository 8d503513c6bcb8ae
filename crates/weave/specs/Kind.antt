-- What new code in a form has besides its items.
use Rattle.std.specs.Prelude.{Bool}
use Rattle.qed_model.specs.declared.bounds.Bounds.{Bounds}
use Rattle.qed_model.specs.declared.bounds.Shape.{Shape}

-- whether it is far code, whether it always has a table, and its bounds by what they depend on
pub record CodeKind : Type 0 where
  pub far : Bool
  pub table : Bool
  pub bounds : Shape → Bounds
