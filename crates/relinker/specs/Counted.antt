-- What holds of counted items.
use Rattle.std.specs.Prelude.{◌≡◌, ℕ, ◌-◌, ◌^◌, ◌<◌, min, List}
use Rattle.qed_model.specs.declared.item.Item.{Item}
use Rattle.qed_model.specs.declared.role.Role.{Role}
use Rattle.qed_model.specs.Weave.Parts.{role_rows}
use Rattle.qed_model.specs.Weave.Placed.{sum_of_sizes, rows_from}
use Rattle.relinker.specs.declared.count.Count.{Count}
use Rattle.relinker.specs.declared.roles.Roles.{Roles}

-- the number, or 2^64 - 1 if it is above
abbrev pub capped : ℕ → ℕ
capped n = min n (2 ^ 64 - 1)

-- these items were counted: their bytes, and if these are below 2^64 - 1 the marks, with their places from 0 on
pub record HasCounted (count : Count) (items : List Item) : Type 0 where
  pub bytes : count.bytes ≡ capped (sum_of_sizes count.far items)
  pub marks : sum_of_sizes count.far items < 2 ^ 64 - 1 → count.marks.items ≡ rows_from count.far 0 items

-- the rows give the roles of these parts
abbrev pub HasRoles : Roles → List (Role × List Item) → Type 0
HasRoles roles parts = roles.rows.items ≡ role_rows roles.far parts
