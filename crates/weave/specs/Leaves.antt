-- The leave of a block in two: what stands before an ECALL, and the rest.
use Rattle.std.specs.Prelude.{ℕ, Bool, true, false, cond, Option, Some, None, List, [], ◌∷◌}
use Rattle.rv_isa.specs.declared.ins.Ins.{Ins}
use Rattle.rv_isa.specs.declared.class.Class.{Class}
use Rattle.rv_isa.specs.declared.class.Class.TheVariants as class
use Rattle.rv_isa.specs.Kind.{class_of}
use Rattle.qed_model.specs.declared.item.Item.{Item}
use Rattle.qed_model.specs.declared.item.Item.TheVariants.{Plain}
use Rattle.qed_model.specs.declared.role.Role.{Role}
use Rattle.qed_model.specs.declared.role.Role.TheVariants as role
use Rattle.qed_model.specs.Weave.Sequences.{Form, before_end, go_on, leave_as}

abbrev pub is_end_as : Class → Bool
is_end_as class.End = true
is_end_as c = false

abbrev pub is_ecall_end : Option Ins → Bool
is_ecall_end None = false
is_ecall_end (Some i) = is_end_as (class_of i.kind)

abbrev pub before_parts : Form → Option Ins → List (Role × List Item)
before_parts form end = cond (is_ecall_end end) ((role.Sweep, before_end form) ∷ []) []

abbrev pub last_as : Form → Class → Ins → ℕ → List Item
last_as form class.End i at = Plain i ∷ []
last_as form c i at = leave_as form c i at

abbrev pub last_items : Form → Option Ins → ℕ → List Item
last_items form None at = go_on at
last_items form (Some i) at = last_as form (class_of i.kind) i at
