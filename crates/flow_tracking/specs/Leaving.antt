-- The entry and the leave of a block, as passes.
use Rattle.std.specs.Prelude.{ℕ, ◌+◌, Bool, false, List, [], ◌∷◌, ◌++◌, pos, neg_ℤ}
use Rattle.rv_isa.specs.declared.class.Class.TheVariants as class
use Rattle.machine.specs.Table.{Ins, Addi, Andi, ins}
use Rattle.qed_model.specs.Weave.Placed.{go_size}
use Rattle.qed_model.specs.declared.item.Item.{Item}
use Rattle.qed_model.specs.declared.item.Item.TheVariants.{Plain, Go}
use Rattle.qed_model.specs.Weave.Sequences.{guards_of, links, leave_as, TEMPORARY}
pub use Rattle.weave_core.specs.Leaving.{leave_form, left_as, left, look_and_go, IsLeft, Enters, Leaving, LeavesOn}

-- ---- the words of a leave, part by part
-- the words behind the choice of the signature
abbrev pub branch_end : Ins → ℕ → ℕ → Bool → List Item
branch_end i next to far = guards_of i ++ (Plain (ins i.kind 0 i.rs1 i.rs2 (pos (4 + go_size far))) ∷ Go next ∷ Go to ∷ [])

-- the target by the original
abbrev pub aim_of : Ins → ℕ → List Item
aim_of i at = Plain (ins Addi TEMPORARY i.rs1 0 i.imm) ∷ Plain (ins Andi TEMPORARY TEMPORARY 0 (neg_ℤ (pos 2))) ∷ (links i at ++ look_and_go)

-- the whole leave of a JALR
abbrev pub indirect_of : Ins → ℕ → List Item
indirect_of i at = leave_as (leave_form false) class.JumpReg i at
