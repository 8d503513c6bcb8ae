-- The parts of a leave: those before an ECALL, and the rest.
use Rattle.std.proofs.Common.{◌≡◌, ℕ, ◌+◌, ◌*◌, length, sym, ap, ◌∙◌, Option, Some, None, cond, List, [], ◌∷◌, ◌++◌, refl}
use Rattle.rv_isa.specs.declared.class.Class.TheVariants as class
use Rattle.qed_model.specs.declared.item.Item.{Item}
use Rattle.qed_model.specs.declared.role.Role.TheVariants as role
use Rattle.machine.specs.Step.{Ins, Class, class_of}
use Rattle.qed_model.specs.Weave.Blocks.{begins_at}
use Rattle.qed_model.specs.Weave.LeanCode.{fall_words}
use Rattle.qed_model.specs.Weave.LeanParts.{leave_as_parts, leave_parts}
use Rattle.qed_model.specs.Weave.Sequences.{Form}
use Rattle.block_split.specs.declared.block.CodeBlock.{CodeBlock}
use Rattle.block_split.specs.Listed.{end_of}
use Rattle.weave.specs.Leaves.{is_end_as}
use Rattle.lean.specs.declared.weaver.LeanWeaver.{LeanWeaver}
use Rattle.lean.specs.Form.{lean_form, blocks_in, lean_parts_of, IsOwn}
use Rattle.lean.specs.Leaves.{ecall_parts, lean_before_parts, lean_last_as, lean_last_items}

leave_split :
    (lean_form : Form) (d : ℕ) (fall : ℕ → List Item) (e : Option Ins) (a at : ℕ) → leave_parts lean_form d fall (end_of e) a at ≡ lean_before_parts lean_form d e a at ++ ((role.Leave at, lean_last_items d fall e a at) ∷ [])
leave_split lean_form d fall None a at = refl
leave_split lean_form d fall (Some i) a at = by (class_of i.kind) where
  by : (c : Class) → leave_as_parts lean_form d fall c i a at ≡ cond (is_end_as c) (ecall_parts lean_form d a at) [] ++ ((role.Leave at, lean_last_as d fall c i a at) ∷ [])
  by class.End = refl
  by c = refl

-- the parts of the leave of a block, whose end stands there
pub block_split :
    (w : LeanWeaver) (b : CodeBlock) (at : ℕ) → at ≡ b.start + 4 * length b.body → IsOwn w b
    → (lean_parts_of w).leave (end_of b.end) (b.start + 4 * length b.body)
    ≡ lean_before_parts (lean_form w) w.distance b.end b.start at ++ ((role.Leave at, lean_last_items w.distance (fall_words (begins_at (blocks_in w))) b.end b.start at) ∷ [])
block_split w b at same own =
    let fall = fall_words (begins_at (blocks_in w)) in
    ap (λ a. leave_parts (lean_form w) w.distance fall (end_of b.end) a (b.start + 4 * length b.body)) own.starts
    ∙ ap (leave_parts (lean_form w) w.distance fall (end_of b.end) b.start) (sym same)
    ∙ leave_split (lean_form w) w.distance fall b.end b.start at
