-- The parts of a block: those of each instruction of a piece, and of a leave.
use Rattle.std.proofs.Common.{◌≡◌, ℕ, ◌+◌, ◌*◌, ◌<◌, cond, Option, Some, None, List, [], ◌∷◌, ◌++◌, length, map, drop, get_or, refl, sym, ap, ◌∙◌}
use Rattle.std.proofs.lemmas.List.{drop_more}
use Rattle.rv_isa.specs.declared.class.Class.{Class}
use Rattle.rv_isa.specs.declared.class.Class.TheVariants as class
use Rattle.rv_isa.specs.Kind.{class_of}
use Rattle.qed_model.specs.declared.item.Item.{Item}
use Rattle.qed_model.specs.declared.role.Role.{Role}
use Rattle.qed_model.specs.declared.role.Role.TheVariants as role
use Rattle.qed_model.specs.Weave.Pieces.{divided}
use Rattle.qed_model.specs.Weave.Sequences.{Form, Ins, before_end}
use Rattle.qed_model.specs.Weave.Parts.{Parts, each_parts, pieces_parts, block_parts, entries_parts, leave_as_parts, leave_parts}
use Rattle.block_split.specs.declared.block.CodeBlock.{CodeBlock}
use Rattle.block_split.specs.Listed.{block_of, end_of}
use Rattle.weave.specs.Fits.{FitsBlock}
use Rattle.weave.specs.Leaves.{is_end_as, before_parts, last_as, last_items}
use Rattle.weave.proofs.BodyLeft.{whole_length}

-- ---- a piece
-- the parts of one instruction, and of the others
pub each_split :
    (of : ℕ → Role) (part : Ins → ℕ → List Item) (is : List Ins) (k at : ℕ) (i : Ins) → k < length is → get_or is k i ≡ i
    → each_parts of part (drop k is) at ≡ (of at, part i at) ∷ each_parts of part (drop (k + 1) is) (at + 4)
each_split of part is k at i less item = ap (λ l. each_parts of part l at) (drop_more is k i less ∙ ap (λ x. x ∷ drop (k + 1) is) item)

-- the parts of passes with equal items
pub each_alike :
    (of : ℕ → Role) (part other : Ins → ℕ → List Item) → ((i : Ins) (at : ℕ) → part i at ≡ other i at) → (is : List Ins) (at : ℕ) → each_parts of part is at ≡ each_parts of other is at
each_alike of part other e [] at = refl
each_alike of part other e (i ∷ is) at =
    ap (λ l. (of at, l) ∷ each_parts of part is (at + 4)) (e i at) ∙ ap (λ l. (of at, other i at) ∷ l) (each_alike of part other e is (at + 4))

-- ---- a leave
here : (form : Form) (e : Option Ins) (at : ℕ) → leave_parts form (end_of e) at ≡ before_parts form e ++ ((role.Leave at, last_items form e at) ∷ [])
here form None at = refl
here form (Some i) at = by (class_of i.kind) where
  by : (c : Class) → leave_as_parts form c i at ≡ cond (is_end_as c) ((role.Sweep, before_end form) ∷ []) [] ++ ((role.Leave at, last_as form c i at) ∷ [])
  by class.End = refl
  by c = refl

pub leave_split : (form : Form) (e : Option Ins) (end at : ℕ) → at ≡ end → leave_parts form (end_of e) end ≡ before_parts form e ++ ((role.Leave at, last_items form e at) ∷ [])
leave_split form e end at same = ap (leave_parts form (end_of e)) (sym same) ∙ here form e at

-- ---- blocks
pub block_is :
    (p : Parts) (b : CodeBlock) → FitsBlock b
    → block_parts p (block_of b) ≡ p.enter b.start ++ (pieces_parts p (divided b.lengths b.body) b.start ++ p.leave (end_of b.end) (b.start + 4 * length b.body))
block_is p b f =
    ap (λ n. p.enter b.start ++ (pieces_parts p (divided b.lengths b.body) b.start ++ p.leave (end_of b.end) (b.start + 4 * n))) (whole_length b.lengths b.body f.whole)

pub entries_split :
    (p : Parts) (blocks : List CodeBlock) (k : ℕ) (b : CodeBlock) → k < length blocks → get_or blocks k b ≡ b
    → entries_parts p (map block_of (drop k blocks)) ≡ block_parts p (block_of b) ++ entries_parts p (map block_of (drop (k + 1) blocks))
entries_split p blocks k b less item = ap (λ l. entries_parts p (map block_of l)) (drop_more blocks k b less ∙ ap (λ x. x ∷ drop (k + 1) blocks) item)
