-- How many bytes the parts of new code have, by blocks and instructions alone.
use Rattle.std.specs.Prelude.{◌≡◌, ℕ, ◌+◌, ◌*◌, Bool, cond, ◌==◌, Option, Some, None, List, [], ◌∷◌, length}
use Rattle.rv_isa.specs.declared.ins.Ins.{Ins}
use Rattle.rv_isa.specs.declared.class.Class.{Class}
use Rattle.rv_isa.specs.declared.class.Class.TheVariants as class
use Rattle.rv_isa.specs.Kind.{class_of}
use Rattle.tests.specs.declared.options.Options.{Options}
use Rattle.qed_model.specs.declared.plan.EntryRow.{EntryRow}
use Rattle.tests.specs.declared.range.Range.{Range}
use Rattle.qed_model.specs.declared.diverse.Part.{Part}
use Rattle.qed_model.specs.Weave.Diverse.{parts_of}
use Rattle.qed_model.specs.Weave.Placed.{go_size}
use Rattle.machine.specs.Operands.{is_auipc}
use Rattle.block_split.specs.declared.block.CodeBlock.{CodeBlock}
use Rattle.weave.specs.declared.size.Sizes.{Sizes}

-- ---- an instruction of a piece
-- the comparison of a register with its pair, and those of both source registers
abbrev pub guard_room : ℕ → ℕ
guard_room r = cond (r == 0) 0 8

abbrev pub guards_bytes : Ins → ℕ
guards_bytes i = guard_room i.rs1 + cond (i.rs2 == i.rs1) 0 (guard_room i.rs2)

-- the original part of an instruction
abbrev pub original_as_bytes : Class → Ins → ℕ
original_as_bytes class.Load i = guard_room i.rs1 + 4
original_as_bytes class.Store i = guards_bytes i + 4
original_as_bytes _ i = 4

abbrev pub original_bytes : Ins → ℕ
original_bytes i = cond (is_auipc i.kind) 8 (original_as_bytes (class_of i.kind) i)

-- the mirror part of an instruction, of its kind and of others
abbrev pub mirror_as_bytes : Class → ℕ
mirror_as_bytes class.Load = 8
mirror_as_bytes class.Store = 8
mirror_as_bytes class.Fence = 0
mirror_as_bytes _ = 4

abbrev pub mirrored_bytes : Ins → ℕ
mirrored_bytes i = cond (is_auipc i.kind) 8 (mirror_as_bytes (class_of i.kind))

abbrev pub diverse_bytes : List Part → Ins → ℕ
diverse_bytes [] i = mirrored_bytes i
diverse_bytes (p ∷ ps) i = 4 * length (p ∷ ps)

abbrev pub mirror_bytes : Bool → Ins → ℕ
mirror_bytes other i = cond other (diverse_bytes (parts_of i.kind i.imm) i) (mirrored_bytes i)

-- both parts of all instructions of a body
abbrev pub body_bytes : Bool → List Ins → ℕ
body_bytes other [] = 0
body_bytes other (i ∷ is) = original_bytes i + mirror_bytes other i + body_bytes other is

-- ---- what the sizes of blocks depend on besides the blocks
-- the visit of a data word, and the comparisons before an ECALL
abbrev pub visited_room : List Range → ℕ
visited_room [] = 0
visited_room (r ∷ rs) = 24 + 20 * length (r ∷ rs)

abbrev pub end_bytes : Bool → List Range → ℕ
end_bytes sweep rs = cond sweep (44 * length rs + 104) 0

pub record AreSizes (s : Sizes) (o : Options) (far : Bool) (span : List Range) : Type 0 where
  pub diverse : s.diverse ≡ o.diverse
  pub go : s.go ≡ go_size far
  pub piece : s.piece ≡ 104 + o.round * visited_room span
  pub end : s.end ≡ end_bytes o.sweep span

-- ---- blocks
-- the return address of a jump
abbrev pub links_bytes : Ins → ℕ
links_bytes i = cond (i.rd == 0) 0 16

-- the leave of a block
abbrev pub leave_as_bytes : Sizes → Class → Ins → ℕ
leave_as_bytes s class.End i = s.end + 4
leave_as_bytes s class.Jump i = links_bytes i + 8 + s.go
leave_as_bytes s class.Branch i = 28 + guards_bytes i + 2 * s.go
leave_as_bytes s class.JumpReg i = 36 + guard_room i.rs1 + links_bytes i
leave_as_bytes s _ i = 4

abbrev pub leave_bytes : Sizes → Option Ins → ℕ
leave_bytes s None = 8 + s.go
leave_bytes s (Some i) = leave_as_bytes s (class_of i.kind) i

-- a block, and several
abbrev pub block_bytes : Sizes → CodeBlock → ℕ
block_bytes s b = body_bytes s.diverse b.body + length b.lengths * s.piece + leave_bytes s b.end + 16

abbrev pub blocks_bytes : Sizes → List CodeBlock → ℕ
blocks_bytes s [] = 0
blocks_bytes s (b ∷ bs) = block_bytes s b + blocks_bytes s bs

-- the marks of blocks; the first block stands at `at`
abbrev pub rows_of : Sizes → ℕ → List CodeBlock → List EntryRow
rows_of s at [] = []
rows_of s at (b ∷ bs) = record { input = b.start; output = at } ∷ rows_of s (at + block_bytes s b) bs

-- what runs first
abbrev pub cursor_bytes : List Range → ℕ
cursor_bytes [] = 0
cursor_bytes (r ∷ rs) = 8

abbrev pub prologue_bytes : ℕ → List Range → ℕ
prologue_bytes go rs = 116 + cursor_bytes rs + go
