-- The blocks that can be woven.
use Rattle.std.specs.Prelude.{◌≡◌, ◌+◌, ◌*◌, ◌^◌, ◌<◌, ◌≤◌, Option, Some, None, length, sum}
use Rattle.rv_isa.specs.declared.profile.TheConstants.{LAST_ORIGINAL}
use Rattle.rv_isa.specs.declared.ins.Ins.{Ins}
use Rattle.rv_isa.specs.declared.class.Class.{Class}
use Rattle.rv_isa.specs.declared.class.Class.TheVariants as class
use Rattle.rv_isa.specs.Kind.{class_of}
use Rattle.weave_core.specs.Blocks.{AllFit}
use Rattle.block_split.specs.declared.block.CodeBlock.{CodeBlock}

-- an instruction that ends a block and names no register above x13
abbrev pub FitsLeave : Class → Ins → Type 0
FitsLeave class.Jump i = i.rd ≤ LAST_ORIGINAL
FitsLeave class.Branch i = (i.rs1 ≤ LAST_ORIGINAL) × (i.rs2 ≤ LAST_ORIGINAL)
FitsLeave class.JumpReg i = (i.rd ≤ LAST_ORIGINAL) × (i.rs1 ≤ LAST_ORIGINAL)
FitsLeave class.End i = Unit {0}
FitsLeave class.Illegal i = Unit {0}
FitsLeave _ i = ⊥

-- an end that names no register above x13, or none
abbrev pub FitsEnd : Option Ins → Type 0
FitsEnd None = Unit {0}
FitsEnd (Some i) = FitsLeave (class_of i.kind) i

-- a block below 2^64; its body can be doubled and is all in pieces, and its end names no register above x13
pub record FitsBlock (b : CodeBlock) : Type 0 where
  pub body : AllFit b.body
  pub end : FitsEnd b.end
  pub whole : sum b.lengths ≡ length b.body
  pub low : b.start + 4 * length b.body < 2 ^ 64
