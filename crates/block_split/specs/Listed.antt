-- A block as the definitions see it, and how long it is.
use Rattle.std.specs.Prelude.{◌≡◌, ℕ, ◌+◌, ◌*◌, ◌≤◌, Option, Some, None, length, sum}
use Rattle.qed_model.specs.Weave.Sequences.{Block, End, Falls, Stops, Ins}
use Rattle.qed_model.specs.Weave.Pieces.{divided}
use Rattle.block_split.specs.declared.block.CodeBlock.{CodeBlock}

abbrev pub end_of : Option Ins → End
end_of None = Falls
end_of (Some i) = Stops i

-- its body is divided into its pieces
abbrev pub block_of : CodeBlock → Block
block_of b = record { start = b.start; body = divided b.lengths b.body; end = end_of b.end; reached = b.reached }

-- the pieces make up the body, and the address behind it is at most `top`
pub record IsWithinTop (top : ℕ) (b : CodeBlock) : Type 0 where
  pub whole : sum b.lengths ≡ length b.body
  pub below : b.start + 4 * length b.body ≤ top
