-- The laws of a pass: over its items, what it needs, and where it leads.
use Rattle.std.specs.Prelude.{Bool, List}
use Rattle.qed_model.specs.declared.item.Item.{Item}
use Rattle.passes.specs.Honest.{HonestItems}
pub use Rattle.weave_core.specs.Pass.{Views, StandsAt, Chain, NeedsBoth, Does, same_state, Leads, Quiet, Lockstep, AllLow, AllSame}

-- ---- Honest
-- an EBREAK of the items is reached only if a pair, a word and its duplicate, or a signature and its entry differ
pub record Honest (suits : Bool → Type 0) (items : List Item) : Type 0 where
  pub honest : (far : Bool) → suits far → HonestItems far items
