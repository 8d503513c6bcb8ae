-- The data ranges as pairs, and the items of their visits.
use Rattle.std.specs.Prelude.{ℕ, List, [], ◌∷◌, pos}
use Rattle.rv_isa.specs.declared.profile.TheConstants.{CURSOR, TEMPORARY}
use Rattle.machine.specs.Table.{Bne, ins}
use Rattle.qed_model.specs.declared.item.Item.{Item}
use Rattle.qed_model.specs.declared.item.Item.TheVariants.{Plain, Constant}
use Rattle.tests.specs.declared.range.Range.{Range}
pub use Rattle.weave_core.specs.Parts.{Rounds}

-- the start and the end of each range
abbrev pub spans_of : List Range → List (ℕ × ℕ)
spans_of [] = []
spans_of (r ∷ rs) = (r.start, r.end) ∷ spans_of rs

-- if the cursor is at `end`, it goes on at `next`
abbrev pub wrap_items : ℕ → ℕ → List Item
wrap_items end next = Constant TEMPORARY end ∷ Plain (ins Bne 0 CURSOR TEMPORARY (pos 12)) ∷ Constant CURSOR next ∷ []
