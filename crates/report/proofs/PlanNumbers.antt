-- All numbers of a plan are whole.
use Rattle.std.proofs.Common.{◌≡◌, ℕ, List, [], ◌∷◌, Option, Some, None, map, refl, false}
use Rattle.std.specs.Prelude.{codes}
use Rattle.serde_json.specs.Data.{Members, member, no_members}
use Rattle.serde_json.specs.View.{items_of}
use Rattle.serde_json.specs.Written.{has_float, items_have_float, members_have_float}
use Rattle.qed_model.specs.declared.plan.EntryRow.{EntryRow}
use Rattle.qed_model.specs.declared.plan.PieceRow.{PieceRow}
use Rattle.qed_model.specs.declared.plan.Plan.{Plan}
use Rattle.report.specs.Plan.{count_data, bound_data, early_members, entry_data, piece_data, plan_data}

bound_whole : (bound : Option ℕ) → has_float (bound_data bound) ≡ false
bound_whole None = refl
bound_whole (Some n) = refl

entries_whole : (rows : List EntryRow) → items_have_float (items_of (map entry_data rows)) ≡ false
entries_whole [] = refl
entries_whole (row ∷ rows) = entries_whole rows

pieces_whole : (rows : List PieceRow) → items_have_float (items_of (map piece_data rows)) ≡ false
pieces_whole [] = refl
pieces_whole (row ∷ rows) = pieces_whole rows

early_whole : (early word : Option ℕ) (rest : Members) → members_have_float rest ≡ false → members_have_float (early_members early word rest) ≡ false
early_whole None word rest e = e
early_whole (Some n) word rest e = rw (bound_whole word) e

pub plan_whole : (plan : Plan) → has_float (plan_data plan) ≡ false
plan_whole plan =
    let b = plan.bounds in
    let others : members_have_float (member (codes "piece") (count_data b.piece) (member (codes "register") (count_data b.register) (member (codes "word") (bound_data b.word) no_members))) ≡ false = rw (bound_whole b.word) refl in
    rw (early_whole b.early_register b.early_word _ others, entries_whole plan.entries, pieces_whole plan.pieces) refl
