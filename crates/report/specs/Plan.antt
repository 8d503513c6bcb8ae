-- What is printed of a plan: one JSON object on one line, its keys in the order of their bytes.
use Rattle.std.specs.Prelude.{ℕ, List, ◌++◌, map, codes, Option, Some, None}
use Rattle.serde_json.specs.Data.{Data, null, number, unsigned, array, object, item, no_items, Members, member, no_members}
use Rattle.serde_json.specs.View.{items_of}
use Rattle.serde_json.specs.Written.{compact_text}
use Rattle.qed_model.specs.declared.bounds.Bounds.{Bounds}
use Rattle.qed_model.specs.declared.plan.EntryRow.{EntryRow}
use Rattle.qed_model.specs.declared.plan.PieceRow.{PieceRow}
use Rattle.qed_model.specs.declared.plan.Plan.{Plan}

abbrev pub count_data : ℕ → Data
count_data n = number (unsigned n)

-- null without data words
abbrev pub bound_data : Option ℕ → Data
bound_data None = null
bound_data (Some bound) = count_data bound

-- the bounds of early changes, if there are any
abbrev pub early_members : Option ℕ → Option ℕ → Members → Members
early_members None word rest = rest
early_members (Some register) word rest = member (codes "early_register") (count_data register) (member (codes "early_word") (bound_data word) rest)

-- the bounds, in steps
abbrev pub bounds_data : Bounds → Data
bounds_data bounds =
    object (early_members bounds.early_register bounds.early_word (member (codes "piece") (count_data bounds.piece)
    (member (codes "register") (count_data bounds.register)
    (member (codes "word") (bound_data bounds.word) no_members))))

-- the address of a leader in the input, and that of its entry in the output
abbrev pub entry_data : EntryRow → Data
entry_data row = array (item (count_data row.input) (item (count_data row.output) no_items))

-- the input address of the block, that of the first instruction, and the number of instructions
abbrev pub piece_data : PieceRow → Data
piece_data row = array (item (count_data row.entry) (item (count_data row.first) (item (count_data row.length) no_items)))

-- addresses, sizes in bytes, and the number of data words
abbrev pub plan_numbers : Plan → Members
plan_numbers plan =
    member (codes "base") (count_data plan.base)
    (member (codes "code") (count_data plan.code_bytes)
    (member (codes "half") (count_data plan.distance)
    (member (codes "words") (count_data plan.words) no_members)))

-- a plan: its numbers, bounds, entries and pieces
abbrev pub plan_data : Plan → Data
plan_data plan =
    object (member (codes "base") (count_data plan.base)
    (member (codes "bounds") (bounds_data plan.bounds)
    (member (codes "code") (count_data plan.code_bytes)
    (member (codes "entries") (array (items_of (map entry_data plan.entries)))
    (member (codes "half") (count_data plan.distance)
    (member (codes "pieces") (array (items_of (map piece_data plan.pieces)))
    (member (codes "words") (count_data plan.words) no_members)))))))

abbrev pub plan_text : Plan → List ℕ
plan_text plan = compact_text (plan_data plan) ++ codes "\n"
