-- Items at their places: each is one or two instructions, which know where they stand. In the far form of the code a
-- jump to an entry is two.
use Rattle.std.specs.Prelude.{◌≡◌, ℕ, ◌+◌, ◌-◌, Bool, true, false, ◌==◌, ◌<◌, if◌then◌else◌, AllPairs, List, [], ◌∷◌, ◌++◌, map, Option, Some, None, unwrap_or}
use Rattle.rv_isa.specs.declared.profile.TheConstants.{TEMPORARY}
pub use Rattle.qed_model.specs.declared.item.Item.{Item}
pub use Rattle.qed_model.specs.declared.item.Item.TheVariants.{Mark, Plain, Constant, Go}
use Rattle.qed_model.specs.declared.plan.EntryRow.{EntryRow}
use Rattle.machine.specs.Table.{Ins, Addi, Auipc, Jal, Jalr, ins, decode_of}
use Rattle.machine.specs.Offsets.{distance_between, upper_part, lower_part}

-- ---- sizes and places
-- the bytes of a jump to an entry: one word in the near form, two in the far form
abbrev pub go_size : Bool → ℕ
go_size false = 4
go_size true = 8

-- the bytes that an item takes
abbrev pub size_of : Bool → Item → ℕ
size_of far (Mark a) = 0
size_of far (Plain i) = 4
size_of far (Constant r c) = 8
size_of far (Go a) = go_size far

abbrev pub sum_of_sizes : Bool → List Item → ℕ
sum_of_sizes far [] = 0
sum_of_sizes far (item ∷ items) = size_of far item + sum_of_sizes far items

-- the entries of items that stand from an address on, where their marks stand; the section `.qed.map` has them
abbrev pub rows_from : Bool → ℕ → List Item → List EntryRow
rows_from far at [] = []
rows_from far at (Mark a ∷ items) = record { input = a; output = at } ∷ rows_from far at items
rows_from far at (Plain i ∷ items) = rows_from far (at + 4) items
rows_from far at (Constant r c ∷ items) = rows_from far (at + 8) items
rows_from far at (Go t ∷ items) = rows_from far (at + go_size far) items

-- ---- entries, by the rows of `.qed.map`
-- the new address of an input address that has an entry
abbrev pub entry_at : List EntryRow → ℕ → Option ℕ
entry_at [] a = None
entry_at (row ∷ rows) a = if row.input == a then Some row.output else entry_at rows a

-- the entry of an input address, or without one the last word of the code, which is the stub
abbrev pub leads_to : List EntryRow → ℕ → ℕ → ℕ
leads_to rows last a = unwrap_or (entry_at rows a) last

-- the input addresses ascend
abbrev pub EntriesAscend : List EntryRow → Type 0
EntriesAscend rows = AllPairs (λ r s. r.input < s.input) rows

-- the entries of items that stand from `base` on
abbrev pub entry_of : Bool → ℕ → List Item → ℕ → ℕ
entry_of far base items = leads_to (rows_from far base items) (base + sum_of_sizes far items - 4)

-- ---- words
-- the words of a jump from one address to another; those of the far form change x30
abbrev pub go_words : Bool → ℕ → ℕ → List Ins
go_words false at to = ins Jal 0 0 0 (distance_between at to) ∷ []
go_words true at to = ins Auipc TEMPORARY 0 0 (upper_part (distance_between at to)) ∷ ins Jalr 0 TEMPORARY 0 (lower_part (distance_between at to)) ∷ []

-- the instructions of the items, from an address on, where an input address has its entry
abbrev pub instructions_from : Bool → (ℕ → ℕ) → ℕ → List Item → List Ins
instructions_from far entry at [] = []
instructions_from far entry at (Mark a ∷ items) = instructions_from far entry at items
instructions_from far entry at (Plain i ∷ items) = i ∷ instructions_from far entry (at + 4) items
instructions_from far entry at (Constant r c ∷ items) =
    ins Auipc r 0 0 (upper_part (distance_between at c)) ∷ ins Addi r r 0 (lower_part (distance_between at c)) ∷ instructions_from far entry (at + 8) items
instructions_from far entry at (Go a ∷ items) = go_words far at (entry a) ++ instructions_from far entry (at + go_size far) items

-- the instructions of items that stand from `base` on
abbrev pub placed : Bool → ℕ → List Item → List Ins
placed far base items = instructions_from far (entry_of far base items) base items

-- the words decode to the instructions, one for one
abbrev pub Decode : List ℕ → List Ins → Type 0
Decode words instructions = map decode_of words ≡ map Some instructions
