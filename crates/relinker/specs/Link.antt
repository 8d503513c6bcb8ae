-- What linking requires of items, and what their words are.
use Rattle.std.specs.Prelude.{◌≡◌, ℕ, ◌+◌, ◌^◌, ◌<◌, ◌≤◌, nat_lt, is_some, Bool, true, false, List, ◌++◌, slice_index}
use Rattle.std.specs.List.{list_all}
use Rattle.qed_model.specs.declared.item.Item.{Item}
use Rattle.machine.specs.declared.limits.Limit.TheVariants as limit
use Rattle.machine.specs.declared.limits.TheConstants.{MAX_NEAR_CODE_BYTES}
use Rattle.qed_model.specs.declared.plan.EntryRow.{EntryRow}
use Rattle.machine.specs.Limits.{limit_of}
use Rattle.machine.specs.Table.{encode_of, Ins}
use Rattle.qed_model.specs.Weave.Placed.{sum_of_sizes, rows_from, placed, EntriesAscend}
use Rattle.qed_model.specs.Weave.Sequences.{stub}

-- an instruction has a word
abbrev pub is_encoded : Ins → Bool
is_encoded i = is_some (encode_of i)

-- numbers below 2^32
abbrev pub AreWords : List ℕ → Type 0
AreWords words = (k : ℕ) → slice_index words k < 2 ^ 32

-- items that stand from `base` on, with the stub behind them: their marks ascend, and each instruction has a word
pub record IsLinkable (far : Bool) (base : ℕ) (items : List Item) : Type 0 where
  pub ascend : EntriesAscend (rows_from far base items)
  pub encoded : list_all is_encoded (placed far base (items ++ stub)) ≡ true

-- the most bytes of the near form, and of the far form
abbrev pub most_bytes : Bool → ℕ
most_bytes false = MAX_NEAR_CODE_BYTES
most_bytes true = limit_of limit.CodeBytes

-- the items and the stub are within the limit of the form
abbrev pub IsWithinForm : Bool → List Item → Type 0
IsWithinForm far items = sum_of_sizes far items + 4 ≤ most_bytes far

-- items within the limit of the form can be linked from `base` on
abbrev pub LinksWithin : Bool → ℕ → List Item → Type 0
LinksWithin far base items = IsWithinForm far items → IsLinkable far base items

-- an entry stands below 2^32
abbrev pub is_low_entry : EntryRow → Bool
is_low_entry r = nat_lt r.output (2 ^ 32)

-- an entry, moved by a number of bytes
abbrev pub moved_entry : ℕ → EntryRow → EntryRow
moved_entry base r = record { input = r.input; output = r.output + base }
