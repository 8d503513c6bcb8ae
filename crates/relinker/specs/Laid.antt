-- What holds of items that are laid out, and why items are not.
use Rattle.std.specs.Prelude.{◌≡◌, ℕ, ◌+◌, ◌*◌, ◌^◌, ◌<◌, ◌≤◌, Bool, true, List, ◌++◌, map, Some, vec_len, vec_capacity}
use Rattle.std.specs.List.{list_all}
use Rattle.qed_model.specs.declared.item.Item.{Item}
use Rattle.machine.specs.Table.{decode_of}
use Rattle.qed_model.specs.Weave.Placed.{sum_of_sizes, rows_from, instructions_from, placed, Decode, leads_to, EntriesAscend}
use Rattle.qed_model.specs.Weave.Sequences.{stub}
use Rattle.relinker.specs.declared.count.Count.{Count}
use Rattle.relinker.specs.declared.error.LinkError.{LinkError}
use Rattle.relinker.specs.declared.error.LinkError.TheVariants as error
use Rattle.relinker.specs.declared.layout.Layout.{Layout}
use Rattle.relinker.specs.declared.layout.Linked.{Linked}
use Rattle.relinker.specs.Link.{is_encoded, AreWords, most_bytes}
use Rattle.relinker.specs.Counted.{capped}

-- these items have their words, and the rest is still to come; the entries are those of all, and there is room for all
-- words and the stub
pub record IsLaid (layout : Layout) (done rest : List Item) : Type 0 where
  pub entries : layout.entries.items ≡ rows_from layout.far layout.base (done ++ rest)
  pub ascend : EntriesAscend layout.entries.items
  pub last : layout.last ≡ layout.base + sum_of_sizes layout.far (done ++ rest)
  pub low : layout.last < 2 ^ 63
  pub encoded : list_all is_encoded (instructions_from layout.far (leads_to layout.entries.items layout.last) layout.base (done ++ rest)) ≡ true
  pub at : layout.at ≡ layout.base + sum_of_sizes layout.far done
  pub decode : map decode_of layout.words.items ≡ map Some (instructions_from layout.far (leads_to layout.entries.items layout.last) layout.base done)
  pub small : AreWords layout.words.items
  pub len : 4 * vec_len layout.words ≡ sum_of_sizes layout.far done
  pub room : sum_of_sizes layout.far (done ++ rest) + 4 ≤ 4 * vec_capacity layout.words

-- as `IsLaid`, of near or far code that begins at an address
abbrev pub IsLaidIn : Layout → Bool × ℕ → List Item → List Item → Type 0
IsLaidIn layout form done rest = (layout.far ≡ form.0) × (layout.base ≡ form.1) × IsLaid layout done rest

-- the words decode to the items in their places, with the stub behind them, and the entries are the places of the marks
pub record IsLinked (far : Bool) (base : ℕ) (items : List Item) (linked : Linked) : Type 0 where
  pub decode : Decode linked.words.items (placed far base (items ++ stub))
  pub words : AreWords linked.words.items
  pub entries : linked.entries.items ≡ rows_from far base items

-- laid out from one base, given items have one code
abbrev pub OneCode : Type 0
OneCode =
    (far : Bool) (base : ℕ) (items : List Item) (a b : Linked) → IsLinked far base items a → IsLinked far base items b
    → (a.words.items ≡ b.words.items) × (a.entries.items ≡ b.entries.items)

-- the code of counted items, with the stub, has n bytes, past the limit of its form; or it is within the limit, and
-- memory ran out
abbrev pub IsLinkCause : Count → LinkError → Type 0
IsLinkCause count (error.TooLarge n) = (n ≡ capped (count.bytes + 4)) × (most_bytes count.far < n)
IsLinkCause count error.Memory = count.bytes + 4 ≤ most_bytes count.far

-- why items are not linked; memory may run out before all of them are counted
abbrev pub HasLinkCause : Bool → List Item → LinkError → Type 0
HasLinkCause far items (error.TooLarge n) = (n ≡ capped (sum_of_sizes far items + 4)) × (most_bytes far < n)
HasLinkCause far items error.Memory = Unit {0}
