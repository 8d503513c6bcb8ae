-- Laying out, part by part.
use Rattle.std.proofs.Common.{◌≡◌, ℕ, ◌+◌, ◌*◌, ◌^◌, ◌<◌, ◌≤◌, Bool, true, false, List, [], ◌∷◌, ◌++◌, map, Some, sym, ap, ◌∙◌, subst, arith}
use Rattle.std.specs.Prelude.{pos, vec_len, vec_capacity, Result, Ok, Err, IfOk, IfErr}
use Rattle.std.specs.Global.{Vec}
use Rattle.std.specs.List.{list_all}
use Rattle.std.proofs.lemmas.Bool.{and_parts}
use Rattle.std.proofs.lemmas.List.{map-append, append_assoc, append-nil}
use Rattle.std.proofs.lemmas.List.Folds.{list_all-append}
use Rattle.qed_model.specs.declared.item.Item.{Item}
use Rattle.qed_model.specs.declared.plan.EntryRow.{EntryRow}
use Rattle.machine.specs.Table.{ins, decode_of, Illegal}
use Rattle.qed_model.specs.Weave.Placed.{sum_of_sizes, rows_from, instructions_from, leads_to, EntriesAscend}
use Rattle.relinker.specs.declared.count.Count.{Count}
use Rattle.relinker.specs.declared.error.LinkError.{LinkError}
use Rattle.relinker.specs.declared.error.LinkError.TheVariants as error
use Rattle.relinker.specs.declared.layout.Layout.{Layout}
use Rattle.relinker.specs.Counted.{HasCounted}
use Rattle.relinker.specs.Joined.{Join}
use Rattle.relinker.specs.Laid.{IsLaid, IsLaidIn, IsLinked, IsLinkCause, HasLinkCause}
use Rattle.relinker.specs.Link.{is_low_entry, is_encoded, AreWords, moved_entry, IsLinkable, IsWithinForm, LinksWithin, most_bytes}
use Rattle.relinker.specs.Sink.{ComeNext}
use Rattle.relinker.proofs.Joining.{parts_join}
use Rattle.relinker.proofs.Places.{rows_low, rows_moved, encoded_items, decoded_items}

-- ---- demands on the next items
-- the instructions of the next items have words
encoded_next :
    (far : Bool) (entry : ℕ → ℕ) (base at : ℕ) (done items rest : List Item) → at ≡ base + sum_of_sizes far done
    → list_all is_encoded (instructions_from far entry base (done ++ (items ++ rest))) ≡ true → list_all is_encoded (instructions_from far entry at items) ≡ true
encoded_next far entry base at done items rest e all =
    let first = parts_join far entry base done (items ++ rest) in
    let second = parts_join far entry at items rest in
    let behind : list_all is_encoded (instructions_from far entry at (items ++ rest)) ≡ true =
    (and_parts (list_all is_encoded (instructions_from far entry base done)) _ (sym (list_all-append is_encoded (instructions_from far entry base done) (instructions_from far entry at (items ++ rest)))
    ∙ ap (λ is. list_all is_encoded is) (ap (λ n. instructions_from far entry base done ++ instructions_from far entry n (items ++ rest)) e ∙ sym first.words) ∙ all)).1 in
    (and_parts (list_all is_encoded (instructions_from far entry at items)) _ (sym (list_all-append is_encoded (instructions_from far entry at items) (instructions_from far entry (at + sum_of_sizes far items) rest))
    ∙ ap (λ is. list_all is_encoded is) (sym second.words) ∙ behind)).0

-- the sizes of the parts
sizes : (far : Bool) (done items rest : List Item) → sum_of_sizes far (done ++ (items ++ rest)) ≡ sum_of_sizes far done + (sum_of_sizes far items + sum_of_sizes far rest)
sizes far done items rest = (parts_join far (λ a. a) 0 done (items ++ rest)).bytes ∙ ap (λ n. sum_of_sizes far done + n) (parts_join far (λ a. a) 0 items rest).bytes

-- the demands of a layout on the items that it takes
pub record Asks (layout : Layout) (items : List Item) : Type 0 where
  pub ascend : EntriesAscend layout.entries.items
  pub low : layout.at + sum_of_sizes layout.far items < 2 ^ 63
  pub encoded : list_all is_encoded (instructions_from layout.far (leads_to layout.entries.items layout.last) layout.at items) ≡ true
  pub room : 4 * vec_len layout.words + sum_of_sizes layout.far items ≤ 4 * vec_capacity layout.words
  pub small : AreWords layout.words.items

pub asks : (layout : Layout) (items : List Item) → ComeNext (IsLaidIn layout) items → Asks layout items
asks layout items n =
    let done = n.1 in
    let rest = n.2 in
    let l : IsLaid layout done (items ++ rest) = n.3.2 in
    let s = sizes layout.far done items rest in
    record {
      ascend = l.ascend;
      low = omega (arith, s, l.at, l.last, l.low);
      encoded = encoded_next layout.far (leads_to layout.entries.items layout.last) layout.base layout.at done items rest l.at l.encoded;
      room = omega (arith, s, l.room, l.len);
      small = l.small;
    }

-- ---- the first, the next and the last part
-- the limit of either form
most_least : (far : Bool) (n : ℕ) → n ≤ most_bytes far → n ≤ 67108864
most_least true n h = h
most_least false n h = omega (arith, h)

-- no item is laid out yet
pub laid_first :
    (count : Count) (base : ℕ) (entries : Vec EntryRow) (words : Vec ℕ) → base + 134217728 ≤ 2 ^ 63 → count.bytes + 4 ≤ most_bytes count.far → entries.items ≡ map (moved_entry base) count.marks.items
    → words.items ≡ [] → vec_len words ≡ 0 → count.bytes + 4 ≤ 4 * vec_capacity words
    → (items : List Item) → HasCounted count items → IsLinkable count.far base items
    → IsLaid (record { far = count.far; base = base; last = base + count.bytes; at = base; entries = entries; words = words }) [] items
laid_first count base entries words high small moves none empty room items counted linkable =
    let few = most_least count.far (count.bytes + 4) small in
    let exact : count.bytes ≡ sum_of_sizes count.far items = omega (arith, few, counted.bytes) in
    let rows : entries.items ≡ rows_from count.far base items =
    moves ∙ ap (λ rs. map (moved_entry base) rs) (counted.marks (omega (arith, few, exact))) ∙ rows_moved count.far base 0 items ∙ ap (λ n. rows_from count.far n items) (omega arith) in
    let last : base + count.bytes ≡ base + sum_of_sizes count.far items = ap (λ n. base + n) exact in
    record {
      entries = rows;
      ascend = subst EntriesAscend (sym rows) linkable.ascend;
      last = last;
      low = omega (arith, few, high);
      encoded =
          ap (λ rs. list_all is_encoded (instructions_from count.far (leads_to rs (base + count.bytes)) base items)) rows
          ∙ ap (λ n. list_all is_encoded (instructions_from count.far (leads_to (rows_from count.far base items) n) base items)) last
          ∙ encoded_items count.far base items linkable.encoded;
      at = omega arith;
      decode = ap (λ ws. map decode_of ws) none;
      small = subst AreWords (sym none) (λ k. omega arith);
      len = omega (arith, empty);
      room = omega (arith, room, exact);
    }

-- one more part
pub laid_more :
    (old : Layout) (items : List Item) (at : ℕ) (words : Vec ℕ) → at ≡ old.at + sum_of_sizes old.far items
    → map decode_of words.items ≡ map decode_of old.words.items ++ map Some (instructions_from old.far (leads_to old.entries.items old.last) old.at items) → AreWords words.items
    → 4 * vec_len words ≡ 4 * vec_len old.words + sum_of_sizes old.far items → vec_capacity old.words ≤ vec_capacity words
    → (done rest : List Item) → IsLaid old done (items ++ rest)
    → IsLaid (record { far = old.far; base = old.base; last = old.last; at = at; entries = old.entries; words = words }) (done ++ items) rest
laid_more old items at words place decode small len capacity done rest l =
    let entry = leads_to old.entries.items old.last in
    let whole : (done ++ items) ++ rest ≡ done ++ (items ++ rest) = append_assoc done items rest in
    let join : Join old.far entry old.base done items = parts_join old.far entry old.base done items in
    record {
      entries = l.entries ∙ ap (λ is. rows_from old.far old.base is) (sym whole);
      ascend = l.ascend;
      last = l.last ∙ ap (λ is. old.base + sum_of_sizes old.far is) (sym whole);
      low = l.low;
      encoded = ap (λ is. list_all is_encoded (instructions_from old.far entry old.base is)) whole ∙ l.encoded;
      at = omega (arith, place, l.at, join.bytes);
      decode =
          decode
          ∙ ap (λ ds. ds ++ map Some (instructions_from old.far entry old.at items)) l.decode
          ∙ sym (map-append Some (instructions_from old.far entry old.base done) (instructions_from old.far entry old.at items))
          ∙ ap (λ is. map Some is) (ap (λ n. instructions_from old.far entry old.base done ++ instructions_from old.far entry n items) l.at ∙ sym join.words);
      small = small;
      len = omega (arith, len, l.len, join.bytes);
      room = omega (arith, l.room, capacity, ap (λ is. sum_of_sizes old.far is) whole);
    }

-- the stub
pub linked_of :
    (layout : Layout) (words : Vec ℕ) → map decode_of words.items ≡ map decode_of layout.words.items ++ (Some (ins Illegal 0 0 0 (pos 0)) ∷ []) → AreWords words.items
    → (done : List Item) → IsLaid layout done [] → IsLinked layout.far layout.base done (record { words = words; entries = layout.entries })
linked_of layout words decode small done l =
    let rows : layout.entries.items ≡ rows_from layout.far layout.base done = l.entries ∙ ap (λ is. rows_from layout.far layout.base is) (append-nil done) in
    let last : layout.last ≡ layout.base + sum_of_sizes layout.far done = l.last ∙ ap (λ is. layout.base + sum_of_sizes layout.far is) (append-nil done) in
    record {
      decode = decoded_items layout.far layout.base done words.items (
          decode
          ∙ ap (λ ds. ds ++ (Some (ins Illegal 0 0 0 (pos 0)) ∷ [])) (
          l.decode
          ∙ ap (λ rs. map Some (instructions_from layout.far (leads_to rs layout.last) layout.base done)) rows
          ∙ ap (λ n. map Some (instructions_from layout.far (leads_to (rows_from layout.far layout.base done) n) layout.base done)) last));
      words = small;
      entries = rows;
    }

-- the marks of counted items within the limit
pub marks_low : (count : Count) → count.bytes + 4 ≤ most_bytes count.far → ((items : List Item) × HasCounted count items) → list_all is_low_entry count.marks.items ≡ true
marks_low count small c =
    let few = most_least count.far (count.bytes + 4) small in
    let exact : count.bytes ≡ sum_of_sizes count.far c.0 = omega (arith, few, c.1.bytes) in
    ap (λ rs. list_all is_low_entry rs) (c.1.marks (omega (arith, few, exact))) ∙ rows_low count.far 0 c.0 (omega (arith, few, exact))

-- why all items at once are not laid out
pub link_cause : (count : Count) (far : Bool) (items : List Item) (r : Result Layout LinkError) → count.far ≡ far → HasCounted count items → IfErr r (IsLinkCause count) → IfErr r (HasLinkCause far items)
link_cause count far items (Ok layout) same counted e = tt
link_cause count far items (Err (error.TooLarge n)) same counted e =
    (omega (arith, e.0, counted.bytes, ap (λ f. sum_of_sizes f items) same), subst (λ f. most_bytes f < n) same e.1)
link_cause count far items (Err error.Memory) same counted e = tt

-- a count within the limit is exact
within : (count : Count) (far : Bool) (items : List Item) → count.far ≡ far → HasCounted count items → count.bytes + 4 ≤ most_bytes count.far → IsWithinForm far items
within count far items same counted h =
    let exact : count.bytes ≡ sum_of_sizes count.far items = omega (arith, counted.bytes, most_least count.far (count.bytes + 4) h) in
    subst (λ f. IsWithinForm f items) same (subst (λ n. n + 4 ≤ most_bytes count.far) exact h)

-- laid-out items are within the limit
pub within_form :
    (count : Count) (far : Bool) (items : List Item) (r : Result Layout LinkError) → count.far ≡ far → HasCounted count items → IfOk r (λ _. count.bytes + 4 ≤ most_bytes count.far)
    → IfOk r (λ _. IsWithinForm far items)
within_form count far items (Ok layout) same counted h = within count far items same counted h
within_form count far items (Err e) same counted h = tt

-- all items at once; none has its words yet
pub all_laid :
    (count : Count) (far : Bool) (base : ℕ) (items : List Item) (r : Result Layout LinkError) → count.far ≡ far → HasCounted count items → LinksWithin far base items
    → IfOk r (λ _. count.bytes + 4 ≤ most_bytes count.far) → IfOk r (λ layout. (is : List Item) → HasCounted count is → IsLinkable count.far base is → IsLaid layout [] is)
    → IfOk r (λ layout. IsLaid layout [] items)
all_laid count far base items (Ok layout) same counted links h laid = laid items counted (subst (λ f. IsLinkable f base items) (sym same) (links (within count far items same counted h)))
all_laid count far base items (Err e) same counted links h laid = tt

-- no items come behind them
pub none_behind : (layout : Layout) (items : List Item) → IsLaid layout [] items → IsLaid layout [] (items ++ [])
none_behind layout items l = subst (λ is. IsLaid layout [] is) (sym (append-nil items)) l
