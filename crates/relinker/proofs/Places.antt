-- Marks as entries, and items with the stub behind them.
use Rattle.std.proofs.Common.{◌≡◌, ℕ, ◌+◌, ◌-◌, ◌^◌, ◌<◌, Bool, true, false, List, [], ◌∷◌, ◌++◌, map, Some, refl, sym, ap, ◌∙◌, arith}
use Rattle.std.specs.Prelude.{if◌then◌else◌, ◌==◌, ◌&&◌, pos, unwrap_or}
use Rattle.std.specs.List.{list_all}
use Rattle.std.proofs.lemmas.Bool.{false≢true}
use Rattle.std.proofs.lemmas.List.{map-append}
use Rattle.std.proofs.lemmas.List.Folds.{list_all-append}
use Rattle.std.proofs.lemmas.Grind.{common_steps}
use Rattle.std.proofs.lemmas.Bool.Decides.{nat_tests}
use Rattle.qed_model.specs.declared.item.Item.{Item}
use Rattle.qed_model.specs.declared.item.Item.TheVariants.{Mark, Plain, Constant, Go}
use Rattle.machine.specs.Table.{ins, decode_of, Illegal, Auipc, Addi}
use Rattle.qed_model.specs.Weave.Sequences.{stub}
use Rattle.qed_model.specs.Weave.Placed.{go_size, sum_of_sizes, entry_at, entry_of, rows_from, go_words, instructions_from, placed, Decode, leads_to}
use Rattle.machine.specs.Offsets.{distance_between, upper_part, lower_part}
use Rattle.qed_model.proofs.Lemmas.{instructions_from-append}
use Rattle.relinker.specs.Link.{is_low_entry, is_encoded, moved_entry}

-- the stub has no mark
mark_stub : (far : Bool) (at : ℕ) (items : List Item) (a : ℕ) → entry_at (rows_from far at (items ++ stub)) a ≡ entry_at (rows_from far at items) a
mark_stub far at [] a = refl
mark_stub far at (Mark m ∷ items) a = ap (λ o. if m == a then Some at else o) (mark_stub far at items a)
mark_stub far at (Plain i ∷ items) a = mark_stub far (at + 4) items a
mark_stub far at (Constant r c ∷ items) a = mark_stub far (at + 8) items a
mark_stub far at (Go t ∷ items) a = mark_stub far (at + go_size far) items a

-- the stub has 4 bytes
sum_stub : (far : Bool) (items : List Item) → sum_of_sizes far (items ++ stub) ≡ sum_of_sizes far items + 4
sum_stub far [] = refl
sum_stub far (item ∷ items) = omega (arith, sum_stub far items)

-- with the stub, an address leads to its mark or to the stub
entry_stub : (far : Bool) (base : ℕ) (items : List Item) (a : ℕ) → entry_of far base (items ++ stub) a ≡ leads_to (rows_from far base items) (base + sum_of_sizes far items) a
entry_stub far base items a =
    ap (λ o. unwrap_or o (base + sum_of_sizes far (items ++ stub) - 4)) (mark_stub far base items a)
    ∙ ap (λ n. unwrap_or (entry_at (rows_from far base items) a) n) (omega (arith, sum_stub far items))

-- instructions for equal entries are equal
same_entries : (far : Bool) (f g : ℕ → ℕ) (at : ℕ) (items : List Item) → ((a : ℕ) → f a ≡ g a) → instructions_from far f at items ≡ instructions_from far g at items
same_entries far f g at [] e = refl
same_entries far f g at (Mark m ∷ items) e = same_entries far f g at items e
same_entries far f g at (Plain i ∷ items) e = ap (λ is. i ∷ is) (same_entries far f g (at + 4) items e)
same_entries far f g at (Constant r c ∷ items) e = ap (λ is. ins Auipc r 0 0 (upper_part (distance_between at c)) ∷ ins Addi r r 0 (lower_part (distance_between at c)) ∷ is) (same_entries far f g (at + 8) items e)
same_entries far f g at (Go t ∷ items) e =
    ap (λ to. go_words far at to ++ instructions_from far f (at + go_size far) items) (e t)
    ∙ ap (λ is. go_words far at (g t) ++ is) (same_entries far f g (at + go_size far) items e)

-- placed items with the stub behind them
pub placed_stub : (far : Bool) (base : ℕ) (items : List Item) →
    placed far base (items ++ stub) ≡ instructions_from far (leads_to (rows_from far base items) (base + sum_of_sizes far items)) base items ++ ins Illegal 0 0 0 (pos 0) ∷ []
placed_stub far base items =
    same_entries far (entry_of far base (items ++ stub)) (leads_to (rows_from far base items) (base + sum_of_sizes far items)) base (items ++ stub) (entry_stub far base items)
    ∙ instructions_from-append far (leads_to (rows_from far base items) (base + sum_of_sizes far items)) base items stub

-- if items move, their entries move too
elsewhere : (far : Bool) (items : List Item) (a b : ℕ) → a ≡ b → rows_from far a items ≡ rows_from far b items
elsewhere far items a b e = ap (λ n. rows_from far n items) e

pub rows_moved : (far : Bool) (base at : ℕ) (items : List Item) → map (moved_entry base) (rows_from far at items) ≡ rows_from far (at + base) items
rows_moved far base at [] = refl
rows_moved far base at (Mark a ∷ items) = ap (λ rs. record { input = a; output = at + base } ∷ rs) (rows_moved far base at items)
rows_moved far base at (Plain i ∷ items) = rows_moved far base (at + 4) items ∙ elsewhere far items (at + 4 + base) (at + base + 4) (omega arith)
rows_moved far base at (Constant r c ∷ items) = rows_moved far base (at + 8) items ∙ elsewhere far items (at + 8 + base) (at + base + 8) (omega arith)
rows_moved far base at (Go t ∷ items) = rows_moved far base (at + go_size far) items ∙ elsewhere far items (at + go_size far + base) (at + base + go_size far) (omega arith)

-- entries stand no higher than the items
pub rows_low : (far : Bool) (at : ℕ) (items : List Item) → at + sum_of_sizes far items < 2 ^ 32 → list_all is_low_entry (rows_from far at items) ≡ true
rows_low far at [] h = refl
rows_low far at (Mark a ∷ items) h = grind (arith, nat_tests, common_steps, rows_low far at items (omega (arith, h)), h)
rows_low far at (Plain i ∷ items) h = rows_low far (at + 4) items (omega (arith, h))
rows_low far at (Constant r c ∷ items) h = rows_low far (at + 8) items (omega (arith, h))
rows_low far at (Go t ∷ items) h = rows_low far (at + go_size far) items (omega (arith, h))

-- the first of two lists
first_of : (p q : Bool) → (p && q) ≡ true → p ≡ true
first_of true q h = refl
first_of false q h = absurd (false≢true h)

-- the instructions before the stub have words
pub encoded_items : (far : Bool) (base : ℕ) (items : List Item) → list_all is_encoded (placed far base (items ++ stub)) ≡ true →
    list_all is_encoded (instructions_from far (leads_to (rows_from far base items) (base + sum_of_sizes far items)) base items) ≡ true
encoded_items far base items all =
    first_of _ _ (sym (list_all-append is_encoded (instructions_from far (leads_to (rows_from far base items) (base + sum_of_sizes far items)) base items) (ins Illegal 0 0 0 (pos 0) ∷ []))
    ∙ ap (λ is. list_all is_encoded is) (sym (placed_stub far base items)) ∙ all)

-- words before the stub, and its word
pub decoded_items : (far : Bool) (base : ℕ) (items : List Item) (words : List ℕ) →
    map decode_of words ≡ map Some (instructions_from far (leads_to (rows_from far base items) (base + sum_of_sizes far items)) base items) ++ Some (ins Illegal 0 0 0 (pos 0)) ∷ [] →
    Decode words (placed far base (items ++ stub))
decoded_items far base items words e =
    e ∙ sym (map-append Some (instructions_from far (leads_to (rows_from far base items) (base + sum_of_sizes far items)) base items) (ins Illegal 0 0 0 (pos 0) ∷ []))
    ∙ ap (λ is. map Some is) (sym (placed_stub far base items))
