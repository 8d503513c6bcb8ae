-- The roles of parts, with one more part.
use Rattle.std.proofs.Common.{◌≡◌, ℕ, ◌+◌, ◌<◌, Bool, Option, None, List, [], ◌∷◌, ◌++◌, length, drop, get_or, refl, sym, ap, ◌∙◌, append_assoc}
use Rattle.std.proofs.lemmas.List.{append-nil, drop_more}
use Rattle.qed_model.specs.declared.item.Item.{Item}
use Rattle.qed_model.specs.declared.role.Role.{Role}
use Rattle.qed_model.specs.declared.role.RoleRow.{RoleRow}
use Rattle.qed_model.specs.Weave.Placed.{size_of}
use Rattle.qed_model.specs.Weave.Parts.{joined, compares, role_in, item_rows, role_rows}
use Rattle.qed_model.proofs.Lemmas.{joined_append}

-- ---- the items of a part
pub rows_none : (far : Bool) (of : Role) (old : List RoleRow) (items : List Item) → old ++ item_rows far of None items ≡ old ++ item_rows far of None items
rows_none far of old items = refl

-- one more item
pub rows_more :
    (far : Bool) (of : Role) (before : Option ℕ) (old new all : List RoleRow) (items : List Item) (k : ℕ) (i : Item) → k < length items → get_or items k i ≡ i
    → old ++ item_rows far of before (drop k items) ≡ all → new ≡ old ++ ((record { role = role_in of before (compares i); bytes = size_of far i }) ∷ [])
    → new ++ item_rows far of (compares i) (drop (k + 1) items) ≡ all
rows_more far of before old new all items k i less item was e =
    let row : RoleRow = record { role = role_in of before (compares i); bytes = size_of far i } in
    let rest = item_rows far of (compares i) (drop (k + 1) items) in
    let split : drop k items ≡ i ∷ drop (k + 1) items = drop_more items k i less ∙ ap (λ x. x ∷ drop (k + 1) items) item in
    ap (λ l. l ++ rest) e ∙ append_assoc old (row ∷ []) rest ∙ ap (λ is. old ++ item_rows far of before is) (sym split) ∙ was

-- ---- one more part
pub roles_append : (far : Bool) (ps qs : List (Role × List Item)) → role_rows far (ps ++ qs) ≡ role_rows far ps ++ role_rows far qs
roles_append far [] qs = refl
roles_append far (p ∷ ps) qs = ap (λ l. item_rows far p.0 None p.1 ++ l) (roles_append far ps qs) ∙ sym (append_assoc (item_rows far p.0 None p.1) (role_rows far ps) (role_rows far qs))

pub roles_more :
    (far : Bool) (old new : List RoleRow) (done : List (Role × List Item)) (of : Role) (items : List Item) → new ≡ old ++ item_rows far of None items → old ≡ role_rows far done
    → new ≡ role_rows far (done ++ ((of, items) ∷ []))
roles_more far old new done of items e was =
    e ∙ ap (λ l. l ++ item_rows far of None items) was ∙ ap (λ l. role_rows far done ++ l) (sym (append-nil (item_rows far of None items))) ∙ sym (roles_append far done ((of, items) ∷ []))

pub joined_more : (done : List (Role × List Item)) (of : Role) (items : List Item) → joined done ++ items ≡ joined (done ++ ((of, items) ∷ []))
joined_more done of items = ap (λ l. joined done ++ l) (sym (append-nil items)) ∙ sym (joined_append done ((of, items) ∷ []))
