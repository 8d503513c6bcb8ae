-- Changes in the order of their steps: where one more goes, and that steps do not fall.
use Rattle.std.proofs.Common.{◌≡◌, ℕ, ◌+◌, ◌≤◌, List, [], ◌∷◌, nat_le, true, false, cond, refl, arith}
use Rattle.std.specs.Prelude.{fold, insert, if◌then◌else◌}
use Rattle.std.specs.List.{prefix_len}
use Rattle.std.proofs.lemmas.Bool.Decides.{nat_tests}
use Rattle.qed_model.specs.declared.change.Change.{Change}
use Rattle.qed_model.specs.Promise.Changed.{Ordered, with_change, in_order}
use Rattle.qed_model.proofs.Changes.{rest_ordered}

-- ---- where a change goes
insert_suc : {A : Type 0} (d : A) (ds : List A) (n : ℕ) (c : A) → insert (d ∷ ds) (1 + n) c ≡ d ∷ insert ds n c
insert_suc d ds n c = grind arith

-- a change goes behind those whose step is not greater
pub with_change_lem : (ds : List Change) (c : Change) → with_change ds c ≡ insert ds (prefix_len (λ d. nat_le d.step c.step) ds) c
with_change_lem [] c = refl
with_change_lem (d ∷ ds) c =
    elim (nat_le d.step c.step)
    as (λ t. (if t then d ∷ with_change ds c else c ∷ d ∷ ds) ≡ insert (d ∷ ds) (cond t (1 + prefix_len (λ d. nat_le d.step c.step) ds) 0) c)
    [ true ↦ grind (arith, with_change_lem ds c, insert_suc d ds (prefix_len (λ d. nat_le d.step c.step) ds) c) | false ↦ refl ]

-- ---- steps that do not fall
-- the front of a list stays in order if a change is put behind it
front_ordered : (d c : Change) (ds : List Change) → d.step ≤ c.step → Ordered (d ∷ ds) → Ordered (with_change ds c) → Ordered (d ∷ with_change ds c)
front_ordered d c [] below ordered later = (below, tt)
front_ordered d c (e ∷ ds) below ordered later =
    elim (nat_le e.step c.step)
    as (λ t. Ordered (if t then e ∷ with_change ds c else c ∷ e ∷ ds) → Ordered (d ∷ (if t then e ∷ with_change ds c else c ∷ e ∷ ds)))
    [ true ↦ λ h. (ordered.0, h) | false ↦ λ h. (below, h) ] later

-- with one more change the list stays in order
pub with_change_ordered : (ds : List Change) (c : Change) → Ordered ds → Ordered (with_change ds c)
with_change_ordered [] c ordered = tt
with_change_ordered (d ∷ ds) c ordered =
    elim (nat_le d.step c.step)
    as (λ t. nat_le d.step c.step ≡ t → Ordered (if t then d ∷ with_change ds c else c ∷ d ∷ ds))
    [ true ↦ λ h. front_ordered d c ds (grind (arith, nat_tests)) ordered (with_change_ordered ds c (rest_ordered d ds ordered)) | false ↦ λ h. (grind (arith, nat_tests), ordered) ]
    refl

fold_ordered : (changes made : List Change) → Ordered made → Ordered (fold with_change made changes)
fold_ordered [] made ordered = ordered
fold_ordered (c ∷ changes) made ordered = fold_ordered changes (with_change made c) (with_change_ordered made c ordered)

-- changes that were put one after another are in order
pub in_order_ordered : (changes : List Change) → Ordered (in_order changes)
in_order_ordered changes = fold_ordered changes [] tt
