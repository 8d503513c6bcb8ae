-- A pass over each of some instructions, one word after another in the input.
use Rattle.std.proofs.Common.{◌≡◌, ℕ, ◌+◌, ◌*◌, ◌%◌, ◌^◌, ◌<◌, Bool, List, [], ◌∷◌, ◌++◌, length, drop, refl, ap, ◌∙◌, subst, arith}
use Rattle.qed_model.specs.declared.item.Item.{Item}
use Rattle.qed_model.specs.Weave.Sequences.{Ins, each_part}
use Rattle.passes.specs.Pass.{Honest}
use Rattle.passes.specs.Emitted.{AppendsPart, Done, done_part}
use Rattle.passes.specs.Compose.{honest_then, honest_items_none}
pub use Rattle.weave_core.specs.Each.{items_each, ForEach, NeedsEach, GivesEach, LeavesEach}
pub use Rattle.qed_model.specs.Weave.Costs.{cost_each}
pub use Rattle.weave_core.proofs.Lemmas.{quiet_each, lockstep_each}

-- the address of the next instruction
abbrev pub next_at : ℕ → ℕ
next_at at = (at + 4) % 2 ^ 64

-- ---- the laws
module _ (suits : Bool → Type 0) (for : Ins → ℕ → Type 0) (uses : Ins → List ℕ) (part : Ins → ℕ → List Item) where
  pub honest_each : ((i : Ins) (at : ℕ) → for i at → Honest suits (part i at))
      → (is : List Ins) (at : ℕ) → ForEach next_at for uses is at → Honest suits (items_each next_at part is at)
  honest_each law [] at f = record { honest = λ far s. honest_items_none far }
  honest_each law (i ∷ is) at f =
      let both = honest_then suits suits (part i at) (items_each next_at part is (next_at at)) (law i at f.0) (honest_each law is (next_at at) f.2) in
      record { honest = λ far s. both.honest far (s, s) }

-- below 2^64 the addresses do not wrap
pub each_is : (part : Ins → ℕ → List Item) (is : List Ins) (at : ℕ) → at + 4 * length is < 2 ^ 64 → items_each next_at part is at ≡ each_part part is at
each_is part [] at h = refl
each_is part (i ∷ is) at h =
    let e : next_at at ≡ at + 4 = omega (arith, h) in
    ap (λ a. part i at ++ items_each next_at part is a) e ∙ ap (λ l. part i at ++ l) (each_is part is (at + 4) (omega (arith, h)))

-- a part of the items of one instruction
pub part_each :
    (old now new : List Item) (part : Ins → ℕ → List Item) (list : List Ins) (first k at : ℕ) (i : Ins) → drop k list ≡ i ∷ drop (k + 1) list
    → Done old now (items_each next_at part list first) (items_each next_at part (drop k list) at) → AppendsPart now new (part i at)
    → AppendsPart old new (items_each next_at part list first)
part_each old now new part list first k at i split d p =
    let one : Done old now (items_each next_at part list first) (part i at ++ items_each next_at part (drop (k + 1) list) (next_at at)) =
    subst (λ xs. Done old now (items_each next_at part list first) (items_each next_at part xs at)) split d in
    done_part old now new (items_each next_at part list first) (part i at) (items_each next_at part (drop (k + 1) list) (next_at at)) one p
