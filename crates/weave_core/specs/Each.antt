-- A pass over each of some instructions, which stand one behind the other.
use Rattle.std.specs.Prelude.{◌≡◌, ℕ, ◌⊎◌, List, [], ◌∷◌, ◌++◌}
use Rattle.weave_core.specs.World.{World, Item, Ins}
use Rattle.weave_core.specs.Pass.{Views, Chain, NeedsBoth}

-- `next` is where the instruction behind the one at an address stands
abbrev pub items_each : (ℕ → ℕ) → (Ins → ℕ → List Item) → List Ins → ℕ → List Item
items_each next part [] at = []
items_each next part (i ∷ is) at = part i at ++ items_each next part is (next at)

-- the pass is for each, and guards what it uses
abbrev pub ForEach : (ℕ → ℕ) → (Ins → ℕ → Type 0) → (Ins → List ℕ) → List Ins → ℕ → Type 0
ForEach next for uses [] at = Unit {0}
ForEach next for uses (i ∷ is) at = for i at × (uses i ≡ []) × ForEach next for uses is (next at)

abbrev pub GivesEach : (ℕ → ℕ) → (Ins → ℕ) → (Ins → ℕ → World → Views → ℕ → Views → Type 0) → List Ins → ℕ → World → Views → ℕ → Views → Type 0
GivesEach next cost gives [] at w v n z = (n ≡ 0) × (z ≡ v)
GivesEach next cost gives (i ∷ is) at w v n z = Chain v (cost i) (gives i at w v) (GivesEach next cost gives is (next at) w) n z

abbrev pub NeedsEach : (ℕ → ℕ) → (Ins → ℕ → World → Views → Type 0) → (Ins → ℕ → World → Views → ℕ → Views → Type 0) → List Ins → ℕ → World → Views → Type 0
NeedsEach next needs gives [] at w v = Unit {0}
NeedsEach next needs gives (i ∷ is) at w v = NeedsBoth (needs i at w) (gives i at w) (NeedsEach next needs gives is (next at) w) v

abbrev pub LeavesEach :
    (ℕ → ℕ) → (Ins → ℕ) → (Ins → ℕ → World → Views → ℕ → Views → Type 0) → (Ins → ℕ → World → Views → ℕ → Views → Type 0) → List Ins → ℕ → World
    → Views → ℕ → Views → Type 0
LeavesEach next cost gives leaves [] at w v n z = ⊥
LeavesEach next cost gives leaves (i ∷ is) at w v n z =
    leaves i at w v n z ⊎ Chain v (cost i) (gives i at w v) (LeavesEach next cost gives leaves is (next at) w) n z
