-- The laws of a pass: over its items, what it needs, and where it leads.
use Rattle.std.specs.Prelude.{◌≡◌, ℕ, ◌+◌, ◌≤◌, ◌⊎◌, Bool, List, [], ◌∷◌, ◌++◌}
use Rattle.machine.specs.Walks.{Walk}
use Rattle.qed_model.specs.Weave.Sequences.{guards, LAST_ORIGINAL, CURSOR, SIGNATURE}
use Rattle.weave_core.specs.World.{Item, Going, World, Quiet as Calm, Twice, State, reg, run}
use Rattle.weave_core.specs.Rows.{At}
use Rattle.weave_core.specs.KindItems.{LockItems, LandItems}

-- ---- views
-- a state of the output, the states of the input whose values its original and its duplicate half have, and which
-- addresses of the input have an entry
pub record Views : Type 0 where
  pub now : State
  pub original : State
  pub shadow : State
  pub leads : ℕ → Bool

-- the items stand where the output goes on, and both halves are those of the views
abbrev pub StandsAt : World → Views → List Item → Type 0
StandsAt w v items = At w v.now items v.original v.shadow

-- ---- what a pass does: from views, in some steps, to views
-- one after another, the first in at most `most` steps, in which v runs to the middle
pub record Chain (v : Views) (most : ℕ) (gives : ℕ → Views → Type 0) (next : Views → ℕ → Views → Type 0) (n : ℕ) (z : Views) : Type 0 where
  pub some : ℕ
  pub more : ℕ
  pub middle : Views
  pub sum : n ≡ some + more
  pub within : some ≤ most
  pub runs : run v.now some ≡ middle.now
  pub first : gives some middle
  pub last : next middle more z

-- what one after another needs
abbrev pub NeedsBoth : (Views → Type 0) → (Views → ℕ → Views → Type 0) → (Views → Type 0) → Views → Type 0
NeedsBoth needs gives next v = needs v × ((n : ℕ) (y : Views) → gives v n y → next y)

-- f and g step the halves, in at least `least` steps; the output holds both; cursor, signature and entries stay
pub record Does (w : World) (f g : State → State) (least : ℕ) (v : Views) (n : ℕ) (z : Views) : Type 0 where
  pub original : z.original ≡ f v.original
  pub shadow : z.shadow ≡ g v.shadow
  pub going : z.now.outcome ≡ Going
  pub halved : Twice w z.now z.original z.shadow
  pub at_least : least ≤ n
  pub cursor : reg z.now CURSOR ≡ reg v.now CURSOR
  pub sign : reg z.now SIGNATURE ≡ reg v.now SIGNATURE
  pub leads : z.leads ≡ v.leads

-- the state itself
abbrev pub same_state : State → State
same_state s = s

-- ---- Quiet
-- in at most `most` quiet steps: to behind the items, as `gives` says, or elsewhere, as `leaves` says
pub record Leads (w : World) (v : Views) (most : ℕ) (rest : List Item) (gives leaves : ℕ → Views → Type 0) : Type 0 where
  pub steps : ℕ
  pub to : Views
  pub within : steps ≤ most
  pub walk : Walk (Calm w) v.now steps to.now
  pub ends : (StandsAt w to rest × gives steps to) ⊎ leaves steps to

-- in each world that suits, from where the items stand and what is needed holds
pub record Quiet (suits : Bool → Type 0) (items : List Item) (needs : World → Views → Type 0)
    (gives leaves : World → Views → ℕ → Views → Type 0) (most : ℕ) : Type 0 where
  pub leads : (w : World) (v : Views) (rest : List Item) → suits w.form.far → StandsAt w v (items ++ rest) → needs w v
      → Leads w v most rest (gives w v) (leaves w v)

-- ---- Lockstep
-- behind comparisons of some registers with their pairs the words are of the woven kinds, with a guard just before each
-- use. No register is closed at the first word, nor where a jump leads
pub record Lockstep (suits : Bool → Type 0) (uses : List ℕ) (items : List Item) : Type 0 where
  pub locks : (far : Bool) → suits far → LockItems far (guards uses ++ items)
  pub lands : (far : Bool) → suits far → LandItems far items

-- ---- registers that are compared first
-- x0 to x13
abbrev pub AllLow : List ℕ → Type 0
AllLow [] = Unit {0}
AllLow (q ∷ qs) = (q ≤ LAST_ORIGINAL) × AllLow qs

-- each is equal in two states
abbrev pub AllSame : List ℕ → State → State → Type 0
AllSame [] s s' = Unit {0}
AllSame (q ∷ qs) s s' = (reg s q ≡ reg s' q) × AllSame qs s s'
