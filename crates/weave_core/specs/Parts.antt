-- The parts of a piece, as passes: what each needs and gives.
use Rattle.std.specs.Prelude.{◌≡◌, ℕ, ◌+◌, ◌*◌, ◌<◌, ◌≤◌, ◌⊎◌, cond, Bool, true, List, [], ◌∷◌, ◌++◌, length}
use Rattle.qed_model.specs.Promise.Kept.{NotTrapped}
use Rattle.tests.specs.Admission.DataRanges.{word_count}
use Rattle.qed_model.specs.Weave.Bounds.{visit_bound}
use Rattle.qed_model.specs.Weave.Costs.{used, original_cost, cost_each}
use Rattle.qed_model.specs.Weave.Pieces.{is_run}
use Rattle.qed_model.specs.Weave.Sequences.{guards, Ins, ORIGINALS, CURSOR, SIGNATURE}
use Rattle.machine.specs.Operands.{is_auipc}
use Rattle.weave_core.specs.World.{Item, Plain, Constant, World, IsCursor, words_on, State, reg, Known, HasAt, step, run, target}
use Rattle.weave_core.specs.Blocks.{FitsPiece, AllFit}
use Rattle.weave_core.specs.Rows.{Sourced}
use Rattle.weave_core.specs.Kinds.{originals}
use Rattle.weave_core.specs.Lock.{ComparesFrom}
use Rattle.weave_core.specs.WeaveLaws.{Visits, Checked, Trail}
use Rattle.weave_core.specs.Pass.{Views, StandsAt, Chain, NeedsBoth, Does, same_state, Leads, AllLow, AllSame}
use Rattle.weave_core.specs.Each.{items_each, ForEach, NeedsEach, GivesEach, LeavesEach}

-- every form of the code suits
abbrev pub any : Bool → Type 0
any far = Unit {0}

-- ---- one instruction
-- the original part without its guards: the instruction itself, or its value
abbrev pub unguarded : Ins → ℕ → List Item
unguarded i at = cond (is_auipc i.kind) (Constant i.rd (target i at) ∷ []) (Plain i ∷ [])

-- a state of the input stands before the instruction at an address, which does not trap
pub record StandsBefore (w : World) (i : Ins) (at : ℕ) (s : State) : Type 0 where
  pub sourced : Sourced w s
  pub known : w.source s.pc ≡ Known i
  pub here : s.pc ≡ at
  pub calm : NotTrapped (step s)

-- a pass that never leaves
abbrev pub none : ℕ → Views → Type 0
none n z = ⊥

-- the guarded originals
abbrev pub NeedsOriginal : Ins → ℕ → World → Views → Type 0
NeedsOriginal i at w = NeedsBoth (λ v. AllSame (used i) v.original v.shadow) (Does w same_state same_state 0) (λ v. StandsBefore w i at v.original)

abbrev pub GivesOriginal : Ins → ℕ → World → Views → ℕ → Views → Type 0
GivesOriginal i at w v = Chain v (length (used i)) (Does w same_state same_state 0 v) (Does w step same_state 1)

abbrev pub LeavesOriginal : Ins → ℕ → World → Views → ℕ → Views → Type 0
LeavesOriginal i at w v = Chain v (length (used i)) (Does w same_state same_state 0 v) (λ y. none)

-- the mirrors
abbrev pub NeedsMirror : Ins → ℕ → World → Views → Type 0
NeedsMirror i at w v = StandsBefore w i at v.shadow

abbrev pub GivesMirror : Ins → ℕ → World → Views → ℕ → Views → Type 0
GivesMirror i at w = Does w same_state step 0

abbrev pub LeavesMirror : Ins → ℕ → World → Views → ℕ → Views → Type 0
LeavesMirror i at w v = none

-- ---- the checks behind all parts
-- both halves stay, and the comparison of all registers stands here
abbrev pub Compares : World → Views → ℕ → Views → Type 0
Compares w v n z = Does w same_state same_state ORIGINALS v n z × ComparesFrom w.code v.now.pc originals

-- both halves and the signature stay, `round` words were visited at their places, and the cursor is behind them
pub record Rounds (w : World) (round : ℕ) (spans : List (ℕ × ℕ)) (v : Views) (n : ℕ) (z : Views) : Type 0 where
  pub original : z.original ≡ v.original
  pub shadow : z.shadow ≡ v.shadow
  pub cursor : reg z.now CURSOR ≡ words_on spans round (reg v.now CURSOR)
  pub sign : reg z.now SIGNATURE ≡ reg v.now SIGNATURE
  pub leads : z.leads ≡ v.leads
  pub visits : (j : ℕ) → j < round → 1 ≤ length spans → Visits w v.now n (words_on spans j (reg v.now CURSOR))

abbrev pub NeedsChecks : List (ℕ × ℕ) → World → Views → Type 0
NeedsChecks spans w = NeedsBoth (λ v. v.original ≡ v.shadow) (Compares w)
    (λ v. (v.original ≡ v.shadow) × (w.form.spans ≡ spans) × IsCursor spans (reg v.now CURSOR))

abbrev pub GivesChecks : ℕ → List (ℕ × ℕ) → World → Views → ℕ → Views → Type 0
GivesChecks round spans w v = Chain v ORIGINALS (Compares w v) (Rounds w round spans)

abbrev pub LeavesChecks : World → Views → ℕ → Views → Type 0
LeavesChecks w v n z = ⊥ ⊎ Chain v ORIGINALS (Compares w v) (λ y. none) n z

-- ---- a whole piece, with any mirror parts and any checks
-- what the parts are for
abbrev pub ForOriginal : Ins → ℕ → Type 0
ForOriginal i at = FitsPiece i × AllLow (used i) × (used i ≡ used i)

abbrev pub ForPiece : (ℕ → ℕ) → List Ins → ℕ → Type 0
ForPiece next is at = ForEach next ForOriginal (λ i. []) is at × ForEach next (λ i at. FitsPiece i) (λ i. []) is at

-- the items
abbrev pub piece_items : (ℕ → ℕ) → (Ins → ℕ → List Item) → List Item → List Ins → ℕ → List Item
piece_items next mirror checks is at = items_each next (λ i at. guards (used i) ++ unguarded i at) is at ++ (items_each next mirror is at ++ checks)

abbrev pub NeedsPiece : (ℕ → ℕ) → (Ins → ℕ → World → Views → Type 0) → (Ins → ℕ) → (World → Views → Type 0) → List Ins → ℕ → World → Views → Type 0
NeedsPiece next needs cost checks is at w =
    NeedsBoth (NeedsEach next NeedsOriginal GivesOriginal is at w) (GivesEach next original_cost GivesOriginal is at w)
    (NeedsBoth (NeedsEach next needs GivesMirror is at w) (GivesEach next cost GivesMirror is at w) (checks w))

abbrev pub GivesPiece : (ℕ → ℕ) → (Ins → ℕ) → (World → Views → ℕ → Views → Type 0) → List Ins → ℕ → World → Views → ℕ → Views → Type 0
GivesPiece next cost checks is at w v =
    Chain v (cost_each original_cost is) (GivesEach next original_cost GivesOriginal is at w v)
    (λ y. Chain y (cost_each cost is) (GivesEach next cost GivesMirror is at w y) (checks w))

abbrev pub LeavesPiece : (ℕ → ℕ) → (Ins → ℕ) → (World → Views → ℕ → Views → Type 0) → List Ins → ℕ → World → Views → ℕ → Views → Type 0
LeavesPiece next cost checks is at w v n z =
    LeavesEach next original_cost GivesOriginal LeavesOriginal is at w v n z
    ⊎ Chain v (cost_each original_cost is) (GivesEach next original_cost GivesOriginal is at w v)
    (λ y m x. LeavesEach next cost GivesMirror LeavesMirror is at w y m x
    ⊎ Chain y (cost_each cost is) (GivesEach next cost GivesMirror is at w y) (checks w) m x) n z

-- the most steps
abbrev pub piece_cost : (Ins → ℕ) → ℕ → List Ins → ℕ
piece_cost cost checks is = cost_each original_cost is + (cost_each cost is + checks)

-- ---- what the laws of the passes say of the whole
-- both halves and the signature stay, and the checks were made
pub record ChecksMade (w : World) (first round : ℕ) (v : Views) (n : ℕ) (z : Views) : Type 0 where
  pub original : z.original ≡ v.original
  pub shadow : z.shadow ≡ v.shadow
  pub sign : reg z.now SIGNATURE ≡ reg v.now SIGNATURE
  pub checked : Checked w first round v.now n z.now

-- behind a piece both halves are those of the input behind its instructions, in no fewer steps, the signature stays,
-- the checks were made, and the original half came to each state of the input between
pub record Pieced (w : World) (first round : ℕ) (is : List Ins) (s : State) (v : Views) (n : ℕ) (z : Views) : Type 0 where
  pub original : z.original ≡ run s (length is)
  pub shadow : z.shadow ≡ run s (length is)
  pub slow : length is ≤ n
  pub sign : reg z.now SIGNATURE ≡ reg v.now SIGNATURE
  pub checked : Checked w first round v.now n z.now
  pub trail : Trail w v.now s (length is) n

-- from an output state with one input state in both halves, before a piece that does not trap: `part` steps for each
-- instruction, 13, and those of the visits
pub record PieceLeads (part round : ℕ) (spans : List (ℕ × ℕ)) (items : List Item) (is : List Ins) (at : ℕ) : Type 0 where
  pub leads :
      (w : World) (v : Views) (rest : List Item) → w.form.spans ≡ spans → IsCursor spans (reg v.now CURSOR) → v.original ≡ v.shadow
      → v.original.pc ≡ at → HasAt w.source at is
      → AllFit is → is_run is ≡ true → Sourced w v.original → NotTrapped (run v.original (length is)) → StandsAt w v (items ++ rest)
      → Leads w v (part * length is + (ORIGINALS + visit_bound (word_count spans) (length spans) * round)) rest
      (Pieced w (part * length is) round is v.original v) none
