-- A whole piece as the code weaves it, from the laws of its passes.
use Rattle.std.proofs.Common.{◌≡◌, ℕ, ◌+◌, ◌-◌, ◌*◌, ◌^◌, ◌<◌, ◌≤◌, Bool, true, false, List, [], ◌++◌, length, sym, ap, ◌∙◌, subst, arith}
use Rattle.qed_model.specs.Weave.Sequences.{Form, original, each_part, compare, visit, piece, ORIGINALS, CURSOR}
use Rattle.tests.specs.Admission.DataRanges.{word_count}
use Rattle.qed_model.specs.Weave.Bounds.{cost_of, visit_bound}
use Rattle.qed_model.specs.Weave.Costs.{spent}
use Rattle.weave_core.specs.World.{Item, IsCursor, Ins, reg}
use Rattle.weave_core.specs.Blocks.{AllFit}
use Rattle.weave_core.specs.Parts.{NeedsMirror, NeedsChecks, GivesChecks, LeavesChecks, NeedsPiece, GivesPiece, LeavesPiece, piece_cost, Pieced}
use Rattle.weave_core.specs.Parts.{ForPiece as ForParts, piece_items as parts_items}
pub use Rattle.weave_core.specs.Parts.{any, PieceLeads}
use Rattle.weave_core.proofs.Lemmas.{for_originals, for_mirrors, both_checks, piece_leads, cost_parts, parts_are, spent_le}
use Rattle.mirror_forms.specs.Laws.{mirror_cost}
use Rattle.passes.specs.Pass.{Leads, Quiet, Honest, Lockstep}
use Rattle.passes.specs.Each.{next_at, each_is}

-- ---- what the passes are for, and their items
abbrev pub PassesFor : List Ins → ℕ → Type 0
PassesFor is at = ForParts next_at is at

pub for_piece : (is : List Ins) (at : ℕ) → AllFit is → PassesFor is at
for_piece is at f = (for_originals next_at is at f, for_mirrors next_at is at f)

-- the items of the passes of a piece with some mirror parts
abbrev pub passes_items : (Ins → ℕ → List Item) → ℕ → List (ℕ × ℕ) → List Ins → ℕ → List Item
passes_items mirror round spans is at = parts_items next_at mirror (compare ++ visit round spans) is at

-- equal rounds and ranges give equal items
pub piece_same :
    (mirror : Ins → ℕ → List Item) {m n : ℕ} {ss ts : List (ℕ × ℕ)} → m ≡ n → ss ≡ ts → (is : List Ins) (at : ℕ)
    → passes_items mirror m ss is at ≡ passes_items mirror n ts is at
piece_same mirror {m} {n} {ss} {ts} r s is at = ap (λ k. passes_items mirror k ss is at) r ∙ ap (λ l. passes_items mirror n l is at) s

-- the items of the passes are those of the code sequences
pub piece_is :
    (mirror : Ins → ℕ → List Item) (form : Form) (is : List Ins) (at : ℕ) → form.mirror ≡ mirror → at + 4 * length is < 2 ^ 64
    → passes_items mirror form.round form.spans is at ≡ piece form is at
piece_is mirror form is at e low =
    let checks = compare ++ visit form.round form.spans in
    parts_are next_at mirror checks is at (λ part. each_is part is at low) ∙ ap (λ m. each_part original is at ++ (each_part m is at ++ checks)) (sym e)

-- ---- what the laws of the passes say of the whole
-- no part costs more than is counted
parts_cost : (other : Bool) → (3 ≤ cost_of other) × ((i : Ins) → mirror_cost other i ≤ cost_of other - spent i)
parts_cost true = (omega arith, λ i. omega arith)
parts_cost false = (omega arith, λ i. let h = spent_le i in omega (arith, h))

pub piece_laws :
    (suits : Bool → Type 0) → ((far : Bool) → suits far) → (other : Bool) (round : ℕ) (spans : List (ℕ × ℕ)) (items : List Item) (is : List Ins) (at : ℕ)
    → Quiet suits items
    (NeedsPiece next_at NeedsMirror (mirror_cost other) (NeedsChecks spans) is at)
    (GivesPiece next_at (mirror_cost other) (GivesChecks round spans) is at)
    (LeavesPiece next_at (mirror_cost other) LeavesChecks is at)
    (piece_cost (mirror_cost other) (ORIGINALS + visit_bound (word_count spans) (length spans) * round) is)
    → PieceLeads (cost_of other) round spans items is at
piece_laws suits all other round spans items is at q = record {
  leads = λ w v rest f cur e here has fit run so calm st.
      let part = cost_of other in
      let few = parts_cost other in
      let x = piece_leads next_at (λ a h. omega (arith, h)) w NeedsMirror (λ i at v r. r)
      (mirror_cost other) (NeedsChecks spans) (GivesChecks round spans) LeavesChecks
      0 round (both_checks w round spans f) is at suits (all w.form.far) (part * length is)
      (ORIGINALS + visit_bound (word_count spans) (length spans) * round) items
      (cost_parts part (mirror_cost other) few.0 few.1 is) q v rest
      (subst (λ l. IsCursor l (reg v.now CURSOR)) (sym f) cur) e here has fit run so calm st in
      let none : part * length is + 0 ≡ part * length is = omega arith in
      subst (λ k. Leads w v (part * length is + (ORIGINALS + visit_bound (word_count spans) (length spans) * round)) rest
      (Pieced w k round is v.original v) (λ n z. ⊥)) none x;
}

-- ---- in any form of the code
pub honest_any : (suits : Bool → Type 0) → ((far : Bool) → suits far) → (items : List Item) → Honest suits items → Honest any items
honest_any suits all items h = record { honest = λ far s. h.honest far (all far) }

pub lockstep_any : (suits : Bool → Type 0) → ((far : Bool) → suits far) → (items : List Item) → Lockstep suits [] items → Lockstep any [] items
lockstep_any suits all items h = record { locks = λ far s. h.locks far (all far); lands = λ far s. h.lands far (all far) }
