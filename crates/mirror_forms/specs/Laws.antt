-- The laws of mirror parts.
use Rattle.std.proofs.Common.{◌≡◌, ℕ, ◌-◌, Bool, true, false, cond, List, [], ◌∷◌, ◌++◌, sym, subst}
use Rattle.std.specs.List.{list_all}
use Rattle.std.proofs.lemmas.Bool.{and_parts}
use Rattle.qed_model.specs.declared.steps.TheConstants.{DIVERSE_STEPS}
use Rattle.rv_isa.specs.declared.class.Class.TheVariants as class
use Rattle.qed_model.specs.declared.item.Item.TheVariants.{Plain}
use Rattle.machine.specs.Step.{Ins, step}
use Rattle.qed_model.specs.declared.diverse.Part.{Part}
use Rattle.qed_model.specs.Weave.Diverse.{part_word, part_items, parts_of, diverse_as, diverse}
use Rattle.qed_model.specs.Weave.Costs.{spent}
use Rattle.qed_model.specs.Weave.Forms.{mirror_of}
use Rattle.qed_model.proofs.Lemmas.{fine_part, all_fine}
use Rattle.weave_core.specs.Blocks.{FitsPiece}
use Rattle.weave_core.specs.Rows.{At}
use Rattle.weave_core.proofs.Lemmas.{operates_class, diverse_row, diverse_mirrors_fit, lockstep_mirror as lockstep_of}
use Rattle.passes.specs.Honest.{HonestItems}
use Rattle.passes.specs.Pass.{Does, same_state, Quiet, Honest, Lockstep}
use Rattle.passes.specs.Compose.{leads_led, honest_items_then, honest_items_none}
use Rattle.passes.proofs.HonestWords.{honest_on}
use Rattle.eddi_dup.specs.Parts.{StandsBefore}
use Rattle.eddi_dup.specs.Laws.{quiet_mirrored, honest_mirrored, lockstep_mirrored}
pub use Rattle.eddi_dup.specs.Laws.{any}

-- ---- Quiet
-- the most steps
abbrev pub mirror_cost : Bool → Ins → ℕ
mirror_cost other i = cond other (DIVERSE_STEPS - spent i) 2

pub quiet_mirror : (other : Bool) (i : Ins) (at : ℕ) → FitsPiece i
    → Quiet any (mirror_of other i at) (λ w v. StandsBefore w i at v.shadow) (λ w. Does w same_state step 0) (λ w v n z. ⊥) (mirror_cost other i)
quiet_mirror false i at f = quiet_mirrored i at f
quiet_mirror true i at f = record {
  leads = λ w v rest s st r. leads_led w v 0 (DIVERSE_STEPS - spent i) rest same_state step
      (diverse_row w v.now v.original v.shadow i rest f
      (subst (λ p. At w v.now (diverse i p ++ rest) v.original v.shadow) (sym r.here) st) r.sourced r.known r.calm);
}

-- ---- Honest
module _ (far : Bool) where
  honest_parts : (i : Ins) (ps : List Part) → list_all fine_part ps ≡ true → HonestItems far (part_items i ps)
  honest_parts i [] e = honest_items_none far
  honest_parts i (p ∷ ps) e =
      let x = and_parts _ _ e in
      let y = and_parts _ _ x.0 in
      honest_items_then far (Plain (part_word i p) ∷ []) (part_items i ps)
      (honest_on far (part_word i p) class.Compute (operates_class p.kind y.0) tt) (honest_parts i ps x.1)

  honest_as : (i : Ins) (at : ℕ) (ps : List Part) → FitsPiece i → list_all fine_part ps ≡ true → HonestItems far (diverse_as ps i at)
  honest_as i at [] f e = (honest_mirrored i at f).honest far tt
  honest_as i at (p ∷ ps) f e = honest_parts i (p ∷ ps) e

pub honest_mirror : (other : Bool) (i : Ins) (at : ℕ) → FitsPiece i → Honest any (mirror_of other i at)
honest_mirror false i at f = honest_mirrored i at f
honest_mirror true i at f = record { honest = λ far s. honest_as far i at (parts_of i.kind i.imm) f (all_fine i.kind i.imm) }

-- ---- Lockstep
pub lockstep_mirror : (other : Bool) (i : Ins) (at : ℕ) → FitsPiece i → Lockstep any [] (mirror_of other i at)
lockstep_mirror false i at f = lockstep_mirrored i at f
lockstep_mirror true i at f = lockstep_of any diverse (λ far s. diverse_mirrors_fit far) i at f
