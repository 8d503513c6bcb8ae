-- The parts of a piece lead on: the laws of their passes.
use Rattle.std.proofs.Common.{◌≡◌, ℕ, ◌*◌, inl, ⊎_elim, Bool, true, false, cond, List, [], ◌∷◌, ◌++◌, length, refl, sym, subst, arith}
use Rattle.rv_isa.specs.declared.class.Class.TheVariants as class
use Rattle.qed_model.specs.Promise.Kept.{NotTrapped}
use Rattle.tests.specs.Admission.DataRanges.{word_count}
use Rattle.qed_model.specs.Weave.Bounds.{visit_bound}
use Rattle.machine.specs.Operands.{is_auipc}
use Rattle.qed_model.specs.Weave.Sequences.{mirrored, compare, visit, class_of, Class, Ins, ORIGINALS, CURSOR}
use Rattle.qed_model.specs.Weave.Costs.{used, bare_cost}
use Rattle.machine.proofs.Lemmas.{known_at}
use Rattle.weave_core.specs.World.{Item, Plain, Constant, World, IsCursor, State, reg, Known, step, target}
use Rattle.weave_core.specs.Blocks.{IsBody, IsLowAs, FitsPiece}
use Rattle.weave_core.specs.Rows.{At, Led, Sourced}
use Rattle.weave_core.specs.Pass.{Views, Does, same_state, Leads, Quiet, Lockstep}
use Rattle.weave_core.specs.KindItems.{LockItems, Straight, MirrorsFit}
use Rattle.weave_core.specs.Parts.{any, unguarded, StandsBefore, Compares, Rounds}
use Rattle.weave_core.proofs.Rows.{led_more}
use Rattle.weave_core.proofs.Words.{original_compute, original_auipc, original_fence, compare_row, compare_stands}
use Rattle.weave_core.proofs.Access.{load_at, store_at, load_granted, store_granted}
use Rattle.weave_core.proofs.Body.{auipc_is, low_auipc, mirrored_row}
use Rattle.weave_core.proofs.Visit.{visit_row, Visited}
use Rattle.weave_core.proofs.Compose.{leads_led}
use Rattle.weave_core.proofs.KindItems.{original_items}
use Rattle.weave_core.proofs.Landing.{straight_lands, straight_none, straight_one, straight_compute, straight_load, straight_store, straight_constant}
use Rattle.weave_core.proofs.PieceLaws.{guarded_original}

-- ---- the original part
module _ (w : World) where
  bare_as :
      (c : Class) (u s s' : State) (i : Ins) (rest : List Item) → class_of i.kind ≡ c → IsBody c → FitsPiece i → is_auipc i.kind ≡ false
      → At w u (Plain i ∷ rest) s s' → Sourced w s → w.source s.pc ≡ Known i → NotTrapped (step s) → Led w u 1 1 rest (step s) s'
  bare_as class.Compute u s s' i rest e b f n a so h calm = let l : IsLowAs class.Compute i = subst (λ k. IsLowAs k i) e f.low in original_compute w u s s' i rest a e n l.0 l.1 l.2 so.over.going (known_at w.source s i so.over h)
  bare_as class.Fence u s s' i rest e b f n a so h calm = original_fence w u s s' i rest a e so.over.going (known_at w.source s i so.over h)
  bare_as class.Load u s s' i rest e b f n a so h calm = let l : IsLowAs class.Load i = subst (λ k. IsLowAs k i) e f.low in let k = known_at w.source s i so.over h in load_at w u s s' i rest a e l.0 l.1 so.over.going k (load_granted s i so.over.going k e calm)
  bare_as class.Store u s s' i rest e b f n a so h calm = let l : IsLowAs class.Store i = subst (λ k. IsLowAs k i) e f.low in let k = known_at w.source s i so.over h in store_at w u s s' i rest a e l.1 l.2 so.over.going k (store_granted s i so.over.going k e calm)
  bare_as c u s s' i rest e b f n a so h calm = absurd b

  bare_row :
      (u s s' : State) (i : Ins) (rest : List Item) → FitsPiece i → At w u (unguarded i s.pc ++ rest) s s' → Sourced w s → w.source s.pc ≡ Known i
      → NotTrapped (step s) → Led w u 1 (bare_cost i) rest (step s) s'
  bare_row u s s' i rest f a so h calm =
      elim (is_auipc i.kind) as (λ b. is_auipc i.kind ≡ b → At w u (cond b (Constant i.rd (target i s.pc) ∷ []) (Plain i ∷ []) ++ rest) s s' → Led w u 1 (cond b 2 1) rest (step s) s') [
        | true ↦ λ e x. led_more w u 2 2 1 2 rest (step s) s' (omega arith) (omega arith) (original_auipc w u s s' i rest x (auipc_is i.kind e) (low_auipc i f e).0 so.over.going (known_at w.source s i so.over h))
        | false ↦ λ e x. bare_as (class_of i.kind) u s s' i rest refl f.body f e x so h calm
      ] refl a

pub quiet_original : (i : Ins) (at : ℕ) → FitsPiece i → Quiet any (unguarded i at) (λ w v. StandsBefore w i at v.original) (λ w. Does w step same_state 1) (λ w v n z. ⊥) (bare_cost i)
quiet_original i at f = record {
  leads = λ w v rest s st r. leads_led w v 1 (bare_cost i) rest step same_state (bare_row w v.now v.original v.shadow i rest f (subst (λ p. At w v.now (unguarded i p ++ rest) v.original v.shadow) (sym r.here) st) r.sourced r.known r.calm);
}

-- ---- the mirror part
pub quiet_mirrored : (i : Ins) (at : ℕ) → FitsPiece i → Quiet any (mirrored i at) (λ w v. StandsBefore w i at v.shadow) (λ w. Does w same_state step 0) (λ w v n z. ⊥) 2
quiet_mirrored i at f = record {
  leads = λ w v rest s st r. leads_led w v 0 2 rest same_state step (mirrored_row w v.now v.original v.shadow i rest f (subst (λ p. At w v.now (mirrored i p ++ rest) v.original v.shadow) (sym r.here) st) r.sourced r.known r.calm);
}

-- ---- the comparison
pub quiet_compare : Quiet any compare (λ w v. v.original ≡ v.shadow) Compares (λ w v n z. ⊥) ORIGINALS
quiet_compare = record {
  leads = λ w v rest s st e.
      let a = subst (λ t. At w v.now (compare ++ rest) v.original t) (sym e) st in
      let x = leads_led w v ORIGINALS ORIGINALS rest same_state same_state (subst (λ t. Led w v.now ORIGINALS ORIGINALS rest v.original t) e (compare_row w v.now rest v.original a)) in
      record { steps = x.steps; to = x.to; within = x.within; walk = x.walk; ends = ⊎_elim (λ g. inl (g.0, (g.1, compare_stands w v.now.pc rest st.reads))) (λ l. absurd l) x.ends };
}

-- ---- the visits
pub quiet_visit :
    (round : ℕ) (spans : List (ℕ × ℕ))
    → Quiet any (visit round spans) (λ w v. (v.original ≡ v.shadow) × (w.form.spans ≡ spans) × IsCursor spans (reg v.now CURSOR)) (λ w. Rounds w round spans) (λ w v n z. ⊥) (visit_bound (word_count spans) (length spans) * round)
quiet_visit round spans = record { leads = λ w v rest s st need. row w v rest need.0 need.1 need.2 st } where
  row :
      (w : World) (v : Views) (rest : List Item) → v.original ≡ v.shadow → w.form.spans ≡ spans → IsCursor spans (reg v.now CURSOR)
      → At w v.now (visit round spans ++ rest) v.original v.shadow
      → Leads w v (visit_bound (word_count spans) (length spans) * round) rest (Rounds w round spans v) (λ n z. ⊥)
  row w v rest e f c st =
      let a : At w v.now (visit round w.form.spans ++ rest) v.original v.original = subst (λ l. At w v.now (visit round l ++ rest) v.original v.original) (sym f) (subst (λ t. At w v.now (visit round spans ++ rest) v.original t) (sym e) st) in
      let x : Visited w spans v.now v.original round (visit_bound (word_count spans) (length spans) * round) rest = subst (λ l. Visited w l v.now v.original round (visit_bound (word_count l) (length l) * round) rest) f (visit_row w round v.now v.original rest a (subst (λ l. IsCursor l (reg v.now CURSOR)) (sym f) c)) in
      record {
        steps = x.steps;
        to = record { now = x.to; original = v.original; shadow = v.original; leads = v.leads };
        within = x.within;
        walk = x.walk;
        ends = inl (x.at, record { original = refl; shadow = e; cursor = x.cursor; sign = x.sign; leads = refl; visits = x.visits });
      }

-- ---- Lockstep
-- an original part does not jump
straight_as : (far : Bool) (c : Class) (i : Ins) → class_of i.kind ≡ c → IsBody c → Straight far (Plain i ∷ [])
straight_as far class.Compute i e b = straight_compute far i [] e (straight_none far)
straight_as far class.Load i e b = straight_load far i [] e (straight_none far)
straight_as far class.Store i e b = straight_store far i [] e (straight_none far)
straight_as far class.Fence i e b = straight_one far i class.Fence [] e (λ c a. tt) (straight_none far)
straight_as far c i e b = absurd b

pub straight_bare : (far : Bool) (i : Ins) (at : ℕ) → FitsPiece i → Straight far (unguarded i at)
straight_bare far i at f = elim (is_auipc i.kind) as (λ b. Straight far (cond b (Constant i.rd (target i at) ∷ []) (Plain i ∷ []))) [ true ↦ straight_constant far i.rd (target i at) [] (straight_none far) | false ↦ straight_as far (class_of i.kind) i refl f.body ]

pub lockstep_original : (i : Ins) (at : ℕ) → FitsPiece i → Lockstep any (used i) (unguarded i at)
lockstep_original i at f = record {
  locks = λ far s. subst (LockItems far) (sym (guarded_original i at)) (original_items far i at f);
  lands = λ far s. straight_lands far (unguarded i at) (straight_bare far i at f);
}

-- a mirror part that fits
pub lockstep_mirror :
    (suits : Bool → Type 0) (mirror : Ins → ℕ → List Item) → ((far : Bool) → suits far → MirrorsFit far mirror) → (i : Ins) (at : ℕ) → FitsPiece i
    → Lockstep suits [] (mirror i at)
lockstep_mirror suits mirror m i at f = record {
  locks = λ far s. (m far s).fit i at f;
  lands = λ far s. straight_lands far (mirror i at) ((m far s).straight i at f);
}
