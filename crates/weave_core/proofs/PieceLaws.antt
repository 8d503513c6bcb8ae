-- A whole piece from the laws of its passes alone: no word of any pass is looked at.
use Rattle.std.proofs.Common.{◌≡◌, ℕ, suc, ◌+◌, ◌-◌, ◌*◌, ◌^◌, ◌≤◌, inl, inr, ⊎_elim, Bool, true, false, cond, List, [], ◌∷◌, ◌++◌, length, refl, sym, ap, ◌∙◌, subst, arith}
use Rattle.std.proofs.Math.Nat.{mul-suc}
use Rattle.std.specs.Prelude.{◌==◌}
use Rattle.std.proofs.lemmas.Bool.{and_parts}
use Rattle.std.proofs.lemmas.List.{append-nil}
use Rattle.rv_isa.specs.declared.class.Class.TheVariants as class
use Rattle.qed_model.specs.Promise.Kept.{NotTrapped}
use Rattle.qed_model.specs.Weave.Pieces.{is_clean, and_written, is_run, is_run_after}
use Rattle.qed_model.specs.Weave.Sequences.{guard, guards, original, original_as, each_part, class_of, Class, Ins, CURSOR, SIGNATURE}
use Rattle.machine.specs.Operands.{is_auipc}
use Rattle.qed_model.specs.Weave.Costs.{spent, spent_as, cost_each, used, used_as, original_cost}
use Rattle.machine.proofs.Lemmas.{run-more, run-none}
use Rattle.weave_core.specs.World.{Item, Plain, Constant, Going, World, IsCursor, words_on, State, reg, Known, step, run, HasAt, target}
use Rattle.weave_core.specs.Blocks.{IsLowAs, FitsPiece, AllFit}
use Rattle.weave_core.specs.Kinds.{originals}
use Rattle.weave_core.specs.Lock.{ComparesFrom}
use Rattle.weave_core.specs.WeaveLaws.{Visits, Met, Trail}
use Rattle.weave_core.specs.Pass.{Views, StandsAt, Leads, Quiet, AllLow, AllSame}
use Rattle.weave_core.specs.Each.{items_each, ForEach, NeedsEach, GivesEach, LeavesEach}
use Rattle.weave_core.specs.Parts.{unguarded, StandsBefore, none, NeedsOriginal, GivesOriginal, LeavesOriginal, GivesMirror, LeavesMirror, NeedsChecks, GivesChecks, LeavesChecks, ForOriginal, NeedsPiece, GivesPiece, LeavesPiece, piece_items, piece_cost, ChecksMade, Pieced}
use Rattle.weave_core.proofs.Body.{auipc_is, spent_le}
use Rattle.weave_core.proofs.Source.{body_step, not_trapped_front, not_trapped_le, source_run, EqualBut, equal_on, UsesUnwritten, clean_uses, Sourced}
use Rattle.weave_core.proofs.Trails.{holds_of, met_going, met_same, trail_later, trail_on, trail_one}
use Rattle.weave_core.proofs.Visit.{visit_later, checked_behind}
use Rattle.weave_core.proofs.Compose.{each_same}

-- ---- none leaves
never_each :
    (next : ℕ → ℕ) (cost : Ins → ℕ) (gives leaves : Ins → ℕ → World → Views → ℕ → Views → Type 0)
    → ((i : Ins) (at : ℕ) (w : World) (v : Views) (n : ℕ) (z : Views) → leaves i at w v n z → ⊥) → (is : List Ins) (at : ℕ) (w : World) (v z : Views) (n : ℕ)
    → LeavesEach next cost gives leaves is at w v n z → ⊥
never_each next cost gives leaves free [] at w v z n l = l
never_each next cost gives leaves free (i ∷ is) at w v z n (inl l) = free i at w v n z l
never_each next cost gives leaves free (i ∷ is) at w v z n (inr c) = never_each next cost gives leaves free is (next at) w c.middle z c.more c.last

pub never_originals : (next : ℕ → ℕ) (is : List Ins) (at : ℕ) (w : World) (v z : Views) (n : ℕ) → LeavesEach next original_cost GivesOriginal LeavesOriginal is at w v n z → ⊥
never_originals next is at w v z n l = never_each next original_cost GivesOriginal LeavesOriginal (λ i at w v n z c. c.last) is at w v z n l

pub never_mirrors : (next : ℕ → ℕ) (cost : Ins → ℕ) (is : List Ins) (at : ℕ) (w : World) (v z : Views) (n : ℕ) → LeavesEach next cost GivesMirror LeavesMirror is at w v n z → ⊥
never_mirrors next cost is at w v z n l = never_each next cost GivesMirror LeavesMirror (λ i at w v n z l. l) is at w v z n l

-- ---- the checks of a piece
-- a pass behind the parts needs at most equal halves and the cursor at a word, gives the checks, and never leaves
pub record AreChecks (w : World) (needs : World → Views → Type 0) (gives leaves : World → Views → ℕ → Views → Type 0) (first round : ℕ) : Type 0 where
  pub ready : (v : Views) → v.original ≡ v.shadow → IsCursor w.form.spans (reg v.now CURSOR) → needs w v
  pub checks : (v z : Views) (n : ℕ) → gives w v n z → ChecksMade w first round v n z
  pub never : (v z : Views) (n : ℕ) → leaves w v n z → ⊥

-- the comparison, and the visits behind it
pub both_checks : (w : World) (round : ℕ) (spans : List (ℕ × ℕ)) → w.form.spans ≡ spans → AreChecks w (NeedsChecks spans) (GivesChecks round spans) LeavesChecks 0 round
both_checks w round spans e = record {
  ready = λ v h c. (h, λ n y d. (d.0.original ∙ h ∙ sym d.0.shadow, e, subst (IsCursor spans) (sym d.0.cursor) (subst (λ l. IsCursor l (reg v.now CURSOR)) e c)));
  checks = λ v z n c.
      let d = c.first.0 in
      let l = c.last in
      let same : length w.form.spans ≡ length spans = ap length e in
      record {
        original = l.original ∙ d.original;
        shadow = l.shadow ∙ d.shadow;
        sign = l.sign ∙ d.sign;
        checked = record {
          compare = 0;
          soon = omega arith;
          inside = omega (arith, c.sum, d.at_least);
          compares = subst (λ x. ComparesFrom w.code x.pc originals) (sym (run-none v.now)) c.first.1;
          cursor = l.cursor ∙ ap (words_on spans round) d.cursor ∙ ap (λ l. words_on l round (reg v.now CURSOR)) (sym e);
          visits = λ j h one.
              let y = visit_later w v.now c.some c.middle.now c.more (words_on spans j (reg c.middle.now CURSOR)) c.runs (l.visits j h (omega (arith, one, same))) in
              subst (λ l. Visits w v.now n (words_on l j (reg v.now CURSOR))) (sym e) (subst (λ k. Visits w v.now n (words_on spans j k)) d.cursor (subst (λ k. Visits w v.now k (words_on spans j (reg c.middle.now CURSOR))) (sym c.sum) y));
        };
      };
  never = λ v z n l. ⊎_elim (λ f. f) (λ c. c.last) l;
}

-- ---- what the passes are for
-- the registers that are guarded are low
used_low_as : (c : Class) (i : Ins) → IsLowAs c i → AllLow (used_as c i)
used_low_as class.Load i l = (l.1, tt)
used_low_as class.Store i l = (l.1, second (i.rs2 == i.rs1)) where
  second : (t : Bool) → AllLow (cond t [] (i.rs2 ∷ []))
  second true = tt
  second false = (l.2, tt)
used_low_as c i l = tt

pub used_low : (i : Ins) → FitsPiece i → AllLow (used i)
used_low i f = used_low_as (class_of i.kind) i f.low

pub for_originals : (next : ℕ → ℕ) (is : List Ins) (at : ℕ) → AllFit is → ForEach next ForOriginal (λ i. []) is at
for_originals next [] at f = tt
for_originals next (i ∷ is) at f = ((f.0, used_low i f.0, refl), refl, for_originals next is (next at) f.1)

pub for_mirrors : (next : ℕ → ℕ) (is : List Ins) (at : ℕ) → AllFit is → ForEach next (λ i at. FitsPiece i) (λ i. []) is at
for_mirrors next [] at f = tt
for_mirrors next (i ∷ is) at f = (f.0, refl, for_mirrors next is (next at) f.1)

-- ---- what the input does
same_as : (c : Class) (ws : ℕ → Bool) (i : Ins) (s s' : State) → UsesUnwritten c ws i → EqualBut ws s s' → AllSame (used_as c i) s s'
same_as class.Load ws i s s' c st = (st i.rs1 c, tt)
same_as class.Store ws i s s' c st = (st i.rs1 c.0, second (i.rs2 == i.rs1)) where
  second : (t : Bool) → AllSame (cond t [] (i.rs2 ∷ [])) s s'
  second true = tt
  second false = (st i.rs2 c.1, tt)
same_as c ws i s s' k st = tt

module _ (next : ℕ → ℕ) (plus : (a : ℕ) → a + 8 ≤ 2 ^ 63 → next a ≡ a + 4) (w : World) where
  -- a run of the input goes on one word behind
  run_on : (i : Ins) (s : State) (at : ℕ) → s.pc ≡ at → w.source s.pc ≡ Known i → (step s).pc ≡ s.pc + 4 → (step s).pc ≡ next at
  run_on i s at here known e = e ∙ ap (λ p. p + 4) here ∙ sym (plus at (subst (λ a. a + 8 ≤ 2 ^ 63) here (w.source_low s.pc i known)))

  -- ---- the originals
  pub needs_originals :
      (is : List Ins) (ws : ℕ → Bool) (at : ℕ) (v : Views) → AllFit is → is_run_after ws is ≡ true → EqualBut ws v.original v.shadow
      → Sourced w v.original → v.original.pc ≡ at → HasAt w.source v.original.pc is → NotTrapped (run v.original (length is))
      → NeedsEach next NeedsOriginal GivesOriginal is at w v
  unfolding run
  needs_originals [] ws at v f c st so here h calm = tt
  needs_originals (i ∷ is) ws at v f c st so here h calm =
      let calm1 = not_trapped_front (length is) (step v.original) calm in
      let m = body_step w v.original i f.0 so h.0 calm1 in
      let clean = and_parts (is_clean ws i) (is_run_after (and_written i ws) is) c in
      let runs : StandsBefore w i at v.original = record { sourced = so; known = h.0; here = here; calm = calm1 } in (
        (same_as (class_of i.kind) ws i v.original v.shadow (clean_uses (class_of i.kind) ws i clean.0) st, λ n y d. subst (StandsBefore w i at) (sym d.original) runs),
        λ n y d.
            let eo : y.original ≡ step v.original = d.last.original ∙ ap step d.first.original in
            let es : y.shadow ≡ v.shadow = d.last.shadow ∙ d.first.shadow in
            let so1 : Sourced w y.original = subst (Sourced w) (sym eo) m.sourced in
            let pc1 : y.original.pc ≡ next at = ap (λ s. s.pc) eo ∙ run_on i v.original at here h.0 m.pc in
            let h1 : HasAt w.source y.original.pc is = subst (λ s. HasAt w.source s.pc is) (sym eo) (subst (λ p. HasAt w.source p is) (sym m.pc) h.1) in
            let st1 : EqualBut (and_written i ws) y.original y.shadow = subst (λ s. EqualBut (and_written i ws) s y.shadow) (sym eo) (subst (λ s. EqualBut (and_written i ws) (step v.original) s) (sym es) (equal_on w ws v.original v.shadow (step v.original) i m st)) in
            let calm2 : NotTrapped (run y.original (length is)) = subst (λ s. NotTrapped (run s (length is))) (sym eo) calm in
            needs_originals is (and_written i ws) (next at) y f.1 clean.1 st1 so1 pc1 h1 calm2,
      )

  -- both halves are those of two states, in no fewer than k steps, and the cursor and the signature stay
  pub record Moved (v : Views) (n k : ℕ) (z : Views) (s s' : State) : Type 0 where
    pub original : z.original ≡ s
    pub shadow : z.shadow ≡ s'
    pub slow : k ≤ n
    pub cursor : reg z.now CURSOR ≡ reg v.now CURSOR
    pub sign : reg z.now SIGNATURE ≡ reg v.now SIGNATURE

  pub gives_originals :
      (is : List Ins) (at : ℕ) (v z : Views) (n : ℕ) → GivesEach next original_cost GivesOriginal is at w v n z
      → Moved v n (length is) z (run v.original (length is)) v.shadow
  unfolding run
  gives_originals [] at v z n g = record { original = ap (λ x. x.original) g.1; shadow = ap (λ x. x.shadow) g.1; slow = omega arith; cursor = ap (λ (x : Views). reg x.now CURSOR) g.1; sign = ap (λ (x : Views). reg x.now SIGNATURE) g.1 }
  gives_originals (i ∷ is) at v z n g =
      let d = g.first in
      let r = gives_originals is (next at) g.middle z g.more g.last in
      let eo : g.middle.original ≡ step v.original = d.last.original ∙ ap step d.first.original in
      record {
        original = r.original ∙ ap (λ s. run s (length is)) eo;
        shadow = r.shadow ∙ d.last.shadow ∙ d.first.shadow;
        slow = omega (arith, r.slow, g.sum, d.sum, d.last.at_least);
        cursor = r.cursor ∙ d.last.cursor ∙ d.first.cursor;
        sign = r.sign ∙ d.last.sign ∙ d.first.sign;
      }

  -- the original half comes to each state of the input between
  pub originals_trail :
      (is : List Ins) (at : ℕ) (v z : Views) (n : ℕ) → GivesEach next original_cost GivesOriginal is at w v n z
      → Met w v.now v.original → ((k : ℕ) → k ≤ length is → (run v.original k).outcome ≡ Going) → Trail w v.now v.original (length is) n
  unfolding run
  originals_trail [] at v z n g met goes = subst (λ k. Met w (run v.now k) v.original) (sym g.0) met
  originals_trail (i ∷ is) at v z n g met goes =
      let d = g.first in
      let eo : g.middle.original ≡ step v.original = d.last.original ∙ ap step d.first.original in
      let goes1 : (k : ℕ) → k ≤ length is → (run g.middle.original k).outcome ≡ Going = λ k l. subst (λ s. (run s k).outcome ≡ Going) (sym eo) (goes (suc k) (omega (arith, l))) in
      let there : Met w g.middle.now g.middle.original = met_going w g.middle.now g.middle.original (holds_of w g.middle.now g.middle.original g.middle.shadow d.last.halved) d.last.going (goes1 0 (omega arith)) in
      let rest = originals_trail is (next at) g.middle z g.more g.last there goes1 in
      let first : Trail w v.now v.original 1 g.some = trail_one w v.now v.original g.some (omega (arith, d.sum, d.last.at_least)) met (met_same w (run v.now g.some) g.middle.now (run v.original 1) g.middle.original g.runs (sym eo) there) in
      subst (Trail w v.now v.original (suc (length is))) (sym g.sum) (trail_on w v.now v.original g.middle.now g.middle.original 1 g.some g.runs (sym eo) first (length is) g.more (suc (length is)) (omega arith) rest)

  -- ---- the mirrors
  pub needs_mirrors :
      (needs : Ins → ℕ → World → Views → Type 0) → ((i : Ins) (at : ℕ) (v : Views) → StandsBefore w i at v.shadow → needs i at w v)
      → (is : List Ins) (at : ℕ) (v : Views) → AllFit is → Sourced w v.shadow → v.shadow.pc ≡ at → HasAt w.source v.shadow.pc is
      → NotTrapped (run v.shadow (length is)) → NeedsEach next needs GivesMirror is at w v
  unfolding run
  needs_mirrors needs have [] at v f so here h calm = tt
  needs_mirrors needs have (i ∷ is) at v f so here h calm =
      let calm1 = not_trapped_front (length is) (step v.shadow) calm in
      let m = body_step w v.shadow i f.0 so h.0 calm1 in (
        have i at v (record { sourced = so; known = h.0; here = here; calm = calm1 }),
        λ n y d.
            let es : y.shadow ≡ step v.shadow = d.shadow in
            let so1 : Sourced w y.shadow = subst (Sourced w) (sym es) m.sourced in
            let pc1 : y.shadow.pc ≡ next at = ap (λ s. s.pc) es ∙ run_on i v.shadow at here h.0 m.pc in
            let h1 : HasAt w.source y.shadow.pc is = subst (λ s. HasAt w.source s.pc is) (sym es) (subst (λ p. HasAt w.source p is) (sym m.pc) h.1) in
            needs_mirrors needs have is (next at) y f.1 so1 pc1 h1 (subst (λ s. NotTrapped (run s (length is))) (sym es) calm),
      )

  pub gives_mirrors :
      (cost : Ins → ℕ) (is : List Ins) (at : ℕ) (v z : Views) (n : ℕ) → GivesEach next cost GivesMirror is at w v n z
      → Moved v n 0 z v.original (run v.shadow (length is))
  unfolding run
  gives_mirrors cost [] at v z n g = record { original = ap (λ x. x.original) g.1; shadow = ap (λ x. x.shadow) g.1; slow = omega arith; cursor = ap (λ (x : Views). reg x.now CURSOR) g.1; sign = ap (λ (x : Views). reg x.now SIGNATURE) g.1 }
  gives_mirrors cost (i ∷ is) at v z n g =
      let d = g.first in
      let r = gives_mirrors cost is (next at) g.middle z g.more g.last in
      record {
        original = r.original ∙ d.original;
        shadow = r.shadow ∙ ap (λ s. run s (length is)) d.shadow;
        slow = omega arith;
        cursor = r.cursor ∙ d.cursor;
        sign = r.sign ∙ d.sign;
      }

  -- ---- the piece
  module _ (needs : Ins → ℕ → World → Views → Type 0) (have : (i : Ins) (at : ℕ) (v : Views) → StandsBefore w i at v.shadow → needs i at w v) (cost : Ins → ℕ) where
    module _ (nc : World → Views → Type 0) (gc lc : World → Views → ℕ → Views → Type 0) (first round : ℕ) (are : AreChecks w nc gc lc first round) (is : List Ins) (at : ℕ) where
      needs_piece :
          (v : Views) → IsCursor w.form.spans (reg v.now CURSOR) → v.original ≡ v.shadow → v.original.pc ≡ at → HasAt w.source at is → AllFit is → is_run is ≡ true → Sourced w v.original
          → NotTrapped (run v.original (length is)) → NeedsPiece next needs cost nc is at w v
      needs_piece v cur e here p fit clean so calm =
          let has : HasAt w.source v.original.pc is = subst (λ a. HasAt w.source a is) (sym here) p in (
            needs_originals is (λ r. false) at v fit clean (λ r x. ap (λ t. reg t r) e) so here has calm,
            λ n y g.
                let o = gives_originals is at v y n g in
                let es : y.shadow ≡ v.original = o.shadow ∙ sym e in (
                  needs_mirrors needs have is at y fit (subst (Sourced w) (sym es) so) (ap (λ s. s.pc) es ∙ here) (subst (λ s. HasAt w.source s.pc is) (sym es) has) (subst (λ s. NotTrapped (run s (length is))) (sym es) calm),
                  λ k x h.
                      let r = gives_mirrors cost is at y x k h in
                      are.ready x (r.original ∙ o.original ∙ ap (λ s. run s (length is)) (sym es) ∙ sym r.shadow) (subst (IsCursor w.form.spans) (sym (r.cursor ∙ o.cursor)) cur),
                ),
          )

      gives_piece :
          (most : ℕ) (v z : Views) (n : ℕ) → cost_each original_cost is + cost_each cost is ≤ most → v.original ≡ v.shadow → Met w v.now v.original
          → ((k : ℕ) → k ≤ length is → (run v.original k).outcome ≡ Going) → (z.original ≡ run v.original (length is) → Met w (run v.now n) (run v.original (length is)))
          → GivesPiece next cost gc is at w v n z → Pieced w (most + first) round is v.original v n z
      gives_piece most v z n few e met goes last g =
          let o = gives_originals is at v g.middle g.some g.first in
          let h = g.last in
          let r = gives_mirrors cost is at g.middle h.middle h.some h.first in
          let c = are.checks h.middle z h.more h.last in
          let es : g.middle.shadow ≡ v.original = o.shadow ∙ sym e in
          let here : run v.now (g.some + h.some) ≡ h.middle.now = run-more v.now g.some h.some ∙ ap (λ x. run x h.some) g.runs ∙ h.runs in
          let end : z.original ≡ run v.original (length is) = c.original ∙ r.original ∙ o.original in
          record {
            original = end;
            shadow = c.shadow ∙ r.shadow ∙ ap (λ s. run s (length is)) es;
            slow = omega (arith, o.slow, g.sum);
            sign = c.sign ∙ r.sign ∙ o.sign;
            checked = checked_behind w first round v.now h.middle.now z.now (g.some + h.some) most h.more n here (r.cursor ∙ o.cursor) (omega (arith, g.within, h.within, few)) (omega (arith, g.sum, h.sum)) c.checked;
            trail = trail_later w v.now v.original (length is) g.some n (omega (arith, g.sum)) (last end) (originals_trail is at v g.middle g.some g.first met goes);
          }

      never_piece : (v z : Views) (n : ℕ) → LeavesPiece next cost lc is at w v n z → ⊥
      never_piece v z n l =
          ⊎_elim
          (λ l. never_originals next is at w v z n l)
          (λ c. ⊎_elim (λ l. never_mirrors next cost is at w c.middle z c.more l) (λ d. are.never d.middle z d.more d.last) c.last)
          l

      pub piece_leads :
          (suits : Bool → Type 0) → suits w.form.far → (most steps : ℕ) (items : List Item) → cost_each original_cost is + cost_each cost is ≤ most
          → Quiet suits items (NeedsPiece next needs cost nc is at) (GivesPiece next cost gc is at) (LeavesPiece next cost lc is at) (piece_cost cost steps is)
          → (v : Views) (rest : List Item) → IsCursor w.form.spans (reg v.now CURSOR) → v.original ≡ v.shadow → v.original.pc ≡ at → HasAt w.source at is → AllFit is → is_run is ≡ true
          → Sourced w v.original → NotTrapped (run v.original (length is)) → StandsAt w v (items ++ rest)
          → Leads w v (most + steps) rest (Pieced w (most + first) round is v.original v) none
      piece_leads suits here most steps items few q v rest cur e pc has fit clean so calm st =
          let x = q.leads w v rest here st (needs_piece v cur e pc has fit clean so calm) in
          record {
            steps = x.steps;
            to = x.to;
            within = omega (arith, x.within, few);
            walk = x.walk;
            ends = ⊎_elim (λ g. inl (g.0, gives_piece most v x.to x.steps few e (met_going w v.now v.original (holds_of w v.now v.original v.shadow st.halved) st.over.going so.over.going) goes (last x g.0) g.1)) (λ l. absurd (never_piece v x.to x.steps l)) x.ends;
          } where
            goes : (k : ℕ) → k ≤ length is → (run v.original k).outcome ≡ Going
            goes k l = (source_run w is k v.original l fit so (subst (λ a. HasAt w.source a is) (sym pc) has) (not_trapped_le v.original k (length is) l calm)).sourced.over.going

            last :
                (x : Leads w v (piece_cost cost steps is) rest (GivesPiece next cost gc is at w v) (LeavesPiece next cost lc is at w v)) → StandsAt w x.to rest → x.to.original ≡ run v.original (length is)
                → Met w (run v.now x.steps) (run v.original (length is))
            last x a e = met_same w (run v.now x.steps) x.to.now (run v.original (length is)) x.to.original x.walk.ends (sym e) (met_going w x.to.now x.to.original (holds_of w x.to.now x.to.original x.to.shadow a.halved) a.over.going (ap (λ s. s.outcome) e ∙ goes (length is) (omega arith)))

-- ---- bounds
cost_as : (c : Class) (b : Bool) (i : Ins) → (b ≡ true → c ≡ class.Compute) → length (used_as c i) + cond b 2 1 ≤ 3
cost_as class.Load false i h = omega arith
cost_as class.Store false i h = let x = second (i.rs2 == i.rs1) in omega (arith, x) where
  second : (t : Bool) → length (cond t [] (i.rs2 ∷ [])) ≤ 1
  second true = omega arith
  second false = omega arith
cost_as class.Load true i h = let x = h refl in absurd (cc)
cost_as class.Store true i h = let x = h refl in absurd (cc)
cost_as c true i h = omega arith
cost_as c false i h = omega arith

-- of the original part, in those that a form counts for it
spent_parts : (b : Bool) (c : Class) (n : ℕ) → n + cond b 2 1 ≤ 3 → (b ≡ false → c ≡ class.Compute → n ≡ 0) → n + cond b 2 1 ≤ cond b 3 (spent_as c)
spent_parts true c n h k = h
spent_parts false class.Compute n h k = let z = k refl refl in omega (arith, z)
spent_parts false c n h k = h

none_used : (i : Ins) → class_of i.kind ≡ class.Compute → length (used i) ≡ 0
none_used i e = ap (λ c. length (used_as c i)) e

spent_all : (i : Ins) → original_cost i ≤ spent i
spent_all i = spent_parts (is_auipc i.kind) (class_of i.kind) (length (used i)) (cost_as (class_of i.kind) (is_auipc i.kind) i (λ e. ap class_of (auipc_is i.kind e))) (λ x e. none_used i e)

-- both parts of all instructions, where a mirror part has at most what the original part leaves
pub cost_parts : (part : ℕ) (cost : Ins → ℕ) → 3 ≤ part → ((i : Ins) → cost i ≤ part - spent i) → (is : List Ins) → cost_each original_cost is + cost_each cost is ≤ part * length is
cost_parts part cost h few [] = omega arith
cost_parts part cost h few (i ∷ is) =
    let a = spent_all i in
    let b = spent_le i in
    let c = few i in
    let d = cost_parts part cost h few is in
    let e : part * suc (length is) ≡ part * length is + part = mul-suc part (length is) in
    omega (arith, a, b, c, d, e, h)

-- ---- the items
-- with its guards it is the original part of the code sequences
two_guards : (t : Bool) (a b : ℕ) (xs : List Item) → guards (a ∷ cond t [] (b ∷ [])) ++ xs ≡ (guard a ++ cond t [] (guard b)) ++ xs
two_guards true a b xs = refl
two_guards false a b xs = ap (λ l. (guard a ++ l) ++ xs) (append-nil (guard b))

original_class : (c : Class) (i : Ins) (at : ℕ) → guards (used_as c i) ++ (Plain i ∷ []) ≡ original_as c i at
original_class class.Load i at = ap (λ l. l ++ (Plain i ∷ [])) (append-nil (guard i.rs1))
original_class class.Store i at = two_guards (i.rs2 == i.rs1) i.rs1 i.rs2 (Plain i ∷ [])
original_class c i at = refl

pub guarded_original : (i : Ins) (at : ℕ) → guards (used i) ++ unguarded i at ≡ original i at
guarded_original i at =
    elim (is_auipc i.kind) as (λ b. is_auipc i.kind ≡ b → guards (used i) ++ cond b (Constant i.rd (target i at) ∷ []) (Plain i ∷ []) ≡ cond b (Constant i.rd (target i at) ∷ []) (original_as (class_of i.kind) i at)) [
      | true ↦ λ e. ap (λ c. guards (used_as c i) ++ (Constant i.rd (target i at) ∷ [])) (ap class_of (auipc_is i.kind e))
      | false ↦ λ e. original_class (class_of i.kind) i at
    ] refl

-- they are those of the code sequences, where the addresses do not wrap
pub parts_are :
    (next : ℕ → ℕ) (mirror : Ins → ℕ → List Item) (checks : List Item) (is : List Ins) (at : ℕ)
    → ((part : Ins → ℕ → List Item) → items_each next part is at ≡ each_part part is at)
    → piece_items next mirror checks is at ≡ each_part original is at ++ (each_part mirror is at ++ checks)
parts_are next mirror checks is at each =
    let a = each_same next (λ i at. guards (used i) ++ unguarded i at) original guarded_original is at ∙ each original in
    ap (λ l. l ++ (items_each next mirror is at ++ checks)) a ∙ ap (λ l. each_part original is at ++ (l ++ checks)) (each mirror)
