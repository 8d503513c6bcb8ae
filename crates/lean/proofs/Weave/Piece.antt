-- A piece: runs of instructions that do not store, original parts before mirror parts, and stores in both halves.
use Rattle.std.proofs.Common.{◌≡◌, ℕ, ◌+◌, ◌-◌, ◌*◌, ◌<◌, ◌≤◌, ⊎_elim, Bool, true, false, cond, List, [], ◌∷◌, ◌++◌, length, refl, sym, ap, ◌∙◌, subst, arith, append_assoc, length-append}
use Rattle.std.specs.Prelude.{◌==◌, ◌||◌}
use Rattle.std.proofs.lemmas.Bool.{and_parts, cases_lt, false≢true}
use Rattle.std.proofs.lemmas.List.{append-nil}
use Rattle.std.proofs.Math.Nat.{mul-add}
use Rattle.rv_isa.specs.declared.class.Class.TheVariants as class
use Rattle.qed_model.specs.Promise.Kept.{NotTrapped}
use Rattle.qed_model.specs.Weave.Pieces.{is_run, is_run_after, and_written, is_clean}
use Rattle.qed_model.specs.Weave.Sequences.{guards, original, each_part, class_of, Class, CURSOR, SIGNATURE}
use Rattle.qed_model.specs.Weave.Costs.{cost_each, used, original_cost}
use Rattle.qed_model.specs.Weave.LeanBounds.{cost_of}
use Rattle.qed_model.specs.Weave.LeanCode.{mirror_steps_of, is_store, store_steps, both_steps, both_parts, store_part, parts_with, piece}
use Rattle.qed_model.specs.Weave.Forms.{mirror_of}
use Rattle.qed_model.proofs.Lemmas.{run_alone, run_prefix}
use Rattle.machine.proofs.Lemmas.{Walk, walk_none, walk_on, run-more}
use Rattle.weave_core.specs.World.{World, Quiet as Calm, Item, Going, State, Known, reg, run, step, HasAt, Ins}
use Rattle.weave_core.specs.Blocks.{FitsPiece, AllFit}
use Rattle.weave_core.specs.Rows.{At, Sourced, Led}
use Rattle.weave_core.specs.WeaveLaws.{GoesTo, Trail, Inside}
use Rattle.weave_core.specs.Parts.{any, unguarded, NeedsMirror, GivesMirror, LeavesMirror}
use Rattle.weave_core.specs.Pass.{Views, Quiet, same_state}
use Rattle.weave_core.proofs.Lemmas.{mirrored_part, diverse_row, leads_led, quiet_each, each_same, plus, each_plus, quiet_front, front_row, never_originals, never_mirrors, for_mirrors, needs_originals, gives_originals, needs_mirrors, gives_mirrors, guarded_original, has_front, has_rest, not_trapped_le, source_run, one_run, store_row, Row, met_at, met_same, originals_trail, trail_later, trail_none, trail_on, trail_one}
use Rattle.lean.proofs.Weave.Costs.{run_most, both_most}

-- a mirror part of either kind
mirror_row :
    (diverse : Bool) (w : World) (u s s' : State) (i : Ins) (rest : List Item) → FitsPiece i → At w u (mirror_of diverse i s'.pc ++ rest) s s' → Sourced w s' → w.source s'.pc ≡ Known i
    → NotTrapped (step s') → Led w u 0 (mirror_steps_of diverse i) rest s (step s')
mirror_row true w u s s' i rest f a so h calm = diverse_row w u s s' i rest f a so h calm
mirror_row false w u s s' i rest f a so h calm = mirrored_part w u s s' i rest f a so h calm

quiet_mirror : (diverse : Bool) (i : Ins) (at : ℕ) → FitsPiece i → Quiet any (mirror_of diverse i at) (NeedsMirror i at) (GivesMirror i at) (LeavesMirror i at) (mirror_steps_of diverse i)
quiet_mirror diverse i at f = record {
  leads = λ w v rest s st r.
      leads_led w v 0 (mirror_steps_of diverse i) rest same_state step
      (mirror_row diverse w v.now v.original v.shadow i rest f (subst (λ p. At w v.now (mirror_of diverse i p ++ rest) v.original v.shadow) (sym r.here) st) r.sourced r.known r.calm);
}

-- the steps of instructions that do not store, in both parts
abbrev pub run_steps : Bool → List Ins → ℕ
run_steps diverse is = cost_each original_cost is + cost_each (mirror_steps_of diverse) is

-- ---- a run
module _ (diverse : Bool) (w : World) (is : List Ins) (s : State) (fit : AllFit is) (clean : is_run is ≡ true) (has : HasAt w.source s.pc is) (so : Sourced w s) (calm : NotTrapped (run s (length is))) where
  -- the input goes on in it
  goes : (k : ℕ) → k ≤ length is → (run s k).outcome ≡ Going
  goes k h = (source_run w is k s h fit so has (not_trapped_le s k (length is) h calm)).sourced.over.going

  -- behind the original parts
  record Half (u : State) (rest : List Item) : Type 0 where
    steps : ℕ
    to : Views
    slow : length is ≤ steps
    within : steps ≤ cost_each original_cost is
    walk : Walk (Calm w) u steps to.now
    at : At w to.now rest to.original to.shadow
    original : to.original ≡ run s (length is)
    shadow : to.shadow ≡ s
    counter : reg to.now CURSOR ≡ reg u CURSOR
    sign : reg to.now SIGNATURE ≡ reg u SIGNATURE
    trail : Trail w u s (length is) steps

  originals_row : (u : State) (rest : List Item) → At w u (each_part original is s.pc ++ rest) s s → Half u rest
  originals_row u rest a =
      let v : Views = record { now = u; original = s; shadow = s; leads = λ a. false } in
      let all = each_same plus (λ i at. guards (used i) ++ unguarded i at) original guarded_original is s.pc ∙ each_plus original is s.pc in
      let st = subst (λ l. At w u (l ++ rest) s s) (sym all) a in
      let g = (quiet_front w.form is s.pc fit).leads w v rest tt st (needs_originals plus (λ a h. refl) w is (λ r. false) s.pc v fit clean (λ r e. refl) so refl has calm) in
      ⊎_elim
      (λ e.
      let m = gives_originals plus (λ a h. refl) w is s.pc v g.to g.steps e.1 in
      let trail = originals_trail plus (λ a h. refl) w is s.pc v g.to g.steps e.1 (met_at w u s (each_part original is s.pc ++ rest) a so.over.going) goes in
      record { steps = g.steps; to = g.to; slow = m.slow; within = g.within; walk = g.walk; at = e.0; original = m.original; shadow = m.shadow; counter = m.cursor; sign = m.sign; trail = trail })
      (λ e. absurd (never_originals plus is s.pc w v g.to g.steps e))
      g.ends

  mirrors_row : (u : State) (rest : List Item) → Half u (each_part (mirror_of diverse) is s.pc ++ rest) → Row w u s (length is) (run_steps diverse is) rest
  mirrors_row u rest h =
      let v = h.to in
      let st = subst (λ l. At w v.now (l ++ rest) v.original v.shadow) (sym (each_plus (mirror_of diverse) is s.pc)) h.at in
      let back = sym h.shadow in
      let needs = needs_mirrors plus (λ a h. refl) w NeedsMirror (λ i at v r. r) is s.pc v fit (subst (Sourced w) back so) (ap (λ x. x.pc) h.shadow) (subst (λ x. HasAt w.source x.pc is) back has) (subst (λ x. NotTrapped (run x (length is))) back calm) in
      let g = (quiet_each plus any (λ i at. FitsPiece i) (λ i. []) (mirror_of diverse) NeedsMirror GivesMirror LeavesMirror (mirror_steps_of diverse) (quiet_mirror diverse) is s.pc (for_mirrors plus is s.pc fit)).leads w v rest tt st needs in
      ⊎_elim
      (λ e.
      let m = gives_mirrors plus (λ a h. refl) w (mirror_steps_of diverse) is s.pc v g.to g.steps e.1 in
      let same_original : g.to.original ≡ run s (length is) = m.original ∙ h.original in
      let same_shadow : g.to.shadow ≡ run s (length is) = m.shadow ∙ ap (λ x. run x (length is)) h.shadow in
      let n = length is in
      let walk : Walk (Calm w) u (h.steps + g.steps) g.to.now = walk_on (Calm w) u v.now g.to.now h.steps g.steps h.walk g.walk in
      let at : At w g.to.now rest (run s n) (run s n) = subst (λ y. At w g.to.now rest (run s n) y) same_shadow (subst (λ y. At w g.to.now rest y g.to.shadow) same_original e.0) in
      record {
        led = record { steps = h.steps + g.steps; to = g.to.now; at_least = omega (arith, h.slow); within = omega (arith, h.within, g.within); walk = walk; at = at; cursor = m.cursor ∙ h.counter; sign = m.sign ∙ h.sign };
        trail = trail_later w u s n h.steps (h.steps + g.steps) (omega arith) (met_same w (run u (h.steps + g.steps)) g.to.now (run s n) (run s n) walk.ends refl (met_at w g.to.now (run s n) rest at (goes n (omega arith)))) h.trail;
      })
      (λ e. absurd (never_mirrors plus (mirror_steps_of diverse) is s.pc w v g.to g.steps e))
      g.ends

  -- through all of it
  run_row : (u : State) (rest : List Item) → At w u (both_parts diverse is s.pc ++ rest) s s → Row w u s (length is) (run_steps diverse is) rest
  run_row u rest a =
      let b = subst (λ l. At w u l s s) (append_assoc (each_part original is s.pc) (each_part (mirror_of diverse) is s.pc) rest) a in
      mirrors_row u rest (originals_row u (each_part (mirror_of diverse) is s.pc ++ rest) b)

-- ---- the input before some instructions
-- they stand where it is, and it makes n steps
pub record Ready (w : World) (s : State) (is : List Ins) (n : ℕ) : Type 0 where
  pub fit : AllFit is
  pub clean : is_run is ≡ true
  pub has : HasAt w.source s.pc is
  pub sourced : Sourced w s
  pub calm : NotTrapped (run s n)

fit_parts : (xs ys : List Ins) → AllFit (xs ++ ys) → AllFit xs × AllFit ys
fit_parts [] ys f = (tt, f)
fit_parts (x ∷ xs) ys f = let p = fit_parts xs ys f.1 in ((f.0, p.0), p.1)

-- behind the first of a run
run_rest : (ws : ℕ → Bool) (xs ys : List Ins) → is_run_after ws (xs ++ ys) ≡ true → is_run ys ≡ true
run_rest ws [] ys e = run_alone ws ys e
run_rest ws (x ∷ xs) ys e = run_rest (and_written x ws) xs ys (and_parts (is_clean ws x) (is_run_after (and_written x ws) (xs ++ ys)) e).1

module _ (w : World) where
  -- the first of them
  ready_front : (s : State) (xs ys : List Ins) (n m : ℕ) → m ≤ n → Ready w s (xs ++ ys) n → Ready w s xs m
  ready_front s xs ys n m l r = record { fit = (fit_parts xs ys r.fit).0; clean = run_prefix (λ q. false) xs ys r.clean; has = has_front w.source s.pc xs ys r.has; sourced = r.sourced; calm = not_trapped_le s m n l r.calm }

  -- behind them
  record Behind (s : State) (xs ys : List Ins) (n : ℕ) : Type 0 where
    ready : Ready w (run s (length xs)) ys n
    pc : (run s (length xs)).pc ≡ s.pc + 4 * length xs

  ready_rest : (s : State) (xs ys : List Ins) (n : ℕ) → Ready w s (xs ++ ys) (length xs + n) → Behind s xs ys n
  ready_rest s xs ys n r =
      let f = fit_parts xs ys r.fit in
      let p = source_run w xs (length xs) s (omega arith) f.0 r.sourced (has_front w.source s.pc xs ys r.has) (not_trapped_le s (length xs) (length xs + n) (omega arith) r.calm) in
      record {
        ready = record { fit = f.1; clean = run_rest (λ q. false) xs ys r.clean; has = subst (λ a. HasAt w.source a ys) (sym p.pc) (has_rest w.source s.pc xs ys r.has); sourced = p.sourced; calm = subst NotTrapped (run-more s (length xs) n) r.calm };
        pc = p.pc;
      }

-- ---- steps
cost_append : (f : Ins → ℕ) (xs ys : List Ins) → cost_each f (xs ++ ys) ≡ cost_each f xs + cost_each f ys
cost_append f [] ys = omega arith
cost_append f (x ∷ xs) ys = let e = cost_append f xs ys in omega (arith, e)

-- a run and one more
run_push : (diverse : Bool) (xs : List Ins) (i : Ins) → run_steps diverse (xs ++ i ∷ []) ≡ run_steps diverse xs + (original_cost i + mirror_steps_of diverse i)
run_push diverse xs i = let a = cost_append original_cost xs (i ∷ []) in let b = cost_append (mirror_steps_of diverse) xs (i ∷ []) in omega (arith, a, b)

pub store_class : (c : Class) → is_store c ≡ true → c ≡ class.Store
store_class class.Store e = refl
store_class c e = absurd (false≢true e)

-- ---- parts
-- items lead through instructions, in at most `most` steps; within them, in fewer, the original half makes each step
pub record Part (diverse : Bool) (w : World) (items : ℕ → List Item) (is : List Ins) (most : ℕ) : Type 0 where
  pub few : most ≤ cost_of diverse * length is
  pub row : (u s : State) (rest : List Item) → Ready w s is (length is) → At w u (items s.pc ++ rest) s s → Row w u s (length is) most rest
  pub inside : (n : ℕ) (u s : State) (rest : List Item) → n < length is → Ready w s is n → At w u (items s.pc ++ rest) s s → GoesTo w u n most (λ k x. Inside w u s n k x × (k < most))

module _ (diverse : Bool) (w : World) where
  -- one behind the other
  then_part : (xs ys : ℕ → List Item) (is js : List Ins) (c d : ℕ) → Part diverse w xs is c → Part diverse w ys js d → Part diverse w (λ at. xs at ++ ys (at + 4 * length is)) (is ++ js) (c + d)
  then_part xs ys is js c d p q = record { few = omega (arith, p.few, q.few, product); row = row; inside = inside } where
    count : length (is ++ js) ≡ length is + length js
    count = length-append is js

    product : cost_of diverse * length (is ++ js) ≡ cost_of diverse * length is + cost_of diverse * length js
    product = ap (λ n. cost_of diverse * n) count ∙ mul-add (cost_of diverse) (length is) (length js)

    -- the first of them, before the second
    first : (u s : State) (rest : List Item) → Ready w s is (length is) → At w u ((xs s.pc ++ ys (s.pc + 4 * length is)) ++ rest) s s → Row w u s (length is) c (ys (s.pc + 4 * length is) ++ rest)
    first u s rest r a = p.row u s (ys (s.pc + 4 * length is) ++ rest) r (subst (λ l. At w u l s s) (append_assoc (xs s.pc) (ys (s.pc + 4 * length is)) rest) a)

    row : (u s : State) (rest : List Item) → Ready w s (is ++ js) (length (is ++ js)) → At w u ((xs s.pc ++ ys (s.pc + 4 * length is)) ++ rest) s s → Row w u s (length (is ++ js)) (c + d) rest
    row u s rest r a =
        let m = length js in
        let t = run s (length is) in
        let b = ready_rest w s is js m (subst (Ready w s (is ++ js)) count r) in
        let f = first u s rest (ready_front w s is js (length (is ++ js)) (length is) (omega (arith, count)) r) a in
        let x = f.led.to in
        let g = q.row x t rest b.ready (subst (λ n. At w x (ys n ++ rest) t t) (sym b.pc) f.led.at) in
        let same_state : run t m ≡ run s (length (is ++ js)) = sym (run-more s (length is) m) ∙ ap (run s) (sym count) in
        record {
          led = record {
            steps = f.led.steps + g.led.steps;
            to = g.led.to;
            at_least = omega (arith, f.led.at_least, g.led.at_least, count);
            within = omega (arith, f.led.within, g.led.within);
            walk = walk_on (Calm w) u x g.led.to f.led.steps g.led.steps f.led.walk g.led.walk;
            at = subst (λ y. At w g.led.to rest y y) same_state g.led.at;
            cursor = g.led.cursor ∙ f.led.cursor;
            sign = g.led.sign ∙ f.led.sign;
          };
          trail = trail_on w u s x t (length is) f.led.steps f.led.walk.ends refl f.trail m g.led.steps (length (is ++ js)) count g.trail;
        }

    inside : (n : ℕ) (u s : State) (rest : List Item) → n < length (is ++ js) → Ready w s (is ++ js) n → At w u ((xs s.pc ++ ys (s.pc + 4 * length is)) ++ rest) s s → GoesTo w u n (c + d) (λ k x. Inside w u s n k x × (k < c + d))
    inside n u s rest lt r a =
        ⊎_elim
        (λ l.
        let g = p.inside n u s (ys (s.pc + 4 * length is) ++ rest) l (ready_front w s is js n n (omega arith) r) (subst (λ l. At w u l s s) (append_assoc (xs s.pc) (ys (s.pc + 4 * length is)) rest) a) in
        record { steps = g.steps; to = g.to; at_least = g.at_least; within = omega (arith, g.within); walk = g.walk; is = (g.is.0, omega (arith, g.is.1)) })
        (λ ge. behind (n - length is) (omega (arith, ge)))
        (cases_lt n (length is)) where
          behind : (m : ℕ) → n ≡ length is + m → GoesTo w u n (c + d) (λ k x. Inside w u s n k x × (k < c + d))
          behind m z =
              let t = run s (length is) in
              let b = ready_rest w s is js m (subst (Ready w s (is ++ js)) z r) in
              let f = first u s rest (ready_front w s is js n (length is) (omega (arith, z)) r) a in
              let y = f.led.to in
              let g = q.inside m y t rest (omega (arith, z, lt, count)) b.ready (subst (λ n. At w y (ys n ++ rest) t t) (sym b.pc) f.led.at) in
              record {
                steps = f.led.steps + g.steps;
                to = g.to;
                at_least = omega (arith, f.led.at_least, g.at_least, z);
                within = omega (arith, f.led.within, g.within);
                walk = walk_on (Calm w) u y g.to f.led.steps g.steps f.led.walk g.walk;
                is = (record { going = g.is.0.going; trail = trail_on w u s y t (length is) f.led.steps f.led.walk.ends refl f.trail m g.steps n z g.is.0.trail }, omega (arith, f.led.within, g.is.1));
              }

  -- a run
  run_part : (is : List Ins) → Part diverse w (both_parts diverse is) is (run_steps diverse is)
  run_part is = record { few = run_most diverse is; row = λ u s rest r a. run_row diverse w is s r.fit r.clean r.has r.sourced r.calm u rest a; inside = inside } where
    inside : (n : ℕ) (u s : State) (rest : List Item) → n < length is → Ready w s is n → At w u (both_parts diverse is s.pc ++ rest) s s → GoesTo w u n (run_steps diverse is) (λ k x. Inside w u s n k x × (k < run_steps diverse is))
    inside n u s rest lt r a =
        let mirrors = each_part (mirror_of diverse) is s.pc in
        let g = front_row w is n u s (mirrors ++ rest) lt r.fit r.clean r.has (subst (λ l. At w u l s s) (append_assoc (each_part original is s.pc) mirrors rest) a) r.sourced r.calm in
        record { steps = g.steps; to = g.to; at_least = g.at_least; within = omega (arith, g.is.1); walk = g.walk; is = (g.is.0, omega (arith, g.is.1)) }

  -- a store
  store_part_of : (i : Ins) → is_store (class_of i.kind) ≡ true → Part diverse w (λ at. store_part i) (i ∷ []) (store_steps i)
  store_part_of i e = record { few = few; row = row; inside = inside } where
    few : store_steps i ≤ cost_of diverse * 1
    few = let h = subst (λ b. cond b (store_steps i) (original_cost i + mirror_steps_of diverse i) ≤ cost_of diverse) e (both_most diverse i) in omega (arith, h)

    some : 1 ≤ store_steps i
    some = by ((i.rs2 == i.rs1) || (i.rs2 == 0)) where
      by : (b : Bool) → 1 ≤ cond {A = ℕ} b 5 6
      by true = omega arith
      by false = omega arith

    row : (u s : State) (rest : List Item) → Ready w s (i ∷ []) 1 → At w u (store_part i ++ rest) s s → Row w u s 1 (store_steps i) rest
    row u s rest r a =
        let l : Led w u 1 (store_steps i) rest (run s 1) (run s 1) = subst (λ y. Led w u 1 (store_steps i) rest y y) (sym (one_run s)) (store_row w u s i rest r.fit.0 (store_class (class_of i.kind) e) a r.sourced r.has.0 (subst NotTrapped (one_run s) r.calm)) in
        let going = (source_run w (i ∷ []) 1 s (omega arith) r.fit r.sourced r.has r.calm).sourced.over.going in
        record { led = l; trail = trail_one w u s l.steps l.at_least (met_at w u s (store_part i ++ rest) a r.sourced.over.going) (met_same w (run u l.steps) l.to (run s 1) (run s 1) l.walk.ends refl (met_at w l.to (run s 1) rest l.at going)) }

    inside : (n : ℕ) (u s : State) (rest : List Item) → n < 1 → Ready w s (i ∷ []) n → At w u (store_part i ++ rest) s s → GoesTo w u n (store_steps i) (λ k x. Inside w u s n k x × (k < store_steps i))
    inside n u s rest lt r a =
        let z : n ≡ 0 = omega (arith, lt) in
        let none = trail_none w u s (met_at w u s (store_part i ++ rest) a r.sourced.over.going) in
        record { steps = 0; to = u; at_least = omega (arith, z); within = omega arith; walk = walk_none (Calm w) u; is = (record { going = a.over.going; trail = subst (λ k. Trail w u s k 0) (sym z) none }, omega (arith, some)) }

  -- ---- a piece
  -- with a run that is begun
  abbrev Begun : List Ins → Type 0
  Begun is = (run_of : List Ins) → Part diverse w (λ at. parts_with diverse run_of at is) (run_of ++ is) (run_steps diverse run_of + cost_each (both_steps diverse) is)

  begun_none : Begun []
  begun_none run_of = subst (λ l. Part diverse w (both_parts diverse run_of) l (run_steps diverse run_of + 0)) (sym (append-nil run_of)) (subst (Part diverse w (both_parts diverse run_of) run_of) (zero_on (run_steps diverse run_of)) (run_part run_of)) where
    zero_on : (n : ℕ) → n ≡ n + 0
    zero_on n = omega arith

  begun_on : (i : Ins) (is : List Ins) → Begun is → Begun (i ∷ is)
  begun_on i is more run_of = by (is_store (class_of i.kind)) refl where
    zero_off : (n : ℕ) → 0 + n ≡ n
    zero_off n = omega arith

    by :
        (b : Bool) → is_store (class_of i.kind) ≡ b
        → Part diverse w (λ at. cond b (both_parts diverse run_of at ++ (store_part i ++ parts_with diverse [] (at + 4 * length run_of + 4) is)) (parts_with diverse (run_of ++ i ∷ []) at is)) (run_of ++ i ∷ is) (run_steps diverse run_of + (cond b (store_steps i) (original_cost i + mirror_steps_of diverse i) + cost_each (both_steps diverse) is))
    by true e =
        let rest = then_part (λ at. store_part i) (λ at. parts_with diverse [] at is) (i ∷ []) is (store_steps i) (0 + cost_each (both_steps diverse) is) (store_part_of i e) (more []) in
        subst (λ n. Part diverse w (λ at. both_parts diverse run_of at ++ (store_part i ++ parts_with diverse [] (at + 4 * length run_of + 4) is)) (run_of ++ i ∷ is) (run_steps diverse run_of + (store_steps i + n))) (zero_off (cost_each (both_steps diverse) is))
        (then_part (both_parts diverse run_of) (λ at. store_part i ++ parts_with diverse [] (at + 4) is) run_of (i ∷ is) (run_steps diverse run_of) (store_steps i + (0 + cost_each (both_steps diverse) is)) (run_part run_of) rest)
    by false e =
        let sum : run_steps diverse (run_of ++ i ∷ []) + cost_each (both_steps diverse) is ≡ run_steps diverse run_of + (original_cost i + mirror_steps_of diverse i + cost_each (both_steps diverse) is) = let push = run_push diverse run_of i in omega (arith, push) in
        subst (Part diverse w (λ at. parts_with diverse (run_of ++ i ∷ []) at is) (run_of ++ i ∷ is)) sum
        (subst (λ l. Part diverse w (λ at. parts_with diverse (run_of ++ i ∷ []) at is) l (run_steps diverse (run_of ++ i ∷ []) + cost_each (both_steps diverse) is)) (append_assoc run_of (i ∷ []) is) (more (run_of ++ i ∷ [])))

  begun : (is : List Ins) → Begun is
  begun [] = begun_none
  begun (i ∷ is) = begun_on i is (begun is)

  pub piece_part : (is : List Ins) → Part diverse w (piece diverse is) is (cost_each (both_steps diverse) is)
  piece_part is = subst (Part diverse w (piece diverse is) is) (zero_off (cost_each (both_steps diverse) is)) (begun is []) where
    zero_off : (n : ℕ) → 0 + n ≡ n
    zero_off n = omega arith
