-- The steps of the words of pieces are at most those that the ticks count.
use Rattle.std.proofs.Common.{◌≡◌, ℕ, ◌+◌, ◌-◌, ◌*◌, ◌<◌, ◌≤◌, ◌⊎◌, inl, inr, Bool, true, false, cond, List, [], ◌∷◌, ◌++◌, length, refl, ap, arith}
use Rattle.std.specs.Prelude.{◌==◌, ◌&&◌, ◌||◌, nat_lt, ℤ, pos}
use Rattle.std.specs.List.{list_all}
use Rattle.std.proofs.lemmas.Bool.{and_parts, or_cases, ltb-true, eqb-true}
use Rattle.rv_isa.specs.declared.class.Class.TheVariants as class
use Rattle.machine.specs.Operands.{is_auipc}
use Rattle.machine.specs.Table.{ins, kinds, Beq}
use Rattle.qed_model.specs.declared.diverse.Part.{Part}
use Rattle.qed_model.specs.Weave.Costs.{used_as, spent, spent_as, cost_each, original_cost, mirror_steps}
use Rattle.qed_model.specs.Weave.Diverse.{part_items, parts_of, diverse_as}
use Rattle.qed_model.specs.Weave.Forms.{mirror_of}
use Rattle.qed_model.specs.Weave.Lean.{is_break, cost, guard_address, mirrored_store}
use Rattle.qed_model.specs.Weave.LeanCode.{Lean, body_steps, is_store, store_part, store_steps, both_parts, both_steps, mirror_steps_of, parts_with, piece}
use Rattle.qed_model.specs.Weave.Sequences.{End, fired_check, guard, guards_of, original, original_as, mirrored, each_part, PAIR_DISTANCE}
use Rattle.qed_model.specs.Weave.Code.{pieces_of}
use Rattle.weave_core.specs.Blocks.{FitsPiece, AllFit}
use Rattle.weave_core.specs.WeaveLaws.{PiecesAt}
use Rattle.weave_core.specs.World.{World, Plain, Constant, target, Class, class_of, Ins}
use Rattle.lean.specs.Woven.{lean_weave_of}
use Rattle.lean.proofs.Weave.Drift.{each_kind, IsBodyWord, body_computes, body_loads, body_stores, body_fences, body_word}
use Rattle.lean.proofs.Weave.Chain.{cost_append}
use Rattle.lean.proofs.Weave.Costs.{guard_most}

-- ---- one word
word_most : (b : Bool) → cond {A = ℕ} b 0 1 ≤ 1
word_most true = omega arith
word_most false = omega arith

-- ---- the original part
original_most : (i : Ins) (at : ℕ) → cost (original i at) ≤ original_cost i
original_most i at = by (is_auipc i.kind) (class_of i.kind) where
  two : (b : Bool) → cost (cond b [] (guard i.rs2)) ≤ length (cond b [] (i.rs2 ∷ []))
  two true = omega arith
  two false = guard_most i.rs2

  by : (b : Bool) (k : Class) → cost (cond b (Constant i.rd (target i at) ∷ []) (original_as k i at)) ≤ length (used_as k i) + cond b 2 1
  by true k = omega arith
  by false class.Load = let g = guard_most i.rs1 in let e = cost_append (guard i.rs1) (Plain i ∷ []) in let o = word_most (is_break i.kind) in omega (arith, g, e, o)
  by false class.Store =
      let g = guard_most i.rs1 in
      let h = two (i.rs2 == i.rs1) in
      let d = cost_append (guard i.rs1) (cond (i.rs2 == i.rs1) [] (guard i.rs2)) in
      let e = cost_append (guards_of i) (Plain i ∷ []) in
      let o = word_most (is_break i.kind) in
      omega (arith, g, h, d, e, o)
  by false k = let o = word_most (is_break i.kind) in omega (arith, o)

-- ---- the mirror part
mirrored_most : (i : Ins) (at : ℕ) → FitsPiece i → cost (mirrored i at) ≤ mirror_steps i
mirrored_most i at f = by (is_auipc i.kind) refl where
  o : cond {A = ℕ} (is_break i.kind) 0 1 ≤ 1
  o = word_most (is_break i.kind)

  body : IsBodyWord i → is_auipc i.kind ≡ false → cost (mirrored i at) ≤ mirror_steps i
  body (body_computes k) e = rw (e, k) (omega (arith, o))
  body (body_loads k) e = rw (e, k) (omega (arith, o))
  body (body_stores k) e = rw (e, k) (omega (arith, o))
  body (body_fences k) e = rw (e, k) (omega arith)

  by : (b : Bool) → is_auipc i.kind ≡ b → cost (mirrored i at) ≤ mirror_steps i
  by true e = rw e (omega arith)
  by false e = body (body_word i f) e

-- a mirror part of other kinds has at most seven words, and only a computing instruction has one
tested : (n : ℤ) → list_all (λ k. nat_lt (length (parts_of k n)) 8 && ((length (parts_of k n) == 0) || (cond {A = ℕ} (is_auipc k) 3 (spent_as (class_of k)) == 1))) kinds ≡ true
tested n = refl

part_most : (i : Ins) (ps : List Part) → cost (part_items i ps) ≤ length ps
part_most i [] = omega arith
part_most i (p ∷ ps) = let e = part_most i ps in let o = word_most (is_break p.kind) in omega (arith, e, o)

-- there are steps for a mirror part of the same kind
spare : (i : Ins) → FitsPiece i → mirror_steps i + spent i ≤ 8
spare i f = by (is_auipc i.kind) refl where
  body : IsBodyWord i → is_auipc i.kind ≡ false → mirror_steps i + spent i ≤ 8
  body (body_computes k) e = rw (e, k) (omega arith)
  body (body_loads k) e = rw (e, k) (omega arith)
  body (body_stores k) e = rw (e, k) (omega arith)
  body (body_fences k) e = rw (e, k) (omega arith)

  by : (b : Bool) → is_auipc i.kind ≡ b → mirror_steps i + spent i ≤ 8
  by true e = rw e (omega arith)
  by false e = body (body_word i f) e

mirror_most : (diverse : Bool) (i : Ins) (at : ℕ) → FitsPiece i → cost (mirror_of diverse i at) ≤ mirror_steps_of diverse i
mirror_most false i at f = mirrored_most i at f
mirror_most true i at f =
    let t = and_parts _ _ (each_kind (λ k. nat_lt (length (parts_of k i.imm)) 8 && ((length (parts_of k i.imm) == 0) || (cond {A = ℕ} (is_auipc k) 3 (spent_as (class_of k)) == 1))) (tested i.imm) i.kind) in
    by (parts_of i.kind i.imm) (ltb-true (length (parts_of i.kind i.imm)) 8 t.0) (or_cases _ _ t.1) where
      by : (ps : List Part) → length ps < 8 → ((length ps == 0) ≡ true) ⊎ ((spent i == 1) ≡ true) → cost (diverse_as ps i at) ≤ 8 - spent i
      by [] few e = let m = mirrored_most i at f in let s = spare i f in omega (arith, m, s)
      by (p ∷ ps) few (inl e) = let z = eqb-true (length (p ∷ ps)) 0 e in absurd (omega (arith, z))
      by (p ∷ ps) few (inr e) = let m = part_most i (p ∷ ps) in let s = eqb-true (spent i) 1 e in omega (arith, m, few, s)

-- ---- a store, and a run without one
store_most : (i : Ins) → cost (store_part i) ≤ store_steps i
store_most i = by (i.rs2 == i.rs1) (i.rs2 == 0) where
  o : cond {A = ℕ} (is_break i.kind) 0 1 ≤ 1
  o = word_most (is_break i.kind)

  by :
      (b z : Bool) → cost (guard_address i ++ (cond b [] (cond z [] (Plain (ins Beq 0 i.rs2 (i.rs2 + PAIR_DISTANCE) (pos 8)) ∷ fired_check ∷ [])) ++ (Plain i ∷ mirrored_store i ∷ [])))
      ≤ cond (b || z) 5 6
  by true true = omega (arith, o)
  by true false = omega (arith, o)
  by false true = omega (arith, o)
  by false false = omega (arith, o)

-- none of some instructions is a store
abbrev Unstored : List Ins → Type 0
Unstored [] = Unit {0}
Unstored (i ∷ is) = (is_store (class_of i.kind) ≡ false) × Unstored is

unstored_push : (is : List Ins) (i : Ins) → Unstored is → is_store (class_of i.kind) ≡ false → Unstored (is ++ (i ∷ []))
unstored_push [] i u e = (e, tt)
unstored_push (j ∷ is) i u e = (u.0, unstored_push is i u.1 e)

fit_push : (is : List Ins) (i : Ins) → AllFit is → FitsPiece i → AllFit (is ++ (i ∷ []))
fit_push [] i u f = (f, tt)
fit_push (j ∷ is) i u f = (u.0, fit_push is i u.1 f)

each_push : (f : Ins → ℕ) (is : List Ins) (i : Ins) → cost_each f (is ++ (i ∷ [])) ≡ cost_each f is + f i
each_push f [] i = omega arith
each_push f (j ∷ is) i = let e = each_push f is i in omega (arith, e)

-- both parts of each
run_most : (diverse : Bool) (is : List Ins) (at : ℕ) → AllFit is → Unstored is → cost (each_part original is at) + cost (each_part (mirror_of diverse) is at) ≤ cost_each (both_steps diverse) is
run_most diverse [] at f u = omega arith
run_most diverse (i ∷ is) at f u =
    let a = original_most i at in
    let b = mirror_most diverse i at f.0 in
    let c = cost_append (original i at) (each_part original is (at + 4)) in
    let d = cost_append (mirror_of diverse i at) (each_part (mirror_of diverse) is (at + 4)) in
    let e : both_steps diverse i ≡ original_cost i + mirror_steps_of diverse i = ap (λ b. cond b (store_steps i) (original_cost i + mirror_steps_of diverse i)) u.0 in
    let r = run_most diverse is (at + 4) f.1 u.1 in
    omega (arith, a, b, c, d, e, r)

both_most : (diverse : Bool) (is : List Ins) (at : ℕ) → AllFit is → Unstored is → cost (both_parts diverse is at) ≤ cost_each (both_steps diverse) is
both_most diverse is at f u = let e = cost_append (each_part original is at) (each_part (mirror_of diverse) is at) in let r = run_most diverse is at f u in omega (arith, e, r)

-- ---- a piece
with_most :
    (diverse : Bool) (is run : List Ins) (at : ℕ) → AllFit run → Unstored run → AllFit is
    → cost (parts_with diverse run at is) ≤ cost_each (both_steps diverse) run + cost_each (both_steps diverse) is
with_most diverse [] run at f u g = let e = both_most diverse run at f u in omega (arith, e)
with_most diverse (i ∷ is) run at f u g = by (is_store (class_of i.kind)) refl (with_most diverse is [] (at + 4 * length run + 4) tt tt g.1) (λ e. with_most diverse is (run ++ (i ∷ [])) at (fit_push run i f g.0) (unstored_push run i u e) g.1) where
  by :
      (b : Bool) → is_store (class_of i.kind) ≡ b
      → cost (parts_with diverse [] (at + 4 * length run + 4) is) ≤ 0 + cost_each (both_steps diverse) is
      → (is_store (class_of i.kind) ≡ false → cost (parts_with diverse (run ++ (i ∷ [])) at is) ≤ cost_each (both_steps diverse) (run ++ (i ∷ [])) + cost_each (both_steps diverse) is)
      → cost (cond b (both_parts diverse run at ++ (store_part i ++ parts_with diverse [] (at + 4 * length run + 4) is)) (parts_with diverse (run ++ (i ∷ [])) at is))
      ≤ cost_each (both_steps diverse) run + (both_steps diverse i + cost_each (both_steps diverse) is)
  by true e c more =
      let rest = parts_with diverse [] (at + 4 * length run + 4) is in
      let a = both_most diverse run at f u in
      let b = store_most i in
      let d = cost_append (both_parts diverse run at) (store_part i ++ rest) in
      let h = cost_append (store_part i) rest in
      let k : both_steps diverse i ≡ store_steps i = ap (λ b. cond b (store_steps i) (original_cost i + mirror_steps_of diverse i)) e in
      omega (arith, a, b, c, d, h, k)
  by false e c more =
      let a = more e in
      let b = each_push (both_steps diverse) run i in
      omega (arith, a, b)

pub piece_cost : (diverse : Bool) (is : List Ins) (at : ℕ) → AllFit is → cost (piece diverse is at) ≤ cost_each (both_steps diverse) is
piece_cost diverse is at f = let e = with_most diverse is [] at tt tt f in omega (arith, e)

-- ---- the pieces of a block
pub pieces_cost :
    (w : World) (l : Lean) (leader : ℕ → Bool) (ps : List (List Ins)) (e : End) (at : ℕ) → PiecesAt w (lean_weave_of w l leader) leader ps e at
    → cost (pieces_of (lean_weave_of w l leader).code ps at) ≤ body_steps l.diverse ps
pieces_cost w l leader [] e at h = omega arith
pieces_cost w l leader (q ∷ qs) e at h =
    let a = piece_cost l.diverse q at h.0.fit in
    let b = pieces_cost w l leader qs e (at + 4 * length q) h.1 in
    let c = cost_append (piece l.diverse q at) (pieces_of (lean_weave_of w l leader).code qs (at + 4 * length q)) in
    omega (arith, a, b, c)
