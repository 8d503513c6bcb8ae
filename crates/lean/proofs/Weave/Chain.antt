-- Chains of words that set registers: constants and computing instructions, with the number that each gives.
use Rattle.std.proofs.Common.{◌≡◌, ℕ, ◌+◌, ◌*◌, ◌^◌, ◌<◌, ⊎_elim, Bool, true, false, cond, List, [], ◌∷◌, ◌++◌, length, refl, sym, ap, ◌∙◌, arith}
use Rattle.std.specs.Prelude.{◌==◌, ◌&&◌, ◌||◌, nat_lt, nat_le, slice_index, pos}
use Rattle.std.proofs.lemmas.Bool.{cases_eq, cases_Bool, false≢true, eq-eqb, ne_eqb, and_parts, and_from, or_cases, ltb-true, leb-true}
use Rattle.rv_isa.specs.declared.kind.Kind.{Kind}
use Rattle.rv_isa.specs.declared.kind.Kind.TheVariants.{Ebreak}
use Rattle.rv_isa.specs.declared.class.Class.TheVariants as class
use Rattle.rv_isa.proofs.RegsLaws.{slice_index-set_reg_other, slice_index-set_reg_same, length-set_reg}
use Rattle.machine.specs.Table.{ins, Ins, Auipc, Beq}
use Rattle.qed_model.specs.Weave.Sequences.{Reads, SIGNATURE, TEMPORARY}
use Rattle.qed_model.specs.Weave.Lean.{is_break, cost}
use Rattle.machine.proofs.Lemmas.{Over, over_moved, walk_none}
use Rattle.weave_core.specs.World.{World, Quiet, Item, Mark, Plain, Constant, Go, State, moved, result, Fetched, Known, fetched_at, class_of, Class, set_reg}
use Rattle.weave_core.proofs.Lemmas.{Sets, AllTemps, writes, sets_on, sets_compute, sets_const}

-- ---- what several writes leave
-- the number of a register, which was d
abbrev pub last : List (ℕ × ℕ) → ℕ → ℕ → ℕ
last [] d q = d
last (x ∷ xs) d q = last xs (cond (x.0 == q) x.1 d) q

-- none of them is to x0
abbrev no_zero : List (ℕ × ℕ) → Bool
no_zero [] = true
no_zero (x ∷ xs) = nat_lt 0 x.0 && no_zero xs

-- a register behind writes; where registers are literals the test is by computing
pub read_back : (xs : List (ℕ × ℕ)) (l : List ℕ) (q : ℕ) → length l ≡ 32 → (nat_lt q 32 && no_zero xs) ≡ true → slice_index (writes xs l) q ≡ last xs (slice_index l q) q
read_back [] l q long t = refl
read_back (x ∷ xs) l q long t =
    let p = and_parts _ _ t in
    let n = and_parts _ _ p.1 in
    let few = ltb-true q 32 p.0 in
    let some = ltb-true 0 x.0 n.0 in
    read_back xs (set_reg x.0 x.1 l) q (length-set_reg l x.0 x.1 ∙ long) (and_from _ _ p.0 n.1)
    ∙ ap (λ d. last xs d q) (⊎_elim
    (λ e. ap (λ k. slice_index (set_reg x.0 x.1 l) k) e ∙ slice_index-set_reg_same l x.0 x.1 some (omega (arith, long, few, e)) ∙ ap (λ b. cond b x.1 (slice_index l q)) (sym (eq-eqb x.0 q (sym e))))
    (λ e. slice_index-set_reg_other l x.0 x.1 q e ∙ ap (λ b. cond b x.1 (slice_index l q)) (sym (ne_eqb x.0 q (λ s. e (sym s)))))
    (cases_eq q x.0))

-- each write is to a temporary, decided
abbrev are_temps : List (ℕ × ℕ) → Bool
are_temps [] = true
are_temps (x ∷ xs) = (nat_le 15 x.0 && (nat_lt x.0 17 || nat_le 30 x.0)) && are_temps xs

pub all_temps : (xs : List (ℕ × ℕ)) → are_temps xs ≡ true → AllTemps xs
all_temps [] t = tt
all_temps (x ∷ xs) t =
    let p = and_parts _ _ t in
    let q = and_parts _ _ p.0 in
    ((leb-true 15 x.0 q.0, λ h. ⊎_elim (λ y. let low = ltb-true x.0 17 y in absurd (omega (arith, h, low))) (λ y. leb-true 30 x.0 y) (or_cases _ _ q.1)), all_temps xs p.1)

-- ---- the words
pub data Op : Type 0 where
  plain : Ins → ℕ → Op
  constant : ℕ → ℕ → Op

abbrev pub items : List Op → List Item
items [] = []
items (plain j v ∷ xs) = Plain j ∷ items xs
items (constant r c ∷ xs) = Constant r c ∷ items xs

abbrev pub steps : List Op → ℕ
steps [] = 0
steps (plain j v ∷ xs) = 1 + steps xs
steps (constant r c ∷ xs) = 2 + steps xs

abbrev pub effects : List Op → List (ℕ × ℕ)
effects [] = []
effects (plain j v ∷ xs) = (j.rd, v) ∷ effects xs
effects (constant r c ∷ xs) = (r, c) ∷ effects xs

-- with these registers each gives its number; a constant stands before a computing word
abbrev pub Gives : State → List ℕ → List Op → Type 0
Gives u l [] = Unit {0}
Gives u l (plain j v ∷ xs) = (class_of j.kind ≡ class.Compute) × (j.kind ≡ Auipc → ⊥) × ((p : ℕ) → result j.kind j (moved l p u) ≡ v) × Gives u (set_reg j.rd v l) xs
Gives u l (constant r c ∷ []) = ⊥
Gives u l (constant r c ∷ constant q d ∷ xs) = ⊥
Gives u l (constant r c ∷ plain j v ∷ xs) = (c < 2 ^ 64) × (r < 32) × (class_of j.kind ≡ class.Compute) × Gives u (set_reg r c l) (plain j v ∷ xs)

-- a computing word is not the comparison of an entry
computes_none : {A : Type 0} (f : Fetched) (j : Ins) → f ≡ Known j → class_of j.kind ≡ class.Compute → f ≡ Known (ins Beq 0 SIGNATURE TEMPORARY (pos 8)) → A
computes_none f j e c h =
    let k : j ≡ ins Beq 0 SIGNATURE TEMPORARY (pos 8) = cc in
    let q : class.Compute ≡ class.Branch = sym c ∙ ap (λ (i : Ins). class_of i.kind) k in
    absurd (cc)

module _ (w : World) (u : State) (rest : List Item) (o : Over w.code u) where
  -- from a state with some registers
  chain_from :
      (xs : List Op) (l : List ℕ) (p : ℕ) → length l ≡ 32 → Gives u l xs → Reads w.form.far w.code w.entry p (items xs ++ rest)
      → Sets w (moved l p u) (steps xs) rest (writes (effects xs) l)
  chain_from [] l p long g h = record { pc = p; walk = walk_none (Quiet w) (moved l p u); reads = h }
  chain_from (plain j v ∷ xs) l p long g h =
      let x = moved l p u in
      sets_on w x 1 (steps xs) (items xs ++ rest) rest (set_reg j.rd v l) (writes (effects xs) (set_reg j.rd v l)) (sets_compute w x j v (items xs ++ rest) (over_moved w.code u l p o) h g.0 g.1 (g.2 p)) (λ p2 k.
      chain_from xs (set_reg j.rd v l) p2 (length-set_reg l j.rd v ∙ long) g.3 k)
  chain_from (constant r c ∷ []) l p long g h = absurd g
  chain_from (constant r c ∷ constant q d ∷ xs) l p long g h = absurd g
  chain_from (constant r c ∷ plain j v ∷ xs) l p long g h =
      let x = moved l p u in
      let over = over_moved w.code u l p o in
      sets_on w x 2 (steps (plain j v ∷ xs)) (items (plain j v ∷ xs) ++ rest) rest (set_reg r c l) (writes (effects (plain j v ∷ xs)) (set_reg r c l))
      (sets_const w x r c (items (plain j v ∷ xs) ++ rest) over h g.0 (omega (arith, g.1, long)) (λ b low e. computes_none (fetched_at u.memory u.ranges (p + 8)) j (o.code (p + 8) ∙ h.2.0) g.2 e.2))
      (λ p2 k. chain_from (plain j v ∷ xs) (set_reg r c l) p2 (length-set_reg l r c ∙ long) g.3 k)

  -- how far behind
  chain_far :
      (xs : List Op) (l : List ℕ) (p : ℕ) (long : length l ≡ 32) (g : Gives u l xs) (h : Reads w.form.far w.code w.entry p (items xs ++ rest))
      → (chain_from xs l p long g h).pc ≡ p + 4 * steps xs
  unfolding chain_from sets_on sets_compute sets_const
  chain_far [] l p long g h = omega arith
  chain_far (plain j v ∷ xs) l p long g h =
      let e = chain_far xs (set_reg j.rd v l) (p + 4) (length-set_reg l j.rd v ∙ long) g.3 h.1 in
      omega (arith, e)
  chain_far (constant r c ∷ []) l p long g h = absurd g
  chain_far (constant r c ∷ constant q d ∷ xs) l p long g h = absurd g
  chain_far (constant r c ∷ plain j v ∷ xs) l p long g h =
      let e = chain_far (plain j v ∷ xs) (set_reg r c l) (p + 8) (length-set_reg l r c ∙ long) g.3 h.2 in
      omega (arith, e)

  -- from the state itself
  pub chain : (xs : List Op) → length u.regs ≡ 32 → Gives u u.regs xs → Reads w.form.far w.code w.entry u.pc (items xs ++ rest) → Sets w u (steps xs) rest (writes (effects xs) u.regs)
  chain xs long g h = chain_from xs u.regs u.pc long g h

  pub chain_pc :
      (xs : List Op) (long : length u.regs ≡ 32) (g : Gives u u.regs xs) (h : Reads w.form.far w.code w.entry u.pc (items xs ++ rest)) → (chain xs long g h).pc ≡ u.pc + 4 * steps xs
  unfolding chain
  chain_pc xs long g h = chain_far xs u.regs u.pc long g h

-- ---- steps of items
-- an EBREAK is of its class
pub break_is : (k : Kind) → is_break k ≡ true → class_of k ≡ class.Break
break_is Ebreak e = refl
break_is k e = absurd (false≢true e)

-- a word of another class is none
pub no_break : (k : Kind) (c : Class) → class_of k ≡ c → (c ≡ class.Break → ⊥) → is_break k ≡ false
no_break k c e ne = ⊎_elim (λ t. absurd (ne (sym e ∙ break_is k t))) (λ f. f) (cases_Bool (is_break k))

pub cost_append : (xs ys : List Item) → cost (xs ++ ys) ≡ cost xs + cost ys
cost_append [] ys = omega arith
cost_append (Mark a ∷ xs) ys = cost_append xs ys
cost_append (Plain i ∷ xs) ys = let e = cost_append xs ys in omega (arith, e)
cost_append (Constant r v ∷ xs) ys = let e = cost_append xs ys in omega (arith, e)
cost_append (Go t ∷ xs) ys = let e = cost_append xs ys in omega (arith, e)
