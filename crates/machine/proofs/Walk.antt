-- Runs over code that stands: a guard, and the two words of a constant (RISC-V unprivileged manual, AUIPC and ADDI).
use Rattle.std.proofs.Common.{◌≡◌, ℕ, zero, suc, ◌+◌, ◌%◌, ◌^◌, ◌<◌, List, [], ◌∷◌, length, refl, sym, ap, ◌∙◌, arith}
use Rattle.std.proofs.lemmas.Bool.{eq-eqb}
use Rattle.std.proofs.lemmas.Int.{ints}
use Rattle.std.proofs.lemmas.List.{set-set}
use Rattle.std.specs.Prelude.{pos, ℤ, ◌+ℤ◌, ◌-ℤ◌, slice_index, slice_set}
use Rattle.rv_isa.proofs.RegsLaws.{slice_index-set_reg_same}
use Rattle.machine.specs.Values.{wrapped, value}
use Rattle.machine.specs.Step.{Auipc, Addi, Ebreak, Ins, ins, set_reg, State, reg, moved, Fetched, Known, HasAt, next, step, run, computed_value}
pub use Rattle.machine.specs.Walks.{Over}
use Rattle.machine.specs.Offsets.{distance_between, upper_part}
use Rattle.machine.proofs.Steps.{step-compute, guard, step-guard}
use Rattle.machine.proofs.Wrapped.{wrapped-add, difference}

-- the code stays while only registers and pc change
pub over_moved : (c : ℕ → Fetched) (s : State) (regs : List ℕ) (pc : ℕ) → Over c s → Over c (moved regs pc s)
over_moved c s regs pc o = record { going = o.going; code = o.code }

-- in n steps from s to t
pub record Leads (s : State) (n : ℕ) (t : State) : Type 0 where
  pub ends : run s n ≡ t

-- m + n steps are m steps and then n
pub run-more : (s : State) (m n : ℕ) → run s (m + n) ≡ run (run s m) n
unfolding run
run-more s zero n = let e : zero + n ≡ n = omega arith in ap (run s) e
run-more s (suc m) n = let e : suc m + n ≡ suc (m + n) = omega arith in ap (run s) e ∙ run-more (step s) m n

-- no step, and one
pub run-none : (s : State) → run s 0 ≡ s
unfolding run
run-none s = refl

pub run-one : (s : State) → run s 1 ≡ step s
unfolding run
run-one s = refl

-- one step more
pub run-last : (s : State) (n : ℕ) → run s (n + 1) ≡ step (run s n)
run-last s n = run-more s n 1 ∙ run-one (run s n)

-- one after another
pub leads_on : (s t w : State) (m n : ℕ) → Leads s m t → Leads t n w → Leads s (m + n) w
leads_on s t w m n l k = record { ends = run-more s m n ∙ ap (λ x. run x n) l.ends ∙ k.ends }

-- one step
pub leads_one : (s t : State) → step s ≡ t → Leads s 1 t
unfolding run
leads_one s t e = record { ends = e }

-- ---- one word
-- the instruction at the pc is the code's
pub known_at : (c : ℕ → Fetched) (s : State) (i : Ins) → Over c s → c s.pc ≡ Known i → next s ≡ Known i
known_at c s i o h = o.code s.pc ∙ h

-- ---- a guard
-- the EBREAK
abbrev pub brk : Ins
brk = ins Ebreak 0 0 0 (pos 0)

-- a guard of two equal registers goes on behind its EBREAK
pub guard_walk :
    (c : ℕ → Fetched) (s : State) (q : ℕ) → Over c s → c s.pc ≡ Known (guard q) → s.pc + 8 < 2 ^ 64 → reg s q ≡ reg s (q + 16)
    → step s ≡ moved s.regs (s.pc + 8) s
guard_walk c s q o h low e =
    let pc : (s.pc + 8) % 2 ^ 64 ≡ s.pc + 8 = omega arith in
    step-guard s q o.going (known_at c s (guard q) o h) ∙ rw (eq-eqb _ _ e, pc) refl

-- ---- a constant
-- the two words that set a register to a number, at an address
abbrev pub constant : ℕ → ℕ → ℕ → List Ins
constant a r v = ins Auipc r 0 0 (upper_part (distance_between a v)) ∷ ins Addi r r 0 (distance_between a v -ℤ upper_part (distance_between a v)) ∷ []

-- the two parts of a distance add up to it
back : (d u : ℤ) → u +ℤ (d -ℤ u) ≡ d
back d u = omega (arith, ints)

-- the two parts of a distance lead to the number
pub constant_value :
    (a v : ℕ) → a < 2 ^ 64 → v < 2 ^ 64
    → ((a + wrapped (upper_part (distance_between a v))) % 2 ^ 64 + wrapped (distance_between a v -ℤ upper_part (distance_between a v))) % 2 ^ 64 ≡ v
constant_value a v ha hv =
    let sum : (wrapped (upper_part (distance_between a v)) + wrapped (distance_between a v -ℤ upper_part (distance_between a v))) % 2 ^ 64 ≡ wrapped (distance_between a v) = sym (wrapped-add (upper_part (distance_between a v)) (distance_between a v -ℤ upper_part (distance_between a v))) ∙ ap wrapped (back (distance_between a v) (upper_part (distance_between a v))) in
    regroup a (wrapped (upper_part (distance_between a v))) (wrapped (distance_between a v -ℤ upper_part (distance_between a v))) (wrapped (distance_between a v)) sum ∙ difference a v ha hv where
      regroup : (a x y z : ℕ) → (x + y) % 2 ^ 64 ≡ z → ((a + x) % 2 ^ 64 + y) % 2 ^ 64 ≡ (a + z) % 2 ^ 64
      regroup a x y z e = omega arith

-- a register other than x0 is a place of the list
pub set_reg-pos : (regs : List ℕ) (r v : ℕ) → 0 < r → set_reg r v regs ≡ slice_set regs r v
set_reg-pos regs zero v h = absurd (omega (arith, h))
set_reg-pos regs (suc r) v h = refl

-- of two writes to a register the last one counts
set_reg_twice : (regs : List ℕ) (r x v : ℕ) → 0 < r → set_reg r v (set_reg r x regs) ≡ slice_set regs r v
set_reg_twice regs r x v h = set_reg-pos (set_reg r x regs) r v h ∙ ap (λ l. slice_set l r v) (set_reg-pos regs r x h) ∙ set-set regs r x v

-- the two words of a constant set the register to it
pub constant_walk :
    (c : ℕ → Fetched) (s : State) (r v : ℕ) → Over c s → HasAt c s.pc (constant s.pc r v) → s.pc + 8 < 2 ^ 64 → v < 2 ^ 64 → 0 < r → r < length s.regs
    → Leads s 2 (moved (slice_set s.regs r v) (s.pc + 8) s)
unfolding computed_value value
constant_walk c s r v o h low hv hr inside =
    let x = (s.pc + wrapped (upper_part (distance_between s.pc v))) % 2 ^ 64 in
    let t = moved (set_reg r x s.regs) (s.pc + 4) s in
    let e4 : (s.pc + 4) % 2 ^ 64 ≡ s.pc + 4 = omega arith in
    let e8 : (s.pc + 4 + 4) % 2 ^ 64 ≡ s.pc + 8 = omega arith in
    let first : step s ≡ t = step-compute s (ins Auipc r 0 0 (upper_part (distance_between s.pc v))) o.going (known_at c s _ o h.0) refl ∙ ap (λ p. moved (set_reg r x s.regs) p s) e4 in
    let at : slice_index (set_reg r x s.regs) r ≡ x = slice_index-set_reg_same s.regs r x hr inside in
    let is : (slice_index (set_reg r x s.regs) r + wrapped (distance_between s.pc v -ℤ upper_part (distance_between s.pc v))) % 2 ^ 64 ≡ v = rw at (constant_value s.pc v (omega arith) hv) in
    let second : step t ≡ moved (slice_set s.regs r v) (s.pc + 8) s =
    step-compute t (ins Addi r r 0 (distance_between s.pc v -ℤ upper_part (distance_between s.pc v))) o.going (o.code (s.pc + 4) ∙ h.1.0) refl
    ∙ ap (λ y. moved (set_reg r y (set_reg r x s.regs)) ((s.pc + 4 + 4) % 2 ^ 64) s) is
    ∙ ap (λ p. moved (set_reg r v (set_reg r x s.regs)) p s) e8
    ∙ ap (λ l. moved l (s.pc + 8) s) (set_reg_twice s.regs r x v hr) in
    leads_on s t _ 1 1 (leads_one s t first) (leads_one t _ second)
