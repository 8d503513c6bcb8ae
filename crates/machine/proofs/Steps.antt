-- One step, by what stands at the pc.
use Rattle.std.proofs.Common.{◌≡◌, ℕ, zero, suc, ◌+◌, ◌%◌, ◌<◌, Bool, true, false, cond, ◌&&◌, List, Option, Some, None, refl, ap, ◌∙◌, arith}
use Rattle.std.proofs.lemmas.Bool.{eqb-true, eq-eqb}
use Rattle.std.specs.Prelude.{◌==◌, ◌^◌, nat_lt, pos}
use Rattle.std.specs.Option.{option_map}
use Rattle.rv_isa.specs.declared.class.Class.TheVariants as class
use Rattle.machine.specs.Memory.{get, Flags, Cell, Memory, wrap, allows, grants, number, byte_at, byte_in, put, offset, byte_of, with_byte, flags_at}
use Rattle.machine.specs.Table.{Ins, Beq, ins, decode_of}
use Rattle.machine.specs.Values.{holds, width_of, loaded}
use Rattle.machine.specs.Step.{Going, set_reg, class_of, Class, State, reg, moved, stored, jumped, result, next_pc, place, execute, in_range, Fetched, Refused, Known, known_or, fetched_at, act, next, step_at, step}
use Rattle.machine.proofs.MemoryLaws.{same_number, grants_at, get-put}

-- ---- a step
-- the instruction at the pc is executed
pub step-known : (s : State) (i : Ins) → s.outcome ≡ Going → next s ≡ Known i → step s ≡ execute (class_of i.kind) i s
unfolding step
step-known s i g n = ap (λ o. step_at o s) g ∙ ap (λ f. act f s) n

-- the instruction at the pc is executed by its class
pub step-class : (s : State) (i : Ins) (k : Class) → s.outcome ≡ Going → next s ≡ Known i → class_of i.kind ≡ k → step s ≡ execute k i s
step-class s i k g n c = step-known s i g n ∙ ap (λ k. execute k i s) c

-- a computing instruction
pub step-compute :
    (s : State) (i : Ins) → s.outcome ≡ Going → next s ≡ Known i → class_of i.kind ≡ class.Compute
    → step s ≡ moved (set_reg i.rd (result i.kind i s) s.regs) (next_pc s) s
unfolding execute
step-compute s i g n c = step-class s i class.Compute g n c

-- what is fetched passed both tests
passed : (a b : Bool) (x : Fetched) (i : Ins) → cond (a && b) x Refused ≡ Known i → (a ≡ true) × (b ≡ true)
passed true true x i e = (refl, refl)
passed true false x i e = absurd (cc)
passed false b x i e = absurd (cc)

-- a word that is fetched stands at a multiple of 4
pub fetched_aligned : (m : Memory) (ranges : List (ℕ × ℕ)) (a : ℕ) (i : Ins) → fetched_at m ranges a ≡ Known i → a % 4 ≡ 0
unfolding fetched_at
fetched_aligned m ranges a i e = eqb-true _ _ (passed (a % 4 == 0) _ _ i e).0

-- ---- permissions
-- equal permissions allow the same
pub allows-flags : (need : Flags → Bool) (o p : Option Cell) → option_map (λ c. c.flags) o ≡ option_map (λ c. c.flags) p → allows need o ≡ allows need p
allows-flags need None None e = refl
allows-flags need None (Some c) e = absurd (cc)
allows-flags need (Some b) None e = absurd (cc)
allows-flags need (Some b) (Some c) e = let f : b.flags ≡ c.flags = cc in ap need f

-- accesses are granted by the permissions alone
pub grants-flags : (need : Flags → Bool) (m n : Memory) (a k : ℕ) → ((q : ℕ) → flags_at m q ≡ flags_at n q) → grants need m a k ≡ grants need n a k
unfolding grants
grants-flags need m n a zero h = refl
grants-flags need m n a (suc k) h = rw (allows-flags need (get m (wrap a)) (get n (wrap a)) (h (wrap a)), grants-flags need m n (a + 1) k h)

-- two memories with the same permissions and the same executable bytes below 2^64 fetch alike
pub same_fetch :
    (m n : Memory) (ranges : List (ℕ × ℕ)) (a : ℕ) → ((q : ℕ) → flags_at m q ≡ flags_at n q)
    → ((q : ℕ) → q < 2 ^ 64 → allows (λ f. f.execute) (get m q) ≡ true → get m q ≡ get n q) → fetched_at m ranges a ≡ fetched_at n ranges a
unfolding fetched_at byte_at
same_fetch m n ranges a flags cells =
    let same = grants-flags (λ f. f.execute) m n a 4 flags in
    let word : grants (λ f. f.execute) m a 4 ≡ true → number m a 4 ≡ number n a 4 = λ g. same_number m n a 4 (λ i l. ap byte_in (cells (wrap (a + i)) (omega arith) (grants_at (λ f. f.execute) m a 4 i g l))) in
    shifted (a % 4 == 0) (in_range a ranges) _ _ (λ x. known_or x (decode_of x)) same word where
      shifted :
          (c r : Bool) {x y : ℕ} (g g' : Bool) (d : ℕ → Fetched) → g ≡ g' → (g ≡ true → x ≡ y)
          → cond (c && (r && g)) (d x) Refused ≡ cond (c && (r && g')) (d y) Refused
      shifted true true true g' d e h = rw (← e) (ap d (h refl))
      shifted true true false g' d e h = rw (← e) refl
      shifted true false g g' d e h = refl
      shifted false r g g' d e h = refl

-- a write changes no permission
pub flags-put : (m : Memory) (a n v q : ℕ) → flags_at (put m a n v) q ≡ flags_at m q
flags-put m a n v q = ap (option_map (λ c. c.flags)) (get-put m a n v q) ∙ kept (λ b. cond (nat_lt (offset a q) n) (byte_of v (offset a q)) b) (get m q) where
  kept : (h : ℕ → ℕ) (o : Option Cell) → option_map (λ c. c.flags) (option_map (λ c. with_byte (h c.byte) c) o) ≡ option_map (λ c. c.flags) o
  kept h None = refl
  kept h (Some c) = refl

-- ---- a guard
-- the comparison of a register with its pair, which skips the EBREAK behind it
abbrev pub guard : ℕ → Ins
guard q = ins Beq 0 q (q + 16) (pos 8)

-- a guard goes on behind the EBREAK where both are equal, and to the EBREAK else
pub step-guard :
    (s : State) (q : ℕ) → s.outcome ≡ Going → next s ≡ Known (guard q)
    → step s ≡ cond (reg s q == reg s (q + 16)) (moved s.regs ((s.pc + 8) % 2 ^ 64) s) (moved s.regs (next_pc s) s)
unfolding execute holds jumped
step-guard s q g n =
    let grain : ((s.pc + 8) % 2 ^ 64 % 4 == 0) ≡ true = eq-eqb _ _ (omega (arith, fetched_aligned s.memory s.ranges s.pc _ n)) in
    step-class s (guard q) class.Branch g n refl ∙ rw grain refl

-- ---- accesses that are granted
-- a load that is granted
pub step-load :
    (s : State) (i : Ins) → s.outcome ≡ Going → next s ≡ Known i → class_of i.kind ≡ class.Load
    → grants (λ f. f.read) s.memory (place i s) (width_of i.kind) ≡ true
    → step s ≡ moved (set_reg i.rd (loaded i.kind (number s.memory (place i s) (width_of i.kind))) s.regs) (next_pc s) s
unfolding execute
step-load s i g n c ok = step-class s i class.Load g n c ∙ rw ok refl

-- a store that is granted
pub step-store :
    (s : State) (i : Ins) → s.outcome ≡ Going → next s ≡ Known i → class_of i.kind ≡ class.Store
    → grants (λ c. c.write) s.memory (place i s) (width_of i.kind) ≡ true
    → step s ≡ stored (put s.memory (place i s) (width_of i.kind) (reg s i.rs2)) (next_pc s) s
unfolding execute
step-store s i go n c g = step-class s i class.Store go n c ∙ rw g refl
