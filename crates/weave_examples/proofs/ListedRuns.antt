-- Runs computed over a list of instructions: of code without stores, with known instructions. A load takes what the
-- segments of a file have.
use Rattle.std.proofs.Common.{◌≡◌, ℕ, zero, suc, ◌+◌, ◌*◌, ◌/◌, ◌%◌, ◌^◌, Bool, true, false, cond, ◌&&◌, List, [], ◌∷◌, Option, Some, None, refl, sym, ap, ◌∙◌}
use Rattle.std.specs.Prelude.{◌==◌, nat_le}
use Rattle.std.proofs.lemmas.Bool.{eqb-true, and_parts, leb-true}
use Rattle.rv_isa.specs.declared.class.Class.TheVariants as class
use Rattle.machine.specs.declared.outcome.Cause.TheVariants as cause
use Rattle.machine.specs.Cells.{cell_among, number_among}
use Rattle.weave_core.specs.World.{LoadSegment, Flags, Cell, wrap, allows, grants, number, place, width_of, loaded, Outcome, Going, Memory, holds, set_reg, class_of, Class, Ins, State, reg, moved, imm, next_pc, Fetched, Known, HasAt, fetched_at, next, jumped, execute, trapped, step, run, Program, memory_of}
use Rattle.machine.specs.Loading.{ElfFile, loaded_file}
pub use Rattle.qed_model.proofs.Lemmas.{StandFrom, covers_steady}
pub use Rattle.tests.proofs.Lemmas.{IsShapely, known_instruction, zeros_start}
pub use Rattle.machine.proofs.Lemmas.{AllSized, every_all, every_among, found_among, get_among, grants-put, has_not, has_parts, none_among, number-among, number-put_apart, run-last, step-class, step-known, step-load}

-- the instruction at an address, among some that stand one after another
abbrev pub instruction_at : ℕ → List Ins → ℕ → Option Ins
instruction_at base [] a = None
instruction_at base (i ∷ is) a = cond (a == base) (Some i) (instruction_at (base + 4) is a)

-- a class other than load and store
abbrev pub is_simple : Class → Bool
is_simple class.Compute = true
is_simple class.Branch = true
is_simple class.Jump = true
is_simple class.JumpReg = true
is_simple class.End = true
is_simple class.Break = true
is_simple _ = false

abbrev pub is_simple_at : Option Ins → Bool
is_simple_at None = false
is_simple_at (Some i) = is_simple (class_of i.kind)

abbrev pub is_going : Outcome → Bool
is_going Going = true
is_going _ = false

-- what an instruction does, if there is one
abbrev pub go_at : Option Ins → State → State
go_at None s = s
go_at (Some i) s = execute (class_of i.kind) i s

-- some steps, with the instructions of the list
abbrev pub go : ℕ → List Ins → ℕ → State → State
go base is zero s = s
go base is (suc n) s = go base is n (go_at (instruction_at base is s.pc) s)

-- each of the steps starts at an instruction without load or store
abbrev pub is_simple_run : ℕ → List Ins → ℕ → State → Bool
is_simple_run base is zero s = true
is_simple_run base is (suc n) s = is_going s.outcome && (is_simple_at (instruction_at base is s.pc) && is_simple_run base is n (go_at (instruction_at base is s.pc) s))

pub found : (c : ℕ → Fetched) (base : ℕ) (is : List Ins) (a : ℕ) (i : Ins) → HasAt c base is → instruction_at base is a ≡ Some i → c a ≡ Known i
found c base [] a i h e = absurd (cc)
found c base (j ∷ is) a i h e = by (a == base) refl (λ o. found c (base + 4) is a i h.1 o) where
  by : (b : Bool) → (a == base) ≡ b → (instruction_at (base + 4) is a ≡ Some i → c a ≡ Known i) → c a ≡ Known i
  by true t rest =
      let same : Some j ≡ Some i = sym (ap (λ b. cond b (Some j) (instruction_at (base + 4) is a)) t) ∙ e in
      let this : j ≡ i = cc in
      ap c (eqb-true a base t) ∙ h.0 ∙ ap Known this
  by false t rest = rest (sym (ap (λ b. cond b (Some j) (instruction_at (base + 4) is a)) t) ∙ e)

-- the memory and the code ranges are those of the other state
abbrev pub SameCode : State → State → Type 0
SameCode t s = (t.memory ≡ s.memory) × (t.ranges ≡ s.ranges)

either : (b : Bool) (t u s : State) → SameCode t s → SameCode u s → SameCode (cond b t u) s
either true t u s x y = x
either false t u s x y = y

jump_leaves : (regs : List ℕ) (target : ℕ) (s : State) → SameCode (jumped regs target s) s
unfolding jumped
jump_leaves regs target s = either (target % 4 == 0) (moved regs target s) (trapped (cause.Target target) s) s (refl, refl) (refl, refl)

-- an instruction without load or store leaves the memory and the code ranges
leaves : (k : Class) (i : Ins) (s : State) → is_simple k ≡ true → SameCode (execute k i s) s
unfolding execute
leaves class.Compute i s e = (refl, refl)
leaves class.Branch i s e = either (holds i.kind (reg s i.rs1) (reg s i.rs2)) (jumped s.regs ((s.pc + imm i) % 2 ^ 64) s) (moved s.regs (next_pc s) s) s (jump_leaves s.regs ((s.pc + imm i) % 2 ^ 64) s) (refl, refl)
leaves class.Jump i s e = jump_leaves (set_reg i.rd (next_pc s) s.regs) ((s.pc + imm i) % 2 ^ 64) s
leaves class.JumpReg i s e = jump_leaves (set_reg i.rd (next_pc s) s.regs) ((reg s i.rs1 + imm i) % 2 ^ 64 / 2 * 2) s
leaves class.End i s e = (refl, refl)
leaves class.Break i s e = (refl, refl)
leaves _ i s e = absurd (cc)

going : (o : Outcome) → is_going o ≡ true → o ≡ Going
going Going e = refl
going _ e = absurd (cc)

-- if the instructions stand in the code, the run is that of the list
module _ (m : Memory) (ranges : List (ℕ × ℕ)) (base : ℕ) (is : List Ins) (stand : HasAt (fetched_at m ranges) base is) where
  pub step_is :
      (x : Option Ins) (s : State) → instruction_at base is s.pc ≡ x → is_going s.outcome ≡ true → is_simple_at x ≡ true → s.memory ≡ m
      → s.ranges ≡ ranges → (step s ≡ go_at x s) × SameCode (go_at x s) s
  step_is None s e g p n r = absurd (cc)
  step_is (Some i) s e g p n r =
      let here : next s ≡ Known i = ap (λ m. fetched_at m s.ranges s.pc) n ∙ ap (λ r. fetched_at m r s.pc) r ∙ found (fetched_at m ranges) base is s.pc i stand e in
      (step-known s i (going s.outcome g) here, leaves (class_of i.kind) i s p)

  pub run_is : (n : ℕ) (s : State) → is_simple_run base is n s ≡ true → s.memory ≡ m → s.ranges ≡ ranges → run s n ≡ go base is n s
  unfolding run
  run_is zero s p e r = refl
  run_is (suc n) s p e r =
      let x = instruction_at base is s.pc in
      let both = and_parts (is_going s.outcome) (is_simple_at x && is_simple_run base is n (go_at x s)) p in
      let rest = and_parts (is_simple_at x) (is_simple_run base is n (go_at x s)) both.1 in
      let first = step_is x s refl both.0 rest.0 e r in
      ap (λ t. run t n) first.0 ∙ run_is n (go_at x s) rest.1 (first.1.0 ∙ e) (first.1.1 ∙ r)

-- a state of a run that has left the memory of a file as it was
abbrev pub state_of : Program → List ℕ → ℕ → Outcome → State
state_of f regs pc outcome = record { regs = regs; pc = pc; memory = memory_of f.segments; ranges = f.ranges; outcome = outcome }

-- the code of a file with known instructions
pub has_code : (f : ElfFile) → IsShapely f → (a : ℕ) (is : List Ins) → StandFrom f a is → HasAt (fetched_at (memory_of (loaded_file f).segments) (loaded_file f).ranges) a is
has_code f h a [] s = tt
has_code f h a (i ∷ is) s = (known_instruction f h a i s.0, has_code f h (a + 4) is s.1)

-- ---- runs with loads
-- whether an access is granted, by what stands at each address
abbrev pub granted : (Flags → Bool) → (ℕ → Option Cell) → ℕ → ℕ → Bool
granted need c a zero = true
granted need c a (suc n) = allows need (c (wrap a)) && granted need c (a + 1) n

pub grants_among : (ss : List LoadSegment) → AllSized ss → (need : Flags → Bool) (a n : ℕ) → grants need (memory_of ss) a n ≡ granted need (cell_among ss) a n
unfolding grants
grants_among ss sized need a zero = refl
grants_among ss sized need a (suc n) = ap (λ c. allows need c && grants need (memory_of ss) (a + 1) n) (get_among ss (wrap a) sized) ∙ ap (λ b. allows need (cell_among ss (wrap a)) && b) (grants_among ss sized need (a + 1) n)

-- what an instruction of a class does; a load takes what the segments have
abbrev pub does : List LoadSegment → Class → Ins → State → State
does ss class.Load i s = moved (set_reg i.rd (loaded i.kind (number_among ss (place i s) (width_of i.kind))) s.regs) (next_pc s) s
does ss k i s = execute k i s

-- they have all of it, to read
abbrev pub may : List LoadSegment → Class → Ins → State → Bool
may ss class.Load i s = nat_le (place i s + width_of i.kind) (2 ^ 64) && granted (λ f. f.read) (cell_among ss) (place i s) (width_of i.kind)
may ss k i s = is_simple k

abbrev pub does_at : List LoadSegment → Option Ins → State → State
does_at ss None s = s
does_at ss (Some i) s = does ss (class_of i.kind) i s

abbrev pub may_at : List LoadSegment → Option Ins → State → Bool
may_at ss None s = false
may_at ss (Some i) s = may ss (class_of i.kind) i s

abbrev pub go_loading : List LoadSegment → ℕ → List Ins → ℕ → State → State
go_loading ss base is zero s = s
go_loading ss base is (suc n) s = go_loading ss base is n (does_at ss (instruction_at base is s.pc) s)

abbrev pub is_loading_run : List LoadSegment → ℕ → List Ins → ℕ → State → Bool
is_loading_run ss base is zero s = true
is_loading_run ss base is (suc n) s = is_going s.outcome && (may_at ss (instruction_at base is s.pc) s && is_loading_run ss base is n (does_at ss (instruction_at base is s.pc) s))

module _ (ss : List LoadSegment) (sized : AllSized ss) (ranges : List (ℕ × ℕ)) (base : ℕ) (is : List Ins) (stand : HasAt (fetched_at (memory_of ss) ranges) base is) where
  does_there :
      (k : Class) (i : Ins) (s : State) → s.outcome ≡ Going → next s ≡ Known i → class_of i.kind ≡ k → s.memory ≡ memory_of ss → may ss k i s ≡ true
      → (step s ≡ does ss k i s) × SameCode (does ss k i s) s
  does_there class.Load i s g n c m ok =
      let a = place i s in
      let w = width_of i.kind in
      let both = and_parts (nat_le (a + w) (2 ^ 64)) (granted (λ f. f.read) (cell_among ss) a w) ok in
      let can : grants (λ f. f.read) s.memory a w ≡ true = ap (λ m. grants (λ f. f.read) m a w) m ∙ grants_among ss sized (λ f. f.read) a w ∙ both.1 in
      let is : number s.memory a w ≡ number_among ss a w = ap (λ m. number m a w) m ∙ number-among ss a w sized (leb-true (a + w) (2 ^ 64) both.0) in
      (step-load s i g n c can ∙ ap (λ x. moved (set_reg i.rd (loaded i.kind x) s.regs) (next_pc s) s) is, (refl, refl))
  does_there k i s g n c m ok = (step-class s i k g n c, leaves k i s ok)

  does_is :
      (x : Option Ins) (s : State) → instruction_at base is s.pc ≡ x → is_going s.outcome ≡ true → may_at ss x s ≡ true → s.memory ≡ memory_of ss
      → s.ranges ≡ ranges → (step s ≡ does_at ss x s) × SameCode (does_at ss x s) s
  does_is None s e g p m r = absurd (cc)
  does_is (Some i) s e g p m r =
      let here : next s ≡ Known i = ap (λ m. fetched_at m s.ranges s.pc) m ∙ ap (λ r. fetched_at (memory_of ss) r s.pc) r ∙ found (fetched_at (memory_of ss) ranges) base is s.pc i stand e in
      does_there (class_of i.kind) i s (going s.outcome g) here refl m p

  pub loading_run : (n : ℕ) (s : State) → is_loading_run ss base is n s ≡ true → s.memory ≡ memory_of ss → s.ranges ≡ ranges → run s n ≡ go_loading ss base is n s
  unfolding run
  loading_run zero s p m r = refl
  loading_run (suc n) s p m r =
      let x = instruction_at base is s.pc in
      let both = and_parts (is_going s.outcome) (may_at ss x s && is_loading_run ss base is n (does_at ss x s)) p in
      let rest = and_parts (may_at ss x s) (is_loading_run ss base is n (does_at ss x s)) both.1 in
      let first = does_is x s refl both.0 rest.0 m r in
      ap (λ t. run t n) first.0 ∙ loading_run n (does_at ss x s) rest.1 (first.1.0 ∙ m) (first.1.1 ∙ r)
