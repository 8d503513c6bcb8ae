-- A step of the machine by class, from the registers and the pc alone.
use Rattle.std.proofs.Common.{◌≡◌, ℕ, ◌%◌, Bool, true, false, cond, List, inl, inr, refl, sym, ap, ◌∙◌, arith}
use Rattle.std.proofs.lemmas.Bool.{eq-eqb}
use Rattle.std.specs.Prelude.{◌==◌}
use Rattle.rv_isa.specs.declared.class.Class.TheVariants as class
use Rattle.rv_isa.specs.declared.kind.Kind.{Kind}
use Rattle.rv_isa.specs.declared.kind.Kind.TheVariants.{Jal, Jalr}
use Rattle.machine.specs.Values.{holds}
use Rattle.machine.specs.Step.{State, reg, next_pc, moved, jumped, execute, target, computed_value, Class, Ins, class_of, set_reg}
use Rattle.rv_alu.specs.Steps.{following, linked, branched, jump_target, landed, IsComputing, IsBranching, IsJumping, IsPassing}

-- a step by its class
by_class : (c : Class) (i : Ins) (s : State) → class_of i.kind ≡ c → execute (class_of i.kind) i s ≡ execute c i s
by_class c i s e = ap (λ c. execute c i s) e

-- at equal registers and an equal pc
pub computing_step : (i : Ins) (regs : List ℕ) (pc : ℕ) (value : ℕ) (after : List ℕ) (next : ℕ) → IsComputing (class_of i.kind) → value ≡ computed_value i.kind i pc regs → after ≡ set_reg i.rd value regs → next ≡ following i pc regs → (s : State) → s.regs ≡ regs → s.pc ≡ pc → execute (class_of i.kind) i s ≡ moved after next s
unfolding execute
computing_step i regs pc value after next c v a n s e p = by_class class.Compute i s c ∙ rw (a, v, n, ← e, ← p) refl

pub passing_step : (i : Ins) (regs : List ℕ) (pc : ℕ) (next : ℕ) → IsPassing (class_of i.kind) → next ≡ following i pc regs → (s : State) → s.regs ≡ regs → s.pc ≡ pc → execute (class_of i.kind) i s ≡ moved regs next s
unfolding execute
passing_step i regs pc next c n s e p = by_class class.Fence i s c ∙ rw (n, ← e, ← p) refl

-- a jump to a multiple of 4
jumped_aligned : (regs : List ℕ) (next : ℕ) (s : State) → next % 4 ≡ 0 → jumped regs next s ≡ moved regs next s
unfolding jumped
jumped_aligned regs next s h = let b : (next % 4 == 0) ≡ true = eq-eqb _ _ h in rw b refl

-- a branch that is not taken goes to the next word, and that target is on its grain
taken-or-not : (b : Bool) (regs : List ℕ) (t n : ℕ) (s : State) → n % 4 ≡ 0 → cond b (jumped regs t s) (moved regs n s) ≡ jumped regs (cond b t n) s
taken-or-not true regs t n s h = refl
taken-or-not false regs t n s h = sym (jumped_aligned regs n s h)

pub branching_step : (i : Ins) (regs : List ℕ) (pc : ℕ) (next : ℕ) → IsBranching (class_of i.kind) → next ≡ branched i pc regs → (s : State) → s.regs ≡ regs → s.pc ≡ pc → pc % 4 ≡ 0 → execute (class_of i.kind) i s ≡ jumped regs next s
unfolding execute
branching_step i regs pc next c n s e p g =
    by_class class.Branch i s c
    ∙ rw (n, ← e, ← p) (taken-or-not (holds i.kind (reg s i.rs1) (reg s i.rs2)) s.regs (target i s.pc) (next_pc s) s (omega (arith, g, p)))

-- the two kinds of jump
jump_is : (k : Kind) (i : Ins) (s : State) → class_of k ≡ class.Jump → execute class.Jump i s ≡ jumped (linked i s.pc s.regs) (jump_target k i s.pc s.regs) s
unfolding execute
jump_is Jal i s e = refl
jump_is k i s e = absurd (cc)

jump_reg_is : (k : Kind) (i : Ins) (s : State) → class_of k ≡ class.JumpReg → execute class.JumpReg i s ≡ jumped (linked i s.pc s.regs) (jump_target k i s.pc s.regs) s
unfolding execute
jump_reg_is Jalr i s e = refl
jump_reg_is k i s e = absurd (cc)

jumps : (i : Ins) (s : State) → IsJumping (class_of i.kind) → execute (class_of i.kind) i s ≡ jumped (linked i s.pc s.regs) (landed i s.pc s.regs) s
jumps i s (inl c) = by_class class.Jump i s c ∙ jump_is i.kind i s c
jumps i s (inr c) = by_class class.JumpReg i s c ∙ jump_reg_is i.kind i s c

pub jumping_step : (i : Ins) (regs : List ℕ) (pc : ℕ) (after : List ℕ) (next : ℕ) → IsJumping (class_of i.kind) → after ≡ linked i pc regs → next ≡ landed i pc regs → (s : State) → s.regs ≡ regs → s.pc ≡ pc → execute (class_of i.kind) i s ≡ jumped after next s
jumping_step i regs pc after next c a n s e p = rw (a, n, ← e, ← p) (jumps i s c)
