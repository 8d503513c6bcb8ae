-- Among honest words only a check leads to an EBREAK.
use Rattle.std.proofs.Common.{◌≡◌, ℕ, zero, suc, ◌+◌, ◌*◌, ◌%◌, ◌^◌, ◌<◌, Bool, true, false, cond, List, [], ◌∷◌, length, refl, sym, ap, ◌∙◌, subst, arith}
use Rattle.std.specs.Prelude.{◌==◌}
use Rattle.std.proofs.lemmas.Bool.{false≢true}
use Rattle.rv_isa.specs.declared.kind.Kind.TheVariants.{Beq}
use Rattle.rv_isa.specs.declared.class.Class.TheVariants as class
use Rattle.machine.specs.Memory.{grants, number, put}
use Rattle.machine.specs.Values.{holds, width_of, loaded}
use Rattle.machine.specs.declared.outcome.Outcome.TheVariants.{Going, Ended, Fired, Trapped}
use Rattle.machine.specs.Step.{set_reg, class_of, Class, Ins, State, reg, place, moved, stored, jumped, trapped, Fetched, Known, HasAt, imm, next_pc, execute, step, ebreak}
use Rattle.qed_model.specs.Weave.Placed.{instructions_from}
use Rattle.machine.specs.Walks.{Over}
use Rattle.machine.proofs.Lemmas.{known_at, step-class}
use Rattle.machine.specs.declared.outcome.Cause.TheVariants as cause
use Rattle.weave_core.proofs.Lemmas.{equal_holds, step-branch, step-jump}
use Rattle.weave_core.specs.Lock.{comparison, word_check}
use Rattle.passes.specs.Honest.{NoBreak, sign_check, Checks, pairs, words, signs, HonestAs, AllHonest}
use Rattle.passes.specs.Alone.{Differs, pair_differs, word_differs, sign_differs, ChecksAlone}

-- the facts on one word of a list
pub record Word (c : ℕ → Fetched) (a : ℕ) : Type 0 where
  pub ins : Ins
  pub known : c a ≡ Known ins
  pub honest : HonestAs (class_of ins.kind) c a ins

word_of : (c : ℕ → Fetched) (is : List Ins) (a k : ℕ) → HasAt c a is → AllHonest c a is → k < length is → Word c (a + 4 * k)
word_of c [] a k h g l = absurd (omega arith)
word_of c (i ∷ is) a zero h g l = let e : a ≡ a + 4 * 0 = omega arith in subst (Word c) e (record { ins = i; known = h.0; honest = g.0 })
word_of c (i ∷ is) a (suc k) h g l = let e : a + 4 + 4 * k ≡ a + 4 * suc k = omega arith in subst (Word c) e (word_of c is (a + 4) k h.1 g.1 (omega (arith, l)))

-- ---- the target of a step
-- an access that is granted goes on
granted : (b : Bool) (x y : State) (p : ℕ) → (y.outcome ≡ Going → ⊥) → (cond b x y).outcome ≡ Going → x.pc ≡ p → (cond b x y).pc ≡ p
granted true x y p ne g e = e
granted false x y p ne g e = absurd (ne g)

-- the pc behind a word that goes on
on_pc :
    (k : Class) (i : Ins) (s : State) → (execute k i s).outcome ≡ Going → (k ≡ class.Branch → ⊥) → (k ≡ class.Jump → ⊥) → (k ≡ class.JumpReg → ⊥)
    → (execute k i s).pc ≡ next_pc s
unfolding execute
on_pc class.Compute i s g b j r = refl
on_pc class.Fence i s g b j r = refl
on_pc class.Load i s g b j r = granted (grants (λ f. f.read) s.memory (place i s) (width_of i.kind)) (moved (set_reg i.rd (loaded i.kind (number s.memory (place i s) (width_of i.kind))) s.regs) (next_pc s) s) (trapped (cause.Load (place i s)) s) (next_pc s) (λ e. absurd (cc)) g refl
on_pc class.Store i s g b j r = granted (grants (λ f. f.write) s.memory (place i s) (width_of i.kind)) (stored (put s.memory (place i s) (width_of i.kind) (reg s i.rs2)) (next_pc s) s) (trapped (cause.Store (place i s)) s) (next_pc s) (λ e. absurd (cc)) g refl
on_pc class.Branch i s g b j r = absurd (b refl)
on_pc class.Jump i s g b j r = absurd (j refl)
on_pc class.JumpReg i s g b j r = absurd (r refl)
on_pc o i s g b j r = absurd (cc)

-- a jump that goes on is at its target
jumped_pc : (regs : List ℕ) (t : ℕ) (s : State) → (jumped regs t s).outcome ≡ Going → (jumped regs t s).pc ≡ t
unfolding jumped
jumped_pc regs t s g = granted (t % 4 == 0) (moved regs t s) (trapped (cause.Target t) s) t (λ e. absurd (cc)) g refl

-- ---- a comparison that fails
module _ (c : ℕ → Fetched) (s : State) (i : Ins) where
  fails : (j : Ins) → i ≡ j → j.kind ≡ Beq → holds i.kind (reg s i.rs1) (reg s i.rs2) ≡ false → reg s j.rs1 ≡ reg s j.rs2 → ⊥
  fails j e k lacks same =
      let there : holds j.kind (reg s j.rs1) (reg s j.rs2) ≡ false = subst (λ (x : Ins). holds x.kind (reg s x.rs1) (reg s x.rs2) ≡ false) e lacks in
      let beq : holds Beq (reg s j.rs1) (reg s j.rs2) ≡ false = subst (λ q. holds q (reg s j.rs1) (reg s j.rs2) ≡ false) k there in
      false≢true (sym beq ∙ equal_holds (reg s j.rs1) (reg s j.rs2) same)

  differs : Checks c s.pc i → holds i.kind (reg s i.rs1) (reg s i.rs2) ≡ false → Differs c s
  differs (pairs q e one low) lacks = pair_differs q one low (fails (comparison q) e refl lacks)
  differs (words b e at vs) lacks = word_differs b at vs (fails word_check e refl lacks)
  differs (signs b t e at es) lacks = sign_differs b t at es (fails sign_check e refl lacks)

  module _ (o : Over c s) (known : c s.pc ≡ Known i) (near : s.pc + 8 < 2 ^ 64) (leaps : class_of i.kind ≡ class.JumpReg → NoBreak c (step s).pc) (going : (step s).outcome ≡ Going) (brk : c (step s).pc ≡ ebreak) where
    -- the step by its class
    stepped : (k : Class) → class_of i.kind ≡ k → step s ≡ execute k i s
    stepped k e = step-class s i k o.going (known_at c s i o known) e

    -- if the step goes on to the next word, an EBREAK stands there
    behind : (k : Class) → class_of i.kind ≡ k → (k ≡ class.Branch → ⊥) → (k ≡ class.Jump → ⊥) → (k ≡ class.JumpReg → ⊥) → NoBreak c (s.pc + 4) → ⊥
    behind k e b j r n =
        let x = stepped k e in
        let p : (step s).pc ≡ next_pc s = ap (λ t. t.pc) x ∙ on_pc k i s (ap (λ t. t.outcome) (sym x) ∙ going) b j r in
        let q : next_pc s ≡ s.pc + 4 = omega (arith, near) in
        n (ap c (sym (p ∙ q)) ∙ brk)

    target : (regs : List ℕ) (t : ℕ) → step s ≡ jumped regs t s → NoBreak c t → ⊥
    target regs t x n = n (ap c (sym (ap (λ y. y.pc) x ∙ jumped_pc regs t s (ap (λ y. y.outcome) (sym x) ∙ going))) ∙ brk)

    branched : class_of i.kind ≡ class.Branch → HonestAs class.Branch c s.pc i → Differs c s
    branched e h =
        elim (holds i.kind (reg s i.rs1) (reg s i.rs2)) as (λ b. holds i.kind (reg s i.rs1) (reg s i.rs2) ≡ b → Differs c s) [
          | true ↦ λ t. absurd (target s.regs ((s.pc + imm i) % 2 ^ 64) (step-branch s i o.going (known_at c s i o known) e ∙ ap (λ b. cond b (jumped s.regs ((s.pc + imm i) % 2 ^ 64) s) (moved s.regs (next_pc s) s)) t) h.0)
          | false ↦ λ f.
              let x = step-branch s i o.going (known_at c s i o known) e ∙ ap (λ b. cond b (jumped s.regs ((s.pc + imm i) % 2 ^ 64) s) (moved s.regs (next_pc s) s)) f in
              let q : next_pc s ≡ s.pc + 4 = omega (arith, near) in
              differs (h.1 (ap c (sym (ap (λ y. y.pc) x ∙ q)) ∙ brk)) f
        ] refl

    by_class : (k : Class) → class_of i.kind ≡ k → HonestAs k c s.pc i → Differs c s
    unfolding execute
    by_class class.Compute e h = absurd (behind class.Compute e (λ x. absurd (cc)) (λ x. absurd (cc)) (λ x. absurd (cc)) h)
    by_class class.Fence e h = absurd (behind class.Fence e (λ x. absurd (cc)) (λ x. absurd (cc)) (λ x. absurd (cc)) h)
    by_class class.Load e h = absurd (behind class.Load e (λ x. absurd (cc)) (λ x. absurd (cc)) (λ x. absurd (cc)) h)
    by_class class.Store e h = absurd (behind class.Store e (λ x. absurd (cc)) (λ x. absurd (cc)) (λ x. absurd (cc)) h)
    by_class class.Branch e h = branched e h
    by_class class.Jump e h = absurd (target (set_reg i.rd (next_pc s) s.regs) ((s.pc + imm i) % 2 ^ 64) (step-jump s i o.going (known_at c s i o known) e) h)
    by_class class.JumpReg e h = absurd (leaps e brk)
    by_class class.End e h = let x : Ended ≡ Going = ap (λ t. t.outcome) (sym (stepped class.End e)) ∙ going in absurd (cc)
    by_class class.Break e h = let x : Fired ≡ Going = ap (λ t. t.outcome) (sym (stepped class.Break e)) ∙ going in absurd (cc)
    by_class class.Illegal e h = let x : Trapped (cause.Word 0) s.pc ≡ Going = ap (λ t. t.outcome) (sym (stepped class.Illegal e)) ∙ going in absurd (cc)

pub checks_alone : ChecksAlone
checks_alone far items law c entry a k s x going brk =
    let h = law c entry a x.near x.words x.behind x.entries in
    let w = subst (Word c) (sym x.at) (word_of c (instructions_from far entry a items) a k x.words h.each x.inside) in
    by_class c s w.ins x.over w.known (near_of x.at x.inside x.near) (λ e. x.leaps w.ins w.known e) going brk (class_of w.ins.kind) refl w.honest where
      near_of :
          s.pc ≡ a + 4 * k → k < length (instructions_from far entry a items) → a + 4 * length (instructions_from far entry a items) + 64 < 2 ^ 64
          → s.pc + 8 < 2 ^ 64
      near_of e l n = omega (arith, e, l, n)
