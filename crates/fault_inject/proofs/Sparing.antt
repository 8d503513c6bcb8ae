-- A step that touches no byte of a word does the same if that word was changed, and leaves the change.
use Rattle.std.proofs.Common.{◌≡◌, ◌⊎◌, inl, inr, ℕ, zero, suc, ◌+◌, ◌%◌, ◌^◌, ◌<◌, ◌≤◌, Bool, true, false, cond, List, refl, sym, ap, ◌∙◌, arith}
use Rattle.std.proofs.lemmas.Bool.{cases_lt}
use Rattle.std.specs.Prelude.{◌==◌, nat_lt}
use Rattle.std.specs.Option.{option_map}
use Rattle.rv_isa.specs.declared.class.Class.TheVariants as class
use Rattle.machine.specs.declared.place.Place.TheVariants.{Word}
use Rattle.machine.specs.declared.outcome.Outcome.{Outcome}
use Rattle.machine.specs.declared.outcome.Cause.TheVariants as cause
use Rattle.machine.specs.Memory.{Memory, with_byte, byte_of, grants, number, offset, put, wrap, get}
use Rattle.machine.specs.Step.{State, Fetched, Refused, Unknown, Known, fetched_at, act, execute, jumped, moved, next, next_pc, place, reg, run, step, step_at, stored, target, trapped, Class, Ins, class_of, set_reg}
use Rattle.machine.specs.Struck.{struck}
use Rattle.machine.specs.Values.{holds, loaded, width_of}
use Rattle.weave_core.proofs.Lemmas.{width_le}
use Rattle.machine.proofs.Lemmas.{Apart, same_memory, get-put, get-put_outside, grants-put, number-put_apart}
use Rattle.rv_step.specs.Known.{instruction_of}
use Rattle.fault_inject.specs.Touched.{touched_as, touched_by, IsFar, IsSpared, Going, Ended, Fired, Trapped}

-- ---- memory
-- two writes, neither at the cell of the other, in either order
swapped :
    (m : Memory) (a x p w v q : ℕ) → (8 ≤ offset a q) ⊎ (w ≤ offset p q)
    → get (put (put m a 8 x) p w v) q ≡ get (put (put m p w v) a 8 x) q
swapped m a x p w v q (inl far) =
    get-put (put m a 8 x) p w v q ∙ ap (option_map (λ c. with_byte (cond (nat_lt (offset p q) w) (byte_of v (offset p q)) c.byte) c)) (get-put_outside m a 8 x q far)
    ∙ sym (get-put m p w v q) ∙ sym (get-put_outside (put m p w v) a 8 x q far)
swapped m a x p w v q (inr far) =
    get-put_outside (put m a 8 x) p w v q far ∙ get-put m a 8 x q
    ∙ ap (option_map (λ c. with_byte (cond (nat_lt (offset a q) 8) (byte_of x (offset a q)) c.byte) c)) (sym (get-put_outside m p w v q far))
    ∙ sym (get-put (put m p w v) a 8 x q)

-- a byte that is written is not one of the word's
apart_at : (a p w q : ℕ) → a < 2 ^ 64 → p < 2 ^ 64 → Apart a 8 p w → (offset p q < w) ⊎ (w ≤ offset p q) → (8 ≤ offset a q) ⊎ (w ≤ offset p q)
apart_at a p w q ha hp apart (inr far) = inr far
apart_at a p w q ha hp apart (inl here) =
    let same : offset a (wrap (p + offset p q)) ≡ offset a q = omega arith in
    let far = apart (offset p q) here in
    inl (omega (arith, far, same))

put_swap : (m : Memory) (a x p w v : ℕ) → a < 2 ^ 64 → p < 2 ^ 64 → Apart a 8 p w → put (put m a 8 x) p w v ≡ put (put m p w v) a 8 x
put_swap m a x p w v ha hp apart = same_memory _ _ (λ q. swapped m a x p w v q (apart_at a p w q ha hp apart (cases_lt (offset p q) w)))

-- an access has at most eight bytes
access_far : (a p : ℕ) (i : Ins) → IsFar a p 8 → Apart a 8 p (width_of i.kind)
access_far a p i far j l = let width = width_le i.kind in far j (omega (arith, width, l))

-- ---- one step
-- a word of the state is changed
abbrev with_word : ℕ → ℕ → State → State
with_word a x s = record { regs = s.regs; pc = s.pc; memory = put s.memory a 8 x; ranges = s.ranges; outcome = s.outcome }

either : (b : Bool) (a x : ℕ) (s t : State) → cond b (with_word a x s) (with_word a x t) ≡ with_word a x (cond b s t)
either true a x s t = refl
either false a x s t = refl

spared_jump : (a x : ℕ) (regs : List ℕ) (to : ℕ) (s : State) → jumped regs to (with_word a x s) ≡ with_word a x (jumped regs to s)
unfolding jumped
spared_jump a x regs to s = either (to % 4 == 0) a x (moved regs to s) (trapped (cause.Target to) s)

spared_load : (a x : ℕ) (i : Ins) (s : State) → Apart a 8 (place i s) (width_of i.kind) → execute class.Load i (with_word a x s) ≡ with_word a x (execute class.Load i s)
unfolding execute
spared_load a x i s apart =
    let p = place i s in
    let w = width_of i.kind in
    rw (grants-put (λ f. f.read) s.memory a 8 x p w, number-put_apart s.memory a 8 x p w apart)
    (either (grants (λ f. f.read) s.memory p w) a x (moved (set_reg i.rd (loaded i.kind (number s.memory p w)) s.regs) (next_pc s) s) (trapped (cause.Load p) s))

spared_store : (a x : ℕ) (i : Ins) (s : State) → a < 2 ^ 64 → Apart a 8 (place i s) (width_of i.kind) → execute class.Store i (with_word a x s) ≡ with_word a x (execute class.Store i s)
unfolding execute
spared_store a x i s ha apart =
    let p = place i s in
    let w = width_of i.kind in
    rw (grants-put (λ f. f.write) s.memory a 8 x p w, put_swap s.memory a x p w (reg s i.rs2) ha (omega arith) apart)
    (either (grants (λ f. f.write) s.memory p w) a x (stored (put s.memory p w (reg s i.rs2)) (next_pc s) s) (trapped (cause.Store p) s))

spared_branch : (a x : ℕ) (i : Ins) (s : State) (b : Bool) → cond b (jumped s.regs (target i s.pc) (with_word a x s)) (moved s.regs (next_pc s) (with_word a x s)) ≡ with_word a x (cond b (jumped s.regs (target i s.pc) s) (moved s.regs (next_pc s) s))
spared_branch a x i s true = spared_jump a x s.regs (target i s.pc) s
spared_branch a x i s false = refl

spared_execute : (a x : ℕ) (k : Class) (i : Ins) (s : State) → a < 2 ^ 64 → IsFar a (touched_as k i s) 8 → execute k i (with_word a x s) ≡ with_word a x (execute k i s)
unfolding execute
spared_execute a x class.Compute i s ha far = refl
spared_execute a x class.Fence i s ha far = refl
spared_execute a x class.Load i s ha far = spared_load a x i s (access_far a (place i s) i far)
spared_execute a x class.Store i s ha far = spared_store a x i s ha (access_far a (place i s) i far)
spared_execute a x class.Branch i s ha far = spared_branch a x i s (holds i.kind (reg s i.rs1) (reg s i.rs2))
spared_execute a x class.Jump i s ha far = spared_jump a x _ _ s
spared_execute a x class.JumpReg i s ha far = spared_jump a x _ _ s
spared_execute a x class.End i s ha far = refl
spared_execute a x class.Break i s ha far = refl
spared_execute a x class.Illegal i s ha far = refl

spared_act : (a x : ℕ) (f : Fetched) (s : State) → a < 2 ^ 64 → IsFar a (touched_by (instruction_of f) s) 8 → act f (with_word a x s) ≡ with_word a x (act f s)
spared_act a x Refused s ha far = refl
spared_act a x (Unknown w) s ha far = refl
spared_act a x (Known i) s ha far = spared_execute a x (class_of i.kind) i s ha far

-- the instruction fetched does not depend on the word
spared_next : (a x : ℕ) (s : State) → IsFar a s.pc 4 → next (with_word a x s) ≡ next s
unfolding fetched_at
spared_next a x s far = rw (grants-put (λ f. f.execute) s.memory a 8 x s.pc 4, number-put_apart s.memory a 8 x s.pc 4 far) refl

spared_at : (a x : ℕ) (o : Outcome) (s : State) → a < 2 ^ 64 → IsSpared a s → step_at o (with_word a x s) ≡ with_word a x (step_at o s)
spared_at a x Going s ha is = ap (λ f. act f (with_word a x s)) (spared_next a x s is.fetched) ∙ spared_act a x (next s) s ha is.touched
spared_at a x Ended s ha is = refl
spared_at a x Fired s ha is = refl
spared_at a x (Trapped c pc) s ha is = refl

spared_step : (a x : ℕ) (s : State) → a < 2 ^ 64 → IsSpared a s → step (struck (Word a) x s) ≡ struck (Word a) x (step s)
unfolding step struck
spared_step a x s ha is = spared_at a x s.outcome s ha is

-- ---- steps
pub spared_run : (a x : ℕ) (s : State) (n : ℕ) → a < 2 ^ 64 → ((k : ℕ) → k < n → IsSpared a (run s k)) → run (struck (Word a) x s) n ≡ struck (Word a) x (run s n)
unfolding run
spared_run a x s zero ha are = refl
spared_run a x s (suc n) ha are =
    ap (λ t. run t n) (spared_step a x s ha (are 0 (omega arith))) ∙ spared_run a x (step s) n ha (λ k l. are (suc k) (omega (arith, l)))
