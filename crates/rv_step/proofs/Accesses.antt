-- Loads and stores of a hart in a memory, and instructions that stop it.
use Rattle.std.proofs.Common.{◌≡◌, ℕ, Bool, true, false, cond, Some, None, refl, sym, ap, ◌∙◌, subst}
use Rattle.rv_isa.specs.declared.class.Class.TheVariants as class
use Rattle.rv_isa.specs.declared.kind.Kind.{Kind}
use Rattle.machine.specs.declared.outcome.Cause.TheVariants as cause
use Rattle.machine.specs.declared.outcome.Outcome.TheVariants.{Ended, Fired}
use Rattle.machine.specs.Memory.{Memory, grants, number, put}
use Rattle.machine.specs.Values.{loaded, width_of}
use Rattle.machine.specs.Step.{State, computed_value, execute, moved, next_pc, place, stopped, stored, trapped, Class, Ins, class_of, set_reg}
use Rattle.mem_image.specs.Access.{allowed_number}
use Rattle.rv_step.specs.Known.{at_state}
use Rattle.rv_step.specs.Harts.{HartState, with_memory, LeadsIn}
use Rattle.rv_step.specs.Slipped.{stores}

-- ---- by the class
pub by_class : (i : Ins) (h k : HartState) (m : Memory) (c d : Class) (f : State → State) → c ≡ d → ((s : State) → execute d i s ≡ f s) → LeadsIn f h m k m → LeadsIn (execute c i) h m k m
by_class i h k m c d f e is led = led ∙ ap (λ s. at_state s (with_memory h m)) (sym (ap (λ x. execute x i (with_memory h m).state) e ∙ is (with_memory h m).state))

pub at_end : (i : Ins) (s : State) → execute class.End i s ≡ stopped Ended s
unfolding execute
at_end i s = refl

pub at_break : (i : Ins) (s : State) → execute class.Break i s ≡ stopped Fired s
unfolding execute
at_break i s = refl

pub at_illegal : (i : Ins) (s : State) → execute class.Illegal i s ≡ trapped (cause.Word 0) s
unfolding execute
at_illegal i s = refl

-- ---- computing
pub computes : (i : Ins) (k : Kind) (s : State) (v : ℕ) → i.kind ≡ k → class_of k ≡ class.Compute → v ≡ computed_value k i s.pc s.regs → moved (set_reg i.rd v s.regs) (next_pc s) s ≡ execute (class_of i.kind) i s
unfolding execute
computes i k s v same is value =
    let by : class_of i.kind ≡ class.Compute = ap class_of same ∙ is in
    let here : v ≡ computed_value i.kind i s.pc s.regs = value ∙ ap (λ x. computed_value x i s.pc s.regs) (sym same) in
    ap (λ x. moved (set_reg i.rd x s.regs) (next_pc s) s) here ∙ sym (ap (λ c. execute c i s) by)

-- ---- loads
read_some : (t : Bool) (v n : ℕ) (f : ℕ → State) (y : State) → Some v ≡ cond t (Some n) None → f v ≡ cond t (f n) y
read_some true v n f y e = let same : v ≡ n = cc in ap f same
read_some false v n f y e = absurd (cc)

read_none : (t : Bool) (n : ℕ) (x y : State) → None ≡ cond t (Some n) None → y ≡ cond t x y
read_none true n x y e = absurd (cc)
read_none false n x y e = refl

-- the memory n is m, in which the page was attended to
pub load_reads :
    (i : Ins) (h k : HartState) (m n : Memory) (a w v x : ℕ) → n ≡ m → a ≡ place i (with_memory h n).state → w ≡ width_of i.kind → x ≡ loaded i.kind v
    → Some v ≡ allowed_number (λ f. f.read) n a w → LeadsIn (λ s. moved (set_reg i.rd x s.regs) (next_pc s) s) h n k n → LeadsIn (execute class.Load i) h m k n
unfolding execute
load_reads i h k m n a w v x same at wide is read led =
    let s : State = (with_memory h n).state in
    let there : Some v ≡ allowed_number (λ f. f.read) n (place i s) (width_of i.kind) = rw (at, wide) at read in
    let moves : ℕ → State = λ u. moved (set_reg i.rd (loaded i.kind u) s.regs) (next_pc s) s in
    let here : LeadsIn (execute class.Load i) h n k n =
    led
    ∙ ap (λ u. at_state (moved (set_reg i.rd u s.regs) (next_pc s) s) (with_memory h n)) is
    ∙ ap (λ t. at_state t (with_memory h n)) (read_some (grants (λ f. f.read) n (place i s) (width_of i.kind)) v (number n (place i s) (width_of i.kind)) moves (trapped (cause.Load (place i s)) s) there) in
    subst (λ r. LeadsIn (execute class.Load i) h r k n) same here

pub load_traps :
    (i : Ins) (h k : HartState) (m n : Memory) (a w : ℕ) → n ≡ m → a ≡ place i (with_memory h n).state → w ≡ width_of i.kind → None ≡ allowed_number (λ f. f.read) n a w
    → LeadsIn (trapped (cause.Load a)) h n k n → LeadsIn (execute class.Load i) h m k n
unfolding execute
load_traps i h k m n a w same at wide read led =
    let s : State = (with_memory h n).state in
    let there : None ≡ allowed_number (λ f. f.read) n (place i s) (width_of i.kind) = rw (at, wide) at read in
    let here : LeadsIn (execute class.Load i) h n k n =
    led
    ∙ ap (λ u. at_state (trapped (cause.Load u) s) (with_memory h n)) at
    ∙ ap (λ t. at_state t (with_memory h n)) (read_none (grants (λ f. f.read) n (place i s) (width_of i.kind)) (number n (place i s) (width_of i.kind)) (moved (set_reg i.rd (loaded i.kind (number n (place i s) (width_of i.kind))) s.regs) (next_pc s) s) (trapped (cause.Load (place i s)) s) there) in
    subst (λ r. LeadsIn (execute class.Load i) h r k n) same here

-- ---- stores
pub taken : (t : Bool) (x y : State) → t ≡ true → x ≡ cond t x y
taken true x y e = refl
taken false x y e = absurd (cc)

left : (t : Bool) (x y : State) → t ≡ false → y ≡ cond t x y
left true x y e = absurd (cc)
left false x y e = refl

written_as : (d : Bool) (x y n : Memory) → d ≡ true → n ≡ cond d x y → n ≡ x
written_as true x y n e h = h
written_as false x y n e h = absurd (cc)

kept_as : (d : Bool) (x y n : Memory) → d ≡ false → n ≡ cond d x y → n ≡ y
kept_as true x y n e h = absurd (cc)
kept_as false x y n e h = h

-- o is what the write left
pub store_writes :
    (i : Ins) (h k : HartState) (m o : Memory) (a w v : ℕ) (d : Bool) → w ≡ width_of i.kind → d ≡ grants (λ f. f.write) m a w → o ≡ cond d (put m a w v) m → d ≡ true
    → LeadsIn (λ s. moved s.regs (next_pc s) s) h o k o → LeadsIn (stores i a v) h m k o
store_writes i h k m o a w v d wide granted written on led =
    let s : State = (with_memory h m).state in
    let granting : grants (λ f. f.write) m a (width_of i.kind) ≡ true = sym (rw wide at granted) ∙ on in
    let wrote : o ≡ put m a (width_of i.kind) v = rw wide at (written_as d (put m a w v) m o on written) in
    led
    ∙ ap (λ u. at_state (stored u (next_pc s) s) (with_memory h m)) wrote
    ∙ ap (λ t. at_state t (with_memory h m)) (taken (grants (λ f. f.write) m a (width_of i.kind)) (stored (put m a (width_of i.kind) v) (next_pc s) s) (trapped (cause.Store a) s) granting)

pub store_traps :
    (i : Ins) (h k : HartState) (m o : Memory) (a w v : ℕ) (d : Bool) → w ≡ width_of i.kind → d ≡ grants (λ f. f.write) m a w → o ≡ cond d (put m a w v) m → d ≡ false
    → LeadsIn (trapped (cause.Store a)) h o k o → LeadsIn (stores i a v) h m k o
store_traps i h k m o a w v d wide granted written off led =
    let s : State = (with_memory h m).state in
    let shut : grants (λ f. f.write) m a (width_of i.kind) ≡ false = sym (rw wide at granted) ∙ off in
    let kept : o ≡ m = kept_as d (put m a w v) m o off written in
    let there : LeadsIn (trapped (cause.Store a)) h m k m = subst (λ r. LeadsIn (trapped (cause.Store a)) h r k r) kept led in
    let here : LeadsIn (stores i a v) h m k m =
    there
    ∙ ap (λ t. at_state t (with_memory h m)) (left (grants (λ f. f.write) m a (width_of i.kind)) (stored (put m a (width_of i.kind) v) (next_pc s) s) (trapped (cause.Store a) s) shut) in
    subst (λ r. LeadsIn (stores i a v) h m k r) (sym kept) here
