-- A window on the code: the words in it, and that a step leaves it.
use Rattle.std.proofs.Common.{◌≡◌, ℕ, ◌+◌, ◌%◌, ◌^◌, ◌<◌, Bool, true, false, cond, ◌&&◌, List, Option, Some, None, refl, sym, ap, ◌∙◌, subst, arith}
use Rattle.std.specs.Prelude.{◌==◌, ◌-◌, length}
use Rattle.std.proofs.Math.ListN.{replicate, get_or}
use Rattle.std.proofs.lemmas.List.Elements.{All-replicate}
use Rattle.std.proofs.lemmas.Bool.{eq-eqb, eqb-true}
use Rattle.rv_isa.specs.declared.class.Class.TheVariants as class
use Rattle.machine.specs.Memory.{Memory, grants, number, put}
use Rattle.machine.specs.Program.{LoadSegment}
use Rattle.machine.specs.Values.{holds, width_of}
use Rattle.machine.specs.Step.{State, Fetched, Refused, Unknown, Known, known_or, fetched_at, reg, place, target, in_range, jumped, execute, act, next, step, step_at, Ins, Class, class_of}
use Rattle.mem_image.specs.Segments.{number_in}
use Rattle.mem_image.specs.Fixed.{IsFixedCode}
use Rattle.mem_image.proofs.FixedLaws.{fixed_number, fixed_put}
use Rattle.machine.specs.declared.outcome.Outcome.{Outcome}
use Rattle.machine.specs.declared.outcome.Outcome.TheVariants.{Going}
use Rattle.rv_step.specs.Harts.{HartState, with_memory}
use Rattle.rv_step.specs.Known.{does_step, state_word}
use Rattle.rv_step.specs.Windows.{IsIn, HasWord, IsKept, IsWindow, StandsFixed, IsHeld, IsTable, IsKnown}
use Rattle.rv_step.specs.declared.table.Entry.{Entry}
use Rattle.rv_step.specs.declared.window.Window.{Window}
use Rattle.rv_step.proofs.Fetching.{fetched_some}

-- ---- a word
all_three : (a b c : Bool) (n w : ℕ) → a ≡ true → b ≡ true → cond c (Some n) None ≡ Some w → cond (a && (b && c)) (Some n) None ≡ Some w
all_three true true c n w x y e = e
all_three true false c n w x y e = absurd (cc)
all_three false b c n w x y e = absurd (cc)

-- the word at an address where it is fixed
pub fixed_word : (s : State) (a w : ℕ) → StandsFixed s a w → a % 4 ≡ 0 → state_word s a ≡ Some w
fixed_word s a w h grain = all_three (a % 4 == 0) (in_range a s.ranges) (grants (λ f. f.execute) s.memory a 4) (number s.memory a 4) w (eq-eqb _ _ grain) h.range (fixed_number s.memory h.code a h.fixed h.inside ∙ ap Some h.word)

-- a word of the window is
pub window_fixed : (s : State) (w : Window) (code : LoadSegment) (a n : ℕ) → IsWindow s w → w.code ≡ Some code → IsIn w a → n ≡ number_in code.bytes (a - code.address) 4 → StandsFixed s a n
window_fixed s w code a n h is i e = record {
  code = code;
  fixed = subst (IsKept s) is h.fixed;
  inside = subst (λ o. HasWord o a) is (h.inside.bytes a i);
  range = h.words a i;
  word = sym e;
}

-- the word at the pc, which is one of the window
pub window_word : (s : State) (w : Window) (code : LoadSegment) (a n : ℕ) → IsWindow s w → w.code ≡ Some code → a ≡ s.pc → IsIn w a → n ≡ number_in code.bytes (a - code.address) 4 → state_word s a ≡ Some n
window_word s w code a n h is at i e =
    let low = i.low in
    let high = i.high in
    fixed_word s a n (window_fixed s w code a n h is i e) (ap (λ q. q % 4) at ∙ h.grain (omega (arith, low, high)))

-- the instruction at the pc, which is held
pub held_next : (s : State) (a : ℕ) (i : Ins) → IsHeld s a i → a ≡ s.pc → a % 4 ≡ 0 → next s ≡ Known i
held_next s a i h at grain = subst (λ b. fetched_at s.memory s.ranges b ≡ Known i) at (fetched_some s a h.word (fixed_word s a h.word h.stands grain) ∙ ap (known_or h.word) h.decoded)

-- ---- a step
-- a segment that is kept in one memory, and in another with the same bytes
kept : (o : Option LoadSegment) (s t : State) → ((code : LoadSegment) → IsFixedCode s.memory code → IsFixedCode t.memory code) → IsKept s o → IsKept t o
kept None s t f k = tt
kept (Some code) s t f k = f code k

-- a state with the same ranges, in whose memory what was fixed is fixed, and whose pc is a multiple of 4 where it was
record IsAfter (s t : State) : Type 0 where
  ranges : t.ranges ≡ s.ranges
  fixed : (code : LoadSegment) → IsFixedCode s.memory code → IsFixedCode t.memory code
  grain : s.pc % 4 ≡ 0 → t.pc % 4 ≡ 0

stays : (s t : State) (w : Window) → IsAfter s t → IsWindow s w → IsWindow t w
stays s t w a h = record { words = rw a.ranges h.words; fixed = kept w.code s t a.fixed h.fixed; inside = h.inside; grain = λ some. a.grain (h.grain some) }

-- with the same memory
same : (s t : State) → t.memory ≡ s.memory → t.ranges ≡ s.ranges → (s.pc % 4 ≡ 0 → t.pc % 4 ≡ 0) → IsAfter s t
same s t m r g = record { ranges = r; fixed = λ code f. rw m f; grain = g }

either : (b : Bool) (s t u : State) → (b ≡ true → IsAfter u s) → (b ≡ false → IsAfter u t) → IsAfter u (cond b s t)
either true s t u h k = h refl
either false s t u h k = k refl

next_grain : (a : ℕ) → a % 4 ≡ 0 → (a + 4) % 2 ^ 64 % 4 ≡ 0
next_grain a h = omega (arith, h)

after_jumped : (regs : List ℕ) (target : ℕ) (s : State) → IsAfter s (jumped regs target s)
unfolding jumped
after_jumped regs target s = either (target % 4 == 0) _ _ s (λ on. same s _ refl refl (λ _. eqb-true (target % 4) 0 on)) (λ off. same s _ refl refl (λ g. g))

after_stored : (i : Ins) (s : State) → grants (λ f. f.write) s.memory (place i s) (width_of i.kind) ≡ true
    → (code : LoadSegment) → IsFixedCode s.memory code → IsFixedCode (put s.memory (place i s) (width_of i.kind) (reg s i.rs2)) code
after_stored i s g code h = fixed_put s.memory code (place i s) (width_of i.kind) (reg s i.rs2) h (omega arith) g

after_execute : (c : Class) (i : Ins) (s : State) → IsAfter s (execute c i s)
unfolding execute
after_execute class.Compute i s = same s _ refl refl (next_grain s.pc)
after_execute class.Fence i s = same s _ refl refl (next_grain s.pc)
after_execute class.Load i s = either (grants (λ f. f.read) s.memory (place i s) (width_of i.kind)) _ _ s (λ _. same s _ refl refl (next_grain s.pc)) (λ _. same s _ refl refl (λ g. g))
after_execute class.Store i s =
    either (grants (λ f. f.write) s.memory (place i s) (width_of i.kind)) _ _ s
    (λ g. record { ranges = refl; fixed = after_stored i s g; grain = next_grain s.pc })
    (λ _. same s _ refl refl (λ g. g))
after_execute class.Branch i s = either (holds i.kind (reg s i.rs1) (reg s i.rs2)) _ _ s (λ _. after_jumped s.regs (target i s.pc) s) (λ _. same s _ refl refl (next_grain s.pc))
after_execute class.Jump i s = after_jumped _ _ s
after_execute class.JumpReg i s = after_jumped _ _ s
after_execute o i s = same s _ refl refl (λ g. g)

after_act : (f : Fetched) (s : State) → IsAfter s (act f s)
after_act Refused s = same s _ refl refl (λ g. g)
after_act (Unknown n) s = same s _ refl refl (λ g. g)
after_act (Known i) s = after_execute (class_of i.kind) i s

-- a window of a state that goes on is one of it after a step
pub window_acted : (s : State) (w : Window) → IsWindow s w → IsWindow (act (next s) s) w
window_acted s w h = stays s _ w (after_act (next s) s) h

-- what is held at an address stays so, as does what the loop of a long run keeps
held : (s t : State) (a : ℕ) (i : Ins) → IsAfter s t → IsHeld s a i → IsHeld t a i
held s t a i f h = record {
  word = h.word;
  stands = record {
    code = h.stands.code;
    fixed = f.fixed h.stands.code h.stands.fixed;
    inside = h.stands.inside;
    range = ap (in_range a) f.ranges ∙ h.stands.range;
    word = h.stands.word;
  };
  decoded = h.decoded;
}

pub known_acted : (s : State) (w : Window) (es : List Entry) → IsKnown s w es → IsKnown (act (next s) s) w es
known_acted s w es h =
    let after = after_act (next s) s in
    record { window = stays s _ w after h.window; table = λ k d l even. held s _ _ _ after (h.table k d l even); grain = after.grain h.grain }

-- ---- a table
-- one that has no instruction
pub none_held : (s : State) (n : ℕ) (e : Entry) (es : List Entry) → e.address ≡ 1 → es ≡ replicate n e → IsTable s es
none_held s n e es odd is = subst (λ xs. IsTable s xs) (sym is) (All-replicate (λ x. x.address % 4 ≡ 0 → IsHeld s x.address x.ins) n e (λ even. absurd (omega (arith, odd, even))))

-- the instruction that it has at the pc
pub table_next : (s : State) (es : List Entry) (k a : ℕ) (e : Entry) → IsTable s es → k < length es → get_or es k e ≡ e → e.address ≡ a → a % 4 ≡ 0 → a ≡ s.pc → next s ≡ Known e.ins
table_next s es k a e h l is at grain here =
    let held : IsHeld s e.address e.ins = subst (λ (x : Entry). x.address % 4 ≡ 0 → IsHeld s x.address x.ins) is (h k e l) (ap (λ q. q % 4) at ∙ grain) in
    held_next s e.address e.ins held (at ∙ here) (ap (λ q. q % 4) at ∙ grain)

-- what is known with one more instruction, of the hart k, which is g, and in the memory n, which are h and m
pub known_new :
    (h g k : HartState) (m n : Memory) (w v : Window) (es fs : List Entry)
    → IsKnown (with_memory h m).state w es → g ≡ h → n ≡ m → k ≡ g → IsWindow (with_memory g n).state v
    → ((s : State) → IsTable s es → IsWindow s v → IsTable s fs)
    → IsKnown (with_memory k n).state v fs
known_new h g k m n w v es fs known is same kept window put =
    let whole : k ≡ h = kept ∙ is in
    let here : IsWindow (with_memory k n).state v = subst (λ (x : HartState). IsWindow (with_memory x n).state v) (sym kept) window in
    let before : IsTable (with_memory h n).state es = subst (λ (y : Memory). IsTable (with_memory h y).state es) (sym same) known.table in
    let table : IsTable (with_memory k n).state es = subst (λ (x : HartState). IsTable (with_memory x n).state es) (sym whole) before in
    record { window = here; table = put (with_memory k n).state table here; grain = subst (λ (x : HartState). x.pc % 4 ≡ 0) (sym whole) known.grain }

-- ---- a step of a hart that goes on
at_going : (o : Outcome) (s : State) → does_step o ≡ true → step_at o s ≡ act (next s) s
at_going Going s h = refl
at_going o s h = absurd (cc)

pub step_acts : (s : State) → does_step s.outcome ≡ true → step s ≡ act (next s) s
unfolding step
step_acts s h = at_going s.outcome s h

pub step_executes : (s : State) (i : Ins) → does_step s.outcome ≡ true → next s ≡ Known i → step s ≡ execute (class_of i.kind) i s
step_executes s i h is = step_acts s h ∙ ap (λ f. act f s) is

pub known_stepped : (s : State) (w : Window) (es : List Entry) → does_step s.outcome ≡ true → IsKnown s w es → IsKnown (step s) w es
known_stepped s w es goes h = subst (λ t. IsKnown t w es) (sym (step_acts s goes)) (known_acted s w es h)
