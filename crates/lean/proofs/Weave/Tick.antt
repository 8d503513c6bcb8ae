-- The tick: it counts, and goes on or to the check.
use Rattle.std.proofs.Common.{◌≡◌, ℕ, ◌+◌, ◌*◌, ◌%◌, ◌^◌, ◌<◌, ◌≤◌, Bool, true, false, cond, not, List, [], ◌∷◌, ◌++◌, length, refl, ap, ◌∙◌, subst, arith}
use Rattle.std.specs.Prelude.{ℤ, pos, slice_index}
use Rattle.std.proofs.lemmas.Bool.{lt-ltb, le-ltb}
use Rattle.rv_isa.specs.declared.class.Class.TheVariants as class
use Rattle.machine.specs.Step.{State, Ins, class_of, reg, moved, jumped, result, computed_value, Fetched, Known, ins, Addi, Slli, Beq, Bge, Jal}
use Rattle.machine.specs.Offsets.{distance_between}
use Rattle.qed_model.specs.Weave.Sequences.{Reads, fired_check, CURSOR, SIGNATURE, TEMPORARY, SPARE, DISTANCE}
use Rattle.qed_model.specs.Weave.Lean.{tick}
use Rattle.qed_model.specs.Weave.LeanBounds.{call_steps}
use Rattle.machine.proofs.Lemmas.{Over, over_moved, known_at, Walk, walk_one, walk_on, difference}
use Rattle.weave_core.specs.World.{World, Quiet, Item, Plain, Constant, holds, value, wrapped}
use Rattle.weave_core.proofs.Lemmas.{addi_value, branch_taken, branch_passed, jumped_to, step-jump, quiet_as, AllTemps, Sets, sets_const, writes, writes_long}
use Rattle.lean.specs.Ticked.{with_count}
use Rattle.lean.proofs.Weave.Chain.{Op, plain, items, Gives, read_back, all_temps, chain, chain_pc}

-- ---- the bit
-- a number below 2^63 is not below 0
pub low_holds : (x : ℕ) → x < 2 ^ 63 → holds Bge x 0 ≡ true
unfolding holds
low_holds x h = rw (lt-ltb x (2 ^ 63) h) (ap not (le-ltb x 0 (omega arith)))

-- one with its highest bit is
pub high_holds : (x : ℕ) → 2 ^ 63 ≤ x → holds Bge x 0 ≡ false
unfolding holds
high_holds x h = rw (le-ltb x (2 ^ 63) h) refl

-- bit 11 of a number is the highest of this one
abbrev pub shifted : ℕ → ℕ
shifted v = v * 2 ^ 52 % 2 ^ 64

pub low_bit : (k c : ℕ) → c ≤ 2047 → shifted (with_count k c) < 2 ^ 63
low_bit k c h = omega (arith, h)

pub high_bit : (k c : ℕ) → 2048 ≤ c → c < 4096 → 2 ^ 63 ≤ shifted (with_count k c)
high_bit k c h l = omega (arith, h, l)

-- what SLLI by 52 gives
pub slli_value : (u : State) (r a x z : ℕ) → reg u a ≡ x → x * 2 ^ 52 % 2 ^ 64 ≡ z → result Slli (ins Slli r a 0 (pos 52)) u ≡ z
unfolding computed_value value
slli_value u r a x z e g = rw e g

-- ---- the jump
pub jal_walk :
    (w : World) (y : State) (to : ℕ) → Over w.code y → w.code y.pc ≡ Known (ins Jal 0 0 0 (distance_between y.pc to)) → to < 2 ^ 64 → to % 4 ≡ 0 → Walk (Quiet w) y 1 (moved y.regs to y)
jal_walk w y to o k low grain =
    let j = ins Jal 0 0 0 (distance_between y.pc to) in
    let near = w.low y.pc j k in
    walk_one (Quiet w) y _ (quiet_as w y j class.Jump o k refl (λ e. absurd (cc)) (λ e. absurd (cc)) tt)
    (step-jump y j o.going (known_at w.code y j o k) refl ∙ ap (λ p. jumped y.regs p y) (difference y.pc to (omega (arith, near)) low) ∙ jumped_to y.regs to y grain)

-- how far behind the tick's first word it stands
abbrev pub jump_at : Bool → ℕ
jump_at land = cond land 12 20

-- what the tick leaves of a count
pub count_sum : (x k n most : ℕ) → x ≡ with_count k n → n ≤ 2047 → k < 2 ^ 32 → most ≤ 2047 → (x + wrapped (pos most)) % 2 ^ 64 ≡ with_count k (n + most)
count_sum x k n most e high few small = omega (arith, e, high, few, small)

-- ---- the row, where the tick leaves a number in x15
module _ (w : World) (u : State) (most now : ℕ) (o : Over w.code u) (long : length u.regs ≡ 32) (zero_reg : reg u 0 ≡ 0) (sum : (reg u CURSOR + wrapped (pos most)) % 2 ^ 64 ≡ now) where
  -- what is written before the branch
  abbrev pub ticked : List (ℕ × ℕ)
  ticked = (15, now) ∷ (31, shifted now) ∷ []

  abbrev ops : List Op
  ops = plain (ins Addi CURSOR CURSOR 0 (pos most)) now ∷ plain (ins Slli SPARE CURSOR 0 (pos 52)) (shifted now) ∷ []

  gives : Gives u u.regs ops
  gives =
      let e1 : List (ℕ × ℕ) = (15, now) ∷ [] in (
        refl,
        λ e. absurd (cc),
        λ p. addi_value (moved u.regs p u) 15 15 (reg u CURSOR) now (pos most) refl sum,
        (
          refl,
          λ e. absurd (cc),
          λ p. slli_value (moved (writes e1 u.regs) p u) 31 15 now (shifted now) (read_back e1 u.regs 15 long refl) refl,
          tt,
        ),
      )

  abbrev before : State
  before = moved (writes ticked u.regs) (u.pc + 8) u

  record Front (tail : List Item) : Type 0 where
    walk : Walk (Quiet w) u 2 before
    reads : Reads w.form.far w.code w.entry (u.pc + 8) tail

  front : (tail : List Item) → Reads w.form.far w.code w.entry u.pc (items ops ++ tail) → Front tail
  front tail h =
      let s = chain w u tail o ops long gives h in
      let e = chain_pc w u tail o ops long gives h in
      let there : s.pc ≡ u.pc + 8 = omega (arith, e) in
      record { walk = subst (λ p. Walk (Quiet w) u 2 (moved (writes ticked u.regs) p u)) there s.walk; reads = subst (λ p. Reads w.form.far w.code w.entry p tail) there s.reads }

  over : Over w.code before
  over = over_moved w.code u (writes ticked u.regs) (u.pc + 8) o

  test : (b : Bool) → holds Bge (shifted now) 0 ≡ b → holds Bge (reg before SPARE) (reg before 0) ≡ b
  test b e = ap (λ y. holds Bge (reg before SPARE) y) (read_back ticked u.regs 0 long refl ∙ zero_reg) ∙ ap (λ y. holds Bge y 0) (read_back ticked u.regs 31 long refl) ∙ e

  -- the count does not pass 2047
  pub pass_row : (land : Bool) (a : ℕ) (rest : List Item) (d : ℤ) → shifted now < 2 ^ 63 → Reads w.form.far w.code w.entry u.pc (tick land a most d ++ rest) → Sets w u 3 rest (writes ticked u.regs)
  pass_row land a rest d le h = by land h where
    goes : (to : ℕ) → Walk (Quiet w) u 2 before → Walk (Quiet w) before 1 (moved (writes ticked u.regs) to u) → Reads w.form.far w.code w.entry to rest → Sets w u 3 rest (writes ticked u.regs)
    goes to a b r = record { pc = to; walk = walk_on (Quiet w) u before _ 2 1 a b; reads = r }

    taken : holds Bge (reg before SPARE) (reg before 0) ≡ true
    taken = test true (low_holds (shifted now) le)

    by : (b : Bool) → Reads w.form.far w.code w.entry u.pc (tick b a most d ++ rest) → Sets w u 3 rest (writes ticked u.regs)
    by true h =
        let i = ins Bge 0 SPARE 0 (pos 12) in
        let f = front (Plain i ∷ Plain (ins Jal 0 0 0 d) ∷ fired_check ∷ rest) h in
        let near = w.low (u.pc + 8) i f.reads.0 in
        let grain = w.grain (u.pc + 8) i f.reads.0 in
        let there : u.pc + 8 + 4 + 4 + 4 ≡ u.pc + 8 + 12 = omega arith in
        goes (u.pc + 8 + 12) f.walk (branch_taken w before i (u.pc + 8 + 12) over f.reads.0 refl taken (omega (arith, near)) (omega (arith, grain))) (subst (λ p. Reads w.form.far w.code w.entry p rest) there f.reads.1.1.1)
    by false h =
        let i = ins Bge 0 SPARE 0 (pos 20) in
        let f = front (Plain i ∷ Constant TEMPORARY a ∷ Plain (ins Jal 0 0 0 d) ∷ fired_check ∷ rest) h in
        let near = w.low (u.pc + 8) i f.reads.0 in
        let grain = w.grain (u.pc + 8) i f.reads.0 in
        let there : u.pc + 8 + 4 + 8 + 4 + 4 ≡ u.pc + 8 + 20 = omega arith in
        goes (u.pc + 8 + 20) f.walk (branch_taken w before i (u.pc + 8 + 20) over f.reads.0 refl taken (omega (arith, near)) (omega (arith, grain))) (subst (λ p. Reads w.form.far w.code w.entry p rest) there f.reads.1.2.1.1)

  -- or it does: at the check, with the address in x30
  pub record Called (land : Bool) (a to : ℕ) : Type 0 where
    pub effects : List (ℕ × ℕ)
    pub temps : AllTemps effects
    pub walk : Walk (Quiet w) u (3 + call_steps land) (moved (writes effects u.regs) to u)
    pub fourteen : slice_index (writes effects u.regs) 14 ≡ reg u DISTANCE
    pub fifteen : slice_index (writes effects u.regs) 15 ≡ now
    pub sixteen : slice_index (writes effects u.regs) 16 ≡ reg u SIGNATURE
    pub thirty : slice_index (writes effects u.regs) 30 ≡ a

  pub call_row :
      (land : Bool) (a to : ℕ) (rest : List Item) → 2 ^ 63 ≤ shifted now → a < 2 ^ 64 → (land ≡ true → reg u TEMPORARY ≡ a) → to < 2 ^ 64 → to % 4 ≡ 0
      → Reads w.form.far w.code w.entry u.pc (tick land a most (distance_between (u.pc + jump_at land) to) ++ rest) → Called land a to
  unfolding sets_const
  call_row land a to rest ge low named far grain h = by land named h where
    -- no test of the signature stands behind the address
    no_test : {A : Type 0} {f : Fetched} {d : ℤ} → f ≡ Known (ins Jal 0 0 0 d) → f ≡ Known (ins Beq 0 SIGNATURE TEMPORARY (pos 8)) → A
    no_test {A} {f} {d} h k =
        let e : ins Jal 0 0 0 d ≡ ins Beq 0 SIGNATURE TEMPORARY (pos 8) = cc in
        let q : class.Jump ≡ class.Branch = ap (λ (i : Ins). class_of i.kind) e in
        absurd (cc)

    lacks : holds Bge (reg before SPARE) (reg before 0) ≡ false
    lacks = test false (high_holds (shifted now) ge)

    by : (b : Bool) → (b ≡ true → reg u TEMPORARY ≡ a) → Reads w.form.far w.code w.entry u.pc (tick b a most (distance_between (u.pc + jump_at b) to) ++ rest) → Called b a to
    by true named h =
        let d = distance_between (u.pc + 12) to in
        let i = ins Bge 0 SPARE 0 (pos 12) in
        let f = front (Plain i ∷ Plain (ins Jal 0 0 0 d) ∷ fired_check ∷ rest) h in
        let e : u.pc + 8 + 4 ≡ u.pc + 12 = omega arith in
        let y = moved (writes ticked u.regs) (u.pc + 12) u in
        let one : Walk (Quiet w) before 1 y = subst (λ p. Walk (Quiet w) before 1 (moved (writes ticked u.regs) p u)) e (branch_passed w before i over f.reads.0 refl lacks) in
        let known : w.code (u.pc + 12) ≡ Known (ins Jal 0 0 0 d) = subst (λ p. w.code p ≡ Known (ins Jal 0 0 0 d)) e f.reads.1.0 in
        let last = jal_walk w y to (over_moved w.code u (writes ticked u.regs) (u.pc + 12) o) known far grain in
        record {
          effects = ticked;
          temps = all_temps ticked refl;
          walk = walk_on (Quiet w) u before _ 2 2 f.walk (walk_on (Quiet w) before y _ 1 1 one last);
          fourteen = read_back ticked u.regs 14 long refl;
          fifteen = read_back ticked u.regs 15 long refl;
          sixteen = read_back ticked u.regs 16 long refl;
          thirty = read_back ticked u.regs 30 long refl ∙ named refl;
        }
    by false named h =
        let d = distance_between (u.pc + 20) to in
        let i = ins Bge 0 SPARE 0 (pos 20) in
        let j = Plain (ins Jal 0 0 0 d) ∷ fired_check ∷ rest in
        let f = front (Plain i ∷ Constant TEMPORARY a ∷ j) h in
        let l = writes ticked u.regs in
        let ws : List (ℕ × ℕ) = (15, now) ∷ (31, shifted now) ∷ (30, a) ∷ [] in
        let x = moved l (u.pc + 8 + 4) u in
        let one : Walk (Quiet w) before 1 x = branch_passed w before i over f.reads.0 refl lacks in
        let ox = over_moved w.code u l (u.pc + 8 + 4) o in
        let c = sets_const w x 30 a j ox f.reads.1 low (omega (arith, writes_long ticked u.regs, long)) (λ b lo k. no_test (o.code (u.pc + 8 + 4 + 8) ∙ f.reads.1.2.0) k.2) in
        let e : u.pc + 8 + 4 + 8 ≡ u.pc + 20 = omega arith in
        let y = moved (writes ws u.regs) (u.pc + 20) u in
        let two : Walk (Quiet w) x 2 y = subst (λ p. Walk (Quiet w) x 2 (moved (writes ws u.regs) p u)) e c.walk in
        let known : w.code (u.pc + 20) ≡ Known (ins Jal 0 0 0 d) = subst (λ p. w.code p ≡ Known (ins Jal 0 0 0 d)) e f.reads.1.2.0 in
        let last = jal_walk w y to (over_moved w.code u (writes ws u.regs) (u.pc + 20) o) known far grain in
        record {
          effects = ws;
          temps = all_temps ws refl;
          walk = walk_on (Quiet w) u before _ 2 4 f.walk (walk_on (Quiet w) before x _ 1 3 one (walk_on (Quiet w) x y _ 2 1 two last));
          fourteen = read_back ws u.regs 14 long refl;
          fifteen = read_back ws u.regs 15 long refl;
          sixteen = read_back ws u.regs 16 long refl;
          thirty = read_back ws u.regs 30 long refl;
        }
