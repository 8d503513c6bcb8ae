-- The run of `main` of a generated test: each function is called three times, and the run ends.
use Rattle.std.proofs.Common.{◌≡◌, ℕ, zero, suc, ◌+◌, ◌*◌, ◌/◌, ◌%◌, ◌^◌, ◌<◌, ◌≤◌, Bool, true, false, cond, not, List, [], ◌∷◌, ◌++◌, length, refl, sym, ap, ◌∙◌, subst, arith}
use Rattle.std.specs.Prelude.{◌==◌, slice_index, pos, negsuc}
use Rattle.std.specs.List.{list_all}
use Rattle.std.proofs.lemmas.Bool.{and_parts, eq-eqb, eqb-true, eqb-false, not-true}
use Rattle.rv_isa.specs.declared.class.Class.TheVariants as class
use Rattle.rv_isa.specs.Ins.{nop}
use Rattle.rv_isa.proofs.RegsLaws.{slice_index-set_reg_same, slice_index-set_reg_other}
use Rattle.machine.specs.declared.outcome.Cause.TheVariants as cause
use Rattle.machine.specs.declared.outcome.Outcome.TheVariants.{Going}
use Rattle.machine.specs.Below.{each}
use Rattle.machine.specs.Memory.{Memory, wrap, number, grants, byte_at, byte_in}
use Rattle.machine.specs.Table.{ins, Ins, Jalr, Bne, Ld, Sd, Addi}
use Rattle.machine.specs.Values.{value, holds, loaded}
use Rattle.machine.specs.Step.{State, reg, moved, trapped, imm, target, place, result, computed_value, next, next_pc, step, execute, jumped, Fetched, Known, HasAt, fetched_at, class_of, set_reg}
use Rattle.machine.proofs.Lemmas.{length-each, same_number, grants-flags, step-class, step-compute, step-load, Walk, walk_one, walk_on}
use Rattle.machine.specs.Members.{Every}
use Rattle.test_gen.specs.Random.{random_word}
use Rattle.test_gen.specs.Code.{body_registers, register_from, body_forms, body_instruction, return, function, main}
use Rattle.test_gen.specs.Generated.{function_at}
use Rattle.test_gen.proofs.Plain.{every_at, every_each}
use Rattle.test_gen.proofs.Runs.{is_main, IsAccess, IsBody, Computes, Loads, Stores, HasData, IsGood, Goes, Reaches, good_set, good_jump, next_is, body_walk}
use Rattle.weave_core.proofs.Lemmas.{has_front}

-- ---- the contents of bodies
own_index : (xs : List ℕ) (k : ℕ) → k < length xs → list_all (λ x. not (is_main x)) xs ≡ true → is_main (slice_index xs k) ≡ false
own_index [] k h e = absurd (omega (arith, h))
own_index (x ∷ xs) zero h e = not-true (is_main x) (and_parts (not (is_main x)) (list_all (λ y. not (is_main y)) xs) e).0
own_index (x ∷ xs) (suc k) h e = own_index xs k (omega (arith, h)) (and_parts (not (is_main x)) (list_all (λ y. not (is_main y)) xs) e).1

own_body : (from word : ℕ) → is_main (register_from from word) ≡ false
own_body from word = own_index body_registers (word / 2 ^ from % 7) (omega arith) refl

load_access : (d m : ℕ) → m < 256 → IsAccess (ins Ld d 2 0 (pos (8 * m)))
load_access d m h = record { word = m; small = h; base = refl; offset_is = omega (arith, h); width = refl }

store_access : (b m : ℕ) → m < 256 → IsAccess (ins Sd 0 2 b (pos (8 * m)))
store_access b m h = record { word = m; small = h; base = refl; offset_is = omega (arith, h); width = refl }

forms_are : (d a b m : ℕ) → is_main d ≡ false → m < 256 → Every IsBody (body_forms d a b m)
forms_are d a b m o h =
    (Computes refl o, (Computes refl o, (Computes refl o, (Computes refl o, (Computes refl o, (Computes refl o, (Loads refl o (load_access d m h), (Stores refl (store_access b m h), tt))))))))

body_is : (word : ℕ) → IsBody (body_instruction word)
unfolding body_instruction
body_is word =
    every_at IsBody (body_forms (register_from 8 word) (register_from 16 word) (register_from 24 word) (word / 2 ^ 32 % 256)) (word % 8) nop
    (forms_are (register_from 8 word) (register_from 16 word) (register_from 24 word) (word / 2 ^ 32 % 256) (own_body 8 word) (omega arith)) (omega arith)

-- ---- jumps and branches
jump_step :
    (i : Ins) (s : State) (t : ℕ) → s.outcome ≡ Going → next s ≡ Known i → class_of i.kind ≡ class.JumpReg → (reg s i.rs1 + imm i) % 2 ^ 64 / 2 * 2 ≡ t → t % 4 ≡ 0
    → step s ≡ moved (set_reg i.rd (next_pc s) s.regs) t s
unfolding execute jumped
jump_step i s t g n c e grain =
    let regs = set_reg i.rd (next_pc s) s.regs in
    step-class s i class.JumpReg g n c ∙ ap (λ x. cond (x % 4 == 0) (moved regs x s) (trapped (cause.Target x) s)) e
    ∙ ap (λ b. cond b (moved regs t s) (trapped (cause.Target t) s)) (eq-eqb (t % 4) 0 grain)

pub branch_taken :
    (i : Ins) (s : State) (t : ℕ) → s.outcome ≡ Going → next s ≡ Known i → class_of i.kind ≡ class.Branch → holds i.kind (reg s i.rs1) (reg s i.rs2) ≡ true
    → target i s.pc ≡ t → t % 4 ≡ 0 → step s ≡ moved s.regs t s
unfolding execute jumped
branch_taken i s t g n c h e grain =
    step-class s i class.Branch g n c ∙ ap (λ b. cond b (jumped s.regs (target i s.pc) s) (moved s.regs (next_pc s) s)) h
    ∙ ap (λ x. cond (x % 4 == 0) (moved s.regs x s) (trapped (cause.Target x) s)) e
    ∙ ap (λ b. cond b (moved s.regs t s) (trapped (cause.Target t) s)) (eq-eqb (t % 4) 0 grain)

pub branch_not :
    (i : Ins) (s : State) → s.outcome ≡ Going → next s ≡ Known i → class_of i.kind ≡ class.Branch → holds i.kind (reg s i.rs1) (reg s i.rs2) ≡ false
    → step s ≡ moved s.regs (next_pc s) s
unfolding execute
branch_not i s g n c h = step-class s i class.Branch g n c ∙ ap (λ b. cond b (jumped s.regs (target i s.pc) s) (moved s.regs (next_pc s) s)) h

pub has_right : (c : ℕ → Fetched) (a : ℕ) (xs ys : List Ins) (b : ℕ) → HasAt c a (xs ++ ys) → a + 4 * length xs ≡ b → HasAt c b ys
has_right c a [] ys b h e = let same : a ≡ b = omega (arith, e) in subst (λ x. HasAt c x ys) same h
has_right c a (x ∷ xs) ys b h e = has_right c (a + 4) xs ys b h.1 (omega (arith, e))

-- the memory of a generated test
pub record IsMade (m : Memory) (ranges : List (ℕ × ℕ)) (seed n : ℕ) : Type 0 where
  pub few : n ≤ 1875
  pub data_there : HasData m
  pub reads : (i : ℕ) → i < n → grants (λ f. f.read) m (0x80000 + 8 * i) 8 ≡ true
  pub entries : (i : ℕ) → i < n → number m (0x80000 + 8 * i) 8 ≡ function_at i
  pub main_there : HasAt (fetched_at m ranges) 0x10000 (main n)
  pub functions_there : (i : ℕ) → i < n → HasAt (fetched_at m ranges) (function_at i) (function seed i)

module _ (m : Memory) (ranges : List (ℕ × ℕ)) (seed n : ℕ) (made : IsMade m ranges seed n) where
  abbrev code : ℕ → Fetched
  code = fetched_at m ranges

  -- ---- a register is set
  pub record IsSet (s : State) (pc d v : ℕ) : Type 0 where
    pub end : State
    pub walk : Walk Goes s 1 end
    pub good : IsGood m ranges end
    pub at : end.pc ≡ pc
    pub is : reg end d ≡ v
    pub others : (r : ℕ) → (r == d) ≡ false → reg end r ≡ reg s r

  set_is : (s : State) (d v at pc : ℕ) → IsGood m ranges s → 0 < d → d < 32 → step s ≡ moved (set_reg d v s.regs) at s → at ≡ pc → IsSet s pc d v
  set_is s d v at pc g some few e there =
      let count = g.count in
      record {
        end = moved (set_reg d v s.regs) at s;
        walk = walk_one Goes s (moved (set_reg d v s.regs) at s) g.going e;
        good = good_set m ranges s d v at g;
        at = there;
        is = slice_index-set_reg_same s.regs d v some (omega (arith, few, count));
        others = λ r h. slice_index-set_reg_other s.regs d v r (λ same. eqb-false r d h same);
      }

  pub next_four : (s : State) (pc : ℕ) → s.pc ≡ pc → pc + 4 ≤ 0x90000 → next_pc s ≡ pc + 4
  next_four s pc e h = omega (arith, e, h)

  pub fetched : (s : State) (i : Ins) (pc : ℕ) → IsGood m ranges s → s.pc ≡ pc → pc + 4 ≤ 0x90000 → code pc ≡ Known i → next s ≡ Known i
  fetched s i pc g e h k = next_is m ranges s i g (omega (arith, e, h)) (ap code e ∙ k)

  pub compute :
      (i : Ins) (s : State) (pc v : ℕ) → IsGood m ranges s → s.pc ≡ pc → pc + 4 ≤ 0x90000 → code pc ≡ Known i → class_of i.kind ≡ class.Compute → 0 < i.rd → i.rd < 32
      → result i.kind i s ≡ v → IsSet s (pc + 4) i.rd v
  compute i s pc v g e h k c some few is =
      set_is s i.rd v (next_pc s) (pc + 4) g some few
      (step-compute s i g.going (fetched s i pc g e h k) c ∙ ap (λ x. moved (set_reg i.rd x s.regs) (next_pc s) s) is) (next_four s pc e h)

  -- ---- states of `main`
  pub record IsIn (s : State) (pc table rounds left : ℕ) : Type 0 where
    pub good : IsGood m ranges s
    pub zero_is : reg s 0 ≡ 0
    pub base : reg s 2 ≡ 0x90000
    pub at : s.pc ≡ pc
    pub table_is : reg s 4 ≡ table
    pub rounds_are : reg s 8 ≡ rounds
    pub left_are : reg s 9 ≡ left

  pub record Comes (s : State) (steps pc table rounds left : ℕ) : Type 0 where
    pub end : State
    pub walk : Walk Goes s steps end
    pub is_in : IsIn end pc table rounds left

  pub comes_on :
      (s t : State) (i k all pc table rounds left : ℕ) → Walk Goes s i t → Comes t k pc table rounds left → i + k ≡ all → Comes s all pc table rounds left
  comes_on s t i k all pc table rounds left w c e = record {
    end = c.end;
    walk = subst (λ j. Walk Goes s j c.end) e (walk_on Goes s t c.end i k w c.walk);
    is_in = c.is_in;
  }

  -- ---- the call of a function
  entry_load : (s : State) (i rounds left : ℕ) → i < n → IsIn s 0x10010 (0x80000 + 8 * i) rounds left → IsSet s 0x10014 5 (function_at i)
  unfolding main loaded byte_at
  entry_load s i rounds left l h =
      let few = made.few in
      let g = h.good in
      let table = h.table_is in
      let load = ins Ld 5 4 0 (pos 0) in
      let a = 0x80000 + 8 * i in
      let there : place load s ≡ 0x80000 + 8 * i = omega (arith, table, l, few) in
      let ok : grants (λ f. f.read) s.memory (place load s) 8 ≡ true = ap (λ p. grants (λ f. f.read) s.memory p 8) there ∙ grants-flags (λ f. f.read) s.memory m a 8 g.flags ∙ made.reads i l in
      let same : number s.memory (place load s) 8 ≡ function_at i =
      ap (λ p. number s.memory p 8) there ∙ same_number s.memory m a 8 (λ j k. ap byte_in (g.fixed (wrap (a + j)) (omega (arith, l, k, few)))) ∙ made.entries i l in
      set_is s 5 (function_at i) (next_pc s) 0x10014 g (omega arith) (omega arith)
      (step-load s load g.going (fetched s load 0x10010 g h.at (omega arith) made.main_there.1.1.1.1.0) refl ok ∙ ap (λ x. moved (set_reg 5 x s.regs) (next_pc s) s) same)
      (next_four s 0x10010 h.at (omega arith))

  call : (s : State) (i : ℕ) → i < n → IsGood m ranges s → s.pc ≡ 0x10014 → reg s 5 ≡ function_at i → IsSet s (function_at i) 1 0x10018
  unfolding main
  call s i l g at e =
      let few = made.few in
      let jalr = ins Jalr 1 5 0 (pos 0) in
      set_is s 1 0x10018 (function_at i) (function_at i) g (omega arith) (omega arith)
      (jump_step jalr s (function_at i) g.going (fetched s jalr 0x10014 g at (omega arith) made.main_there.1.1.1.1.1.0) refl (omega (arith, e, l, few)) (omega arith)
      ∙ ap (λ x. moved (set_reg 1 x s.regs) (function_at i) s) (next_four s 0x10014 at (omega arith)))
      refl

  -- the body and the return
  abbrev body : ℕ → List Ins
  body i = each 32 (λ k. body_instruction (random_word seed (32 * i + k)))

  in_function : (s : State) (i : ℕ) → i < n → IsGood m ranges s → s.pc ≡ function_at i → reg s 2 ≡ 0x90000 → Reaches m ranges s 32 (function_at i + 128)
  unfolding function
  in_function s i l g at base =
      let few = made.few in
      let size : length (body i) ≡ 32 = length-each 32 (λ k. body_instruction (random_word seed (32 * i + k))) in
      let there = has_front code (function_at i) (body i) (return ∷ []) (made.functions_there i l) in
      let w = body_walk m ranges made.data_there (body i) s (every_each IsBody 32 (λ k. body_instruction (random_word seed (32 * i + k))) (λ k. body_is (random_word seed (32 * i + k)))) g base
      (omega (arith, at, size, l, few)) (subst (λ x. HasAt code x (body i)) (sym at) there) in
      let last : s.pc + 4 * length (body i) ≡ function_at i + 128 = omega (arith, at, size) in
      subst (λ x. Reaches m ranges s 32 x) last (subst (λ k. Reaches m ranges s k (s.pc + 4 * length (body i))) size w)

  back : (s : State) (i : ℕ) → i < n → IsGood m ranges s → s.pc ≡ function_at i + 128 → reg s 1 ≡ 0x10018 → step s ≡ moved s.regs 0x10018 s
  unfolding function
  back s i l g at e =
      let few = made.few in
      let size : length (body i) ≡ 32 = length-each 32 (λ k. body_instruction (random_word seed (32 * i + k))) in
      let there = has_right code (function_at i) (body i) (return ∷ []) (function_at i + 128) (made.functions_there i l) (omega (arith, size)) in
      jump_step return s 0x10018 g.going (fetched s return (function_at i + 128) g at (omega (arith, l, few)) there.0) refl (omega (arith, e)) (omega arith)

  one_call :
      (s : State) (i rounds before left : ℕ) → i < n → before ≡ left + 1 → before ≤ 1875 → IsIn s 0x10010 (0x80000 + 8 * i) rounds before
      → Comes s 37 0x10020 (0x80000 + 8 * (i + 1)) rounds left
  unfolding main computed_value value
  one_call s i rounds before left l less most h =
      let few = made.few in
      let a = entry_load s i rounds before l h in
      let b = call a.end i l a.good a.at a.is in
      let c = in_function b.end i l b.good b.at (b.others 2 refl ∙ a.others 2 refl ∙ h.base) in
      let d = moved c.end.regs 0x10018 c.end in
      let g = c.good in
      let returned : Walk Goes c.end 1 d = walk_one Goes c.end d g.going (back c.end i l g c.at (c.keeps 1 refl ∙ b.is)) in
      let kept = λ (r : ℕ) (own : is_main r ≡ true) (x : (r == 1) ≡ false) (y : (r == 5) ≡ false). c.keeps r own ∙ b.others r x ∙ a.others r y in
      let table : reg d 4 ≡ 0x80000 + 8 * i = kept 4 refl refl refl ∙ h.table_is in
      let count : reg d 9 ≡ before = kept 9 refl refl refl ∙ h.left_are in
      let e = compute (ins Addi 4 4 0 (pos 8)) d 0x10018 (0x80000 + 8 * (i + 1)) (good_jump m ranges c.end 0x10018 g) refl (omega arith) made.main_there.1.1.1.1.1.1.0 refl (omega arith) (omega arith) (omega (arith, table, l, few)) in
      let count_there : reg e.end 9 ≡ before = e.others 9 refl ∙ count in
      let f = compute (ins Addi 9 9 0 (negsuc 0)) e.end 0x1001c left e.good e.at (omega arith) made.main_there.1.1.1.1.1.1.1.0 refl (omega arith) (omega arith) (omega (arith, count_there, less, most)) in
      let first = walk_on Goes s a.end b.end 1 1 a.walk b.walk in
      let second = walk_on Goes s b.end c.end 2 32 first c.walk in
      let third = walk_on Goes s c.end d 34 1 second returned in
      let fourth = walk_on Goes s d e.end 35 1 third e.walk in
      record {
        end = f.end;
        walk = walk_on Goes s e.end f.end 36 1 fourth f.walk;
        is_in = record {
          good = f.good;
          zero_is = f.others 0 refl ∙ e.others 0 refl ∙ kept 0 refl refl refl ∙ h.zero_is;
          base = f.others 2 refl ∙ e.others 2 refl ∙ kept 2 refl refl refl ∙ h.base;
          at = f.at;
          table_is = f.others 4 refl ∙ e.is;
          rounds_are = f.others 8 refl ∙ e.others 8 refl ∙ kept 8 refl refl refl ∙ h.rounds_are;
          left_are = f.is;
        };
      }

  -- ---- branches
  pub moved_in : (s : State) (pc to at table rounds left : ℕ) → IsIn s pc table rounds left → step s ≡ moved s.regs at s → at ≡ to → Comes s 1 to table rounds left
  moved_in s pc to at table rounds left h e there =
      let g = h.good in
      record {
        end = moved s.regs at s;
        walk = walk_one Goes s (moved s.regs at s) g.going e;
        is_in = record { good = good_jump m ranges s at g; zero_is = h.zero_is; base = h.base; at = there; table_is = h.table_is; rounds_are = h.rounds_are; left_are = h.left_are };
      }

  -- a counter is 0, or not
  pub differs : (x y k : ℕ) → x ≡ k + 1 → y ≡ 0 → holds Bne x y ≡ true
  unfolding holds
  differs x y k e z = by (x == y) refl where
    by : (b : Bool) → (x == y) ≡ b → not b ≡ true
    by true t = absurd (omega (arith, eqb-true x y t, e, z))
    by false t = refl

  pub agrees : (x y : ℕ) → x ≡ 0 → y ≡ 0 → holds Bne x y ≡ false
  unfolding holds
  agrees x y e z = ap not (eq-eqb x y (e ∙ sym z))

  -- behind the call of a function
  more_calls : (s : State) (table rounds left : ℕ) → IsIn s 0x10020 table rounds (left + 1) → Comes s 1 0x10010 table rounds (left + 1)
  unfolding main
  more_calls s table rounds left h =
      let g = h.good in
      let at = h.at in
      let bne = ins Bne 0 9 0 (negsuc 15) in
      moved_in s 0x10020 0x10010 0x10010 table rounds (left + 1) h
      (branch_taken bne s 0x10010 g.going (fetched s bne 0x10020 g at (omega arith) made.main_there.1.1.1.1.1.1.1.1.0) refl (differs (reg s 9) (reg s 0) left h.left_are h.zero_is) (omega (arith, at)) (omega arith))
      refl

  no_more_calls : (s : State) (table rounds : ℕ) → IsIn s 0x10020 table rounds 0 → Comes s 1 0x10024 table rounds 0
  unfolding main
  no_more_calls s table rounds h =
      let g = h.good in
      let bne = ins Bne 0 9 0 (negsuc 15) in
      moved_in s 0x10020 0x10024 (next_pc s) table rounds 0 h
      (branch_not bne s g.going (fetched s bne 0x10020 g h.at (omega arith) made.main_there.1.1.1.1.1.1.1.1.0) refl (agrees (reg s 9) (reg s 0) h.left_are h.zero_is))
      (next_four s 0x10020 h.at (omega arith))

  -- all calls of a round
  pub table_loop : (k i left : ℕ) (s : State) (rounds : ℕ) → left ≡ suc k → i + left ≡ n → IsIn s 0x10010 (0x80000 + 8 * i) rounds left → Comes s (38 * left) 0x10024 (0x80000 + 8 * n) rounds 0
  table_loop zero i left s rounds e sum h =
      let few = made.few in
      let a = one_call s i rounds left 0 (omega (arith, e, sum)) (omega (arith, e)) (omega (arith, e)) h in
      let b = no_more_calls a.end (0x80000 + 8 * (i + 1)) rounds a.is_in in
      let last : 0x80000 + 8 * (i + 1) ≡ 0x80000 + 8 * n = omega (arith, e, sum) in
      subst (λ x. Comes s (38 * left) 0x10024 x rounds 0) last (comes_on s a.end 37 1 (38 * left) 0x10024 (0x80000 + 8 * (i + 1)) rounds 0 a.walk b (omega (arith, e)))
  table_loop (suc k) i left s rounds e sum h =
      let few = made.few in
      let a = one_call s i rounds left (k + 1) (omega (arith, e, sum)) (omega (arith, e)) (omega (arith, e, sum, few)) h in
      let b = more_calls a.end (0x80000 + 8 * (i + 1)) rounds k a.is_in in
      let c = table_loop k (i + 1) (k + 1) b.end rounds (omega arith) (omega (arith, e, sum)) b.is_in in
      comes_on s a.end 37 (1 + 38 * (k + 1)) (38 * left) 0x10024 (0x80000 + 8 * n) rounds 0 a.walk
      (comes_on a.end b.end 1 (38 * (k + 1)) (1 + 38 * (k + 1)) 0x10024 (0x80000 + 8 * n) rounds 0 b.walk c refl) (omega (arith, e))
