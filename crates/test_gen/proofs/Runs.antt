-- Runs of a generated test: body instructions step without a trap, and keep the registers of `main`.
use Rattle.std.proofs.Common.{◌≡◌, ℕ, suc, ◌+◌, ◌*◌, ◌%◌, ◌^◌, ◌<◌, ◌≤◌, Bool, true, false, cond, ◌&&◌, List, [], ◌∷◌, length, refl, sym, ap, ◌∙◌, subst, arith}
use Rattle.std.specs.Prelude.{◌==◌, slice_index}
use Rattle.std.specs.List.{list_any}
use Rattle.std.proofs.lemmas.Bool.{false≢true}
use Rattle.rv_isa.specs.declared.class.Class.TheVariants as class
use Rattle.rv_isa.proofs.RegsLaws.{slice_index-set_reg_other, length-set_reg}
use Rattle.machine.specs.declared.outcome.Outcome.TheVariants.{Going}
use Rattle.machine.specs.Memory.{Flags, Memory, flags_at, allows, wrap, put, number, grants, byte_at, byte_in, get}
use Rattle.machine.specs.Table.{decode_of, Ins}
use Rattle.machine.specs.Values.{width_of, loaded}
use Rattle.machine.specs.Step.{State, reg, moved, stored, imm, place, result, next, next_pc, in_range, Known, Refused, known_or, HasAt, fetched_at, class_of, set_reg}
use Rattle.machine.proofs.Lemmas.{same_number, get-put_outside, grants_from, grants-flags, flags-put, step-compute, step-load, step-store, Walk, walk_none, walk_one, walk_on}
use Rattle.machine.specs.Members.{Every}

-- ---- registers
-- the registers that `main` names and bodies do not
abbrev pub is_main : ℕ → Bool
is_main r = list_any (λ k. r == k) (0 ∷ 1 ∷ 2 ∷ 4 ∷ 8 ∷ 9 ∷ [])

other_register : (r d : ℕ) → is_main r ≡ true → is_main d ≡ false → r ≡ d → ⊥
other_register r d h k e = false≢true (sym k ∙ ap is_main (sym e) ∙ h)

kept_set : (regs : List ℕ) (d v r : ℕ) → is_main d ≡ false → is_main r ≡ true → slice_index (set_reg d v regs) r ≡ slice_index regs r
kept_set regs d v r k h = slice_index-set_reg_other regs d v r (other_register r d h k)

-- ---- body instructions
-- the access is to a data word, counted from x2
pub record IsAccess (i : Ins) : Type 0 where
  pub word : ℕ
  pub small : word < 256
  pub base : i.rs1 ≡ 2
  pub offset_is : imm i ≡ 8 * word
  pub width : width_of i.kind ≡ 8

pub data IsBody (i : Ins) : Type 0 where
  Computes : class_of i.kind ≡ class.Compute → is_main i.rd ≡ false → IsBody i
  Loads : class_of i.kind ≡ class.Load → is_main i.rd ≡ false → IsAccess i → IsBody i
  Stores : class_of i.kind ≡ class.Store → IsAccess i → IsBody i

place_is : (i : Ins) (s : State) (a : IsAccess i) → reg s 2 ≡ 0x90000 → place i s ≡ 0x90000 + 8 * a.word
place_is i s a two =
    let small = a.small in
    let wraps : (0x90000 + 8 * a.word) % 2 ^ 64 ≡ 0x90000 + 8 * a.word = omega (arith, small) in
    ap (λ r. (reg s r + imm i) % 2 ^ 64) a.base ∙ ap (λ v. (v + imm i) % 2 ^ 64) two ∙ ap (λ x. (0x90000 + x) % 2 ^ 64) a.offset_is ∙ wraps

-- ---- states on the way
pub record HasData (m : Memory) : Type 0 where
  pub reads : (k : ℕ) → k < 2048 → allows (λ f. f.read) (get m (0x90000 + k)) ≡ true
  pub writes : (k : ℕ) → k < 2048 → allows (λ f. f.write) (get m (0x90000 + k)) ≡ true

-- the state goes on, with the permissions of the memory, and all that is below the data
pub record IsGood (m : Memory) (ranges : List (ℕ × ℕ)) (s : State) : Type 0 where
  pub going : s.outcome ≡ Going
  pub ranges_are : s.ranges ≡ ranges
  pub flags : (q : ℕ) → flags_at s.memory q ≡ flags_at m q
  pub fixed : (q : ℕ) → q < 0x90000 → get s.memory q ≡ get m q
  pub count : length s.regs ≡ 32

abbrev pub Goes : State → Type 0
Goes s = s.outcome ≡ Going

module _ (m : Memory) (ranges : List (ℕ × ℕ)) where
  good_moved : (s : State) (regs : List ℕ) (pc : ℕ) → IsGood m ranges s → length regs ≡ 32 → IsGood m ranges (moved regs pc s)
  good_moved s regs pc g l = record { going = g.going; ranges_are = g.ranges_are; flags = g.flags; fixed = g.fixed; count = l }

  pub good_set : (s : State) (d v pc : ℕ) → IsGood m ranges s → IsGood m ranges (moved (set_reg d v s.regs) pc s)
  good_set s d v pc g = good_moved s (set_reg d v s.regs) pc g (length-set_reg s.regs d v ∙ g.count)

  pub good_jump : (s : State) (pc : ℕ) → IsGood m ranges s → IsGood m ranges (moved s.regs pc s)
  good_jump s pc g = good_moved s s.regs pc g g.count

  good_stored : (s : State) (a v pc : ℕ) → IsGood m ranges s → 0x90000 ≤ a → a + 8 ≤ 2 ^ 64 → IsGood m ranges (stored (put s.memory a 8 v) pc s)
  good_stored s a v pc g low high = record {
    going = g.going;
    ranges_are = g.ranges_are;
    flags = λ q. flags-put s.memory a 8 v q ∙ g.flags q;
    fixed = λ q l. get-put_outside s.memory a 8 v q (omega (arith, low, high, l)) ∙ g.fixed q l;
    count = g.count;
  }

  -- ---- what is fetched
  byte_kept : (s : State) (a i : ℕ) → IsGood m ranges s → a + 4 ≤ 0x90000 → i < 4 → byte_at s.memory (wrap (a + i)) ≡ byte_at m (wrap (a + i))
  unfolding byte_at
  byte_kept s a i g h l = ap byte_in (g.fixed (wrap (a + i)) (omega (arith, h, l)))

  fetch_kept : (s : State) (a : ℕ) → IsGood m ranges s → a + 4 ≤ 0x90000 → fetched_at s.memory ranges a ≡ fetched_at m ranges a
  unfolding fetched_at
  fetch_kept s a g h =
      let granted = grants-flags (λ f. f.execute) s.memory m a 4 g.flags in
      let word = same_number s.memory m a 4 (λ i l. byte_kept s a i g h l) in
      λ n. cond ((a % 4 == 0) && (in_range a ranges && granted n)) (known_or (word n) (decode_of (word n))) Refused

  pub next_is : (s : State) (i : Ins) → IsGood m ranges s → s.pc + 4 ≤ 0x90000 → fetched_at m ranges s.pc ≡ Known i → next s ≡ Known i
  next_is s i g h k = ap (λ rs. fetched_at s.memory rs s.pc) g.ranges_are ∙ fetch_kept s s.pc g h ∙ k

  -- ---- walks that keep the registers of `main`
  pub record Reaches (s : State) (n pc : ℕ) : Type 0 where
    pub end : State
    pub walk : Walk Goes s n end
    pub good : IsGood m ranges end
    pub at : end.pc ≡ pc
    pub keeps : (r : ℕ) → is_main r ≡ true → reg end r ≡ reg s r

  pub joined : (s : State) (i n all pc last : ℕ) (a : Reaches s i pc) → Reaches a.end n last → i + n ≡ all → Reaches s all last
  joined s i n all pc last a b e = record {
    end = b.end;
    walk = subst (λ k. Walk Goes s k b.end) e (walk_on Goes s a.end b.end i n a.walk b.walk);
    good = b.good;
    at = b.at;
    keeps = λ r h. b.keeps r h ∙ a.keeps r h;
  }

  module _ (data_there : HasData m) where
    granted :
        (need : Flags → Bool) (s : State) (i : Ins) (a : IsAccess i) → IsGood m ranges s → reg s 2 ≡ 0x90000
        → ((k : ℕ) → k < 2048 → allows need (get m (0x90000 + k)) ≡ true) → grants need s.memory (place i s) (width_of i.kind) ≡ true
    granted need s i a g two h =
        let small = a.small in
        ap (λ p. grants need s.memory p (width_of i.kind)) (place_is i s a two)
        ∙ ap (grants need s.memory (0x90000 + 8 * a.word)) a.width
        ∙ grants-flags need s.memory m (0x90000 + 8 * a.word) 8 g.flags
        ∙ grants_from need m (0x90000 + 8 * a.word) 8 (λ j l.
        let here : wrap (0x90000 + 8 * a.word + j) ≡ 0x90000 + (8 * a.word + j) = omega (arith, small, l) in
        ap (λ q. allows need (get m q)) here ∙ h (8 * a.word + j) (omega (arith, small, l)))

    -- one body instruction
    body_step : (i : Ins) (s : State) → IsBody i → IsGood m ranges s → reg s 2 ≡ 0x90000 → s.pc + 4 ≤ 0x90000 → fetched_at m ranges s.pc ≡ Known i → Reaches s 1 (s.pc + 4)
    body_step i s (Computes c d) g two h k =
        let v = result i.kind i s in
        record {
          end = moved (set_reg i.rd v s.regs) (next_pc s) s;
          walk = walk_one Goes s (moved (set_reg i.rd v s.regs) (next_pc s) s) g.going (step-compute s i g.going (next_is s i g h k) c);
          good = good_set s i.rd v (next_pc s) g;
          at = omega (arith, h);
          keeps = λ r e. kept_set s.regs i.rd v r d e;
        }
    body_step i s (Loads c d a) g two h k =
        let v = loaded i.kind (number s.memory (place i s) (width_of i.kind)) in
        record {
          end = moved (set_reg i.rd v s.regs) (next_pc s) s;
          walk = walk_one Goes s (moved (set_reg i.rd v s.regs) (next_pc s) s) g.going (step-load s i g.going (next_is s i g h k) c (granted (λ f. f.read) s i a g two data_there.reads));
          good = good_set s i.rd v (next_pc s) g;
          at = omega (arith, h);
          keeps = λ r e. kept_set s.regs i.rd v r d e;
        }
    body_step i s (Stores c a) g two h k =
        let to = stored (put s.memory (place i s) (width_of i.kind) (reg s i.rs2)) (next_pc s) s in
        let small = a.small in
        let there = place_is i s a two in
        record {
          end = to;
          walk = walk_one Goes s to g.going (step-store s i g.going (next_is s i g h k) c (granted (λ f. f.write) s i a g two data_there.writes));
          good = subst (λ w. IsGood m ranges (stored (put s.memory (place i s) w (reg s i.rs2)) (next_pc s) s)) (sym a.width) (good_stored s (place i s) (reg s i.rs2) (next_pc s) g (omega (arith, there)) (omega (arith, there, small)));
          at = omega (arith, h);
          keeps = λ r e. refl;
        }

    -- a list of body instructions
    pub body_walk :
        (is : List Ins) (s : State) → Every IsBody is → IsGood m ranges s → reg s 2 ≡ 0x90000 → s.pc + 4 * length is ≤ 0x90000 → HasAt (fetched_at m ranges) s.pc is
        → Reaches s (length is) (s.pc + 4 * length is)
    body_walk [] s p g two h k = record { end = s; walk = walk_none Goes s; good = g; at = omega arith; keeps = λ r e. refl }
    body_walk (i ∷ is) s p g two h k =
        let a = body_step i s p.0 g two (omega (arith, h)) k.0 in
        let at = a.at in
        let b = body_walk is a.end p.1 a.good (a.keeps 2 refl ∙ two) (omega (arith, at, h)) (subst (λ x. HasAt (fetched_at m ranges) x is) (sym at) k.1) in
        let last : a.end.pc + 4 * length is ≡ s.pc + 4 * suc (length is) = omega (arith, at) in
        joined s 1 (length is) (suc (length is)) (s.pc + 4) (s.pc + 4 * suc (length is)) a (subst (λ x. Reaches a.end (length is) x) last b) (omega arith)
