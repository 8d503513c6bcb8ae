-- The leave of a JALR: the pair turns the signature; the guarded original is looked up, and so is the signature.
use Rattle.std.proofs.Common.{◌≡◌, ℕ, zero, suc, ◌+◌, ◌-◌, ◌*◌, ◌/◌, ◌%◌, ◌^◌, ◌<◌, ◌≤◌, inl, inr, ⊎_elim, Bool, true, List, [], ◌∷◌, ◌++◌, length, refl, sym, ap, ◌∙◌, subst, arith}
use Rattle.std.specs.Prelude.{pos, neg_ℤ, slice_index}
use Rattle.rv_isa.specs.declared.class.Class.TheVariants as class
use Rattle.machine.specs.Table.{ins, Ins, Add, Addi, Andi, Sub}
use Rattle.qed_model.specs.Promise.Kept.{NotTrapped}
use Rattle.qed_model.specs.Weave.Sequences.{Reads, guard, links, LAST_ORIGINAL, CURSOR, SIGNATURE, TEMPORARY, pair}
use Rattle.qed_model.specs.Weave.Lean.{take_target, turn_leap, called, check_distance, look_up, look_again, leave_as, cost}
use Rattle.qed_model.specs.Weave.LeanCode.{fall_to}
use Rattle.weave_core.specs.World.{World, Quiet, Twice, Item, State, reg, moved, imm, next_pc, Known, step, class_of, set_reg}
use Rattle.weave_core.specs.Blocks.{IsEntryOf, Goes, TableAt}
use Rattle.weave_core.specs.Rows.{At, Sourced}
use Rattle.weave_core.specs.WeaveLaws.{lands, is_lost}
use Rattle.lean.proofs.Weave.Carry.{Over, over_moved, Walk, walk_none, walk_on, own_pair, aim, Leaps, leap_step, addi_value, andi_value, linked, linked_out, links_sets, halved_original, halved_pair, halved_moved, pair_value, Sets, writes, halved_writes, add_result, sub_result, sets_equal}
use Rattle.lean.proofs.Weave.Chain.{Op, plain, constant, effects, Gives, read_back, all_temps, chain, cost_append}
use Rattle.lean.proofs.Weave.Check.{look_there}
use Rattle.lean.proofs.Weave.Leave.{Went, guard_cost, linking, link_words}
use Rattle.lean.proofs.Weave.Sign.{distance_set}

-- taking the block's address away leaves the target
leaves_target : (a n : ℕ) → a < 2 ^ 64 → ((a + n % 2 ^ 64 / 2 * 2) % 2 ^ 64 + (2 ^ 64 - a)) % 2 ^ 64 ≡ n % 2 ^ 64 / 2 * 2
leaves_target a n low = omega (arith, low)

-- ---- the words of the leave, in the block at a, for a signature and a value of the register
module _ (i : Ins) (a sign value : ℕ) where
  abbrev pub sum : ℕ
  sum = (value + imm i) % 2 ^ 64

  abbrev pub goal : ℕ
  goal = sum / 2 * 2

  -- ---- the target, by the original or by the pair, before other words
  abbrev pub aim_ops : ℕ → List Op → List Op
  aim_ops r rest = plain (ins Addi TEMPORARY r 0 i.imm) sum ∷ plain (ins Andi TEMPORARY TEMPORARY 0 (neg_ℤ (pos 2))) goal ∷ rest

  abbrev pub aimed_at : List (ℕ × ℕ)
  aimed_at = (30, sum) ∷ (30, goal) ∷ []

  pub aim_gives : (y : State) (r : ℕ) (rest : List Op) → length y.regs ≡ 32 → reg y r ≡ value → Gives y (writes aimed_at y.regs) rest → Gives y y.regs (aim_ops r rest)
  aim_gives y r rest long at behind =
      let l = y.regs in
      let e1 : List (ℕ × ℕ) = (30, sum) ∷ [] in (
        refl,
        λ e. absurd (cc),
        λ p. addi_value (moved l p y) 30 r value sum i.imm at refl,
        (
          refl,
          λ e. absurd (cc),
          λ p. andi_value (moved (writes e1 l) p y) 30 sum (read_back e1 l 30 long refl) (omega arith),
          behind,
        ),
      )

  -- ---- the signature
  abbrev v1 : ℕ
  v1 = (sign + goal) % 2 ^ 64

  abbrev pub signed : ℕ
  signed = (v1 + (2 ^ 64 - a)) % 2 ^ 64

  abbrev sign_ops : List Op
  sign_ops = plain (ins Add SIGNATURE SIGNATURE TEMPORARY (pos 0)) v1 ∷ constant 30 a ∷ plain (ins Sub SIGNATURE SIGNATURE TEMPORARY (pos 0)) signed ∷ []

  abbrev pub turn_ops : List Op
  turn_ops = aim_ops (pair i.rs1) sign_ops

  pub turn_gives : (u : State) → length u.regs ≡ 32 → reg u SIGNATURE ≡ sign → reg u (pair i.rs1) ≡ value → a < 2 ^ 64 → Gives u u.regs turn_ops
  turn_gives u long at is low =
      let l = u.regs in
      let e2 = aimed_at in
      let e4 : List (ℕ × ℕ) = (30, sum) ∷ (30, goal) ∷ (16, v1) ∷ (30, a) ∷ [] in
      aim_gives u (pair i.rs1) sign_ops long is (
        refl,
        λ e. absurd (cc),
        λ p. add_result (moved (writes e2 l) p u) 16 16 30 sign goal v1 (read_back e2 l 16 long refl ∙ at) (read_back e2 l 30 long refl) refl,
        (
          low,
          omega arith,
          refl,
          (
            refl,
            λ e. absurd (cc),
            λ p. sub_result (moved (writes e4 l) p u) 16 16 30 v1 a signed (read_back e4 l 16 long refl) (read_back e4 l 30 long refl) refl,
            tt,
          ),
        ),
      )

module _ (w : World) (leader : ℕ → Bool) (entries : (a : ℕ) → leader a ≡ true → IsEntryOf w a) where
  -- what is asked of a JALR of the input
  pub record Leaping (u s : State) (i : Ins) (a : ℕ) : Type 0 where
    pub at : At w u (leave_as w.distance [] (fall_to leader) class.JumpReg i a s.pc) s s
    pub sourced : Sourced w s
    pub first : i.rs1 ≤ LAST_ORIGINAL
    pub link : i.rd ≤ LAST_ORIGINAL
    pub there : Goes w leader (aim s i)
    pub table : leader (aim s i) ≡ true → TableAt w (aim s i)
    pub low : a < 2 ^ 64
    pub sign : reg u SIGNATURE ≡ a

  module _ (small : w.distance < 2 ^ 64) (u s : State) (i : Ins) (a : ℕ) (x : Leaping u s i a) where
    -- the register
    abbrev value : ℕ
    value = reg s i.rs1

    -- the look-ups
    abbrev looks : List Item
    looks = look_up TEMPORARY ++ look_again w.distance

    -- before them
    record Aimed : Type 0 where
      steps : ℕ
      to : State
      some : 1 ≤ steps
      within : steps ≤ 8 + (cost (guard i.rs1) + (3 + cost (links i s.pc)))
      walk : Walk (Quiet w) u steps to
      at : At w to looks (step s) (step s)
      target : reg to TEMPORARY ≡ aim s i
      sign : reg to SIGNATURE ≡ aim s i
      keeps : reg to CURSOR ≡ reg u CURSOR

    -- the words of a return address, with their exact steps
    links_cost :
        (r v : ℕ) (y : State) (rest : List Item) → Over w.code y → Reads w.form.far w.code w.entry y.pc (linking w r v ++ rest) → v < 2 ^ 64 → r ≤ LAST_ORIGINAL → length y.regs ≡ 32
        → (n : ℕ) × (n ≤ cost (linking w r v)) × Sets w y n rest (linked r v y.regs)
    links_cost zero v y rest o h hv hr long = (0, omega arith, record { pc = y.pc; walk = walk_none (Quiet w) y; reads = h })
    links_cost (suc r) v y rest o h hv hr long =
        let l = links_sets w (suc r) v y rest o h hv hr long in
        let few = link_words w r v in
        (l.steps, omega (arith, l.within, few), l.sets)

    -- the signature turned, and x14 compared
    record Turned (rest : List Item) : Type 0 where
      regs : List ℕ
      pc : ℕ
      walk : Walk (Quiet w) u 8 (moved regs pc u)
      reads : Reads w.form.far w.code w.entry pc rest
      halved : Twice w (moved regs pc u) s s
      sign : slice_index regs 16 ≡ aim s i
      keeps : slice_index regs 15 ≡ reg u CURSOR

    turned : (rest : List Item) → Reads w.form.far w.code w.entry u.pc (turn_leap i a ++ (check_distance w.distance ++ rest)) → Turned rest
    turned rest r =
        let h = x.at.halved in
        let long = h.output.regs in
        let turns = turn_ops i a a value in
        let s1 = chain w u (check_distance w.distance ++ rest) x.at.over turns long (turn_gives i a a value u long x.sign (pair_value w u s s i.rs1 h x.first) x.low) r in
        let w1 = effects turns in
        let l1 = writes w1 u.regs in
        let x1 = moved l1 s1.pc u in
        let h1 = halved_writes w u s s w1 s1.pc (all_temps w1 refl) h in
        let s2 = distance_set w x1 w.distance rest (over_moved w.code u l1 s1.pc x.at.over) h1.output.regs h1.distance small s1.reads in
        let w2 : List (ℕ × ℕ) = (30, w.distance) ∷ [] in
        let long1 = h1.output.regs in
        record {
          regs = writes w2 l1;
          pc = s2.pc;
          walk = walk_on (Quiet w) u x1 (moved (writes w2 l1) s2.pc u) 6 2 s1.walk s2.walk;
          reads = s2.reads;
          halved = halved_writes w x1 s s w2 s2.pc (all_temps w2 refl) h1;
          sign = read_back w2 l1 16 long1 refl ∙ read_back w1 u.regs 16 long refl ∙ leaves_target a (value + imm i) x.low;
          keeps = read_back w2 l1 15 long1 refl ∙ read_back w1 u.regs 15 long refl;
        }

    aimed : Leaps w s i → Aimed
    aimed lp =
        let v = next_pc s in
        let tail4 = links i s.pc ++ looks in
        let tail3 = called ++ tail4 in
        let tail2 = take_target i i.rs1 ++ tail3 in
        let aims = aim_ops i a a value i.rs1 [] in
        let t1 = turned (guard i.rs1 ++ tail2) x.at.reads in
        let l1 = t1.regs in
        let x1 = moved l1 t1.pc u in
        let o1 = over_moved w.code u l1 t1.pc x.at.over in
        let h1 = t1.halved in
        let g = guard_cost w x1 i.rs1 tail2 o1 t1.reads (own_pair w x1 s i.rs1 h1 x.first) in
        let x2 = moved l1 g.pc u in
        let o2 = over_moved w.code u l1 g.pc x.at.over in
        let h2 = halved_moved w x1 s s g.pc h1 in
        let s3 = chain w x2 tail3 o2 aims h2.output.regs (aim_gives i a a value x2 i.rs1 [] h2.output.regs (h2.originals i.rs1 x.first) tt) g.reads in
        let w3 = effects aims in
        let l3 = writes w3 l1 in
        let x3 = moved l3 s3.pc u in
        let o3 = over_moved w.code u l3 s3.pc x.at.over in
        let h3 = halved_writes w x2 s s w3 s3.pc (all_temps w3 refl) h2 in
        let long1 = h1.output.regs in
        let at30 : slice_index l3 30 ≡ aim s i = read_back w3 l1 30 long1 refl in
        let at16 : slice_index l3 16 ≡ aim s i = read_back w3 l1 16 long1 refl ∙ t1.sign in
        let s4 = sets_equal w x3 16 30 tail4 o3 s3.reads (at16 ∙ sym at30) in
        let x4 = moved l3 s4.pc u in
        let h4 = halved_moved w x3 s s s4.pc h3 in
        let l5 = links_cost i.rd v x4 looks (over_moved w.code u l3 s4.pc x.at.over) s4.reads (omega arith) x.link h4.output.regs in
        let regs = linked i.rd v l3 in
        let z = moved regs l5.2.pc u in
        let h5 : Twice w (moved (set_reg i.rd v l3) s4.pc u) (moved (set_reg i.rd v s.regs) (aim s i) s) s = halved_original w x4 s s i.rd v s4.pc (aim s i) x.link h4 in
        let h6 : Twice w z (moved (set_reg i.rd v s.regs) (aim s i) s) (moved (set_reg i.rd v s.regs) (aim s i) s) = halved_pair w (moved (set_reg i.rd v l3) s4.pc u) (moved (set_reg i.rd v s.regs) (aim s i) s) s i.rd v l5.2.pc (aim s i) x.link h5 in
        record {
          steps = 8 + (g.steps + (3 + l5.0));
          to = z;
          some = omega arith;
          within = add_up g.steps (cost (guard i.rs1)) l5.0 (cost (links i s.pc)) g.within l5.1;
          walk = walk_on (Quiet w) u x1 z 8 (g.steps + (3 + l5.0)) t1.walk (walk_on (Quiet w) x1 x2 z g.steps (3 + l5.0) g.walk (walk_on (Quiet w) x2 x4 z 3 l5.0 (walk_on (Quiet w) x2 x3 x4 2 1 s3.walk s4.walk) l5.2.walk));
          at = record { over = over_moved w.code u regs l5.2.pc x.at.over; reads = l5.2.reads; halved = subst (λ y. Twice w z y y) (sym lp.is) h6 };
          target = linked_out i.rd v 30 l3 x.link (omega arith) (inr (omega arith)) ∙ at30;
          sign = linked_out i.rd v 16 l3 x.link (omega arith) (inl (omega arith)) ∙ at16;
          keeps = linked_out i.rd v 15 l3 x.link (omega arith) (inl (omega arith)) ∙ read_back w3 l1 15 long1 refl ∙ t1.keeps;
        } where
          add_up : (m c n d : ℕ) → m ≤ c → n ≤ d → 8 + (m + (3 + n)) ≤ 8 + (c + (3 + d))
          add_up m c n d h e = omega (arith, h, e)

    -- ---- all of it
    leap_cost : cost (leave_as 0 [] (fall_to leader) class.JumpReg i a s.pc) ≡ 8 + (cost (guard i.rs1) + (3 + cost (links i s.pc))) + 11
    leap_cost =
        let some : List Item = look_up TEMPORARY ++ look_again 0 in
        let e = cost_append (guard i.rs1) (take_target i i.rs1 ++ (called ++ (links i s.pc ++ some))) in
        let f = cost_append (links i s.pc) some in
        omega (arith, e, f)

    pub leap_leave : w.source s.pc ≡ Known i → class_of i.kind ≡ class.JumpReg → NotTrapped (step s) → Went w leader u (step s) 1 (cost (leave_as 0 [] (fall_to leader) class.JumpReg i a s.pc))
    leap_leave h c calm =
        let lp = leap_step w s i x.sourced h c calm in
        let y = aimed lp in
        subst (λ n. Went w leader u (step s) 1 n) (sym leap_cost)
        (⊎_elim
        (λ l.
        let g = look_there w y.to (step s) (aim s i) 30 (x.table l) y.at.over y.at.halved leader (entries (aim s i) l) l lp.pc y.target y.sign y.at.reads in
        record {
          steps = y.steps + g.steps;
          to = g.to;
          at_least = omega (arith, y.some);
          within = omega (arith, y.within, g.within);
          walk = walk_on (Quiet w) u y.to g.to y.steps g.steps y.walk g.walk;
          is = lands g.is.0 (g.is.1 ∙ y.sign ∙ sym lp.pc, g.is.2 ∙ y.keeps) lp.sourced;
        })
        (λ lacks. record {
          steps = y.steps;
          to = y.to;
          at_least = y.some;
          within = omega (arith, y.within);
          walk = y.walk;
          is = is_lost y.at.over.going y.at.halved lp.sourced (λ j m. lacks j (ap w.source (sym lp.pc) ∙ m));
        })
        x.there)
