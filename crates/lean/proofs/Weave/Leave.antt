-- The leaves: where each leads, with the signature turned and the counter as it was.
use Rattle.std.proofs.Common.{◌≡◌, ℕ, zero, suc, ◌+◌, ◌%◌, ◌^◌, ◌<◌, ◌≤◌, ⊎_elim, Bool, true, false, cond, not, List, [], ◌∷◌, ◌++◌, refl, sym, ap, ◌∙◌, subst, arith, append_assoc}
use Rattle.std.specs.Prelude.{◌==◌, max, pos}
use Rattle.std.proofs.lemmas.Bool.{ne_eqb}
use Rattle.std.proofs.Math.Nat.{le-max_left, le-max_right}
use Rattle.rv_isa.specs.declared.class.Class.TheVariants as class
use Rattle.machine.specs.Table.{ins, Ins, Kind, Beq, Jal}
use Rattle.qed_model.specs.Promise.Kept.{NotTrapped}
use Rattle.machine.specs.Offsets.{distance_between}
use Rattle.qed_model.specs.Weave.Placed.{sum_of_sizes}
use Rattle.qed_model.specs.Weave.Sequences.{Reads, fired_check, guard, links, LAST_ORIGINAL, PAIR_DISTANCE, CURSOR, SIGNATURE, pair}
use Rattle.qed_model.specs.Weave.Lean.{turn, goes, opposite, check_way, taken, leave_as, cost, leave_cost_as}
use Rattle.qed_model.specs.Weave.LeanCode.{fall_to}
use Rattle.weave_core.specs.World.{World, Quiet, Twice, Item, Mark, Plain, Constant, Go, State, reg, moved, next_pc, Known, step, target, class_of, set_reg, holds, wrapped}
use Rattle.weave_core.specs.Blocks.{IsEntryOf, Goes}
use Rattle.weave_core.specs.Rows.{At, Led, Sourced}
use Rattle.weave_core.specs.WeaveLaws.{GoesTo, Onward, lands, is_lost}
use Rattle.lean.proofs.Weave.Carry.{size-append, Over, over_moved, Walk, walk_on, Passes, pass_none, guard_pass, pair_value, Branches, branch_step, branch_to, go_most, go_walk, halved_gone, jump_step, links_as, branch_taken, branch_passed, halved_regs, halved_views, halved_moved, led_none, led_more}
use Rattle.lean.proofs.Weave.Chain.{cost_append}
use Rattle.lean.proofs.Weave.Ways.{opposite_is, reads_behind}
use Rattle.lean.proofs.Weave.Turn.{Signed, turned, turn_any, turn_row}

-- x16 has an address, and x15 is as in u
abbrev pub SignedAs : State → State → ℕ → Type 0
SignedAs u y p = (reg y SIGNATURE ≡ p) × (reg y CURSOR ≡ reg u CURSOR)

-- in `least` to `most` steps to an entry with its signature, or to where the input goes no further
abbrev pub Went : World → (ℕ → Bool) → State → State → ℕ → ℕ → Type 0
Went w leader u t least most = GoesTo w u least most (λ n x. Onward w leader (SignedAs u) t x)

-- behind a walk that keeps the counter
pub went_behind :
    (w : World) (leader : ℕ → Bool) (u x t : State) (m b least most : ℕ) → Walk (Quiet w) u m x → reg x CURSOR ≡ reg u CURSOR → m ≤ b → Went w leader x t least most
    → Went w leader u t (m + least) (b + most)
went_behind w leader u x t m b least most a keeps le g = record {
  steps = m + g.steps;
  to = g.to;
  at_least = omega (arith, g.at_least);
  within = omega (arith, g.within, le);
  walk = walk_on (Quiet w) u x g.to m g.steps a g.walk;
  is = from g.is;
} where
  from : Onward w leader (SignedAs x) t g.to → Onward w leader (SignedAs u) t g.to
  from (lands st s so) = lands st (s.0, s.1 ∙ keeps) so
  from (is_lost going h so lacks) = is_lost going h so lacks

-- ---- sums
pub far_enough : (p size : ℕ) → p + 4 + size + 4 ≤ 2 ^ 63 → (p + wrapped (pos (4 + size))) % 2 ^ 64 ≡ p + 4 + size
far_enough p size h = omega (arith, h)

module _ (w : World) (leader : ℕ → Bool) (entries : (a : ℕ) → leader a ≡ true → IsEntryOf w a) (codes : (a : ℕ) → leader a ≡ true → (i : Ins) × (w.source a ≡ Known i)) where
  -- a turned state has the same halves
  halved_signed : (u t : State) (rest : List Item) (least most number : ℕ) (s : Signed w u rest least most number) → Twice w u t t → Twice w (moved s.regs s.sets.pc u) t t
  halved_signed u t rest least most number s h =
      halved_regs w u t t s.regs s.sets.pc s.long (λ q l. s.same q (λ e. absurd (omega arith)) (λ e. absurd (omega arith))) (λ q one l. s.same (q + PAIR_DISTANCE) (λ e. absurd (omega arith)) (λ e. absurd (omega arith))) h

  -- what is asked of a turn from a block to an address: the input stands there, which is a leader or no code
  pub record Turning (u t : State) (a p : ℕ) (rest : List Item) : Type 0 where
    pub at : At w u (turn a p ++ rest) t t
    pub low : a < 2 ^ 64
    pub sourced : Sourced w t
    pub here : t.pc ≡ p
    pub sign : reg u SIGNATURE ≡ a
    pub leads : leader a ≡ true

  -- where no code stands the turn has a step, since the block has some
  lost_row :
      (u t : State) (a p : ℕ) (rest : List Item) → Turning u t a p rest → ((i : Ins) → w.source p ≡ Known i → ⊥) → Went w leader u t 1 (cost (turn a p))
  lost_row u t a p rest x lacks =
      let s = turn_any w u rest x.at.over x.at.halved.output.regs a p x.at.reads in
      let other : (a == p) ≡ false = ne_eqb a p (λ e. let c = codes a x.leads in lacks c.0 (ap w.source (sym e) ∙ c.1)) in
      let some : cond {A = ℕ} (a == p) 0 1 ≡ 1 = ap (λ b. cond {A = ℕ} b 0 1) other in
      record {
        steps = s.steps;
        to = moved s.regs s.sets.pc u;
        at_least = omega (arith, s.at_least, some);
        within = s.within;
        walk = s.sets.walk;
        is = is_lost x.at.over.going (halved_signed u t rest (cond (a == p) 0 1) (cost (turn a p)) (turned w u rest x.at.over x.at.halved.output.regs a p) s x.at.halved) x.sourced (λ i h. lacks i (ap w.source (sym x.here) ∙ h));
      }

  -- to a leader, by a jump
  reach_row :
      (near : w.form.far ≡ false) (u t : State) (a p : ℕ) (rest : List Item) → Turning u t a p (Go p ∷ rest) → leader p ≡ true → Went w leader u t 1 (cost (turn a p) + 1)
  reach_row near u t a p rest x l =
      let s = turn_row w u (Go p ∷ rest) x.at.over x.at.halved.output.regs a p x.low (entries p l).low x.sign x.at.reads in
      let y = moved s.regs s.sets.pc u in
      let hy = halved_signed u t (Go p ∷ rest) (cond (a == p) 0 1) (cost (turn a p)) p s x.at.halved in
      let e = entries p l in
      let g = go_walk w y p rest (over_moved w.code u s.regs s.sets.pc x.at.over) s.sets.reads s.long e.entry_low e.grain in
      let one : go_most w.form.far ≡ 1 = ap go_most near in
      record {
        steps = s.steps + g.steps;
        to = moved g.regs (w.entry p) u;
        at_least = omega (arith, g.some);
        within = omega (arith, s.within, g.within, one);
        walk = walk_on (Quiet w) u y _ s.steps g.steps s.sets.walk g.walk;
        is = lands (record { over = over_moved w.code u g.regs (w.entry p) x.at.over; halved = halved_gone w y t t p (go_most w.form.far) g hy; pc = ap w.entry (sym x.here); leads = ap leader x.here ∙ l })
            (g.same 16 (λ e. absurd (omega arith)) ∙ s.sign ∙ sym x.here, g.same 15 (λ e. absurd (omega arith)) ∙ s.same 15 (λ e. absurd (omega arith)) (λ e. absurd (omega arith))) x.sourced;
      }

  -- a jump to a leader, or to no code
  pub goes_row :
      (near : w.form.far ≡ false) (u t : State) (a p : ℕ) (rest : List Item) → Turning u t a p (Go p ∷ rest) → Goes w leader p → Went w leader u t 1 (cost (goes a p))
  goes_row near u t a p rest x g =
      let sum : cost (goes a p) ≡ cost (turn a p) + 1 = cost_append (turn a p) (Go p ∷ []) in
      ⊎_elim
      (λ l. subst (λ n. Went w leader u t 1 n) (sym sum) (reach_row near u t a p rest x l))
      (λ lacks. let y = lost_row u t a p (Go p ∷ rest) x lacks in record { steps = y.steps; to = y.to; at_least = y.at_least; within = omega (arith, y.within, sum); walk = y.walk; is = y.is })
      g

  -- a fall to the entry behind, or to no code
  pub falls_row : (u t : State) (a p : ℕ) → Turning u t a p (fall_to leader p) → Goes w leader p → Went w leader u t 0 (cost (turn a p ++ fall_to leader p))
  falls_row u t a p x g =
      let sum = cost_append (turn a p) (fall_to leader p) in
      ⊎_elim
      (λ l.
      let s = turn_row w u (fall_to leader p) x.at.over x.at.halved.output.regs a p x.low (entries p l).low x.sign x.at.reads in
      let marked : Reads w.form.far w.code w.entry s.sets.pc (Mark p ∷ []) = subst (λ b. Reads w.form.far w.code w.entry s.sets.pc (cond b (Mark p ∷ []) (Go p ∷ []))) l s.sets.reads in
      record {
        steps = s.steps;
        to = moved s.regs s.sets.pc u;
        at_least = omega arith;
        within = omega (arith, s.within, sum);
        walk = s.sets.walk;
        is = lands (record {
          over = over_moved w.code u s.regs s.sets.pc x.at.over;
          halved = halved_signed u t (fall_to leader p) (cond (a == p) 0 1) (cost (turn a p)) p s x.at.halved;
          pc = sym marked.0 ∙ ap w.entry (sym x.here);
          leads = ap leader x.here ∙ l;
        }) (s.sign ∙ sym x.here, s.same 15 (λ e. absurd (omega arith)) (λ e. absurd (omega arith))) x.sourced;
      })
      (λ lacks. let y = lost_row u t a p (fall_to leader p) x lacks in record { steps = y.steps; to = y.to; at_least = omega arith; within = omega (arith, y.within, sum); walk = y.walk; is = y.is })
      g

-- ---- guards and return addresses, with their exact steps
module _ (w : World) where
  pub guard_cost : (u : State) (q : ℕ) (rest : List Item) → Over w.code u → Reads w.form.far w.code w.entry u.pc (guard q ++ rest) → (1 ≤ q → reg u q ≡ reg u (q + PAIR_DISTANCE)) → Passes w u (cost (guard q)) rest
  guard_cost u q rest o h same = by (q == 0) refl where
    by : (b : Bool) → (q == 0) ≡ b → Passes w u (cost (cond b [] (Plain (ins Beq 0 q (q + PAIR_DISTANCE) (pos 8)) ∷ fired_check ∷ []))) rest
    by true e = pass_none w u rest (subst (λ b. Reads w.form.far w.code w.entry u.pc (cond b [] (Plain (ins Beq 0 q (q + PAIR_DISTANCE) (pos 8)) ∷ fired_check ∷ []) ++ rest)) e h)
    by false e = guard_pass w u q rest o h same

  -- the words of a return address
  abbrev pub linking : ℕ → ℕ → List Item
  linking r v = cond (r == 0) [] (Constant r v ∷ Constant (pair r) v ∷ [])

  -- of x0 there are none
  pub link_words : (r v : ℕ) → 4 ≤ cost (linking (suc r) v)
  link_words r v = let e : (suc r == 0) ≡ false = ne_eqb (suc r) 0 (λ e. absurd (omega arith)) in subst (λ b. 4 ≤ cost (cond b [] (Constant (suc r) v ∷ Constant (pair (suc r)) v ∷ []))) (sym e) (omega arith)

  links_led :
      (r v p : ℕ) (u s : State) (rest : List Item) → At w u (linking r v ++ rest) s s → v < 2 ^ 64 → r ≤ LAST_ORIGINAL
      → Led w u 0 (cost (linking r v)) rest (moved (set_reg r v s.regs) p s) (moved (set_reg r v s.regs) p s)
  links_led zero v p u s rest a hv h =
      let t = moved s.regs p s in
      led_more w u 0 0 0 (cost (linking 0 v)) rest t t (omega arith) (omega arith) (led_none w u rest t t (record { over = a.over; reads = a.reads; halved = halved_views w u s s p p a.halved }))
  links_led (suc r) v p u s rest a hv h =
      let t = moved (set_reg (suc r) v s.regs) p s in
      led_more w u 0 4 0 (cost (linking (suc r) v)) rest t t (omega arith) (link_words r v) (links_as w (suc r) v p u s rest a hv h)

  -- ---- a jump
  module _ (leader : ℕ → Bool) (entries : (a : ℕ) → leader a ≡ true → IsEntryOf w a) (codes : (a : ℕ) → leader a ≡ true → (i : Ins) × (w.source a ≡ Known i)) (near : w.form.far ≡ false) where
    pub jump_leave :
        (d : ℕ) (u s : State) (i : Ins) (a : ℕ) → At w u (leave_as d [] (fall_to leader) class.Jump i a s.pc) s s → Sourced w s → w.source s.pc ≡ Known i → class_of i.kind ≡ class.Jump → NotTrapped (step s)
        → i.rd ≤ LAST_ORIGINAL → Goes w leader (target i s.pc) → a < 2 ^ 64 → leader a ≡ true → reg u SIGNATURE ≡ a → Went w leader u (step s) 1 (cost (leave_as 0 [] (fall_to leader) class.Jump i a s.pc))
    jump_leave d u s i a at so h c calm hd g low leads sign =
        let j = jump_step w s i so h c calm in
        let t = target i s.pc in
        let r : Led w u 0 (cost (links i s.pc)) (goes a t) (step s) (step s) = subst (λ x. Led w u 0 (cost (links i s.pc)) (goes a t) x x) (sym j.is) (links_led i.rd (next_pc s) (target i s.pc) u s (goes a t) at (omega arith) hd) in
        let x : Turning w leader entries codes r.to (step s) a t (Go t ∷ []) = record { at = r.at; low = low; sourced = j.sourced; here = j.pc; sign = r.sign ∙ sign; leads = leads } in
        let y = went_behind w leader u r.to (step s) r.steps (cost (links i s.pc)) 1 (cost (goes a t)) r.walk r.cursor r.within (goes_row w leader entries codes near r.to (step s) a t [] x g) in
        let sum = cost_append (links i s.pc) (goes a t) in
        record { steps = y.steps; to = y.to; at_least = omega (arith, y.at_least); within = omega (arith, y.within, sum); walk = y.walk; is = y.is }

    -- ---- a branch
    -- what stands behind the branch of the output: its way where it is not taken, and the other one
    abbrev other_way : Ins → ℕ → ℕ → List Item
    other_way i a at = check_way (opposite i.kind) i ++ (turn a ((at + 4) % 2 ^ 64) ++ fall_to leader ((at + 4) % 2 ^ 64))

    -- the branch of the output
    abbrev branched : Ins → ℕ → ℕ → Ins
    branched i a at = ins (opposite i.kind) 0 i.rs1 i.rs2 (pos (4 + sum_of_sizes false (taken i a (target i at))))

    -- where words behind others begin
    pub record Beyond (p : ℕ) (xs : List Item) (size : ℕ) : Type 0 where
      pub low : p + size + 4 ≤ 2 ^ 63
      pub grain : (p + size) % 4 ≡ 0
      pub reads : Reads w.form.far w.code w.entry (p + size) xs

    beyond_goes : (p a t : ℕ) (more : List Item) → Reads w.form.far w.code w.entry p (goes a t ++ more) → Beyond p more (sum_of_sizes false (goes a t))
    beyond_goes p a t more r =
        let flat : Reads w.form.far w.code w.entry p (turn a t ++ (Go t ∷ more)) = subst (λ l. Reads w.form.far w.code w.entry p l) (append_assoc (turn a t) (Go t ∷ []) more) r in
        let q = p + sum_of_sizes false (turn a t) in
        let go : Reads false w.code w.entry q (Go t ∷ more) = reads_behind false w.code w.entry p (turn a t) (Go t ∷ more) (subst (λ f. Reads f w.code w.entry p (turn a t ++ (Go t ∷ more))) near flat) in
        let low = w.low q (ins Jal 0 0 0 (distance_between q (w.entry t))) go.0.0 in
        let grain = w.grain q (ins Jal 0 0 0 (distance_between q (w.entry t))) go.0.0 in
        let sum : q + 4 ≡ p + sum_of_sizes false (goes a t) = let e = size-append false (turn a t) (Go t ∷ []) in omega (arith, e) in
        record { low = omega (arith, low, sum); grain = omega (arith, grain, sum); reads = subst (λ f. Reads f w.code w.entry (p + sum_of_sizes false (goes a t)) more) (sym near) (subst (λ b. Reads false w.code w.entry b more) sum go.1) }

    -- of the way that is taken
    pub beyond_taken : (i : Ins) (p a t : ℕ) (more : List Item) → Reads w.form.far w.code w.entry p (taken i a t ++ more) → Beyond p more (sum_of_sizes false (taken i a t))
    beyond_taken i p a t more r =
        let b = beyond_goes (p + 4 + 4) a t more r.1.1 in
        let sum : p + 4 + 4 + sum_of_sizes false (goes a t) ≡ p + sum_of_sizes false (taken i a t) = omega arith in
        record { low = omega (arith, b.low, sum); grain = omega (arith, b.grain, sum); reads = subst (λ q. Reads w.form.far w.code w.entry q more) sum b.reads }

    -- what is asked of a branch of the input
    pub record Branching (d : ℕ) (u s : State) (i : Ins) (a : ℕ) : Type 0 where
      pub at : At w u (leave_as d [] (fall_to leader) class.Branch i a s.pc) s s
      pub sourced : Sourced w s
      pub branch : class_of i.kind ≡ class.Branch
      pub first : i.rs1 ≤ LAST_ORIGINAL
      pub second : i.rs2 ≤ LAST_ORIGINAL
      pub to : Goes w leader (target i s.pc)
      pub on : Goes w leader ((s.pc + 4) % 2 ^ 64)
      pub low : a < 2 ^ 64
      pub leads : leader a ≡ true
      pub sign : reg u SIGNATURE ≡ a

    -- where one of its ways goes on, at `to`
    turning :
        (d : ℕ) (u s : State) (i : Ins) (a : ℕ) (x : Branching d u s i a) (b : Bool) → Branches w s i b → (to : ℕ) (xs : List Item) → Reads w.form.far w.code w.entry to (turn a (branch_to w b i s) ++ xs)
        → Turning w leader entries codes (moved u.regs to u) (step s) a (branch_to w b i s) xs
    turning d u s i a x b br to xs reads =
        let z = moved u.regs to u in
        let t = branch_to w b i s in
        record {
          at = record { over = over_moved w.code u u.regs to x.at.over; reads = reads; halved = subst (λ q. Twice w z q q) (sym br.is) (halved_views w z s s t t (halved_moved w u s s to x.at.halved)) };
          low = x.low;
          sourced = br.sourced;
          here = br.pc;
          sign = x.sign;
          leads = x.leads;
        }

    -- a branch that the pairs take too
    agrees :
        (u : State) (p : ℕ) (k : Kind) (i : Ins) (rest : List Item) → Over w.code u → class_of k ≡ class.Branch → holds k (reg u (pair i.rs1)) (reg u (pair i.rs2)) ≡ true
        → Reads w.form.far w.code w.entry p (check_way k i ++ rest) → Walk (Quiet w) (moved u.regs p u) 1 (moved u.regs (p + 4 + 4) u)
    agrees u p k i rest o c test r =
        let j = ins k 0 (pair i.rs1) (pair i.rs2) (pos 8) in
        let near = w.low p j r.0 in
        let grain = w.grain p j r.0 in
        branch_taken w (moved u.regs p u) j (p + 4 + 4) (over_moved w.code u u.regs p o) r.0 c test (omega (arith, near)) (omega (arith, grain))

    -- behind both branches, by one of the ways
    by_way :
        (u s : State) (i : Ins) (a p to : ℕ) → Walk (Quiet w) u 1 (moved u.regs p u) → Walk (Quiet w) (moved u.regs p u) 1 (moved u.regs to u) → (least most : ℕ) → Went w leader (moved u.regs to u) (step s) least most
        → most ≤ max (cost (goes a (target i s.pc))) (cost (turn a (next_pc s) ++ fall_to leader (next_pc s))) → Went w leader u (step s) 1 (leave_cost_as (fall_to leader) class.Branch i a s.pc)
    by_way u s i a p to one two least most way le =
        let z = moved u.regs to u in
        let r = went_behind w leader u z (step s) 2 2 least most (walk_on (Quiet w) u (moved u.regs p u) z 1 1 one two) refl (omega arith) way in
        record { steps = r.steps; to = r.to; at_least = omega (arith, r.at_least); within = omega (arith, r.within, le); walk = r.walk; is = r.is }

    -- the branch of the output, and its way
    way_row :
        (b : Bool) (d : ℕ) (u s : State) (i : Ins) (a : ℕ) (x : Branching d u s i a) → Branches w s i b → holds (opposite i.kind) (reg u i.rs1) (reg u i.rs2) ≡ not b
        → holds i.kind (reg u (pair i.rs1)) (reg u (pair i.rs2)) ≡ b → holds (opposite i.kind) (reg u (pair i.rs1)) (reg u (pair i.rs2)) ≡ not b → Went w leader u (step s) 1 (leave_cost_as (fall_to leader) class.Branch i a s.pc)
    way_row true d u s i a x br test pairs others =
        let t = target i s.pc in
        let n = next_pc s in
        let p = u.pc + 4 in
        let to = u.pc + 4 + 4 + 4 in
        let more = other_way i a s.pc in
        let one = branch_passed w u (branched i a s.pc) x.at.over x.at.reads.0 (opposite_is i.kind x.branch).0 test in
        let two = agrees u p i.kind i (goes a t ++ more) x.at.over x.branch pairs x.at.reads.1 in
        let tn = turning d u s i a x true br to (Go t ∷ more) (subst (λ l. Reads w.form.far w.code w.entry to l) (append_assoc (turn a t) (Go t ∷ []) more) x.at.reads.1.1.1) in
        by_way u s i a p to one two 1 (cost (goes a t)) (goes_row w leader entries codes near (moved u.regs to u) (step s) a t more tn x.to) (le-max_left (cost (goes a t)) (cost (turn a n ++ fall_to leader n)))
    way_row false d u s i a x br test pairs others =
        let n = next_pc s in
        let rest = turn a n ++ fall_to leader n in
        let b = beyond_taken i (u.pc + 4) a (target i s.pc) (other_way i a s.pc) x.at.reads.1 in
        let size = sum_of_sizes false (taken i a (target i s.pc)) in
        let p = u.pc + 4 + size in
        let to = p + 4 + 4 in
        let one = branch_taken w u (branched i a s.pc) p x.at.over x.at.reads.0 (opposite_is i.kind x.branch).0 test (far_enough u.pc size b.low) b.grain in
        let two = agrees u p (opposite i.kind) i rest x.at.over (opposite_is i.kind x.branch).0 others b.reads in
        let tn = turning d u s i a x false br to (fall_to leader n) b.reads.1.1 in
        by_way u s i a p to one two 0 (cost rest) (falls_row w leader entries codes (moved u.regs to u) (step s) a n tn x.on) (le-max_right (cost (goes a (target i s.pc))) (cost rest))

    pub branch_leave : (d : ℕ) (u s : State) (i : Ins) (a : ℕ) → Branching d u s i a → w.source s.pc ≡ Known i → NotTrapped (step s) → Went w leader u (step s) 1 (leave_cost_as (fall_to leader) class.Branch i a s.pc)
    branch_leave d u s i a x h calm =
        let br = branch_step w s i x.sourced h x.branch calm in
        let b = holds i.kind (reg s i.rs1) (reg s i.rs2) in
        let t = x.at.halved in
        let opp = (opposite_is i.kind x.branch).1 in
        let own : holds i.kind (reg u i.rs1) (reg u i.rs2) ≡ b = ap (λ p. holds i.kind p (reg u i.rs2)) (t.originals i.rs1 x.first) ∙ ap (λ p. holds i.kind (reg s i.rs1) p) (t.originals i.rs2 x.second) in
        let pairs : holds i.kind (reg u (pair i.rs1)) (reg u (pair i.rs2)) ≡ b = ap (λ p. holds i.kind p (reg u (pair i.rs2))) (pair_value w u s s i.rs1 t x.first) ∙ ap (λ p. holds i.kind (reg s i.rs1) p) (pair_value w u s s i.rs2 t x.second) in
        way_row b d u s i a x br (opp (reg u i.rs1) (reg u i.rs2) ∙ ap not own) pairs (opp (reg u (pair i.rs1)) (reg u (pair i.rs2)) ∙ ap not pairs)
