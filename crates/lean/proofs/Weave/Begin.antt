-- What runs first.
use Rattle.std.proofs.Common.{◌≡◌, ℕ, ◌+◌, ◌^◌, ◌<◌, ◌≤◌, true, inl, Bool, List, [], ◌∷◌, length, refl, ap, ◌∙◌, arith}
use Rattle.qed_model.specs.Weave.Sequences.{Reads, CURSOR, SIGNATURE}
use Rattle.qed_model.specs.Weave.Lean.{begin, first_word}
use Rattle.qed_model.specs.Weave.LeanCode.{Lean}
use Rattle.std.specs.Prelude.{pos}
use Rattle.machine.proofs.Lemmas.{over_moved, walk_on}
use Rattle.weave_core.specs.Blocks.{IsEntryOf}
use Rattle.weave_core.specs.Describes.{Describes}
use Rattle.weave_core.specs.World.{World, Quiet, GoodSpans, IsCursor, Item, Plain, Constant, Go, Program, start, zeros, AreStartRegs, State, reg, moved, ins, Addi}
use Rattle.weave_core.specs.WeaveLaws.{GoesTo, Stands, Starts}
use Rattle.weave_core.proofs.Lemmas.{addi_value, go_most, go_walk, halved_gone, begin_row, writes, halved_writes}
use Rattle.lean.specs.Ticked.{with_count, is_ticked_at}
use Rattle.lean.specs.Woven.{LeanIn, lean_weave_of}
use Rattle.lean.proofs.Weave.Chain.{Op, plain, constant, effects, Gives, read_back, all_temps, chain}
use Rattle.lean.proofs.Weave.Held.{ticked_is}

-- the first word is one
pub first_is : (base : ℕ) (spans : List (ℕ × ℕ)) → GoodSpans base spans → IsCursor spans (first_word base spans + 0)
first_is base [] g = tt
first_is base (r ∷ rs) g = inl (omega (arith, g.0.start), omega arith, omega (arith, g.0.some))

module _ (w : World) (l : Lean) (leader : ℕ → Bool) (x : LeanIn w l leader) (a : ℕ) (low : a < 2 ^ 64) where
  abbrev begin_ops : List Op
  begin_ops = constant 16 a ∷ plain (ins Addi CURSOR 0 0 (pos 2047)) (with_count 0 2047) ∷ []

  begin_gives : (u : State) → length u.regs ≡ 32 → reg u 0 ≡ 0 → Gives u u.regs begin_ops
  begin_gives u long zero_reg =
      let e1 : List (ℕ × ℕ) = (16, a) ∷ [] in (
        low,
        omega arith,
        refl,
        (
          refl,
          λ e. absurd (cc),
          λ p. addi_value (moved (writes e1 u.regs) p u) 15 0 0 (with_count 0 2047) (pos 2047) (read_back e1 u.regs 0 long refl ∙ zero_reg) (omega arith),
          tt,
        ),
      )

-- what runs first leads to the entry of the test, with the first data word and a count of 2047
pub begin_law :
    (f g : Program) (w : World) (l : Lean) (leader : ℕ → Bool) → LeanIn w l leader → Describes f g w → IsEntryOf w f.entry → leader f.entry ≡ true
    → Reads w.form.far w.code w.entry g.entry (begin w.distance f.entry) → (regs : List ℕ) → AreStartRegs regs
    → GoesTo w (start g regs) 27 31 (λ n y. Stands w leader y (start f zeros) × (reg y CURSOR ≡ with_count 0 2047) × (reg y SIGNATURE ≡ f.entry))
begin_law f g w l leader x of entry leads h regs are =
    let s0 = start f zeros in
    let b = begin_row f g w of regs are (begin_rest f.entry) h in
    let long = b.at.halved.output.regs in
    let ops = begin_ops w l leader x f.entry entry.low in
    let s = chain w b.to (Go f.entry ∷ []) b.at.over ops long (begin_gives w l leader x f.entry entry.low b.to long b.at.halved.output.zero_reg) b.at.reads in
    let ws = effects ops in
    let y = moved (writes ws b.to.regs) s.pc b.to in
    let hy = halved_writes w b.to s0 s0 ws s.pc (all_temps ws refl) b.at.halved in
    let oy = over_moved w.code b.to (writes ws b.to.regs) s.pc b.at.over in
    let go = go_walk w y f.entry [] oy s.reads hy.output.regs entry.entry_low entry.grain in
    let z = moved go.regs (w.entry f.entry) y in
    let one : go_most w.form.far ≡ 1 = ap go_most x.near in
    let fifteen : reg z CURSOR ≡ with_count 0 2047 = go.same 15 (λ e. absurd (omega arith)) ∙ read_back ws b.to.regs 15 long refl in
    let sixteen : reg z SIGNATURE ≡ f.entry = go.same 16 (λ e. absurd (omega arith)) ∙ read_back ws b.to.regs 16 long refl in
    record {
      steps = 27 + (3 + go.steps);
      to = z;
      at_least = omega arith;
      within = all_in go.steps (go_most w.form.far) go.within one;
      walk = walk_on (Quiet w) (start g regs) b.to z 27 (3 + go.steps) b.walk (walk_on (Quiet w) b.to y z 3 go.steps s.walk go.walk);
      is = (
        record { over = over_moved w.code y go.regs (w.entry f.entry) oy; halved = halved_gone w y s0 s0 f.entry (go_most w.form.far) go hy; pc = refl; leads = leads },
        fifteen,
        sixteen,
      );
    } where
      begin_rest : ℕ → List Item
      begin_rest a = Constant SIGNATURE a ∷ Plain (ins Addi CURSOR 0 0 (pos 2047)) ∷ Go a ∷ []

      all_in : (m n : ℕ) → m ≤ n → n ≡ 1 → 27 + (3 + m) ≤ 31
      all_in m n h e = omega (arith, h, e)

-- with what holds at an entry
pub lean_first :
    (f g : Program) (w : World) (l : Lean) (leader : ℕ → Bool) → LeanIn w l leader → Describes f g w → IsEntryOf w f.entry → leader f.entry ≡ true
    → Reads w.form.far w.code w.entry g.entry (begin w.distance f.entry) → (regs : List ℕ) → AreStartRegs regs
    → GoesTo w (start g regs) 27 31 (λ n y. Stands w leader y (start f zeros) × (is_ticked_at l.every w y f.entry ≡ true))
lean_first f g w l leader x of entry leads h regs are =
    let b = begin_law f g w l leader x of entry leads h regs are in
    record {
      steps = b.steps;
      to = b.to;
      at_least = b.at_least;
      within = b.within;
      walk = b.walk;
      is = (b.is.0, ticked_is l.every w b.to f.entry 0 2047 b.is.1 (omega arith) (omega arith) (omega arith) b.is.2 (first_is w.base w.form.spans w.spans_good));
    }

-- of the words that run first
pub lean_starts : (f g : Program) (w : World) (l : Lean) (leader : ℕ → Bool) → LeanIn w l leader → Starts f g w (lean_weave_of w l leader) leader
lean_starts f g w l leader x = record {
  first = λ of entry leads h regs are.
      let b = lean_first f g w l leader x of entry leads h regs are in
      record { steps = b.steps; to = b.to; at_least = omega (arith, b.at_least); within = b.within; walk = b.walk; is = b.is };
}
