-- Inside of a block, in any state of a run: from a word of its pieces the run comes to its leave.
use Rattle.std.proofs.Common.{◌≡◌, ℕ, zero, suc, ◌+◌, ◌*◌, ◌^◌, ◌<◌, ◌≤◌, Bool, false, List, [], ◌∷◌, ◌++◌, refl, sym, ap, subst, arith}
use Rattle.std.specs.Prelude.{slice_index, slice_set}
use Rattle.std.proofs.lemmas.Bool.{and_parts, eqb-true}
use Rattle.machine.specs.Members.{Among}
use Rattle.qed_model.specs.Promise.Kept.{after_output}
use Rattle.qed_model.specs.Promise.Landed.{placed_at}
use Rattle.qed_model.specs.Weave.Blocks.{begins_at}
use Rattle.qed_model.specs.Weave.Code.{pieces_of}
use Rattle.qed_model.specs.Weave.Lean.{leave, cost}
use Rattle.qed_model.specs.Weave.LeanCode.{Lean, worded, fall_to}
use Rattle.qed_model.specs.Weave.Placed.{sum_of_sizes}
use Rattle.qed_model.specs.Weave.Sequences.{Reads, Block, body_length, before_end, SIGNATURE, CURSOR, DISTANCE}
use Rattle.weave_core.specs.World.{World, Item, Going, Program, start, AreStartRegs, byte_at, State, reg, step, run}
use Rattle.weave_core.specs.Describes.{Describes}
use Rattle.weave_core.specs.Rows.{Sized}
use Rattle.weave_core.specs.Weave.{Weave}
use Rattle.lean.specs.Woven.{LeanPlan, lean_weave_of}
use Rattle.lean.specs.Strayed.{IsInBlock}
use Rattle.lean.proofs.Weave.Drift.{size_cost, Comes, comes_on, Drifting, Before, drift_from, flagged_moved, sized_step, standing_at}
use Rattle.lean.proofs.Weave.Plan.{BlockAt, pieces_same}
use Rattle.lean.proofs.Weave.Promise.{block_at, woven}
use Rattle.lean.proofs.Weave.Ways.{reads_behind}
use Rattle.lean.proofs.Weave.Offset.{drifts_pieces}

-- ---- registers have 64 bits
small_first : (xs : List ℕ) → ((r : ℕ) → slice_index xs r < 2 ^ 64) → (r : ℕ) → slice_index (slice_set xs 0 0) r < 2 ^ 64
small_first [] h r = h r
small_first (x ∷ xs) h zero = omega arith
small_first (x ∷ xs) h (suc r) = h (suc r)

pub sized_run : (n : ℕ) (u : State) → Sized u → Sized (run u n)
unfolding run
sized_run zero u z = z
sized_run (suc n) u z = sized_run n (step u) (sized_step u z)

pub small_at : (f g : Program) (w : World) → Describes f g w → (regs : List ℕ) → AreStartRegs regs → (t r : ℕ) → reg (after_output g regs t) r < 2 ^ 64
small_at f g w d regs are t r =
    let z : Sized (start g regs) = record { regs = small_first regs are.fit; bytes = λ q. subst (λ m. byte_at m q < 256) (sym d.output) (w.output_bytes q) } in
    (sized_run t (start g regs) z).regs r

module _ (f g : Program) (w : World) (l : Lean) (blocks : List Block) (p : LeanPlan f g w l blocks) where
  abbrev leader : ℕ → Bool
  leader a = begins_at blocks a

  abbrev v : Weave
  v = lean_weave_of w l leader

  -- the state of a run, anywhere else
  pub drifting_at : (regs : List ℕ) (t q : ℕ) → AreStartRegs regs → (after_output g regs t).outcome ≡ Going → let s = after_output g regs t in Drifting w (reg s SIGNATURE, reg s CURSOR, reg s DISTANCE) (placed_at q s)
  drifting_at regs t q are going =
      let st = standing_at f g w v leader (woven f g w l blocks p) regs are t in
      record { going = going; standing = record { code = st.code; flagged = flagged_moved w.output (after_output g regs t) q st.flagged }; sign = refl; cursor = refl; distance = refl }

  -- from a word of its pieces to before its leave
  module _ (x : ℕ × ℕ × ℕ) (y : State) (b : Block) (m : Among b blocks) (drifting : Drifting w x y) (inside : IsInBlock (worded w.form w.base w.entry l leader) w.entry b y.pc) where
    abbrev pub at : ℕ
    at = b.start + 4 * body_length b.body

    pub here : BlockAt w l leader b
    here = block_at f g w l blocks p b m

    abbrev pub leaves : List Item
    leaves = leave l.distance (before_end w.form) (fall_to leader) b.end b.start at

    abbrev pub body : List Item
    body = pieces_of v.code b.body b.start

    same_size : sum_of_sizes false (pieces_of (worded w.form w.base w.entry l leader) b.body b.start) ≡ sum_of_sizes false (pieces_of v.code b.body b.start)
    same_size = ap (sum_of_sizes false) (pieces_same w l leader b.body b.start)

    to_leave : Comes (Before w x leaves) y (cost (pieces_of v.code b.body b.start))
    to_leave =
        let own = eqb-true (l.start_of b.end at) b.start (and_parts _ _ here.good.own).0 in
        let enters = sum_of_sizes false (v.code.enter b.start) in
        let behind = reads_behind false w.code w.entry (w.entry b.start) (v.code.enter b.start) (body ++ v.code.leave b.end at) here.reads.1 in
        let reads : Reads false w.code w.entry (w.entry b.start + enters) (body ++ leaves) = subst (λ k. Reads false w.code w.entry (w.entry b.start + sum_of_sizes false (v.code.enter b.start)) (pieces_of v.code b.body b.start ++ leave l.distance (before_end w.form) (fall_to leader) b.end k (b.start + 4 * body_length b.body))) own behind in
        drift_from w body (drifts_pieces w l leader b.body b.end b.start here.good.pieces) inside.words (w.entry b.start + enters) x y leaves (omega (arith, inside.within, same_size)) drifting inside.there reads

    -- and what comes of the leave
    pub from_inside : (P : State → Type 0) (n : ℕ) → ((u : State) → Drifting w x u → Reads false w.code w.entry u.pc leaves → Comes P u n) → Comes P y (cost body + n)
    from_inside P n f = comes_on (Before w x leaves) P y (cost body) n to_leave (λ u k. f u k.0 k.1)

    pub few : 4 * cost body ≤ sum_of_sizes false (pieces_of (worded w.form w.base w.entry l leader) b.body b.start)
    few = let size = size_cost body in omega (arith, size, same_size)
