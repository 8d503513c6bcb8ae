-- The lean form as a weave, and what is asked of the words and the table that it is woven in.
use Rattle.std.specs.Prelude.{◌≡◌, ℕ, ◌+◌, ◌*◌, ◌%◌, ◌^◌, ◌<◌, ◌≤◌, Bool, true, false, cond, ◌==◌, ◌&&◌, ◌||◌, nat_le, Some, List, [], ◌∷◌, length}
use Rattle.tests.specs.Admission.DataRanges.{word_count}
use Rattle.tests.specs.Admission.Leaders.{is_indirect}
use Rattle.qed_model.specs.Weave.Bounds.{end_bound}
use Rattle.qed_model.specs.Weave.Pieces.{is_run}
use Rattle.qed_model.specs.Weave.Placed.{sum_of_sizes}
use Rattle.qed_model.specs.Weave.Sequences.{Reads, End, Falls, Stops, Block}
use Rattle.qed_model.specs.Promise.Kept.{Kept}
use Rattle.qed_model.specs.Promise.OwnSteps.{KeptInStep}
use Rattle.qed_model.specs.Promise.Landed.{IsEntry}
use Rattle.qed_model.specs.Promise.InStep.{CaughtInStep, CaughtEarly, CleanInStep, LandedInStep}
use Rattle.qed_model.specs.declared.plan.EntryRow.{EntryRow}
use Rattle.qed_model.specs.Weave.Blocks.{begins_at}
use Rattle.qed_model.specs.Weave.Code.{code_of}
use Rattle.qed_model.specs.Promise.Closed.{is_branch}
use Rattle.qed_model.specs.declared.bounds.Bounds.{Bounds}
use Rattle.qed_model.specs.Weave.Lean.{check, begin}
use Rattle.qed_model.specs.Weave.LeanCode.{Lean, fall_to, sequences, worded, block_steps, end_at, leads_on}
use Rattle.qed_model.specs.Weave.LeanBounds.{cost_of, entry_steps, call_steps, check_bound, period, register_bound, word_bound}
use Rattle.weave_core.specs.Describes.{Describes}
use Rattle.weave_core.specs.WeavePromise.{AllBlocksOf, OnlyCode}
use Rattle.weave_core.specs.Leaving.{sweep_cost}
use Rattle.weave_core.specs.World.{World, Known, Ins, class_of, Program}
use Rattle.weave_core.specs.Blocks.{IsEntryOf, TableAt}
use Rattle.weave_core.specs.Weave.{Weave}
use Rattle.lean.specs.Strayed.{Strayed, Displaced, Adrift}
use Rattle.lean.specs.Ticked.{is_ticked_at}
use Rattle.lean.specs.Undisturbed.{Undisturbed, undisturbed_piece, undisturbed_ends}

-- the most steps of the check, with the look-ups behind it
abbrev pub check_steps : World → ℕ
check_steps w = check_bound (word_count w.form.spans) (length w.form.spans) w.form.round

-- what stands before the end besides, with the sweep
abbrev pub swept_steps : World → ℕ
swept_steps w = end_bound w.form.sweep (length w.form.spans) (word_count w.form.spans)

-- the weave: a tick may go to the check, and then the entry is made once more
abbrev pub lean_weave_of : World → Lean → (ℕ → Bool) → Weave
lean_weave_of w l leader = record {
  code = sequences w.form w.entry l (fall_to leader) begin;
  fits = λ is. is_run is && nat_le (length is) l.inst_max;
  first_steps = 31;
  enter_steps = 2 * entry_steps l.land + (call_steps l.land + check_steps w);
  piece_steps = cost_of l.diverse * l.inst_max;
  compare_steps = 0;
  leave_steps = 27;
  end_steps = swept_steps w;
  sweeps = w.form.sweep;
  sweep_steps = sweep_cost w.form.spans;
  round = w.form.round;
  ends_at = λ e b at. (l.start_of e at == b) && leader b;
  held = is_ticked_at l.every;
}

-- The code is near, the halves are near enough, and the check is in its place. From an entry to the next tick there are
-- fewer steps than from check to check. Each leader has code, on its grain, its entry, and its place in the table
pub record LeanIn (w : World) (l : Lean) (leader : ℕ → Bool) : Type 0 where
  pub near : w.form.far ≡ false
  pub small : w.distance ≤ 2 ^ 32
  pub few : l.every ≤ 2047
  pub apart : l.distance ≡ w.distance
  pub check : Reads w.form.far w.code w.entry l.check (check w.base w.distance l.every w.form.round w.form.spans)
  pub ticks : (a : ℕ) → leader a ≡ true → l.most a < l.every
  pub known : (a : ℕ) → leader a ≡ true → IsEntryOf w a
  pub codes : (a : ℕ) → leader a ≡ true → (i : Ins) × (w.source a ≡ Known i)
  pub grain : (a : ℕ) → leader a ≡ true → a % 2 ≡ 0
  pub table : (a : ℕ) → leader a ≡ true → TableAt w a

-- ---- which blocks fall to the next
-- a block that falls, or ends in a branch, goes on behind its end
abbrev pub goes_on : End → ℕ → ℕ → Bool
goes_on Falls at t = at == t
goes_on (Stops i) at t = is_branch (class_of i.kind) && ((at + 4) % 2 ^ 64 == t)

abbrev pub begins_with : List Block → ℕ → Type 0
begins_with [] t = ⊥
begins_with (b ∷ bs) t = b.start ≡ t

-- where a block goes on at a leader, the next block begins there
abbrev pub InOrder : (ℕ → Bool) → List Block → Type 0
InOrder leader [] = Unit {0}
InOrder leader (b ∷ bs) = ((t : ℕ) → goes_on b.end (end_at b) t ≡ true → leader t ≡ true → begins_with bs t) × InOrder leader bs

-- ---- what ticks count
-- what the tick before an entry has counted of the steps behind it: none, where it has its own
abbrev pub owed : Lean → ℕ → ℕ
owed l t = cond (l.ticks t) 0 (l.most t)

-- a block that goes on where a register leads
abbrev pub by_register : End → Bool
by_register Falls = false
by_register (Stops i) = is_indirect (class_of i.kind)

-- where a block may go on: an end that is a jump by register may lead anywhere
abbrev pub may_lead : End → ℕ → ℕ → Bool
may_lead e at t = leads_on e at t || by_register e

-- the steps of a block are counted, with those to the next tick
abbrev pub IsCounted : Lean → (ℕ → Bool) → Block → Type 0
IsCounted l leader b =
    (block_steps l.diverse l.land leader b ≤ l.most b.start)
    × ((t : ℕ) → may_lead b.end (end_at b) t ≡ true → block_steps l.diverse l.land leader b + owed l t ≤ l.most b.start)

abbrev pub AreCounted : Lean → (ℕ → Bool) → List Block → Type 0
AreCounted l leader [] = Unit {0}
AreCounted l leader (b ∷ bs) = IsCounted l leader b × AreCounted l leader bs

-- the new code of g reads as the code of the blocks, and nothing else is code
pub record LeanPlan (f g : Program) (w : World) (l : Lean) (blocks : List Block) : Type 0 where
  pub world : Describes f g w
  pub sound : LeanIn w l (begins_at blocks)
  pub words : Reads false w.code w.entry g.entry (code_of (worded w.form w.base w.entry l (begins_at blocks)) w.distance f.entry blocks)
  pub check : l.check ≡ g.entry + sum_of_sizes false (begin w.distance f.entry)
  pub good : AllBlocksOf w (lean_weave_of w l (begins_at blocks)) (begins_at blocks) blocks
  pub begins : begins_at blocks f.entry ≡ true
  pub ticked : l.ticks f.entry ≡ true
  pub order : InOrder (begins_at blocks) blocks
  pub only : OnlyCode f g w (worded w.form w.base w.entry l (begins_at blocks)) blocks
  pub counts : AreCounted l (begins_at blocks) blocks

-- ---- the laws
-- the bounds on the steps of the output: once, and for each step of the input and once more
abbrev pub lean_start_of : World → ℕ
lean_start_of w = 31 + swept_steps w

abbrev pub lean_piece_of : World → Lean → ℕ
lean_piece_of w l = 27 + call_steps l.land + 2 * entry_steps l.land + check_steps w + cost_of l.diverse * l.inst_max

-- a plan keeps the values
abbrev pub LeanKept : Type 0
LeanKept = (f g : Program) (w : World) (l : Lean) (blocks : List Block) → LeanPlan f g w l blocks → Kept f g w.reached (lean_start_of w) (lean_piece_of w l)

-- in a plan the output comes to the input's states in their order
abbrev pub LeanKeptInStep : Type 0
LeanKeptInStep = (f g : Program) (w : World) (l : Lean) (blocks : List Block) → LeanPlan f g w l blocks
    → KeptInStep f g w.reached w.distance (lean_start_of w) (lean_piece_of w l)

-- the bounds of changes; those of early ones have no steps before the end
pub record IsLeanBoundsOf (w : World) (l : Lean) (bounds : Bounds) : Type 0 where
  pub register : bounds.register ≡ register_bound l.land (swept_steps w) (period l.land (check_steps w) l.every)
  pub word : bounds.word ≡ word_bound l.land (word_count w.form.spans) w.form.round (swept_steps w) (period l.land (check_steps w) l.every)
  pub early_register : bounds.early_register ≡ Some (register_bound l.land 0 (period l.land (check_steps w) l.every))
  pub early_word : bounds.early_word ≡ word_bound l.land (word_count w.form.spans) w.form.round 0 (period l.land (check_steps w) l.every)

-- in a plan changes are caught
abbrev pub LeanCaught : Type 0
LeanCaught = (f g : Program) (w : World) (l : Lean) (blocks : List Block) (bounds : Bounds) → LeanPlan f g w l blocks → 1 ≤ w.form.round
    → IsLeanBoundsOf w l bounds → CaughtInStep f g w.reached w.form.spans bounds (lean_start_of w) (lean_piece_of w l)

-- early ones within their own bounds
abbrev pub LeanCaughtEarly : Type 0
LeanCaughtEarly =
    (f g : Program) (w : World) (l : Lean) (blocks : List Block) (bounds : Bounds) → LeanPlan f g w l blocks → 1 ≤ w.form.round
    → IsLeanBoundsOf w l bounds → CaughtEarly f g w.reached w.form.spans bounds (lean_start_of w) (lean_piece_of w l)

-- where entries test the signature, jumps land
abbrev pub LeanLanded : Type 0
LeanLanded =
    (f g : Program) (w : World) (l : Lean) (blocks : List Block) (entries : List EntryRow) → LeanPlan f g w l blocks → l.land ≡ true
    → ((a e : ℕ) → IsEntry entries a e → (begins_at blocks a ≡ true) × (e ≡ w.entry a))
    → LandedInStep 4 f g w.reached entries (lean_start_of w) (lean_piece_of w l)

-- with `land`, if the code of a block runs under the signature of another one, the run is over soon
abbrev pub LeanStrayed : Type 0
LeanStrayed =
    (f g : Program) (w : World) (l : Lean) (blocks : List Block) → LeanPlan f g w l blocks → l.land ≡ true
    → Strayed g (worded w.form w.base w.entry l (begins_at blocks)) w.entry blocks

-- a run at the entry of a block under another signature is over, also without `land`
abbrev pub LeanDisplaced : Type 0
LeanDisplaced = (f g : Program) (w : World) (l : Lean) (blocks : List Block) → LeanPlan f g w l blocks
    → Displaced g (worded w.form w.base w.entry l (begins_at blocks)) w.entry blocks

-- and so is one with another number in x14
abbrev pub LeanAdrift : Type 0
LeanAdrift = (f g : Program) (w : World) (l : Lean) (blocks : List Block) → LeanPlan f g w l blocks
    → Adrift g (worded w.form w.base w.entry l (begins_at blocks)) w.distance w.entry blocks

-- the duplicate half does not reach the original half
abbrev pub LeanUndisturbed : Type 0
LeanUndisturbed =
    (f g : Program) (w : World) (l : Lean) (blocks : List Block) → LeanPlan f g w l blocks
    → Undisturbed f g w.reached w.base w.distance w.entry blocks (undisturbed_piece l.land (length w.form.spans) w.form.round) (undisturbed_ends w.form.spans)

-- with the sweep no change before it is silent at the end
abbrev pub LeanClean : Type 0
LeanClean =
    (f g : Program) (w : World) (l : Lean) (blocks : List Block) → LeanPlan f g w l blocks → w.form.sweep ≡ true
    → CleanInStep f g w.reached w.form.spans (sweep_cost w.form.spans + 14) (lean_start_of w) (lean_piece_of w l)
