-- Any weave: its code is calm, and by its trace changes are caught.
use Rattle.std.proofs.Common.{◌≡◌, ℕ, zero, suc, ◌+◌, ◌*◌, ◌≤◌, true, List, [], ◌∷◌, Some, refl, ap, ◌∙◌, arith, Bool}
use Rattle.rv_isa.specs.declared.class.Class.TheVariants as class
use Rattle.qed_model.specs.declared.bounds.Bounds.{Bounds}
use Rattle.tests.specs.Admission.DataRanges.{word_count}
use Rattle.qed_model.specs.Promise.InStep.{CaughtInStep, CleanInStep}
use Rattle.qed_model.specs.Weave.Blocks.{begins_at}
use Rattle.qed_model.specs.Weave.Bounds.{word_bound}
use Rattle.qed_model.specs.Weave.Pieces.{piece_count}
use Rattle.qed_model.specs.Weave.Sequences.{Block, End, Falls, Stops, Ins, Class, class_of}
use Rattle.weave_core.specs.Blocks.{Leaves, EndStands}
use Rattle.weave_core.specs.KindItems.{AllBlocks, IsEnd, end_branches, end_jumps, end_jumps_reg, end_ends, end_illegal, AllPieces, GoodEnd}
use Rattle.weave_core.specs.Weave.{Weave, most_before_start, stage_steps}
use Rattle.weave_core.specs.WeaveLaws.{CheckedRows, Rows, Starts, Words, PiecesAt}
use Rattle.weave_core.specs.WeavePromise.{AllBlocksOf, PlanOf, OnlyCode, BoundsOf, WeaveCaught, WeaveClean}
use Rattle.weave_core.specs.World.{World, Program}
use Rattle.weave_core.proofs.Lemmas.{WeaveIn, in_step, quiet_before, plan_in}
use Rattle.lockstep.proofs.Numbered.{round_some}
use Rattle.lockstep.proofs.Beating.{sizes, traced, Bound, swept_end}
use Rattle.lockstep.proofs.Calm.{CalmCode}
use Rattle.lockstep.proofs.Cleaned.{cleaned, CleanAll, clean_of}
use Rattle.lockstep.proofs.Coded.{word_at, entries_open}
use Rattle.lockstep.proofs.Promise.{Times, BoundsBy, settles_all, CaughtAll, caught_of}
use Rattle.lockstep.proofs.Trace.{Sizes}

-- an instruction that ends a block
end_of : (w : World) (leader : ℕ → Bool) (i : Ins) (at : ℕ) (k : Class) → class_of i.kind ≡ k → Leaves k w leader i at → IsEnd i
end_of w leader i at class.End e l = end_ends e
end_of w leader i at class.Illegal e l = end_illegal e
end_of w leader i at class.Jump e l = end_jumps e l.0
end_of w leader i at class.Branch e l = end_branches e l.0 l.1
end_of w leader i at class.JumpReg e l = end_jumps_reg e l.0 l.1
end_of w leader i at k e l = absurd l

-- of any end
good_end : (w : World) (leader : ℕ → Bool) (e : End) (at : ℕ) → EndStands w leader e at → GoodEnd e
good_end w leader Falls at l = tt
good_end w leader (Stops i) at l = end_of w leader i at (class_of i.kind) refl l.1

-- pieces, and the end behind them
record Whole (ps : List (List Ins)) (e : End) : Type 0 where
  pieces : AllPieces ps
  end : GoodEnd e

-- of pieces and the end behind them
whole : (w : World) (v : Weave) (leader : ℕ → Bool) (ps : List (List Ins)) (e : End) (at : ℕ) → PiecesAt w v leader ps e at → Whole ps e
whole w v leader [] e at p = record { pieces = tt; end = good_end w leader e at p }
whole w v leader (p ∷ ps) e at q = let r = whole w v leader ps e _ q.1 in record { pieces = (q.0.fit, r.pieces); end = r.end }

-- of all blocks
pub all_blocks : (w : World) (v : Weave) (leader : ℕ → Bool) (bs : List Block) → AllBlocksOf w v leader bs → AllBlocks bs
all_blocks w v leader [] g = tt
all_blocks w v leader (b ∷ bs) g = let x = whole w v leader b.body b.end b.start g.0.pieces in (x.pieces, x.end, all_blocks w v leader bs g.1)

-- ---- the code of a plan
pub calm_plan :
    (f g : Program) (w : World) (v : Weave) (blocks : List Block) → PlanOf f g w v blocks → Rows w v (begins_at blocks) → Starts f g w v (begins_at blocks)
    → Words w.form.far v → OnlyCode f g w v.code blocks → 1 ≤ v.piece_steps → CalmCode f g w (most_before_start v) (stage_steps v)
calm_plan f g w v blocks plan rows starts law closes some =
    let good = all_blocks w v (begins_at blocks) blocks plan.good in
    let woven = plan_in f g w v blocks plan rows starts in
    record {
      world = plan.world;
      words = word_at f g w v blocks law closes good plan.words;
      entries = entries_open f g w v blocks law closes good plan.words;
      kept = in_step f g w v (begins_at blocks) woven (omega (arith, some));
      quiet = quiet_before f g w v (begins_at blocks) woven;
    }

-- where there are words, the bound of a word
word_bound_is : (words round first piece : ℕ) → 1 ≤ words → word_bound words round first piece ≡ Some (first + (piece_count round words + 2) * piece)
word_bound_is zero round first piece h = absurd (omega (arith, h))
word_bound_is (suc n) round first piece h = refl

-- ---- the promises
module _ (f g : Program) (w : World) (v : Weave) (blocks : List Block) (plan : PlanOf f g w v blocks) (rows : CheckedRows w v (begins_at blocks)) (starts : Starts f g w v (begins_at blocks)) (law : Words w.form.far v) (closes : OnlyCode f g w v.code blocks) (some : 1 ≤ v.round) (two : 2 ≤ v.leave_steps) (room : v.compare_steps + 17 ≤ v.piece_steps) where
  -- the output is woven from the input
  woven : WeaveIn f g w v (begins_at blocks)
  woven = plan_in f g w v blocks plan rows.rows starts

  -- the code of the output is calm
  code : CalmCode f g w (most_before_start v) (stage_steps v)
  code = calm_plan f g w v blocks plan rows.rows starts law closes (omega (arith, room))

  -- the sizes of the trace
  abbrev z : Sizes
  z = sizes f g w v (begins_at blocks) rows woven two room

  times : Times w z v.round
  times = record { words = refl; same = λ h. round_some (word_count w.form.spans) v.round h; some = some; big = omega (arith, room); fits = omega arith }

  -- the bounds by them
  by : (bounds : Bounds) → BoundsOf w v bounds → BoundsBy w z v.round v.first_steps v.end_steps bounds.register bounds.word
  by bounds are = record {
    of_register = let r = are.register in omega (arith, r);
    of_word = λ h. are.word ∙ word_bound_is (word_count w.form.spans) v.round (most_before_start v) (stage_steps v) h ∙ ap Some (omega arith);
  }

  -- changes are caught
  pub catches_all : (bounds : Bounds) → BoundsOf w v bounds → CaughtAll f g w (most_before_start v) (stage_steps v) bounds
  catches_all bounds are = record {
    settles = λ regs cs b start ordered free bound steady going.
        settles_all f g w (most_before_start v) (stage_steps v) code regs start z v.round v.first_steps (Bound f g w v (begins_at blocks) rows woven two room regs start) times (traced f g w v (begins_at blocks) rows woven two room regs start) bounds (by bounds are) cs b ordered free bound steady going;
  }

  pub catches : (bounds : Bounds) → BoundsOf w v bounds → CaughtInStep f g w.reached w.form.spans bounds (most_before_start v) (stage_steps v)
  catches bounds are = caught_of f g w (most_before_start v) (stage_steps v) bounds code (catches_all bounds are)

  -- with the sweep none ends silently
  pub cleans_all : v.sweeps ≡ true → CleanAll f g w (most_before_start v) (stage_steps v) (v.sweep_steps + 14)
  cleans_all sweeps = record {
    settles = λ regs cs e start ordered free early ended first steady.
        cleaned f g w (most_before_start v) (stage_steps v) code v.sweep_steps regs start cs e ordered free early ended first steady (λ always going. swept_end f g w v (begins_at blocks) rows woven two room regs start e always sweeps ended going);
  }

  pub cleans : v.sweeps ≡ true → CleanInStep f g w.reached w.form.spans (v.sweep_steps + 14) (most_before_start v) (stage_steps v)
  cleans sweeps = clean_of f g w (most_before_start v) (stage_steps v) (v.sweep_steps + 14) code (cleans_all sweeps)

pub weave_caught : WeaveCaught
weave_caught f g w v blocks bounds plan rows starts law closes some two room are = catches f g w v blocks plan rows starts law closes some two room bounds are

pub weave_clean : WeaveClean
weave_clean f g w v blocks plan rows starts law closes some two room sweeps = cleans f g w v blocks plan rows starts law closes some two room sweeps
