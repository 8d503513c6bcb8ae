-- The promises of any weave.
use Rattle.std.specs.Prelude.{◌≡◌, ℕ, ◌+◌, ◌*◌, ◌≤◌, ◌⊎◌, Bool, true, List, [], ◌∷◌, ◌++◌, length, pos}
use Rattle.qed_model.specs.declared.bounds.Bounds.{Bounds}
use Rattle.qed_model.specs.declared.plan.EntryRow.{EntryRow}
use Rattle.qed_model.specs.Promise.Kept.{Kept}
use Rattle.qed_model.specs.Promise.Landed.{IsEntry}
use Rattle.qed_model.specs.Promise.InStep.{CaughtInStep, CleanInStep, LandedInStep}
use Rattle.qed_model.specs.Weave.Bounds.{register_bound, word_bound}
use Rattle.qed_model.specs.Weave.Blocks.{begins_at}
use Rattle.qed_model.specs.Weave.Placed.{instructions_from}
use Rattle.qed_model.specs.Weave.Sequences.{Reads, Block, Ins}
use Rattle.tests.specs.Admission.DataRanges.{word_count}
use Rattle.weave_core.specs.World.{World, Illegal, ins, Known, Program}
use Rattle.weave_core.specs.Describes.{Describes}
use Rattle.weave_core.specs.Weave.{Weave, most_before_start, stage_steps}
use Rattle.qed_model.specs.Weave.Code.{Sequences, code_of, entries_of}
use Rattle.weave_core.specs.WeaveLaws.{BlockOf, Rows, CheckedRows, Starts, Guarded, Words}

-- each of the blocks is a block of the input
abbrev pub AllBlocksOf : World → Weave → (ℕ → Bool) → List Block → Type 0
AllBlocksOf w v leader [] = Unit {0}
AllBlocksOf w v leader (b ∷ bs) = BlockOf w v leader b × AllBlocksOf w v leader bs

-- the new code of g reads as the items of the weave for the blocks
pub record PlanOf (f g : Program) (w : World) (v : Weave) (blocks : List Block) : Type 0 where
  pub world : Describes f g w
  pub words : Reads w.form.far w.code w.entry g.entry (code_of v.code w.distance f.entry blocks)
  pub good : AllBlocksOf w v (begins_at blocks) blocks
  pub begins : begins_at blocks f.entry ≡ true

-- any weave with the laws of the rows keeps the values
abbrev pub WeaveKept : Type 0
WeaveKept =
    (f g : Program) (w : World) (v : Weave) (blocks : List Block) → PlanOf f g w v blocks → Rows w v (begins_at blocks)
    → Starts f g w v (begins_at blocks) → Kept f g w.reached (most_before_start v) (stage_steps v)

-- with the laws of the rows and the entry a jump to a wrong entry fires
abbrev pub WeaveLanded : Type 0
WeaveLanded =
    (f g : Program) (w : World) (v : Weave) (blocks : List Block) (entries : List EntryRow) → PlanOf f g w v blocks → Rows w v (begins_at blocks)
    → Starts f g w v (begins_at blocks) → Guarded w v 4
    → ((a e : ℕ) → IsEntry entries a e → (begins_at blocks a ≡ true) × (e ≡ w.entry a))
    → LandedInStep 4 f g w.reached entries (most_before_start v) (stage_steps v)

-- nothing else is code
pub record OnlyCode (f g : Program) (w : World) (s : Sequences) (blocks : List Block) : Type 0 where
  pub only :
      (a : ℕ) (i : Ins) → w.code a ≡ Known i
      → (k : ℕ) × (a ≡ g.entry + 4 * k)
      × (a ≤ g.entry + 4 * length (instructions_from w.form.far w.entry g.entry (s.first w.distance f.entry ++ entries_of s blocks)))
  pub stubbed : (t : ℕ) → (begins_at blocks t ≡ true) ⊎ (w.code (w.entry t) ≡ Known (ins Illegal 0 0 0 (pos 0)))

-- the bounds are those of the weave
pub record BoundsOf (w : World) (v : Weave) (bounds : Bounds) : Type 0 where
  pub register : bounds.register ≡ register_bound (most_before_start v) (stage_steps v)
  pub word : bounds.word ≡ word_bound (word_count w.form.spans) v.round (most_before_start v) (stage_steps v)

-- with the laws of the rows and the words changes are caught
abbrev pub WeaveCaught : Type 0
WeaveCaught =
    (f g : Program) (w : World) (v : Weave) (blocks : List Block) (bounds : Bounds) → PlanOf f g w v blocks → CheckedRows w v (begins_at blocks)
    → Starts f g w v (begins_at blocks) → Words w.form.far v → OnlyCode f g w v.code blocks → 1 ≤ v.round
    → 2 ≤ v.leave_steps → v.compare_steps + 17 ≤ v.piece_steps
    → BoundsOf w v bounds → CaughtInStep f g w.reached w.form.spans bounds (most_before_start v) (stage_steps v)

-- with the sweep no change before it is silent at the end
abbrev pub WeaveClean : Type 0
WeaveClean =
    (f g : Program) (w : World) (v : Weave) (blocks : List Block) → PlanOf f g w v blocks → CheckedRows w v (begins_at blocks)
    → Starts f g w v (begins_at blocks) → Words w.form.far v → OnlyCode f g w v.code blocks → 1 ≤ v.round → 2 ≤ v.leave_steps
    → v.compare_steps + 17 ≤ v.piece_steps → v.sweeps ≡ true
    → CleanInStep f g w.reached w.form.spans (v.sweep_steps + 14) (most_before_start v) (stage_steps v)
