-- The trace: boundaries of pieces, and what lies between two of them.
use Rattle.std.specs.Prelude.{List, ◌≡◌, ℕ, zero, suc, ◌+◌, ◌<◌, ◌≤◌, ◌⊎◌, cond, ◌==◌, ℤ}
use Rattle.qed_model.specs.Promise.Kept.{after_output}
use Rattle.qed_model.specs.Promise.Changed.{IsDataWord}
use Rattle.weave_core.specs.Kinds.{originals}
use Rattle.weave_core.specs.Lock.{visit_load, ComparesFrom}
use Rattle.weave_core.specs.World.{World, Going, Ended, State, place, Fetched, Known, run, Program, start as from_regs}
use Rattle.lockstep.specs.Settling.{AtCompare}

-- the place of the cursor in a round of `words` words, one word on
abbrev pub bump : ℕ → ℕ → ℕ
bump words i = cond (i + 1 == words) 0 (i + 1)

-- k words on
unfoldable pub advance : ℕ → ℕ → ℕ → ℕ
advance words zero i = i
advance words (suc k) i = advance words k (bump words i)

-- after n steps the visit of the word at a begins
pub record VisitOf (c : ℕ → Fetched) (s : State) (n a : ℕ) : Type 0 where
  pub going : (run s n).outcome ≡ Going
  pub base : ℕ
  pub high : 14 ≤ base
  pub offset : ℤ
  pub first : c (run s n).pc ≡ Known (visit_load base offset)
  pub cursor : place (visit_load base offset) (run s n) ≡ a

-- the most steps from a boundary to the next, from a boundary to behind a comparison with four left, and of what else
-- runs before the end. Then the words of a round, and the words of the visits between two boundaries
pub record Sizes : Type 0 where
  pub piece : ℕ
  pub check : ℕ
  pub last : ℕ
  pub words : ℕ
  pub round : ℕ

-- a visit of the word at a begins between two numbers of steps
pub record VisitIn (c : ℕ → Fetched) (s : State) (from to a : ℕ) : Type 0 where
  pub at : ℕ
  pub late : from ≤ at
  pub early : at < to
  pub visit : VisitOf c s at a

-- from the boundary after p steps, with the cursor at word i, the visits of a piece come before the next boundary
pub record NextSteps (c : ℕ → Fetched) (s : State) (z : Sizes) (word : ℕ → ℕ) (Boundary : ℕ → ℕ → Type 0) (p i : ℕ) : Type 0 where
  pub length : ℕ
  pub some : 1 ≤ length
  pub short : length ≤ z.piece
  pub visits : (j : ℕ) → j < z.round → VisitIn c s p (p + length) (word (advance z.words j i))
  pub next : Boundary (p + length) (advance z.words z.round i)

-- or the test ends before the next, in at most `most` steps, four of them left
pub record EndsSoon (s : State) (p most : ℕ) : Type 0 where
  pub at : ℕ
  pub room : at + 4 ≤ most
  pub ended : (run s (p + at)).outcome ≡ Ended

-- the steps of a piece: a comparison, and the next boundary or the end
pub record PieceSteps (c : ℕ → Fetched) (s : State) (z : Sizes) (word : ℕ → ℕ) (horizon : ℕ) (Boundary : ℕ → ℕ → Type 0) (p i : ℕ) : Type 0 where
  pub compare : ℕ
  pub room : compare + 17 ≤ z.check
  pub at : AtCompare c (run s (p + compare))
  pub on : p + z.piece ≤ horizon → NextSteps c s z word Boundary p i ⊎ EndsSoon s p (z.piece + z.last)

-- up to the horizon, boundary follows boundary until the end
pub record Trace (c : ℕ → Fetched) (s : State) (z : Sizes) (word : ℕ → ℕ) (prologue horizon : ℕ) (Boundary : ℕ → ℕ → Type 0) : Type 0 where
  pub first : ℕ
  pub soon : first ≤ prologue
  pub cursor : ℕ
  pub start : Boundary first cursor
  pub inside : (p i : ℕ) → Boundary p i → i < z.words ⊎ (z.words ≡ 0)
  pub goes_on : (p i : ℕ) → Boundary p i → p + z.check ≤ horizon → PieceSteps c s z word horizon Boundary p i ⊎ EndsSoon s p (z.check + z.last)

-- the test ends after e steps; the last `sweep_steps` visit each data word, compare all registers, and end
pub record SweptEnd (w : World) (g : Program) (regs : List ℕ) (sweep_steps e : ℕ) : Type 0 where
  pub start : ℕ
  pub exact : start + (sweep_steps + 14) ≡ e
  pub visits : (a : ℕ) → IsDataWord w.form.spans a → VisitIn w.code (from_regs g regs) start (start + sweep_steps) a
  pub words : ComparesFrom w.code (after_output g regs (start + sweep_steps)).pc originals
