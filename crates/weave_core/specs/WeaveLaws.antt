-- The laws of a weave: all that the inductions over the run of the output use of its sequences.
use Rattle.std.specs.Prelude.{◌≡◌, ◌↔◌, ℕ, zero, suc, ◌+◌, ◌*◌, ◌^◌, ◌<◌, ◌≤◌, ◌⊎◌, Bool, true, List, [], ◌∷◌, ◌++◌, length, is_some}
use Rattle.std.proofs.Common.{inl, inr}
use Rattle.machine.specs.Walks.{Over, Walk}
use Rattle.qed_model.specs.Promise.Kept.{NotTrapped, IsSteady}
use Rattle.qed_model.specs.Promise.Changed.{IsDataWord}
use Rattle.qed_model.specs.Weave.Halves.{Flagged}
use Rattle.qed_model.specs.Weave.Sequences.{Reads, End, Falls, Stops, Block, body_length, Ins, ORIGINALS, LAST_ORIGINAL, CURSOR, SIGNATURE}
use Rattle.weave_core.specs.World.{Item, Going, Ended, Fired, World, Quiet, Twice, IsCursor, words_on, get, byte_at, State, reg, Known, HasAt, run, Program}
use Rattle.weave_core.specs.World.{start, zeros, AreStartRegs}
use Rattle.weave_core.specs.Blocks.{AllFit, Full, EndStands, IsEntryOf}
use Rattle.weave_core.specs.Rows.{At, Sourced}
use Rattle.weave_core.specs.Describes.{Describes}
use Rattle.weave_core.specs.Lock.{first_load, ComparesFrom}
use Rattle.weave_core.specs.KindItems.{LockItems, LandItems, GoodEnd}
use Rattle.weave_core.specs.Kinds.{originals}
use Rattle.weave_core.specs.Weave.{Weave}
use Rattle.qed_model.specs.Weave.Code.{block_items}

-- ---- what stands in the two programs
-- the instructions of a piece stand in the input from `at` on
pub record PieceAt (w : World) (v : Weave) (at : ℕ) (is : List Ins) : Type 0 where
  pub has : HasAt w.source at is
  pub fit : AllFit is
  pub one : v.fits is ≡ true

-- pieces one after the other, and the end behind them
abbrev pub PiecesAt : World → Weave → (ℕ → Bool) → List (List Ins) → End → ℕ → Type 0
PiecesAt w v leader [] e at = EndStands w leader e at
PiecesAt w v leader (p ∷ ps) e at = PieceAt w v at p × PiecesAt w v leader ps e (at + 4 * length p)

-- a block of the input: its pieces, at least one, and its end
pub record BlockOf (w : World) (v : Weave) (leader : ℕ → Bool) (b : Block) : Type 0 where
  pub low : b.start < 2 ^ 64
  pub pieces : PiecesAt w v leader b.body b.end b.start
  pub some : (p : List Ins) × (ps : List (List Ins)) × (b.body ≡ p ∷ ps)
  pub full : Full b.body b.end
  pub own : v.ends_at b.end b.start (b.start + 4 * body_length b.body) ≡ true

-- the entry of a leader stands in the output
pub record EntryAt (w : World) (v : Weave) (leader : ℕ → Bool) (a : ℕ) : Type 0 where
  pub body : List (List Ins)
  pub end : End
  pub reached : Bool
  pub reads : Reads w.form.far w.code w.entry (w.entry a) (block_items v.code (record { start = a; body = body; end = end; reached = reached }))
  pub good : BlockOf w v leader (record { start = a; body = body; end = end; reached = reached })

-- of each leader
abbrev pub EntriesAt : World → Weave → (ℕ → Bool) → Type 0
EntriesAt w v leader = (a : ℕ) → leader a ≡ true → EntryAt w v leader a

-- ---- states on the way
-- the output has the input's values in the original half
pub record Holds (w : World) (u s : State) : Type 0 where
  pub output : Flagged w.output u
  pub originals : (r : ℕ) → r ≤ LAST_ORIGINAL → reg u r ≡ reg s r
  pub bytes : (q : ℕ) → is_some (get w.input q) ≡ true → byte_at u.memory q ≡ byte_at s.memory q

-- it has the input's values, and has ended exactly if the input has
pub record Met (w : World) (u s : State) : Type 0 where
  pub holds : Holds w u s
  pub ends : (u.outcome ≡ Ended) ↔ (s.outcome ≡ Ended)

-- from u on the output comes to the input's states from s on in order: to the one after n steps, when it has made m
abbrev pub Trail : World → State → State → ℕ → ℕ → Type 0
Trail w u s zero m = Met w (run u m) s
Trail w u s (suc n) m = (k : ℕ) × (k < m) × Trail w u s n k × Met w (run u m) (run s (suc n))

-- as long as the output has made fewer than `room` steps from u, the input's next step from s on is steady
pub record Feeds (w : World) (u s : State) (room : ℕ) : Type 0 where
  pub more : (n m : ℕ) → Trail w u s n m → m < room → IsSteady w.reached s (suc n)

-- at the entry of the input's pc
pub record Stands (w : World) (leader : ℕ → Bool) (u s : State) : Type 0 where
  pub over : Over w.code u
  pub halved : Twice w u s s
  pub pc : u.pc ≡ w.entry s.pc
  pub leads : leader s.pc ≡ true

-- ---- where the sequences lead
-- a quiet walk of `least` to `most` steps to a state with a property
pub record GoesTo (w : World) (u : State) (least most : ℕ) (Is : ℕ → State → Type 0) : Type 0 where
  pub steps : ℕ
  pub to : State
  pub at_least : least ≤ steps
  pub within : steps ≤ most
  pub walk : Walk (Quiet w) u steps to
  pub is : Is steps to

-- inside a piece: k steps from u on the original half is n steps on
pub record Inside (w : World) (u s : State) (n k : ℕ) (to : State) : Type 0 where
  pub going : to.outcome ≡ Going
  pub trail : Trail w u s n k

-- a visit of the word x begins in fewer than `steps` steps
pub record Visits (w : World) (u : State) (steps x : ℕ) : Type 0 where
  pub at : ℕ
  pub before : at < steps
  pub first : w.code (run u at).pc ≡ Known first_load
  pub cursor : reg (run u at) CURSOR ≡ x

-- of n steps from u on: after at most `first` all registers are compared, and the words of a round are visited
pub record Checked (w : World) (first round : ℕ) (u : State) (n : ℕ) (to : State) : Type 0 where
  pub compare : ℕ
  pub soon : compare ≤ first
  pub inside : compare + ORIGINALS ≤ n
  pub compares : ComparesFrom w.code (run u compare).pc originals
  pub cursor : reg to CURSOR ≡ words_on w.form.spans round (reg u CURSOR)
  pub visits : (j : ℕ) → j < round → 1 ≤ length w.form.spans → Visits w u n (words_on w.form.spans j (reg u CURSOR))

-- the test ends n steps from u on: `first` of them visit each data word, then all registers are compared, then it ends
pub record Swept (w : World) (first : ℕ) (u : State) (n : ℕ) : Type 0 where
  pub exact : n ≡ first + 14
  pub visits : (x : ℕ) → IsDataWord w.form.spans x → Visits w u first x
  pub compares : ComparesFrom w.code (run u first).pc originals

-- 1 where the end is an instruction
abbrev pub stops : End → ℕ
stops Falls = 0
stops (Stops i) = 1

-- ---- behind a leave, where the input is in t
-- the test has ended, with the input's values in both halves
pub record BothEnded (w : World) (t x : State) : Type 0 where
  pub ended : x.outcome ≡ Ended
  pub halved : Twice w x t t
  pub input : t.outcome ≡ Ended

-- at an entry, if a property holds with its input address; or where the input goes no further for lack of code
pub data Onward (w : World) (leader : ℕ → Bool) (held : State → ℕ → Type 0) (t x : State) : Type 0 where
  lands : Stands w leader x t → held x t.pc → Sourced w t → Onward w leader held t x
  is_lost : x.outcome ≡ Going → Twice w x t t → Sourced w t → ((i : Ins) → w.source t.pc ≡ Known i → ⊥) → Onward w leader held t x

-- either
abbrev pub Left : World → Weave → (ℕ → Bool) → State → State → ℕ → Type 0
Left w v leader u t least =
    GoesTo w u 1 (v.leave_steps + v.end_steps) (λ n x. BothEnded w t x)
    ⊎ GoesTo w u least v.leave_steps (λ n x. Onward w leader (λ y a. v.held w y a ≡ true) t x)

-- ---- the laws of the rows: where each sequence leads
pub record Rows (w : World) (v : Weave) (leader : ℕ → Bool) : Type 0 where
  -- a piece has no more instructions than steps
  pub short : (is : List Ins) → v.fits is ≡ true → length is ≤ v.piece_steps
  -- an entry that reads as the words of a block is an address on the grain
  pub known : (a : ℕ) → EntryAt w v leader a → IsEntryOf w a
  pub enter :
      (u s : State) (rest : List Item) → Stands w leader u s → v.held w u s.pc ≡ true → s.pc < 2 ^ 64
      → Reads w.form.far w.code w.entry u.pc (v.code.enter s.pc ++ rest)
      → GoesTo w u 0 v.enter_steps (λ n x. At w x rest s s × (v.held w x s.pc ≡ true))
  pub inside :
      (is : List Ins) (n : ℕ) (u s : State) (rest : List Item) → n < length is → PieceAt w v s.pc is → At w u (v.code.piece is s.pc ++ rest) s s
      → Sourced w s → NotTrapped (run s n) → GoesTo w u n v.piece_steps (λ k x. Inside w u s n k x × (k < v.piece_steps))
  pub piece :
      (is : List Ins) (b : ℕ) (u s : State) (rest : List Item) → v.held w u b ≡ true → PieceAt w v s.pc is
      → At w u (v.code.piece is s.pc ++ rest) s s → Sourced w s
      → NotTrapped (run s (length is))
      → GoesTo w u (length is) v.piece_steps
      (λ n x. At w x rest (run s (length is)) (run s (length is)) × (v.held w x b ≡ true) × Trail w u s (length is) n)
  pub leave :
      ((a : ℕ) → leader a ≡ true → IsEntryOf w a) → (e : End) (b : ℕ) (u s : State) → v.held w u b ≡ true
      → v.ends_at e b s.pc ≡ true → At w u (v.code.leave e s.pc) s s
      → Sourced w s → EndStands w leader e s.pc → IsSteady w.reached s (stops e) → Left w v leader u (run s (stops e)) (stops e)

-- ---- the laws of the checks: what is seen on the way there
-- where the test ends, all data words and registers, if it sweeps; else the cursor stays
abbrev pub Keeps : (w : World) (v : Weave) (leader : ℕ → Bool) (u t : State) (least : ℕ) → Left w v leader u t least → Type 0
Keeps w v leader u t least (inl x) = v.sweeps ≡ true → Swept w v.sweep_steps u x.steps
Keeps w v leader u t least (inr x) = reg x.to CURSOR ≡ reg u CURSOR

pub record CheckedRows (w : World) (v : Weave) (leader : ℕ → Bool) : Type 0 where
  pub rows : Rows w v leader
  -- the cursor is at a word
  pub word : (u : State) (b : ℕ) → v.held w u b ≡ true → IsCursor w.form.spans (reg u CURSOR)
  -- the entry leaves it where it is
  pub enter :
      (u s : State) (rest : List Item) (st : Stands w leader u s) (held : v.held w u s.pc ≡ true) (low : s.pc < 2 ^ 64)
      (reads : Reads w.form.far w.code w.entry u.pc (v.code.enter s.pc ++ rest)) → reg (rows.enter u s rest st held low reads).to CURSOR ≡ reg u CURSOR
  -- in a piece all registers are compared, and a round of words is visited
  pub piece :
      (is : List Ins) (b : ℕ) (u s : State) (rest : List Item) (held : v.held w u b ≡ true) (p : PieceAt w v s.pc is)
      (a : At w u (v.code.piece is s.pc ++ rest) s s) (so : Sourced w s) (calm : NotTrapped (run s (length is)))
      → Checked w v.compare_steps v.round u (rows.piece is b u s rest held p a so calm).steps (rows.piece is b u s rest held p a so calm).to
  pub leave :
      (known : (a : ℕ) → leader a ≡ true → IsEntryOf w a) (e : End) (b : ℕ) (u s : State) (held : v.held w u b ≡ true) (own : v.ends_at e b s.pc ≡ true)
      (a : At w u (v.code.leave e s.pc) s s) (so : Sourced w s) (g : EndStands w leader e s.pc) (steady : IsSteady w.reached s (stops e))
      → Keeps w v leader u (run s (stops e)) (stops e) (rows.leave known e b u s held own a so g steady)

-- of what runs first
pub record Starts (f g : Program) (w : World) (v : Weave) (leader : ℕ → Bool) : Type 0 where
  pub first :
      Describes f g w → IsEntryOf w f.entry → leader f.entry ≡ true → Reads w.form.far w.code w.entry g.entry (v.code.first w.distance f.entry)
      → (regs : List ℕ) → AreStartRegs regs → GoesTo w (start g regs) 1 v.first_steps (λ n x. Stands w leader x (start f zeros) × (v.held w x f.entry ≡ true))

-- ---- the laws of the entry
pub record Guarded (w : World) (v : Weave) (most : ℕ) : Type 0 where
  -- a quiet state at an entry has its signature
  pub signed :
      (u : State) (a : ℕ) (rest : List Item) → a < 2 ^ 64 → Reads w.form.far w.code w.entry u.pc (v.code.enter a ++ rest) → Over w.code u → Quiet w u
      → reg u SIGNATURE ≡ a
  -- with another signature it fires
  pub fires :
      (u : State) (a : ℕ) (rest : List Item) → a < 2 ^ 64 → Reads w.form.far w.code w.entry u.pc (v.code.enter a ++ rest) → Over w.code u
      → length u.regs ≡ 32 → (reg u SIGNATURE ≡ a → ⊥) → (run u most).outcome ≡ Fired

-- ---- the laws of the words: each is of a woven kind, and no branch or jump leads to a closed register
pub record Words (far : Bool) (v : Weave) : Type 0 where
  pub first_locks : (d a : ℕ) → LockItems far (v.code.first d a)
  pub first_lands : (d a : ℕ) → LandItems far (v.code.first d a)
  pub enter_locks : (a : ℕ) → LockItems far (v.code.enter a)
  pub enter_lands : (a : ℕ) → LandItems far (v.code.enter a)
  pub piece_locks : (is : List Ins) (at : ℕ) → AllFit is → LockItems far (v.code.piece is at)
  pub piece_lands : (is : List Ins) (at : ℕ) → AllFit is → LandItems far (v.code.piece is at)
  pub leave_locks : (e : End) (at : ℕ) → GoodEnd e → LockItems far (v.code.leave e at)
  pub leave_lands : (e : End) (at : ℕ) → GoodEnd e → LandItems far (v.code.leave e at)
