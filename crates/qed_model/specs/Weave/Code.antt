-- The new code of blocks: what is woven for each, and how it stands one behind the other.
use Rattle.std.specs.Prelude.{ℕ, ◌+◌, ◌*◌, List, [], ◌∷◌, ◌++◌, length}
use Rattle.qed_model.specs.Weave.Sequences.{Mark, Plain, Constant, Go, Item, Ins, Form, End, Block, body_length, prologue, check_sign, piece, leave, stub}

-- ---- sequences
pub record Sequences : Type 0 where
  -- what runs first, of the distance of the halves and the input address of the test's entry
  pub first : ℕ → ℕ → List Item
  -- the check at the entry of an input address, behind its mark
  pub enter : ℕ → List Item
  -- what is woven for the instructions of a piece, from an input address on
  pub piece : List Ins → ℕ → List Item
  -- what is woven for the end of a block
  pub leave : End → ℕ → List Item

-- no item is a mark
abbrev pub NoMarks : List Item → Type 0
NoMarks [] = Unit {0}
NoMarks (Mark m ∷ is) = ⊥
NoMarks (Plain i ∷ is) = NoMarks is
NoMarks (Constant r v ∷ is) = NoMarks is
NoMarks (Go t ∷ is) = NoMarks is

-- no sequence has a mark
pub record AreUnmarked (s : Sequences) : Type 0 where
  pub first : (d a : ℕ) → NoMarks (s.first d a)
  pub enter : (a : ℕ) → NoMarks (s.enter a)
  pub piece : (is : List Ins) (at : ℕ) → NoMarks (s.piece is at)
  pub leave : (e : End) (at : ℕ) → NoMarks (s.leave e at)

-- the sequences of a form
abbrev pub sequences : Form → Sequences
sequences form = record { first = λ d a. prologue d form.spans a; enter = check_sign; piece = piece form; leave = leave form }

-- ---- the code
-- pieces one after the other
abbrev pub pieces_of : Sequences → List (List Ins) → ℕ → List Item
pieces_of s [] at = []
pieces_of s (p ∷ ps) at = s.piece p at ++ pieces_of s ps (at + 4 * length p)

-- pieces, and the leave behind them
abbrev pub body_of : Sequences → List (List Ins) → End → ℕ → List Item
body_of s ps e at = pieces_of s ps at ++ s.leave e (at + 4 * body_length ps)

-- the mark and the items of a block
abbrev pub block_items : Sequences → Block → List Item
block_items s b = Mark b.start ∷ (s.enter b.start ++ body_of s b.body b.end b.start)

-- of all blocks
abbrev pub entries_of : Sequences → List Block → List Item
entries_of s [] = []
entries_of s (b ∷ bs) = block_items s b ++ entries_of s bs

-- what runs first, the entries, and the zero word
abbrev pub code_of : Sequences → ℕ → ℕ → List Block → List Item
code_of s d start blocks = s.first d start ++ (entries_of s blocks ++ stub)
