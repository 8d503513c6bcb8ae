-- The segments in which code ranges lie, and their words.
use Rattle.std.specs.Prelude.{◌≡◌, ℕ, ◌+◌, ◌-◌, ◌^◌, ◌≤◌, ◌&&◌, ◌||◌, nat_le, Bool, true, false, List, [], ◌∷◌, Contains}
use Rattle.machine.specs.Program.{LoadSegment}
use Rattle.machine.specs.Loading.{load_segment, load_segments, Segment}
use Rattle.machine.specs.Cells.{number_among}
use Rattle.tests.specs.Words.{word_in}

-- a range lies wholly inside a segment
abbrev pub holds_range : LoadSegment → ℕ × ℕ → Bool
holds_range l r = nat_le l.address r.0 && nat_le r.1 (l.address + l.size)

-- a range lies wholly inside one of these segments
abbrev pub is_held : ℕ × ℕ → List LoadSegment → Bool
is_held r [] = false
is_held r (l ∷ ls) = holds_range l r || is_held r ls

pub record IsHeldRange (ls : List LoadSegment) (r : ℕ × ℕ) : Type 0 where
  pub is : is_held r ls ≡ true

-- a segment is loaded, fits into memory, and the range lies in it
pub record IsHome (ss : List Segment) (r : ℕ × ℕ) (s : Segment) : Type 0 where
  pub loaded : Contains (load_segments ss) (load_segment s)
  pub from : s.address ≤ r.0
  pub to : r.1 ≤ s.address + s.memory
  pub fit : s.address + s.memory ≤ 2 ^ 64

-- the word of the loaded image at an address
abbrev pub image_word : List LoadSegment → ℕ → ℕ
image_word ls a = number_among ls a 4

-- the word of a segment at an address: its bytes from there on, and zeros behind them
abbrev pub segment_word : LoadSegment → ℕ → ℕ
segment_word l a = word_in l.bytes (a - l.address)
