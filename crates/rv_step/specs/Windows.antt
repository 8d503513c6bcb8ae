-- What stands in the code of a state, where no store changes it.
use Rattle.std.specs.Prelude.{◌≡◌, ℕ, ◌+◌, ◌-◌, ◌%◌, ◌^◌, ◌<◌, ◌≤◌, true, List, All, Option, Some, None}
use Rattle.machine.specs.Table.{decode_of, Ins}
use Rattle.machine.specs.Step.{State, in_range}
use Rattle.machine.specs.Program.{LoadSegment}
use Rattle.mem_image.specs.Segments.{has_all, number_in}
use Rattle.mem_image.specs.Fixed.{IsFixedCode}
use Rattle.rv_step.specs.declared.table.Entry.{Entry}
use Rattle.rv_step.specs.declared.window.Window.{Window}

-- an address is one of those of the window's words
pub record IsIn (w : Window) (a : ℕ) : Type 0 where
  pub low : w.first ≤ a
  pub high : a < w.first + w.count

-- there is a page, which has the four bytes from the address on
abbrev pub HasWord : Option LoadSegment → ℕ → Type 0
HasWord None a = ⊥
HasWord (Some code) a = has_all code a 4 ≡ true

-- the bytes of each of its words are here, and it ends at 2^64 or before
pub record WindowHasWords (w : Window) : Type 0 where
  pub bytes : (a : ℕ) → IsIn w a → HasWord w.code a
  pub ends : w.first + w.count ≤ 2 ^ 64

-- the memory has the page, and no store changes it
abbrev pub IsKept : State → Option LoadSegment → Type 0
IsKept s None = Unit {0}
IsKept s (Some code) = IsFixedCode s.memory code

-- the state has these words, no store changes them, and where there are any, its pc is a multiple of 4
pub record IsWindow (s : State) (w : Window) : Type 0 where
  pub words : (a : ℕ) → IsIn w a → in_range a s.ranges ≡ true
  pub fixed : IsKept s w.code
  pub inside : WindowHasWords w
  pub grain : 0 < w.count → s.pc % 4 ≡ 0

-- the word stands at the address, in a code range, where no store changes it
pub record StandsFixed (s : State) (a w : ℕ) : Type 0 where
  pub code : LoadSegment
  pub fixed : IsFixedCode s.memory code
  pub inside : has_all code a 4 ≡ true
  pub range : in_range a s.ranges ≡ true
  pub word : number_in code.bytes (a - code.address) 4 ≡ w

-- the code at the address has the word of the instruction
pub record IsHeld (s : State) (a : ℕ) (i : Ins) : Type 0 where
  pub word : ℕ
  pub stands : StandsFixed s a word
  pub decoded : decode_of word ≡ Some i

-- each instruction of the table is held at its address, if that is a multiple of 4
abbrev pub IsTable : State → List Entry → Type 0
IsTable s es = All (λ e. e.address % 4 ≡ 0 → IsHeld s e.address e.ins) es

-- what the loop of a long run keeps
pub record IsKnown (s : State) (w : Window) (es : List Entry) : Type 0 where
  pub window : IsWindow s w
  pub table : IsTable s es
  pub grain : s.pc % 4 ≡ 0
