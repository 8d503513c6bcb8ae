-- What is true of each file that the reader takes, whatever its bytes are.
use Rattle.std.specs.Prelude.{◌≡◌, ◌⊎◌, ℕ, ◌+◌, ◌^◌, ◌<◌, ◌≤◌, true, All, List, length, slice_index}
use Rattle.machine.specs.Members.{Among, Pairs}
use Rattle.machine.specs.Program.{LoadSegment}
use Rattle.machine.specs.Loading.{Segment, ElfFile, load_segments}
use Rattle.machine.specs.Cells.{has}
use Rattle.tests.specs.Elf.Layout.{IsName, IsSymbol}

-- bytes
pub record AreBytes (bytes : List ℕ) : Type 0 where
  pub fit : (k : ℕ) → slice_index bytes k < 256

-- of its PT_LOAD segments, as they are loaded
pub record AreLoads (ls : List LoadSegment) : Type 0 where
  pub sized : (l : LoadSegment) → Among l ls → length l.bytes ≤ l.size
  pub fit : (l : LoadSegment) → Among l ls → l.address + l.size ≤ 2 ^ 64
  -- no two share a byte
  pub alone : (l m : LoadSegment) (q : ℕ) → Among l ls → Among m ls → has l q ≡ true → has m q ≡ true → l ≡ m
  pub bytes : (l : LoadSegment) → Among l ls → (k : ℕ) → slice_index l.bytes k < 256

-- one ends before the other begins
abbrev pub Apart : Segment → Segment → Type 0
Apart s t = (s.address + s.memory ≤ t.address) ⊎ (t.address + t.memory ≤ s.address)

-- PT_LOAD segments that have bytes in memory are apart
abbrev pub ApartLoads : Segment → Segment → Type 0
ApartLoads s t = s.kind ≡ 1 → t.kind ≡ 1 → 0 < s.memory → 0 < t.memory → Apart s t

-- of its segments and its symbols
pub record IsReadFile (f : ElfFile) : Type 0 where
  pub sized : All (λ s. length s.bytes ≤ s.memory) f.segments
  pub bytes : All (λ s. AreBytes s.bytes) f.segments
  pub symbols : All IsSymbol f.symbols
  pub names : All (λ s. IsName s.name) f.symbols

-- what is asked of a whole file
pub record IsSound (f : ElfFile) : Type 0 where
  pub loads : AreLoads (load_segments f.segments)
  pub apart : Pairs ApartLoads f.segments
  pub read : IsReadFile f
