-- The blocks of a file that was read, in ascending order: what list of blocks is woven (this project's profile).
use Rattle.std.specs.Prelude.{◌≡◌, ◌⊎◌, ◌↔◌, ℕ, ◌+◌, ◌*◌, ◌<◌, ◌≤◌, ◌==◌, Bool, true, false, Some, List, [], ◌∷◌, length, All, AllPairs}
use Rattle.std.specs.List.{list_any}
pub use Rattle.elf_types.specs.declared.file.ElfFile.{ElfFile}
pub use Rattle.tests.specs.declared.options.Options.{Options}
use Rattle.tests.specs.declared.options.Entries.TheVariants as entries
use Rattle.qed_model.specs.Weave.Sequences.{class_of, Ins, Block, End, Falls, Stops}
use Rattle.tests.specs.Admission.CodeWords.{is_code, instruction_at}
use Rattle.tests.specs.Admission.Leaders.{IsLeader, HasIndirect, is_end}
use Rattle.tests.specs.Admission.Reached.{IsReached}
use Rattle.qed_model.specs.Weave.Pieces.{ArePieces}

-- ---- the block of a leader
-- the instructions stand one behind the other from a code address on, and none of them is an end
abbrev pub IsBodyAt : ElfFile → ℕ → List Ins → Type 0
IsBodyAt f a [] = Unit {0}
IsBodyAt f a (i ∷ is) = (instruction_at f a ≡ Some i) × (is_end (class_of i.kind) ≡ false) × IsBodyAt f (a + 4) is

-- how a body of n instructions stops at an address: before an end, which is not a leader if the body has an
-- instruction; or, with an instruction, before a leader or an address that is not code
abbrev pub StopsAt : ElfFile → Options → End → ℕ → ℕ → Type 0
StopsAt f o (Stops i) n a = (instruction_at f a ≡ Some i) × (is_end (class_of i.kind) ≡ true) × ((n ≡ 0) ⊎ (IsLeader f o a → ⊥))
StopsAt f o Falls n a = (1 ≤ n) × (IsLeader f o a ⊎ (is_code f a ≡ false))

-- a leader's block: no leader stands inside its body, which is cut into pieces of at most `inst_max` instructions
pub record IsLeaderBlock (f : ElfFile) (o : Options) (b : Block) : Type 0 where
  pub leader : IsLeader f o b.start
  pub body : List Ins
  pub stands : IsBodyAt f b.start body
  pub inside : (k : ℕ) → 1 ≤ k → k < length body → IsLeader f o (b.start + 4 * k) → ⊥
  pub stops : StopsAt f o b.end (length body) (b.start + 4 * length body)
  pub pieces : ArePieces o.inst_max body b.body

-- ---- the block of another code address, where the code has a JALR and all code addresses have entries
-- a piece of one instruction, which falls to the next address; or an empty piece and the end
abbrev pub IsShort : Ins → List (List Ins) → End → Type 0
IsShort i pieces Falls = (is_end (class_of i.kind) ≡ false) × (pieces ≡ (i ∷ []) ∷ [])
IsShort i pieces (Stops e) = (is_end (class_of i.kind) ≡ true) × (pieces ≡ [] ∷ []) × (e ≡ i)

pub record IsOtherBlock (f : ElfFile) (o : Options) (b : Block) : Type 0 where
  pub all : o.entries ≡ entries.All
  pub indirect : HasIndirect f
  pub other : IsLeader f o b.start → ⊥
  pub instruction : Ins
  pub stands : instruction_at f b.start ≡ Some instruction
  pub short : IsShort instruction b.body b.end

-- ---- all blocks
-- a block begins at the address
abbrev pub begins_at : List Block → ℕ → Bool
begins_at blocks a = list_any (λ b. b.start == a) blocks

-- a block begins at a leader or, where all have entries, at another address
abbrev pub IsBlockOf : ElfFile → Options → Block → Type 0
IsBlockOf f o b = IsLeaderBlock f o b ⊎ IsOtherBlock f o b

-- marked are those to which a JALR may lead, where only such addresses have entries
abbrev pub IsEntered : ElfFile → Options → ℕ → Type 0
IsEntered f o a = (o.entries ≡ entries.Reached) × HasIndirect f × IsReached f o a

abbrev pub IsMarked : ElfFile → Options → Block → Type 0
IsMarked f o b = (b.reached ≡ true) ↔ IsEntered f o b.start

-- each leader has its block; so has each code address if the code has a JALR and all have entries; no other has one
pub record AreBlocks (f : ElfFile) (o : Options) (blocks : List Block) : Type 0 where
  pub ascend : AllPairs (λ b c. b.start < c.start) blocks
  pub each : All (IsBlockOf f o) blocks
  pub marked : All (IsMarked f o) blocks
  pub leaders : (a : ℕ) → IsLeader f o a → begins_at blocks a ≡ true
  pub others : o.entries ≡ entries.All → HasIndirect f → (a : ℕ) → is_code f a ≡ true → begins_at blocks a ≡ true
