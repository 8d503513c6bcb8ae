-- Where words may lead to an EBREAK: only at a comparison.
use Rattle.std.specs.Prelude.{◌≡◌, ℕ, ◌+◌, ◌*◌, ◌%◌, ◌^◌, ◌<◌, ◌≤◌, Bool, List, [], ◌∷◌, length, pos}
use Rattle.rv_isa.specs.declared.profile.TheConstants.{LAST_ORIGINAL, SIGNATURE, TEMPORARY}
use Rattle.rv_isa.specs.declared.class.Class.TheVariants as class
use Rattle.qed_model.specs.declared.item.Item.{Item}
use Rattle.machine.specs.Offsets.{distance_between, upper_part, lower_part}
use Rattle.qed_model.specs.Weave.Placed.{instructions_from}
use Rattle.machine.specs.Step.{Ins, Addi, Auipc, Beq, ins, class_of, Class, Fetched, Known, HasAt, imm, ebreak}
use Rattle.weave_core.specs.Lock.{comparison, first_load, mirror_place, second_load, word_check}

-- no EBREAK stands at an address
abbrev pub NoBreak : (ℕ → Fetched) → ℕ → Type 0
NoBreak c a = c a ≡ ebreak → ⊥

-- the comparison of the signature with the entry
abbrev pub sign_check : Ins
sign_check = ins Beq 0 SIGNATURE TEMPORARY (pos 8)

-- the two words before it set x30 to the input address t of the entry
pub record EntryWords (c : ℕ → Fetched) (a t : ℕ) : Type 0 where
  pub upper : c a ≡ Known (ins Auipc TEMPORARY 0 0 (upper_part (distance_between a t)))
  pub lower : c (a + 4) ≡ Known (ins Addi TEMPORARY TEMPORARY 0 (lower_part (distance_between a t)))

-- the words of a visit stand from an address on, up to its EBREAK
pub record VisitWords (c : ℕ → Fetched) (a : ℕ) : Type 0 where
  pub first : c a ≡ Known first_load
  pub mirror : c (a + 4) ≡ Known mirror_place
  pub second : c (a + 8) ≡ Known second_load
  pub check : c (a + 12) ≡ Known word_check
  pub brk : c (a + 16) ≡ ebreak

-- the instruction i at a compares a register with its pair, a word with its duplicate, or a signature with its entry
pub data Checks (c : ℕ → Fetched) (a : ℕ) (i : Ins) : Type 0 where
  pairs : (q : ℕ) → i ≡ comparison q → 1 ≤ q → q ≤ LAST_ORIGINAL → Checks c a i
  words : (b : ℕ) → i ≡ word_check → a ≡ b + 12 → VisitWords c b → Checks c a i
  signs : (b t : ℕ) → i ≡ sign_check → a ≡ b + 8 → EntryWords c b t → Checks c a i

-- an instruction of a class leads to no EBREAK, unless it is a comparison that fails; a JALR may lead anywhere
abbrev pub HonestAs : Class → (ℕ → Fetched) → ℕ → Ins → Type 0
HonestAs class.Branch c a i = NoBreak c ((a + imm i) % 2 ^ 64) × (c (a + 4) ≡ ebreak → Checks c a i)
HonestAs class.Jump c a i = NoBreak c ((a + imm i) % 2 ^ 64)
HonestAs class.JumpReg c a i = Unit {0}
HonestAs class.Break c a i = Unit {0}
HonestAs class.End c a i = Unit {0}
HonestAs class.Illegal c a i = Unit {0}
HonestAs _ c a i = NoBreak c (a + 4)

-- each of some words, from an address on, leads to no EBREAK, unless it is a comparison that fails
abbrev pub AllHonest : (ℕ → Fetched) → ℕ → List Ins → Type 0
AllHonest c a [] = Unit {0}
AllHonest c a (i ∷ is) = HonestAs (class_of i.kind) c a i × AllHonest c (a + 4) is

-- no entry begins with an EBREAK
abbrev pub CalmEntries : (ℕ → Fetched) → (ℕ → ℕ) → Type 0
CalmEntries c entry = (t : ℕ) → (entry t < 2 ^ 64) × NoBreak c (entry t)

-- at any place without an EBREAK behind them, the words of the items are honest, and the first is not an EBREAK
pub record HonestAt (far : Bool) (items : List Item) (c : ℕ → Fetched) (entry : ℕ → ℕ) (a : ℕ) : Type 0 where
  pub each : AllHonest c a (instructions_from far entry a items)
  pub front : NoBreak c a

abbrev pub HonestItems : Bool → List Item → Type 0
HonestItems far items =
    (c : ℕ → Fetched) (entry : ℕ → ℕ) (a : ℕ) → a + 4 * length (instructions_from far entry a items) + 64 < 2 ^ 64
    → HasAt c a (instructions_from far entry a items) → NoBreak c (a + 4 * length (instructions_from far entry a items))
    → CalmEntries c entry → HonestAt far items c entry a
