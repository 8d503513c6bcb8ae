-- What instructions that touch no memory do to registers and pc, and the laws of that.
use Rattle.std.specs.Prelude.{◌≡◌, ℕ, zero, suc, ◌+◌, ◌<◌, ◌≤◌, ◌⊎◌, List, length, slice_index, Some}
use Rattle.rv_isa.specs.declared.profile.TheConstants.{LAST_ORIGINAL, PAIR_DISTANCE}
use Rattle.rv_isa.specs.declared.class.Class.{Class}
use Rattle.rv_isa.specs.declared.ins.Ins.{Ins}
use Rattle.rv_isa.specs.Kind.{class_of}
use Rattle.rv_isa.specs.Ins.{writes, reads}

-- what registers hold: 32 numbers, the first of them 0
pub record AreRegs (regs : List ℕ) : Type 0 where
  pub count : length regs ≡ 32
  pub first : slice_index regs 0 ≡ 0

-- an instruction reads a register; x0 is none
abbrev pub ReadsRegister : Ins → ℕ → Type 0
ReadsRegister i r = ((reads i).0 ≡ Some r) ⊎ ((reads i).1 ≡ Some r)

-- the register that holds the duplicate of x0 to x13
abbrev pub pair : ℕ → ℕ
pair zero = 0
pair (suc r) = suc r + PAIR_DISTANCE

-- the instruction on other registers
abbrev pub renamed_by : (ℕ → ℕ) → Ins → Ins
renamed_by f i = record { kind = i.kind; rd = f i.rd; rs1 = f i.rs1; rs2 = f i.rs2; imm = i.imm }

-- the instruction on the pairs of its registers
abbrev pub renamed : Ins → Ins
renamed i = renamed_by pair i

-- no register above x13: each has a pair
pub record IsLow (i : Ins) : Type 0 where
  pub rd : i.rd ≤ LAST_ORIGINAL
  pub rs1 : i.rs1 ≤ LAST_ORIGINAL
  pub rs2 : i.rs2 ≤ LAST_ORIGINAL

-- ---- laws of an operation, for some classes: from an instruction, the pc and the registers' numbers
-- it makes the new numbers and the next pc.

-- every register other than the one that is written stays, x0 among them, and there are as many as before
abbrev pub Frame : (Class → Type 0) → (Ins → ℕ → List ℕ → List ℕ) → Type 0
Frame for registers =
    (i : Ins) (pc : ℕ) (regs : List ℕ) → for (class_of i.kind) →
    (length (registers i pc regs) ≡ length regs) × ((r : ℕ) → (writes i ≡ Some r → ⊥) → slice_index (registers i pc regs) r ≡ slice_index regs r)

-- where the registers that are read are equal, the next pc and the number that is written are
abbrev pub Sources : (Class → Type 0) → (Ins → ℕ → List ℕ → List ℕ) → (Ins → ℕ → List ℕ → ℕ) → Type 0
Sources for registers next =
    (i : Ins) (pc : ℕ) (regs others : List ℕ) → for (class_of i.kind) → i.rd < 32 → AreRegs regs → AreRegs others →
    ((r : ℕ) → ReadsRegister i r → slice_index others r ≡ slice_index regs r) →
    (next i pc others ≡ next i pc regs) × ((r : ℕ) → writes i ≡ Some r → slice_index (registers i pc others) r ≡ slice_index (registers i pc regs) r)

-- if the pairs of the registers that are read equal these, the renamed instruction has an equal next pc, and gives the
-- pair what the instruction gives the original
abbrev pub Mirror : (Class → Type 0) → (Ins → ℕ → List ℕ → List ℕ) → (Ins → ℕ → List ℕ → ℕ) → Type 0
Mirror for registers next =
    (i : Ins) (pc : ℕ) (regs others : List ℕ) → for (class_of i.kind) → IsLow i → AreRegs regs → AreRegs others →
    ((r : ℕ) → ReadsRegister i r → slice_index others (pair r) ≡ slice_index regs r) →
    (next (renamed i) pc others ≡ next i pc regs)
    × ((r : ℕ) → writes i ≡ Some r → slice_index (registers (renamed i) pc others) (pair r) ≡ slice_index (registers i pc regs) r)
