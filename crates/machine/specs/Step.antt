-- States of the machine, one step, and runs (RISC-V unprivileged manual, RV64I).
-- A hart whose memory has permissions for each byte. ECALL ends a run, EBREAK fires a check (this project's profile).
use Rattle.std.specs.Prelude.{◌≡◌, ℕ, zero, suc, ◌+◌, ◌*◌, ◌/◌, ◌%◌, ◌^◌, Bool, false, cond, ◌&&◌, ◌||◌, List, [], ◌∷◌, nat_le, ◌==◌, Option, Some, None, pos}
use Rattle.std.specs.Prelude.{slice_index}
pub use Rattle.rv_isa.specs.declared.ins.Ins.{Ins}
pub use Rattle.rv_isa.specs.declared.class.Class.{Class}
pub use Rattle.rv_isa.specs.Kind.{class_of}
pub use Rattle.rv_isa.specs.Regs.{set_reg}
use Rattle.rv_isa.specs.declared.class.Class.TheVariants as class
pub use Rattle.machine.specs.Table.{Illegal, Lui, Auipc, Jal, Jalr, Beq, Bne, Blt, Bge, Bltu, Bgeu, Lb, Lh, Lw, Ld, Lbu, Lhu, Lwu, Sb, Sh, Sw, Sd, Addi, Slti}
pub use Rattle.machine.specs.Table.{Sltiu, Xori, Ori, Andi, Slli, Srli, Srai, Add, Sub, Sll, Slt, Sltu, Xor, Srl, Sra, Or, And, Fence, Ecall, Ebreak, Addiw}
pub use Rattle.machine.specs.Table.{Slliw, Srliw, Sraiw, Addw, Subw, Sllw, Srlw, Sraw, Mul, Mulh, Mulhsu, Mulhu, Div, Divu, Rem, Remu, Mulw, Divw, Divuw}
pub use Rattle.machine.specs.Table.{Remw, Remuw, Kind, ins, row_of}
use Rattle.machine.specs.Table.{Format, R, decode_of}
use Rattle.machine.specs.declared.outcome.Cause.{Cause}
pub use Rattle.machine.specs.declared.outcome.Outcome.{Outcome}
pub use Rattle.machine.specs.declared.outcome.Outcome.TheVariants.{Going, Ended, Fired, Trapped}
use Rattle.machine.specs.Values.{wrapped, value, holds, width_of, loaded}
use Rattle.machine.specs.Memory.{Memory, put, number, grants}
use Rattle.machine.specs.declared.outcome.Cause.TheVariants as cause

-- the registers x0 to x31, the pc, the memory, the code ranges by their first address and the one behind their last,
-- and the outcome
pub record State : Type 0 where
  pub regs : List ℕ
  pub pc : ℕ
  pub memory : Memory
  pub ranges : List (ℕ × ℕ)
  pub outcome : Outcome

-- the value of a register
abbrev pub reg : State → ℕ → ℕ
reg s r = slice_index s.regs r

-- registers and pc after an instruction that touches no memory
abbrev pub moved : List ℕ → ℕ → State → State
moved regs pc s = record { regs = regs; pc = pc; memory = s.memory; ranges = s.ranges; outcome = s.outcome }

-- another outcome alone
abbrev pub stopped : Outcome → State → State
stopped o s = record { regs = s.regs; pc = s.pc; memory = s.memory; ranges = s.ranges; outcome = o }

-- memory and pc after a store
abbrev pub stored : Memory → ℕ → State → State
stored m pc s = record { regs = s.regs; pc = pc; memory = m; ranges = s.ranges; outcome = s.outcome }

-- a step that traps changes the outcome alone
abbrev pub trapped : Cause → State → State
trapped c s = stopped (Trapped c s.pc) s

-- ---- fetch
-- the four bytes from an address on lie in one code range
abbrev pub in_range : ℕ → List (ℕ × ℕ) → Bool
in_range a [] = false
in_range a (r ∷ rs) = (nat_le r.0 a && nat_le (a + 4) r.1) || in_range a rs

-- no code may be executed there, the word is not an instruction, or it is one
pub data Fetched : Type 0 where
  Refused : Fetched
  Unknown : ℕ → Fetched
  Known : Ins → Fetched

-- the instruction of a word, where it has one
abbrev pub known_or : ℕ → Option Ins → Fetched
known_or w None = Unknown w
known_or w (Some i) = Known i

-- the EBREAK
abbrev pub ebreak : Fetched
ebreak = Known (ins Ebreak 0 0 0 (pos 0))

-- what stands at an address
unfoldable pub fetched_at : Memory → List (ℕ × ℕ) → ℕ → Fetched
fetched_at m ranges a = cond ((a % 4 == 0) && (in_range a ranges && grants (λ f. f.execute) m a 4)) (known_or (number m a 4) (decode_of (number m a 4))) Refused

-- the instructions stand in the code from an address on
abbrev pub HasAt : (ℕ → Fetched) → ℕ → List Ins → Type 0
HasAt code a [] = Unit {0}
HasAt code a (i ∷ is) = (code a ≡ Known i) × HasAt code (a + 4) is

-- ---- one instruction
-- the immediate modulo 2^64
abbrev pub imm : Ins → ℕ
imm i = wrapped i.imm

-- pc + immediate: the target of a JAL or a branch, and what AUIPC computes
abbrev pub target : Ins → ℕ → ℕ
target i pc = (pc + imm i) % 2 ^ 64

-- the second operand: the register in format R, else the immediate
abbrev pub operand : Format → Ins → List ℕ → ℕ
operand R i regs = slice_index regs i.rs2
operand _ i regs = imm i

-- what a computing instruction of a kind writes to rd, by its pc and the registers
unfoldable pub computed_value : Kind → Ins → ℕ → List ℕ → ℕ
computed_value Lui i pc regs = imm i
computed_value Auipc i pc regs = target i pc
computed_value k i pc regs = value k (slice_index regs i.rs1) (operand (row_of k).format i regs)

-- the second operand of an instruction in a state
abbrev pub second : Format → Ins → State → ℕ
second f i s = operand f i s.regs

abbrev pub result : Kind → Ins → State → ℕ
result k i s = computed_value k i s.pc s.regs

-- the address of the next word
abbrev pub next_pc : State → ℕ
next_pc s = (s.pc + 4) % 2 ^ 64

-- a jump, which traps where its target is not a multiple of 4
unfoldable pub jumped : List ℕ → ℕ → State → State
jumped regs target s = cond (target % 4 == 0) (moved regs target s) (trapped (cause.Target target) s)

-- the address of a load or store
abbrev pub place : Ins → State → ℕ
place i s = (reg s i.rs1 + imm i) % 2 ^ 64

-- one instruction of a class: the new registers, pc, memory and outcome
unfoldable pub execute : Class → Ins → State → State
execute class.Compute i s = moved (set_reg i.rd (result i.kind i s) s.regs) (next_pc s) s
execute class.Fence i s = moved s.regs (next_pc s) s
execute class.Load i s =
    cond (grants (λ f. f.read) s.memory (place i s) (width_of i.kind))
    (moved (set_reg i.rd (loaded i.kind (number s.memory (place i s) (width_of i.kind))) s.regs) (next_pc s) s)
    (trapped (cause.Load (place i s)) s)
execute class.Store i s =
    cond (grants (λ f. f.write) s.memory (place i s) (width_of i.kind))
    (stored (put s.memory (place i s) (width_of i.kind) (reg s i.rs2)) (next_pc s) s)
    (trapped (cause.Store (place i s)) s)
execute class.Branch i s =
    cond (holds i.kind (reg s i.rs1) (reg s i.rs2))
    (jumped s.regs (target i s.pc) s)
    (moved s.regs (next_pc s) s)
execute class.Jump i s = jumped (set_reg i.rd (next_pc s) s.regs) (target i s.pc) s
execute class.JumpReg i s = jumped (set_reg i.rd (next_pc s) s.regs) ((reg s i.rs1 + imm i) % 2 ^ 64 / 2 * 2) s
execute class.End i s = stopped Ended s
execute class.Break i s = stopped Fired s
execute class.Illegal i s = trapped (cause.Word 0) s

-- what is done with what was fetched
abbrev pub act : Fetched → State → State
act Refused s = trapped cause.Fetch s
act (Unknown w) s = trapped (cause.Word w) s
act (Known i) s = execute (class_of i.kind) i s

-- what stands at the pc
abbrev pub next : State → Fetched
next s = fetched_at s.memory s.ranges s.pc

-- a state that does not go on stays
abbrev pub step_at : Outcome → State → State
step_at Going s = act (next s) s
step_at Ended s = s
step_at Fired s = s
step_at (Trapped c pc) s = s

-- one step
unfoldable pub step : State → State
step s = step_at s.outcome s

-- n steps
unfoldable pub run : State → ℕ → State
run s zero = s
run s (suc n) = run (step s) n
