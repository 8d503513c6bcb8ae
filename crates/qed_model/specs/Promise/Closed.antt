-- Closed registers: between its guard and the use that the guard checks a register is closed (this project's profile).
-- There a wrong value may reach memory or a branch before any check. Everywhere else a register is open.
use Rattle.std.specs.Prelude.{◌≡◌, ℕ, ◌+◌, ◌%◌, ◌^◌, Bool, true, false, not, cond, ◌&&◌, ◌||◌, nat_le, ◌==◌, ℤ, pos, negsuc}
use Rattle.rv_isa.specs.declared.profile.TheConstants.{LAST_ORIGINAL, PAIR_DISTANCE, TEMPORARY}
use Rattle.rv_isa.specs.declared.kind.Kind.{Kind}
use Rattle.rv_isa.specs.declared.kind.Kind.TheVariants.{Addi, Beq, Bne}
use Rattle.rv_isa.specs.declared.class.Class.TheVariants as class
use Rattle.rv_isa.specs.Operation.{pair}
use Rattle.machine.specs.declared.place.Place.{Place}
use Rattle.machine.specs.declared.place.Place.TheVariants.{Reg, Word}
use Rattle.machine.specs.Step.{class_of, Class, Ins, State, Fetched, Known, fetched_at}

-- the kind is ADDI
abbrev pub is_addi : Kind → Bool
is_addi Addi = true
is_addi _ = false

-- the kind is BEQ
abbrev pub is_beq : Kind → Bool
is_beq Beq = true
is_beq _ = false

-- the kind is BNE
abbrev pub is_bne : Kind → Bool
is_bne Bne = true
is_bne _ = false

-- an instruction of a class uses a register: as the base of an access, as a stored value, in a branch on x0 to x13, or
-- in an ADDI that copies it to x30
abbrev pub uses_as : Class → ℕ → Ins → Bool
uses_as class.Load r i = i.rs1 == r
uses_as class.Store r i = (i.rs1 == r) || (i.rs2 == r)
uses_as class.Branch r i = nat_le i.rs1 LAST_ORIGINAL && (nat_le i.rs2 LAST_ORIGINAL && ((i.rs1 == r) || (i.rs2 == r)))
uses_as class.Compute r i = is_addi i.kind && ((i.rd == TEMPORARY) && (i.rs1 == r))
uses_as _ r i = false

-- what was fetched is a use of the register
unfoldable pub uses : ℕ → Fetched → Bool
uses r (Known i) = uses_as (class_of i.kind) r i
uses r _ = false

-- the immediate of a guard
abbrev pub is_eight : ℤ → Bool
is_eight (pos n) = n == 8
is_eight (negsuc n) = false

-- BEQ that skips the next word, or BNE
abbrev pub is_guard_kind : Ins → Bool
is_guard_kind i = (is_beq i.kind && is_eight i.imm) || is_bne i.kind

-- what was fetched compares another of x1 to x13 with its pair: BEQ skips the next word if they are equal, BNE goes
-- elsewhere if they differ
unfoldable pub guards_other : ℕ → Fetched → Bool
guards_other r (Known i) = is_guard_kind i && ((i.rs2 == i.rs1 + PAIR_DISTANCE) && (not (i.rs1 == r) && (nat_le 1 i.rs1 && nat_le i.rs1 LAST_ORIGINAL)))
guards_other r _ = false

-- how many bytes behind its begin a guard ends that finds no difference
abbrev pub guard_bytes : Fetched → ℕ
guard_bytes (Known i) = cond (is_bne i.kind) 4 8
guard_bytes _ = 8

-- a branch
abbrev pub is_branch : Class → Bool
is_branch class.Branch = true
is_branch _ = false

-- what was fetched is a branch on the pairs of the registers of an instruction
abbrev pub is_on_pairs : Ins → Fetched → Bool
is_on_pairs i (Known j) = is_branch (class_of j.kind) && ((j.rs1 == pair i.rs1) && (j.rs2 == pair i.rs2))
is_on_pairs i _ = false

-- a branch checked behind it, by one on the pairs: a wrong value may lead it astray, but reaches nothing before that
unfoldable pub is_checked : Fetched → Fetched → Bool
is_checked (Known i) behind = is_branch (class_of i.kind) && is_on_pairs i behind
is_checked _ behind = false

-- a register is closed at an address of the code: it is one of x1 to x13, and used there, but not by a branch that is
-- checked behind it, or used behind the guard of another that stands there
abbrev pub closed_at : (ℕ → Fetched) → ℕ → ℕ → Bool
closed_at code a r =
    (nat_le 1 r && nat_le r LAST_ORIGINAL)
    && ((uses r (code a) && not (is_checked (code a) (code ((a + 4) % 2 ^ 64))))
    || (guards_other r (code a) && uses r (code ((a + guard_bytes (code a)) % 2 ^ 64))))

-- a register is closed in a state
abbrev pub is_closed : State → ℕ → Bool
is_closed s r = closed_at (λ a. fetched_at s.memory s.ranges a) s.pc r

-- a place is open in a state; a word always is
abbrev pub IsOpen : State → Place → Type 0
IsOpen s (Reg r) = is_closed s r ≡ false
IsOpen s (Word a) = Unit {0}
