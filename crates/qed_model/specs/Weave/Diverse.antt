-- Other mirror parts: most computing instructions have a mirror part of other kinds than their own, so that a unit that
-- is wrong twice in one way gives two different results.
use Rattle.std.specs.Prelude.{◌≡◌, ℕ, ◌/◌, ◌%◌, ◌^◌, Bool, false, true, List, [], ◌∷◌, ◌++◌, ℤ, pos, negsuc}
use Rattle.rv_isa.specs.declared.class.Class.TheVariants as class
use Rattle.machine.specs.Table.{Ins, Lui, Auipc, Addi, Slti, Sltiu, Xori, Ori, Andi, Slli, Srli, Srai, Add, Sub, Sll, Slt, Sltu, Xor, Srl, Sra, Or, And}
use Rattle.machine.specs.Table.{Addiw, Slliw, Srliw, Sraiw, Addw, Subw, Sllw, Srlw, Sraw, Mul, Mulh, Mulhsu, Mulhu, Div, Divu, Rem, Remu, Mulw, Divw, Divuw}
use Rattle.machine.specs.Table.{Remw, Remuw, Kind, ins}
use Rattle.machine.specs.Values.{wrapped, floor_shift}
pub use Rattle.qed_model.specs.declared.diverse.Place.{Place}
pub use Rattle.qed_model.specs.declared.diverse.Place.TheVariants.{X0, RD, RS1, RS2, X30, X31}
pub use Rattle.qed_model.specs.declared.diverse.Part.{Part}
use Rattle.qed_model.specs.Weave.Sequences.{pair, Mark, Plain, Constant, Go, Item, class_of, mirrored}

-- ---- words of a mirror part
-- on two registers
abbrev pub op : Kind → Place → Place → Place → Part
op k d a b = record { kind = k; to = d; left = a; right = b; imm = pos 0 }

-- on a register and an immediate
abbrev pub opi : Kind → Place → Place → ℤ → Part
opi k d a n = record { kind = k; to = d; left = a; right = X0; imm = n }

-- the register of a place, for an instruction
abbrev pub reg_at : Ins → Place → ℕ
reg_at i X0 = 0
reg_at i RD = pair i.rd
reg_at i RS1 = pair i.rs1
reg_at i RS2 = pair i.rs2
reg_at i X30 = 30
reg_at i X31 = 31

-- the word, for an instruction
abbrev pub part_word : Ins → Part → Ins
part_word i p = ins p.kind (reg_at i p.to) (reg_at i p.left) (reg_at i p.right) p.imm

-- several, one after the other
abbrev pub part_items : Ins → List Part → List Item
part_items i [] = []
part_items i (p ∷ ps) = Plain (part_word i p) ∷ part_items i ps

-- ---- the table
-- bits 22 to 31 of the immediate of LUI, as a signed number
abbrev pub lui_high : ℤ → ℤ
lui_high n = floor_shift n 22

-- its bits 12 to 21
abbrev pub lui_low : ℤ → ℤ
lui_low n = pos (wrapped n / 2 ^ 12 % 2 ^ 10)

-- the sign of a register as a mask, and with it another register or 0
abbrev pub sign_mask : Place → Place → List Part
sign_mask a b = opi Srai X31 a (pos 63) ∷ op And X31 X31 b ∷ []

-- the low 32 bits of a register without sign
abbrev pub low_word : Place → Place → List Part
low_word d a = opi Slli d a (pos 32) ∷ opi Srli d d (pos 32) ∷ []

-- both registers with their sign bits flipped, in x31 and x30
abbrev pub flip_signs : List Part
flip_signs = opi Addi X30 X0 (negsuc 0) ∷ opi Slli X30 X30 (pos 63) ∷ op Xor X31 RS1 X30 ∷ op Xor X30 RS2 X30 ∷ []

-- the other mirror part of a kind with an immediate; none where the kind keeps its own
abbrev pub parts_of : Kind → ℤ → List Part
parts_of Addi n = opi Xori X30 X0 n ∷ op Add RD RS1 X30 ∷ []
parts_of Slti n = opi Addi X30 X0 n ∷ op Slt RD RS1 X30 ∷ []
parts_of Sltiu n = opi Addi X30 X0 n ∷ op Sltu RD RS1 X30 ∷ []
parts_of Xori n = opi Addi X30 X0 n ∷ op Xor RD RS1 X30 ∷ []
parts_of Ori n = opi Addi X30 X0 n ∷ op Or RD RS1 X30 ∷ []
parts_of Andi n = opi Addi X30 X0 n ∷ op And RD RS1 X30 ∷ []
parts_of Slli n = opi Addi X30 X0 n ∷ op Sll RD RS1 X30 ∷ []
parts_of Srli n = opi Addi X30 X0 n ∷ op Srl RD RS1 X30 ∷ []
parts_of Srai n = opi Addi X30 X0 n ∷ op Sra RD RS1 X30 ∷ []
parts_of Slliw n = opi Addi X30 X0 n ∷ op Sllw RD RS1 X30 ∷ []
parts_of Srliw n = opi Addi X30 X0 n ∷ op Srlw RD RS1 X30 ∷ []
parts_of Sraiw n = opi Addi X30 X0 n ∷ op Sraw RD RS1 X30 ∷ []
parts_of Addiw n = opi Addi X30 RS1 n ∷ op Addw RD X30 X0 ∷ []
parts_of Add n = op Sub X30 X0 RS2 ∷ op Sub RD RS1 X30 ∷ []
parts_of Sub n = opi Xori X30 RS2 (negsuc 0) ∷ op Add X30 X30 RS1 ∷ opi Addi RD X30 (pos 1) ∷ []
parts_of Addw n = op Add X30 RS1 RS2 ∷ opi Addiw RD X30 (pos 0) ∷ []
parts_of Subw n = op Sub X30 RS1 RS2 ∷ opi Addiw RD X30 (pos 0) ∷ []
parts_of Mulw n = op Mul X30 RS1 RS2 ∷ opi Addiw RD X30 (pos 0) ∷ []
parts_of Xor n = op Or X30 RS1 RS2 ∷ op And X31 RS1 RS2 ∷ op Sub RD X30 X31 ∷ []
parts_of Or n = op Xor X30 RS1 RS2 ∷ op And X31 RS1 RS2 ∷ op Add RD X30 X31 ∷ []
parts_of And n = op Or X30 RS1 RS2 ∷ op Xor X31 RS1 RS2 ∷ op Xor RD X30 X31 ∷ []
parts_of Slt n = flip_signs ++ (op Sltu RD X31 X30 ∷ [])
parts_of Sltu n = flip_signs ++ (op Slt RD X31 X30 ∷ [])
parts_of Sra n = opi Srai X31 RS1 (pos 63) ∷ op Xor X30 RS1 X31 ∷ op Srl X30 X30 RS2 ∷ op Xor RD X30 X31 ∷ []
parts_of Sllw n = opi Andi X30 RS2 (pos 31) ∷ op Sll X30 RS1 X30 ∷ opi Addiw RD X30 (pos 0) ∷ []
parts_of Srlw n = opi Andi X31 RS2 (pos 31) ∷ (low_word X30 RS1 ++ (op Srl X30 X30 X31 ∷ opi Addiw RD X30 (pos 0) ∷ []))
parts_of Sraw n = opi Andi X31 RS2 (pos 31) ∷ opi Addiw X30 RS1 (pos 0) ∷ op Sra RD X30 X31 ∷ []
parts_of Lui n = opi Addi X30 X0 (lui_high n) ∷ opi Slli X30 X30 (pos 10) ∷ opi Addi X30 X30 (lui_low n) ∷ opi Slli RD X30 (pos 12) ∷ []
parts_of Mulh n = op Mulhu X30 RS1 RS2 ∷ (sign_mask RS1 RS2 ++ (op Sub X30 X30 X31 ∷ (sign_mask RS2 RS1 ++ (op Sub RD X30 X31 ∷ []))))
parts_of Mulhu n = op Mulh X30 RS1 RS2 ∷ (sign_mask RS1 RS2 ++ (op Add X30 X30 X31 ∷ (sign_mask RS2 RS1 ++ (op Add RD X30 X31 ∷ []))))
parts_of Mulhsu n = op Mulhu X30 RS1 RS2 ∷ (sign_mask RS1 RS2 ++ (op Sub RD X30 X31 ∷ []))
parts_of Rem n = op Div X30 RS1 RS2 ∷ op Mul X30 X30 RS2 ∷ op Sub RD RS1 X30 ∷ []
parts_of Remu n = op Divu X30 RS1 RS2 ∷ op Mul X30 X30 RS2 ∷ op Sub RD RS1 X30 ∷ []
parts_of Remw n = op Divw X30 RS1 RS2 ∷ op Mulw X30 X30 RS2 ∷ op Subw RD RS1 X30 ∷ []
parts_of Remuw n = op Divuw X30 RS1 RS2 ∷ op Mulw X30 X30 RS2 ∷ op Subw RD RS1 X30 ∷ []
parts_of Divw n = opi Addiw X30 RS1 (pos 0) ∷ opi Addiw X31 RS2 (pos 0) ∷ op Div X30 X30 X31 ∷ opi Addiw RD X30 (pos 0) ∷ []
parts_of Divuw n = low_word X30 RS1 ++ (low_word X31 RS2 ++ (op Divu X30 X30 X31 ∷ opi Addiw RD X30 (pos 0) ∷ []))
parts_of _ n = []

-- the other mirror part where there is one, else the instruction's own on the pairs
abbrev pub diverse_as : List Part → Ins → ℕ → List Item
diverse_as [] i at = mirrored i at
diverse_as (p ∷ ps) i at = part_items i (p ∷ ps)

-- the mirror part of an instruction at an input address
abbrev pub diverse : Ins → ℕ → List Item
diverse i at = diverse_as (parts_of i.kind i.imm) i at

-- ---- of other kinds
-- the computing kinds that keep their own mirror part
abbrev pub keeps_own : Kind → Bool
keeps_own Auipc = true
keeps_own Sll = true
keeps_own Srl = true
keeps_own Mul = true
keeps_own Div = true
keeps_own Divu = true
keeps_own _ = false

-- each item is a word of another kind than this one
abbrev pub OtherKinds : Kind → List Item → Type 0
OtherKinds k [] = Unit {0}
OtherKinds k (Mark m ∷ is) = ⊥
OtherKinds k (Plain j ∷ is) = (j.kind ≡ k → ⊥) × OtherKinds k is
OtherKinds k (Constant r v ∷ is) = ⊥
OtherKinds k (Go t ∷ is) = ⊥

-- each computing instruction but those has a mirror part of other kinds than its own alone
abbrev pub DiverseOther : Type 0
DiverseOther = (i : Ins) (at : ℕ) → class_of i.kind ≡ class.Compute → keeps_own i.kind ≡ false → OtherKinds i.kind (diverse i at)
