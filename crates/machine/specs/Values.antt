-- What each instruction computes, over whole numbers (RISC-V unprivileged manual, "RV64I" and the M extension).
use Rattle.std.specs.Prelude.{ℕ, suc, ◌+◌, ◌-◌, ◌*◌, ◌/◌, ◌%◌, ◌^◌, Bool, false, cond, not, nat_lt, ◌==◌, bit_and, bit_or, bit_xor, ℤ, pos, negsuc, ◌*ℤ◌}
use Rattle.std.specs.Prelude.{int_lt, int_div, int_rem}
use Rattle.machine.specs.Table.{Beq, Bne, Blt, Bge, Bltu, Bgeu, Lb, Lh, Lw, Lbu, Lhu, Lwu, Sb, Sh, Sw, Addi, Slti, Sltiu, Xori, Ori, Andi, Slli, Srli, Srai}
use Rattle.machine.specs.Table.{Add, Sub, Sll, Slt, Sltu, Xor, Srl, Sra, Or, And, Addiw, Slliw, Srliw, Sraiw, Addw, Subw, Sllw, Srlw, Sraw, Mul, Mulh, Mulhsu}
use Rattle.machine.specs.Table.{Mulhu, Div, Divu, Rem, Remu, Mulw, Divw, Divuw, Remw, Remuw, Kind, signed, is_zero}

-- z modulo 2^64
abbrev pub wrapped : ℤ → ℕ
wrapped (pos x) = x % 2 ^ 64
wrapped (negsuc x) = 2 ^ 64 - suc (x % 2 ^ 64)

-- z divided by 2^n, rounded down
abbrev pub floor_shift : ℤ → ℕ → ℤ
floor_shift (pos x) n = pos (x / 2 ^ n)
floor_shift (negsuc x) n = negsuc (x / 2 ^ n)

-- the low 32 bits, sign-extended
abbrev pub word : ℕ → ℕ
word x = wrapped (signed 32 (x % 2 ^ 32))

-- a register read as signed
abbrev pub s64 : ℕ → ℤ
s64 x = signed 64 x

-- its low 32 bits read as signed
abbrev pub s32 : ℕ → ℤ
s32 x = signed 32 (x % 2 ^ 32)

-- its low 32 bits
abbrev pub u32 : ℕ → ℕ
u32 x = x % 2 ^ 32

-- 1 where a test holds
abbrev pub from_test : Bool → ℕ
from_test b = cond b 1 0

-- rounded towards zero; by 0 all bits are set, and the overflow wraps (unprivileged manual, "Division Operations")
abbrev pub quotient : ℤ → ℤ → ℕ
quotient a b = cond (is_zero b) (2 ^ 64 - 1) (wrapped (int_div a b))

-- with the sign of the dividend; by 0 the dividend
abbrev pub remainder : ℤ → ℤ → ℕ
remainder a b = cond (is_zero b) (wrapped a) (wrapped (int_rem a b))

-- what a computing kind gives for its first operand and its second, a register or the immediate; LUI and AUIPC read the
-- pc or no register, and have their values at `result`
unfoldable pub value : Kind → ℕ → ℕ → ℕ
value Addi a b = (a + b) % 2 ^ 64
value Add a b = (a + b) % 2 ^ 64
value Sub a b = (a + (2 ^ 64 - b)) % 2 ^ 64
value Slt a b = from_test (int_lt (s64 a) (s64 b))
value Slti a b = from_test (int_lt (s64 a) (s64 b))
value Sltu a b = from_test (nat_lt a b)
value Sltiu a b = from_test (nat_lt a b)
value Xor a b = bit_xor a b
value Xori a b = bit_xor a b
value Or a b = bit_or a b
value Ori a b = bit_or a b
value And a b = bit_and a b
value Andi a b = bit_and a b
value Sll a b = a * 2 ^ (b % 64) % 2 ^ 64
value Slli a b = a * 2 ^ (b % 64) % 2 ^ 64
value Srl a b = a / 2 ^ (b % 64)
value Srli a b = a / 2 ^ (b % 64)
value Sra a b = wrapped (floor_shift (s64 a) (b % 64))
value Srai a b = wrapped (floor_shift (s64 a) (b % 64))
value Addw a b = word (a + b)
value Addiw a b = word (a + b)
value Subw a b = word (a + (2 ^ 64 - b))
value Sllw a b = word (u32 a * 2 ^ (b % 32))
value Slliw a b = word (u32 a * 2 ^ (b % 32))
value Srlw a b = word (u32 a / 2 ^ (b % 32))
value Srliw a b = word (u32 a / 2 ^ (b % 32))
value Sraw a b = word (wrapped (floor_shift (s32 a) (b % 32)))
value Sraiw a b = word (wrapped (floor_shift (s32 a) (b % 32)))
value Mul a b = a * b % 2 ^ 64
value Mulh a b = wrapped (floor_shift (s64 a *ℤ s64 b) 64)
value Mulhsu a b = wrapped (floor_shift (s64 a *ℤ pos b) 64)
value Mulhu a b = a * b / 2 ^ 64
value Div a b = quotient (s64 a) (s64 b)
value Divu a b = quotient (pos a) (pos b)
value Rem a b = remainder (s64 a) (s64 b)
value Remu a b = remainder (pos a) (pos b)
value Mulw a b = word (u32 a * u32 b)
value Divw a b = word (quotient (s32 a) (s32 b))
value Divuw a b = word (quotient (pos (u32 a)) (pos (u32 b)))
value Remw a b = word (remainder (s32 a) (s32 b))
value Remuw a b = word (remainder (pos (u32 a)) (pos (u32 b)))
value _ a b = 0

-- whether a branch is taken, by its two registers
unfoldable pub holds : Kind → ℕ → ℕ → Bool
holds Beq a b = a == b
holds Bne a b = not (a == b)
holds Blt a b = int_lt (s64 a) (s64 b)
holds Bge a b = not (int_lt (s64 a) (s64 b))
holds Bltu a b = nat_lt a b
holds Bgeu a b = not (nat_lt a b)
holds _ a b = false

-- how many bytes a load or store touches
abbrev pub width_of : Kind → ℕ
width_of Lb = 1
width_of Lbu = 1
width_of Sb = 1
width_of Lh = 2
width_of Lhu = 2
width_of Sh = 2
width_of Lw = 4
width_of Lwu = 4
width_of Sw = 4
width_of _ = 8

-- what a load gives for the number that stands in memory
unfoldable pub loaded : Kind → ℕ → ℕ
loaded Lb x = wrapped (signed 8 x)
loaded Lh x = wrapped (signed 16 x)
loaded Lw x = wrapped (signed 32 x)
loaded _ x = x
