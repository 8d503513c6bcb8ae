-- The code of a generated test: `main`, which calls each function three times, and the functions of random words.
use Rattle.std.specs.Prelude.{ℕ, ◌+◌, ◌*◌, ◌/◌, ◌%◌, ◌^◌, pos, negsuc, ◌-ℤ◌, List, [], ◌∷◌, ◌++◌, slice_index, slice_index_or}
use Rattle.rv_isa.specs.declared.profile.TheConstants.{LAST_ORIGINAL}
use Rattle.rv_isa.specs.Ins.{nop}
use Rattle.machine.specs.Table.{ins, Ins, Lui, Jalr, Bne, Ld, Sd, Addi, Add, Sub, Xor, Ecall, Mul, Divu}
use Rattle.machine.specs.Below.{each, gather}
use Rattle.test_gen.specs.Random.{random_word}

-- ---- bodies of functions
-- the registers that bodies name
abbrev pub body_registers : List ℕ
body_registers = 5 ∷ 6 ∷ 7 ∷ 10 ∷ 11 ∷ 12 ∷ LAST_ORIGINAL ∷ []

-- the register that a word chooses by its bits from a place on
abbrev pub register_from : ℕ → ℕ → ℕ
register_from place word = slice_index body_registers (word / 2 ^ place % 7)

-- the eight forms of a body instruction, of its registers and a number below 256; data words count from x2
abbrev pub body_forms : ℕ → ℕ → ℕ → ℕ → List Ins
body_forms rd rs1 rs2 m =
    ins Add rd rs1 rs2 (pos 0)
    ∷ ins Sub rd rs1 rs2 (pos 0)
    ∷ ins Xor rd rs1 rs2 (pos 0)
    ∷ ins Mul rd rs1 rs2 (pos 0)
    ∷ ins Addi rd rs1 0 (pos m -ℤ pos 128)
    ∷ ins Divu rd rs1 rs2 (pos 0)
    ∷ ins Ld rd 2 0 (pos (8 * m))
    ∷ ins Sd 0 2 rs2 (pos (8 * m))
    ∷ []

-- the body instruction of a random word
unfoldable pub body_instruction : ℕ → Ins
body_instruction word =
    slice_index_or
    (body_forms (register_from 8 word) (register_from 16 word) (register_from 24 word) (word / 2 ^ 32 % 256))
    (word % 8)
    nop

-- ---- functions
-- how many functions a test of this size has
unfoldable pub function_count : ℕ → ℕ
function_count size = (size + 31) / 32

-- jalr x0, 0(x1)
abbrev pub return : Ins
return = ins Jalr 0 1 0 (pos 0)

-- function i: 32 body instructions, each of the next random word, and the return
unfoldable pub function : ℕ → ℕ → List Ins
function seed i = each 32 (λ k. body_instruction (random_word seed (32 * i + k))) ++ return ∷ []

-- ---- main
-- main for n functions: three rounds over the table, which call its entries one after another
unfoldable pub main : ℕ → List Ins
main n =
    ins Lui 2 0 0 (pos 0x90000)
    ∷ ins Addi 8 0 0 (pos 3)
    ∷ ins Lui 4 0 0 (pos 0x80000)
    ∷ ins Addi 9 0 0 (pos n)
    ∷ ins Ld 5 4 0 (pos 0)
    ∷ ins Jalr 1 5 0 (pos 0)
    ∷ ins Addi 4 4 0 (pos 8)
    ∷ ins Addi 9 9 0 (negsuc 0)
    ∷ ins Bne 0 9 0 (negsuc 15)
    ∷ ins Addi 8 8 0 (negsuc 0)
    ∷ ins Bne 0 8 0 (negsuc 31)
    ∷ ins Ecall 0 0 0 (pos 0)
    ∷ []

-- ---- the whole code
-- the code with n functions
unfoldable pub code : ℕ → ℕ → List Ins
code seed n = main n ++ gather n (function seed)
