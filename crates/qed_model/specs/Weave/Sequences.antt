-- The code sequences of the new code (this project's profile), as lists of items, and when words stand for them.
-- Duplicates of x1 to x13 are x17 to x29. The distance of the halves is in x14, the address of the next visited data
-- word in x15, the signature in x16. Temporaries are x30 and x31.
use Rattle.std.specs.Prelude.{◌≡◌, ℕ, zero, suc, ◌+◌, ◌%◌, ◌^◌, Bool, cond, ◌==◌, List, [], ◌∷◌, ◌++◌, length, pos, neg_ℤ}
pub use Rattle.rv_isa.specs.declared.profile.TheConstants.{ORIGINALS, LAST_ORIGINAL, PAIR_DISTANCE, DISTANCE, CURSOR, SIGNATURE, TEMPORARY, SPARE}
pub use Rattle.rv_isa.specs.declared.ins.Ins.{Ins}
pub use Rattle.rv_isa.specs.declared.class.Class.{Class}
pub use Rattle.rv_isa.specs.Kind.{class_of}
pub use Rattle.rv_isa.specs.Operation.{pair, renamed}
use Rattle.rv_isa.specs.declared.class.Class.TheVariants as class
pub use Rattle.qed_model.specs.declared.item.Item.{Item}
pub use Rattle.qed_model.specs.declared.item.Item.TheVariants.{Mark, Plain, Constant, Go}
use Rattle.machine.specs.Step.{Illegal, Lui, Auipc, Addi, Andi, Add, Beq, Bne, Ebreak, Jal, Jalr, Ld, Lw, ins, Fetched, Known, HasAt, target}
use Rattle.machine.specs.Offsets.{distance_between, upper_part, lower_part}
use Rattle.machine.specs.Operands.{is_auipc}
use Rattle.qed_model.specs.Weave.Placed.{go_words, go_size}

-- the words from an address on stand for the items, in the near or in the far form; `entry` gives the entry of an input
-- address
abbrev pub Reads : Bool → (ℕ → Fetched) → (ℕ → ℕ) → ℕ → List Item → Type 0
Reads far c entry a [] = Unit {0}
Reads far c entry a (Mark m ∷ is) = (entry m ≡ a) × Reads far c entry a is
Reads far c entry a (Plain i ∷ is) = (c a ≡ Known i) × Reads far c entry (a + 4) is
Reads far c entry a (Constant r v ∷ is) =
    (c a ≡ Known (ins Auipc r 0 0 (upper_part (distance_between a v))))
    × (c (a + 4) ≡ Known (ins Addi r r 0 (lower_part (distance_between a v)))) × Reads far c entry (a + 8) is
Reads far c entry a (Go t ∷ is) = HasAt c a (go_words far a (entry t)) × Reads far c entry (a + go_size far) is

-- what the new code depends on besides the blocks
pub record Form : Type 0 where
  -- the data ranges, in ascending order
  pub spans : List (ℕ × ℕ)
  -- how many data words are visited behind each piece
  pub round : ℕ
  -- a jump to an entry has two words
  pub far : Bool
  -- all data words and registers are compared before the end
  pub sweep : Bool
  -- the mirror part of an instruction at an input address, and the most steps of its two parts together
  pub mirror : Ins → ℕ → List Item
  pub cost : ℕ

-- ---- registers and checks
-- a fired check
abbrev pub fired_check : Item
fired_check = Plain (ins Ebreak 0 0 0 (pos 0))

-- fires where a register and its pair differ; nothing for x0
abbrev pub guard : ℕ → List Item
guard r = cond (r == 0) [] (Plain (ins Beq 0 r (r + PAIR_DISTANCE) (pos 8)) ∷ fired_check ∷ [])

-- the guards of some registers
abbrev pub guards : List ℕ → List Item
guards [] = []
guards (q ∷ qs) = guard q ++ guards qs

-- x1 to x13
abbrev pub originals : List ℕ
originals = 1 ∷ 2 ∷ 3 ∷ 4 ∷ 5 ∷ 6 ∷ 7 ∷ 8 ∷ 9 ∷ 10 ∷ 11 ∷ 12 ∷ LAST_ORIGINAL ∷ []

-- the guard of each
abbrev pub compare : List Item
compare = guards originals

-- fires where the signature in x16 is not that of an input address
abbrev pub check_sign : ℕ → List Item
check_sign a = Constant TEMPORARY a ∷ Plain (ins Beq 0 SIGNATURE TEMPORARY (pos 8)) ∷ fired_check ∷ []

-- begins the entry of an input address
abbrev pub enter : ℕ → List Item
enter a = Mark a ∷ check_sign a

-- ---- visits
-- behind the last word of a range the cursor in x15 goes on at the next range, behind that of the last range at `first`
abbrev pub wraps : List (ℕ × ℕ) → ℕ → List Item
wraps [] first = []
wraps (r ∷ []) first = Constant TEMPORARY r.1 ∷ Plain (ins Bne 0 CURSOR TEMPORARY (pos 12)) ∷ Constant CURSOR first ∷ []
wraps (r ∷ n ∷ rs) first = Constant TEMPORARY r.1 ∷ Plain (ins Bne 0 CURSOR TEMPORARY (pos 12)) ∷ Constant CURSOR n.0 ∷ wraps (n ∷ rs) first

-- one visited data word: fires if the word and its duplicate differ, and moves the cursor to the next word, from the
-- last one to the first; nothing without data ranges
abbrev pub visit_word : List (ℕ × ℕ) → List Item
visit_word [] = []
visit_word (r ∷ rs) =
    Plain (ins Ld TEMPORARY CURSOR 0 (pos 0)) ∷ Plain (ins Add SPARE CURSOR DISTANCE (pos 0)) ∷ Plain (ins Ld SPARE SPARE 0 (pos 0))
    ∷ Plain (ins Beq 0 TEMPORARY SPARE (pos 8)) ∷ fired_check ∷
    Plain (ins Addi CURSOR CURSOR 0 (pos 8)) ∷ wraps (r ∷ rs) r.0

-- the items several times
abbrev pub times : ℕ → List Item → List Item
times zero is = []
times (suc n) is = is ++ times n is

-- `round` visited words
abbrev pub visit : ℕ → List (ℕ × ℕ) → List Item
visit round spans = times round (visit_word spans)

-- each word of a range in turn: fires where it and its duplicate differ
abbrev pub sweep_range : ℕ × ℕ → List Item
sweep_range r =
    Constant CURSOR r.0 ∷ Plain (ins Ld TEMPORARY CURSOR 0 (pos 0)) ∷ Plain (ins Add SPARE CURSOR DISTANCE (pos 0))
    ∷ Plain (ins Ld SPARE SPARE 0 (pos 0)) ∷ Plain (ins Beq 0 TEMPORARY SPARE (pos 8)) ∷ fired_check ∷
    Plain (ins Addi CURSOR CURSOR 0 (pos 8)) ∷ Constant TEMPORARY r.1 ∷ Plain (ins Bne 0 CURSOR TEMPORARY (neg_ℤ (pos 32))) ∷ []

-- each range
abbrev pub sweep : List (ℕ × ℕ) → List Item
sweep [] = []
sweep (r ∷ rs) = sweep_range r ++ sweep rs

-- ---- pieces
-- the guards of both source registers
abbrev pub guards_of : Ins → List Item
guards_of i = guard i.rs1 ++ cond (i.rs2 == i.rs1) [] (guard i.rs2)

-- the original part of an instruction at an input address, by its class: the base of an access and a stored register
-- are guarded
abbrev pub original_as : Class → Ins → ℕ → List Item
original_as class.Load i at = guard i.rs1 ++ (Plain i ∷ [])
original_as class.Store i at = guards_of i ++ (Plain i ∷ [])
original_as _ i at = Plain i ∷ []

-- the original part of an instruction
abbrev pub original : Ins → ℕ → List Item
original i at = cond (is_auipc i.kind) (Constant i.rd (target i at) ∷ []) (original_as (class_of i.kind) i at)

-- the mirror part: the same on the pairs, where an access goes to the duplicate half
abbrev pub mirror_as : Class → Ins → ℕ → List Item
mirror_as class.Load i at = Plain (ins Add TEMPORARY (pair i.rs1) DISTANCE (pos 0)) ∷ Plain (ins i.kind (pair i.rd) TEMPORARY 0 i.imm) ∷ []
mirror_as class.Store i at = Plain (ins Add TEMPORARY (pair i.rs1) DISTANCE (pos 0)) ∷ Plain (ins i.kind 0 TEMPORARY (pair i.rs2) i.imm) ∷ []
mirror_as class.Fence i at = []
mirror_as _ i at = Plain (renamed i) ∷ []

-- the mirror part of an instruction
abbrev pub mirrored : Ins → ℕ → List Item
mirrored i at = cond (is_auipc i.kind) (Constant (pair i.rd) (target i at) ∷ []) (mirror_as (class_of i.kind) i at)

-- a part of each instruction, from an input address on
abbrev pub each_part : (Ins → ℕ → List Item) → List Ins → ℕ → List Item
each_part part [] at = []
each_part part (i ∷ is) at = part i at ++ each_part part is (at + 4)

-- a piece that stands at an input address: all original parts, all mirror parts, the comparison and the visits
abbrev pub piece : Form → List Ins → ℕ → List Item
piece form is at = each_part original is at ++ (each_part form.mirror is at ++ (compare ++ visit form.round form.spans))

-- ---- the leave of a block
-- a block falls to the next address, or ends with a jump, a branch, an ECALL or a zero word
pub data End : Type 0 where
  Falls : End
  Stops : Ins → End

-- the return address of a jump, in rd and in its pair
abbrev pub links : Ins → ℕ → List Item
links i at = cond (i.rd == 0) [] (Constant i.rd ((at + 4) % 2 ^ 64) ∷ Constant (pair i.rd) ((at + 4) % 2 ^ 64) ∷ [])

-- goes on to the entry of an input address, with its signature
abbrev pub go_on : ℕ → List Item
go_on n = Constant SIGNATURE n ∷ Go n ∷ []

-- what stands before an ECALL: with the sweep the comparison of all data words and of all registers
abbrev pub before_end : Form → List Item
before_end form = cond form.sweep (sweep form.spans ++ compare) []

-- the leave of an instruction at an input address, by its class. The pairs choose the signature, the originals the way.
-- The table gives the target of a JALR. A branch that is taken skips the first of two jumps
abbrev pub leave_as : Form → Class → Ins → ℕ → List Item
leave_as form class.End i at = before_end form ++ (Plain i ∷ [])
leave_as form class.Jump i at = links i at ++ go_on (target i at)
leave_as form class.Branch i at =
    Plain (ins i.kind 0 (pair i.rs1) (pair i.rs2) (pos 16)) ∷ Constant SIGNATURE ((at + 4) % 2 ^ 64)
    ∷ Plain (ins Jal 0 0 0 (pos 12)) ∷ Constant SIGNATURE (target i at) ∷
    (guards_of i ++ (Plain (ins i.kind 0 i.rs1 i.rs2 (pos (4 + go_size form.far))) ∷ Go ((at + 4) % 2 ^ 64) ∷ Go (target i at) ∷ []))
leave_as form class.JumpReg i at =
    Plain (ins Addi SIGNATURE (pair i.rs1) 0 i.imm) ∷ Plain (ins Andi SIGNATURE SIGNATURE 0 (neg_ℤ (pos 2))) ∷
    (guard i.rs1 ++ (Plain (ins Addi TEMPORARY i.rs1 0 i.imm) ∷ Plain (ins Andi TEMPORARY TEMPORARY 0 (neg_ℤ (pos 2))) ∷
    (links i at ++ (Plain (ins Add SPARE TEMPORARY DISTANCE (pos 0)) ∷ Plain (ins Add SPARE SPARE DISTANCE (pos 0))
    ∷ Plain (ins Lw TEMPORARY SPARE 0 (pos 0)) ∷ Plain (ins Add TEMPORARY TEMPORARY SPARE (pos 0)) ∷ Plain (ins Jalr 0 TEMPORARY 0 (pos 0)) ∷ []))))
leave_as form _ i at = Plain i ∷ []

-- the leave of a block whose end stands at an input address
abbrev pub leave : Form → End → ℕ → List Item
leave form Falls at = go_on at
leave form (Stops i) at = leave_as form (class_of i.kind) i at

-- ---- blocks
-- a block: its first input address, its pieces, its end, and the mark of those to which a jump by register may lead
pub record Block : Type 0 where
  pub start : ℕ
  pub body : List (List Ins)
  pub end : End
  pub reached : Bool

-- the number of instructions of pieces
abbrev pub body_length : List (List Ins) → ℕ
body_length [] = 0
body_length (p ∷ ps) = length p + body_length ps

-- ---- before and behind the entries
-- sets n registers from x(a) on to 0
abbrev pub zero_from : ℕ → ℕ → List Item
zero_from a zero = []
zero_from a (suc n) = Plain (ins Addi a 0 0 (pos 0)) ∷ zero_from (a + 1) n

-- the cursor begins at the first data word
abbrev pub cursor : List (ℕ × ℕ) → List Item
cursor [] = []
cursor (r ∷ rs) = Constant CURSOR r.0 ∷ []

-- what runs first: all originals and pairs are 0, x14 is the distance of the halves, and the test begins at its entry
abbrev pub prologue : ℕ → List (ℕ × ℕ) → ℕ → List Item
prologue d spans a = zero_from 1 ORIGINALS ++ (zero_from 17 ORIGINALS ++ (Plain (ins Lui DISTANCE 0 0 (pos d)) ∷ (cursor spans ++ go_on a)))

-- the zero word, where a jump to an address that is not code goes
abbrev pub stub : List Item
stub = Plain (ins Illegal 0 0 0 (pos 0)) ∷ []
