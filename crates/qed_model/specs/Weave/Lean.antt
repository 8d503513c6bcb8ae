-- The lean form of the new code (this project's profile): no comparison stands behind pieces. Register x16 has the
-- input address of the block. The last 12 bits of x15 count the steps since the last check, up from 2047 less `every`;
-- the others have the offset of the next visited data word. A block that needs a tick begins with it; it goes to the
-- only check if the count would pass 2047. The check compares the signature with the address from the tick, x14 with
-- the distance, and all registers. It visits a round of data words, and returns to the entry by the table.
use Rattle.std.specs.Prelude.{ℕ, ◌+◌, ◌-◌, ◌%◌, ◌^◌, Bool, true, false, cond, ◌==◌, nat_lt, max, List, [], ◌∷◌, ◌++◌, ℤ, pos, neg_ℤ}
use Rattle.rv_isa.specs.declared.class.Class.TheVariants as class
use Rattle.machine.specs.Values.{wrapped}
use Rattle.machine.specs.Step.{Ins, Lui, Addi, Andi, Slli, Srli, Add, Sub, Beq, Bne, Blt, Bge, Bltu, Bgeu, Jal, Jalr, Lw, Ebreak, Kind, ins, class_of, Class}
use Rattle.machine.specs.Step.{target}
use Rattle.machine.specs.Offsets.{distance_between, upper_part, lower_part}
use Rattle.qed_model.specs.Weave.Placed.{sum_of_sizes}
use Rattle.qed_model.specs.Weave.Sequences.{Mark, Plain, Constant, Go, Item, pair, End, Falls, Stops, fired_check, guard, check_sign, compare, visit, links}
use Rattle.qed_model.specs.Weave.Sequences.{zero_from, ORIGINALS, DISTANCE, CURSOR, SIGNATURE, TEMPORARY, SPARE}

-- ---- the tick
-- what x30 has to have where the check begins: with the option `land` it has it already
abbrev pub named : Bool → ℕ → List Item
named land a = cond land [] (Constant TEMPORARY a ∷ [])

-- counts `most` steps, and if the count passes 2047 goes to the check at a distance, with the input address of the
-- block in x30; behind the jump stands an EBREAK, to which nothing goes
abbrev pub tick : Bool → ℕ → ℕ → ℤ → List Item
tick land a most d =
    Plain (ins Addi CURSOR CURSOR 0 (pos most)) ∷ Plain (ins Slli SPARE CURSOR 0 (pos 52)) ∷ Plain (ins Bge 0 SPARE 0 (pos (cond land 12 20)))
    ∷ (named land a ++ (Plain (ins Jal 0 0 0 d) ∷ fired_check ∷ []))

-- ---- the signature
-- a distance that one immediate has, from -2048 to 2047
abbrev pub is_short : ℤ → Bool
is_short d = nat_lt ((wrapped d + 2048) % 2 ^ 64) 4096

-- adds a distance to the signature
abbrev pub turn_by : ℤ → List Item
turn_by d = cond (is_short d) (Plain (ins Addi SIGNATURE SIGNATURE 0 d) ∷ [])
    (Plain (ins Lui TEMPORARY 0 0 (upper_part d)) ∷ Plain (ins Addi TEMPORARY TEMPORARY 0 (lower_part d))
    ∷ Plain (ins Add SIGNATURE SIGNATURE TEMPORARY (pos 0)) ∷ [])

-- turns the signature from one input address to another
abbrev pub turn : ℕ → ℕ → List Item
turn a t = cond (a == t) [] (turn_by (distance_between a t))

-- ---- the entry
-- of the block that begins at a: its tick, if it has one, and with the option `land` a test of the signature before it
abbrev pub enter : Bool → Bool → ℕ → ℕ → ℤ → List Item
enter land ticks a most d = cond land (check_sign a) [] ++ cond ticks (tick land a most d) []

-- how many bytes behind the entry the tick goes to the check
abbrev pub call_at : Bool → ℕ
call_at land = cond land 28 20

-- ---- the distance of the halves
-- fires where x14 is not the distance
abbrev pub check_distance : ℕ → List Item
check_distance d = Plain (ins Lui TEMPORARY 0 0 (pos d)) ∷ Plain (ins Beq 0 DISTANCE TEMPORARY (pos 8)) ∷ fired_check ∷ []

-- ---- the table
-- looks the entry of the input address in a register up, by x31, into x30
abbrev pub look_up : ℕ → List Item
look_up r = Plain (ins Add SPARE r DISTANCE (pos 0)) ∷ Plain (ins Add SPARE SPARE DISTANCE (pos 0)) ∷ Plain (ins Lw TEMPORARY SPARE 0 (pos 0))
    ∷ Plain (ins Add TEMPORARY TEMPORARY SPARE (pos 0)) ∷ []

-- looks up the signature's entry again, by x31 and x14; restores the distance; fires if x30 differs, else goes there
abbrev pub look_again : ℕ → List Item
look_again d =
    Plain (ins Add SPARE DISTANCE DISTANCE (pos 0)) ∷ Plain (ins Add SPARE SPARE SIGNATURE (pos 0)) ∷ Plain (ins Lw DISTANCE SPARE 0 (pos 0))
    ∷ Plain (ins Add SPARE SPARE DISTANCE (pos 0)) ∷ Plain (ins Lui DISTANCE 0 0 (pos d)) ∷
    Plain (ins Beq 0 TEMPORARY SPARE (pos 8)) ∷ fired_check ∷ Plain (ins Jalr 0 TEMPORARY 0 (pos 0)) ∷ []

-- ---- the check
-- the address of the first data word, or where there is none the begin of the input
abbrev pub first_word : ℕ → List (ℕ × ℕ) → ℕ
first_word base [] = base
first_word base (r ∷ rs) = r.0

-- fires where the signature is not the address in x30
abbrev pub called : List Item
called = Plain (ins Beq 0 SIGNATURE TEMPORARY (pos 8)) ∷ fired_check ∷ []

-- x15 gets the address of the next data word
abbrev pub begun : ℕ → List Item
begun first = Plain (ins Srli CURSOR CURSOR 0 (pos 12)) ∷ Constant TEMPORARY first ∷ Plain (ins Add CURSOR CURSOR TEMPORARY (pos 0)) ∷ []

-- x15 gets the offset of the next data word again, and the count begins
abbrev pub done : ℕ → ℕ → List Item
done first every = Constant TEMPORARY first ∷ Plain (ins Sub CURSOR CURSOR TEMPORARY (pos 0)) ∷ Plain (ins Slli CURSOR CURSOR 0 (pos 12))
    ∷ Plain (ins Addi CURSOR CURSOR 0 (pos (2047 - every))) ∷ []

-- the whole check
abbrev pub check : ℕ → ℕ → ℕ → ℕ → List (ℕ × ℕ) → List Item
check base d every round spans =
    called ++ (check_distance d ++ (compare ++ (begun (first_word base spans)
    ++ (visit round spans ++ (done (first_word base spans) every ++ (look_up SIGNATURE ++ look_again d))))))

-- ---- a store
-- the guard of its address: the pair's address in the other half, and by it the base
abbrev pub guard_address : Ins → List Item
guard_address i = Plain (ins Add TEMPORARY (pair i.rs1) DISTANCE (pos 0)) ∷ Plain (ins Sub SPARE TEMPORARY DISTANCE (pos 0))
    ∷ Plain (ins Beq 0 i.rs1 SPARE (pos 8)) ∷ fired_check ∷ []

-- the guard of its value, where that is another register
abbrev pub guard_value : Ins → List Item
guard_value i = cond (i.rs2 == i.rs1) [] (guard i.rs2)

-- the store of the pair, by the address in x30
abbrev pub mirrored_store : Ins → Item
mirrored_store i = Plain (ins i.kind 0 TEMPORARY (pair i.rs2) i.imm)

-- ---- the leaves
-- the branch that is taken where another is not
abbrev pub opposite : Kind → Kind
opposite Beq = Bne
opposite Bne = Beq
opposite Blt = Bge
opposite Bge = Blt
opposite Bltu = Bgeu
opposite Bgeu = Bltu
opposite k = k

-- goes to the entry of another input address
abbrev pub goes : ℕ → ℕ → List Item
goes a t = turn a t ++ (Go t ∷ [])

-- fires where a branch of some kind would not be taken on the pairs
abbrev pub check_way : Kind → Ins → List Item
check_way k i = Plain (ins k 0 (pair i.rs1) (pair i.rs2) (pos 8)) ∷ fired_check ∷ []

-- the way of a branch that is taken
abbrev pub taken : Ins → ℕ → ℕ → List Item
taken i a t = check_way i.kind i ++ goes a t

-- takes the target of a JALR by a register, its own or the pair
abbrev pub take_target : Ins → ℕ → List Item
take_target i r = Plain (ins Addi TEMPORARY r 0 i.imm) ∷ Plain (ins Andi TEMPORARY TEMPORARY 0 (neg_ℤ (pos 2))) ∷ []

-- a JALR adds its target by the pair to the signature, and takes the address of its block away
abbrev pub turn_leap : Ins → ℕ → List Item
turn_leap i a = take_target i (pair i.rs1)
    ++ (Plain (ins Add SIGNATURE SIGNATURE TEMPORARY (pos 0)) ∷ Constant TEMPORARY a ∷ Plain (ins Sub SIGNATURE SIGNATURE TEMPORARY (pos 0)) ∷ [])

-- the leave of an instruction at `at`, in the block that begins at a. The halves are d apart; `fall` leads to the entry
-- behind the block; `before` stands before an ECALL, behind comparisons of all registers, distance and signature. Each
-- way of a branch fires if the pairs choose the other. A JALR turns by the pair and looks up the guarded original
abbrev pub leave_as : ℕ → List Item → (ℕ → List Item) → Class → Ins → ℕ → ℕ → List Item
leave_as d before fall class.End i a at = compare ++ (check_distance d ++ (check_sign a ++ (before ++ (Plain i ∷ []))))
leave_as d before fall class.Jump i a at = links i at ++ goes a (target i at)
leave_as d before fall class.Branch i a at =
    Plain (ins (opposite i.kind) 0 i.rs1 i.rs2 (pos (4 + sum_of_sizes false (taken i a (target i at)))))
    ∷ (taken i a (target i at) ++ (check_way (opposite i.kind) i
    ++ (turn a ((at + 4) % 2 ^ 64) ++ fall ((at + 4) % 2 ^ 64))))
leave_as d before fall class.JumpReg i a at =
    turn_leap i a ++ (check_distance d ++ (guard i.rs1 ++ (take_target i i.rs1 ++ (called ++ (links i at ++ (look_up TEMPORARY ++ look_again d))))))
leave_as d before fall _ i a at = Plain i ∷ []

-- of a block that begins at a and has its end at `at`
abbrev pub leave : ℕ → List Item → (ℕ → List Item) → End → ℕ → ℕ → List Item
leave d before fall Falls a at = turn a at ++ fall at
leave d before fall (Stops i) a at = leave_as d before fall (class_of i.kind) i a at

-- ---- what runs first
-- originals and pairs are 0, and x14 is the distance of the halves. The test begins at its entry, with the first data
-- word and a count of 2047, so that its first tick goes to the check
abbrev pub begin : ℕ → ℕ → List Item
begin d a = zero_from 1 ORIGINALS ++ (zero_from 17 ORIGINALS
    ++ (Plain (ins Lui DISTANCE 0 0 (pos d)) ∷ Constant SIGNATURE a ∷ Plain (ins Addi CURSOR 0 0 (pos 2047)) ∷ Go a ∷ []))

-- ---- the steps
-- of straight words, where no check fires
abbrev pub is_break : Kind → Bool
is_break Ebreak = true
is_break k = false

abbrev pub cost : List Item → ℕ
cost [] = 0
cost (Mark a ∷ xs) = cost xs
cost (Plain i ∷ xs) = cond (is_break i.kind) 0 1 + cost xs
cost (Constant r v ∷ xs) = 2 + cost xs
cost (Go t ∷ xs) = 1 + cost xs

-- the most steps of a leave, but for what stands before an ECALL; of a branch, the longer of its two ways
abbrev pub leave_cost_as : (ℕ → List Item) → Class → Ins → ℕ → ℕ → ℕ
leave_cost_as fall class.Branch i a at = 2 + max (cost (goes a (target i at))) (cost (turn a ((at + 4) % 2 ^ 64) ++ fall ((at + 4) % 2 ^ 64)))
leave_cost_as fall k i a at = cost (leave_as 0 [] fall k i a at)

abbrev pub leave_cost : (ℕ → List Item) → End → ℕ → ℕ → ℕ
leave_cost fall Falls a at = cost (leave 0 [] fall Falls a at)
leave_cost fall (Stops i) a at = leave_cost_as fall (class_of i.kind) i a at
