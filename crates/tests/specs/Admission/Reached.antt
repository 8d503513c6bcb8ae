-- Reached addresses: the code addresses to which the file shows that a jump by register may lead. The form is this
-- project's own: more addresses than a run uses do no harm.
use Rattle.std.specs.Prelude.{◌≡◌, ℕ, ◌+◌, ◌-◌, ◌%◌, ◌^◌, ◌==◌, ◌&&◌, ◌||◌, not, nat_lt, nat_le, cond, Bool, true, false, List, [], ◌∷◌, map, take, drop}
use Rattle.std.specs.List.{list_any}
use Rattle.rv_isa.specs.declared.class.Class.TheVariants as class
use Rattle.rv_isa.specs.declared.kind.Kind.{Kind}
use Rattle.rv_isa.specs.declared.kind.Kind.TheVariants.{Lui, Auipc, Addi, Addiw, Jalr}
use Rattle.tests.specs.declared.test.CodeWord.{CodeWord}
use Rattle.tests.specs.declared.test.Test.{Test}
use Rattle.machine.specs.declared.limits.TheConstants.{MAX_IMAGE_SPAN}
use Rattle.tests.specs.declared.options.Options.{Options}
use Rattle.tests.specs.declared.options.Entries.TheVariants as entries
use Rattle.machine.specs.Numbers.{words_of}
use Rattle.machine.specs.Step.{class_of, Ins, Class, target, imm}
use Rattle.machine.specs.Values.{word}
use Rattle.tests.specs.Admission.Terms.{ElfFile, Segment, is_code_address, is_named_in}
use Rattle.tests.specs.Admission.DataRanges.{range_of}
use Rattle.tests.specs.Admission.Test.{IsTestOf}

-- ---- links
-- JAL and JALR
abbrev pub is_jump : Class → Bool
is_jump class.Jump = true
is_jump class.JumpReg = true
is_jump _ = false

-- the address is the one that a JAL or JALR writes to a register other than x0
abbrev pub links_to : CodeWord → ℕ → Bool
links_to c a = is_jump (class_of c.ins.kind) && (not (c.ins.rd == 0) && ((c.at + 4) % 2 ^ 64 == a))

-- ---- words of the image
-- the words of the segment's bytes in the file that stand at multiples of 4
abbrev pub aligned_words : Segment → List ℕ
aligned_words s = words_of (drop ((4 - s.address % 4) % 4) s.bytes)

-- how far from a base on the first address is that has a word as its low 32 bits
abbrev pub offset_of : ℕ → ℕ → ℕ
offset_of base w = (w + (2 ^ 32 - base % 2 ^ 32)) % 2 ^ 32

-- an address is the first from a base on with a word as its low 32 bits, if it may be one of the image
abbrev pub is_low_half : ℕ → ℕ → ℕ → Bool
is_low_half base a w = nat_lt (offset_of base w) MAX_IMAGE_SPAN && ((base + offset_of base w) % 2 ^ 64 == a)

-- a word has the low half of the address, so the whole may stand there in 4 bytes or in 8
abbrev pub is_in_data : ℕ → ℕ → Segment → Bool
is_in_data base a s = list_any (is_low_half base a) (aligned_words s)

-- ---- tables of distances
-- words are added, sign-extended, to the base, as long as they lead to code
abbrev pub is_in_table : List (ℕ × ℕ) → ℕ → ℕ → List ℕ → Bool
is_in_table ranges base a [] = false
is_in_table ranges base a (w ∷ ws) =
    is_code_address ranges ((base + word w) % 2 ^ 64) && (((base + word w) % 2 ^ 64 == a) || is_in_table ranges base a ws)

-- the segment's bytes from an address on
abbrev pub bytes_from : ℕ → Segment → List ℕ
bytes_from a s = cond (nat_le s.address a) (drop (a - s.address) s.bytes) []

-- a table at the base leads to the address
abbrev pub is_by_table : Test → ℕ → ℕ → Segment → Bool
is_by_table t base a s = is_in_table (map range_of t.ranges) base a (words_of (bytes_from base s))

-- ---- constants
-- LUI and AUIPC
abbrev pub is_upper : Kind → Bool
is_upper Lui = true
is_upper Auipc = true
is_upper _ = false

-- the constant is the address, or a table stands there that leads to it
unfoldable pub leads : Test → ℕ → ℕ → Bool
leads t value a = (value == a) || list_any (is_by_table t value a) t.segments

-- ADDI, ADDIW and JALR
abbrev pub is_sum : Kind → Bool
is_sum Addi = true
is_sum Addiw = true
is_sum Jalr = true
is_sum _ = false

-- the instruction adds its immediate to the register
abbrev pub adds_to : ℕ → Ins → Bool
adds_to register i = is_sum i.kind && (i.rs1 == register)

-- a register's value leads to the address, itself or with the immediate of a word near by
abbrev pub sum_leads : Test → ℕ → ℕ → ℕ → CodeWord → Bool
sum_leads t register value a d = adds_to register d.ins && leads t (target d.ins value) a

unfoldable pub one_pass : Test → List CodeWord → ℕ → ℕ → ℕ → Bool
one_pass t near register value a = leads t value a || list_any (sum_leads t register value a) near

-- the words near by that may use a register: of x0, which holds no value, none
abbrev pub users : ℕ → List CodeWord → List CodeWord
users register near = cond (register == 0) [] near

-- of x3, the global pointer, which is set once (RISC-V psABI), all words
abbrev pub near_by : Test → List CodeWord → ℕ → List CodeWord
near_by t near register = cond (register == 3) t.code (users register near)

-- a register's value leads to the address with the immediate of a word near by, or also with that of a second one
abbrev pub sums_lead : Test → List CodeWord → ℕ → ℕ → ℕ → CodeWord → Bool
sums_lead t near register value a d = adds_to register d.ins && one_pass t (near_by t near d.ins.rd) d.ins.rd (target d.ins value) a

unfoldable pub twice : Test → List CodeWord → ℕ → ℕ → ℕ → Bool
twice t near register value a = leads t value a || list_any (sums_lead t near register value a) near

-- LUI, AUIPC, and an addition to x0, into which linkers turn the other two where an address is small
abbrev pub makes_constant : Ins → Bool
makes_constant i = is_upper i.kind || adds_to 0 i

-- what such a word makes
abbrev pub constant : Kind → CodeWord → ℕ
constant Auipc c = target c.ins c.at
constant _ c = imm c.ins

-- the word makes a constant that leads to the address, by at most two of the words near it
unfoldable pub made_by : Test → List CodeWord → CodeWord → ℕ → Bool
made_by t near c a = makes_constant c.ins && twice t (users c.ins.rd near) c.ins.rd (constant c.ins.kind c) a

-- a word of these does, where the 16 words behind each are near it
abbrev pub is_made : Test → ℕ → List CodeWord → Bool
is_made t a [] = false
is_made t a (c ∷ cs) = made_by t (take 16 cs) c a || is_made t a cs

-- ---- all of them
-- the address is the entry, a link, named by a symbol or a relocation, a word of the image, or a constant or led to by
-- one. For code addresses it says whether they are reached
abbrev pub is_reached : ElfFile → Test → ℕ → Bool
is_reached f t a =
    (t.entry == a)
    || (list_any (λ c. links_to c a) t.code
    || (is_named_in f a
    || (list_any (is_in_data t.base a) t.segments
    || is_made t a t.code)))

-- ---- of a file
-- the test that the file is reaches the address
pub record IsReached (f : ElfFile) (o : Options) (a : ℕ) : Type 0 where
  pub test : Test
  pub told : IsTestOf f o test
  pub reached : is_reached f test a ≡ true

-- addresses to which a jump by register may lead: any, but only reached ones if only those have entries
abbrev pub AreReached : ElfFile → Options → (ℕ → Bool) → Type 0
AreReached f o addresses = o.entries ≡ entries.Reached → (a : ℕ) → addresses a ≡ true → IsReached f o a
