-- Rules by which tests are admitted, and what names a code address: sentences on the segments, sections, symbols and
-- relocations of a file that was read. Sums are over whole numbers and do not wrap. Ranges are by their first address
-- and the one behind their last; code ranges are those of `code_ranges`.
use Rattle.std.specs.Prelude.{ℕ, ◌+◌, ◌-◌, ◌%◌, ◌^◌, ◌==◌, ◌&&◌, ◌||◌, not, nat_lt, nat_le, if◌then◌else◌, Bool, Option, Some, None, List, [], ◌∷◌, filter}
use Rattle.std.specs.Prelude.{slice_get}
use Rattle.std.specs.List.{list_any}
use Rattle.std.specs.Option.{option_map, option_or}
use Rattle.rv_isa.specs.declared.profile.TheConstants.{LAST_ORIGINAL}
pub use Rattle.elf_types.specs.declared.file.Segment.{Segment}
use Rattle.elf_types.specs.declared.file.Section.{Section}
use Rattle.elf_types.specs.declared.file.Symbol.{Symbol}
use Rattle.elf_types.specs.declared.file.Rela.{Rela}
pub use Rattle.elf_types.specs.declared.file.ElfFile.{ElfFile}
use Rattle.elf_types.specs.Abi.{has_compressed}
pub use Rattle.elf_types.specs.Segment.{is_in_image, is_dynamic_segment}
pub use Rattle.elf_types.specs.Symbol.{is_code_symbol}
pub use Rattle.rv_isa.specs.declared.ins.Ins.{Ins}
use Rattle.rv_isa.specs.Ins.{writes, reads}
use Rattle.machine.specs.Values.{wrapped}
use Rattle.machine.specs.Program.{LoadSegment}
use Rattle.machine.specs.Numbers.{is_at}
use Rattle.machine.specs.Loading.{is_code_section, lies_in_code}

-- ---- ranges
-- an address of a range
abbrev pub is_in : ℕ × ℕ → ℕ → Bool
is_in r q = nat_le r.0 q && nat_lt q r.1

-- an address of one of some ranges
abbrev pub is_in_any : List (ℕ × ℕ) → ℕ → Bool
is_in_any rs q = list_any (λ r. is_in r q) rs

-- ---- the image
-- the segments that make up the image, in order: those of type PT_LOAD that have bytes in memory
abbrev pub image_segments : List Segment → List Segment
image_segments ss = filter is_in_image ss

-- ---- A1: compressed code
-- EF_RISCV_RVC (RISC-V psABI, file header)
abbrev pub is_compressed : ElfFile → Bool
is_compressed f = has_compressed f.flags

-- ---- A2: dynamic linking
-- a program header is of type PT_DYNAMIC or PT_INTERP
abbrev pub is_dynamic : List Segment → Bool
is_dynamic ss = list_any is_dynamic_segment ss

-- ---- A5: the shape of code
-- a section that has bytes and a segment have a byte in common
abbrev pub shares : Section → LoadSegment → Bool
shares s l = nat_lt 0 l.size && (nat_lt s.address (l.address + l.size) && nat_lt l.address (s.address + s.size))

-- the section shares a byte with the segment, which is executable, and is not wholly inside it
abbrev pub is_cut_by : Section → LoadSegment → Bool
is_cut_by s l = l.flags.execute && (shares s l && not (lies_in_code s l))

-- an executable section that has bytes is cut by a segment
abbrev pub is_cut : List LoadSegment → Section → Bool
is_cut ls s = is_code_section s && list_any (is_cut_by s) ls

-- the start or the size of a range is not a multiple of 4
abbrev pub is_ragged : ℕ × ℕ → Bool
is_ragged r = not (r.0 % 4 == 0) || not ((r.1 - r.0) % 4 == 0)

-- ---- code addresses, and what names them
-- a multiple of 4 in a code range
abbrev pub is_code_address : List (ℕ × ℕ) → ℕ → Bool
is_code_address rs a = a % 4 == 0 && is_in_any rs a

-- the address is the value of a defined symbol of type STT_FUNC or STT_NOTYPE
abbrev pub is_named : List Symbol → ℕ → Bool
is_named ss a = list_any (λ s. is_code_symbol s && s.value == a) ss

-- the types of relocations that may hold a code address (RISC-V psABI, relocations): 32, 64, BRANCH, JAL, CALL,
-- CALL_PLT, PCREL_HI20, HI20, LO12_I and LO12_S
abbrev pub code_relocations : List ℕ
code_relocations = 1 ∷ 2 ∷ 16 ∷ 17 ∷ 18 ∷ 19 ∷ 23 ∷ 26 ∷ 27 ∷ 28 ∷ []

abbrev pub is_code_relocation : Rela → Bool
is_code_relocation r = list_any (λ k. k == r.kind) code_relocations

-- S + A modulo 2^64, where S is the value of the symbol and A the addend
abbrev pub relocated : List Symbol → Rela → Option ℕ
relocated ss r = option_map (λ s. (s.value + wrapped r.addend) % 2 ^ 64) (slice_get ss r.symbol)

-- S + A of a relocation of such a type is the address
abbrev pub is_relocated : List Symbol → List Rela → ℕ → Bool
is_relocated ss rs a = list_any (λ r. is_code_relocation r && is_at (relocated ss r) a) rs

-- a symbol or a relocation names the address, which is thus a leader where it is a code address
abbrev pub is_named_in : ElfFile → ℕ → Bool
is_named_in f a = is_named f.symbols a || is_relocated f.symbols f.relas a

-- ---- A7: registers above x13
-- the register, where it is above x13
abbrev pub if_high : Option ℕ → Option ℕ
if_high None = None
if_high (Some r) = if nat_lt LAST_ORIGINAL r then Some r else None

-- the first register above x13 that an instruction writes or reads, in the order rd, rs1, rs2
abbrev pub high_register : Ins → Option ℕ
high_register i = option_or (if_high (writes i)) (option_or (if_high (reads i).0) (if_high (reads i).1))
