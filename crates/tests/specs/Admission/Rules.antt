-- The rules of admission that hold at a place, each as a test at one segment, section or address. Refusals has the
-- other rules, and the order of all.
use Rattle.std.specs.Prelude.{ℕ, ◌+◌, ◌^◌, nat_lt, not, ◌&&◌, ◌||◌, Bool, true, false, Option, Some, None, is_none, List, [], ◌∷◌, ℤ, pos, negsuc}
use Rattle.std.specs.List.{list_any}
use Rattle.elf_types.specs.declared.file.Section.{Section}
use Rattle.machine.specs.Table.{Ebreak, Kind, Ins, decode_of}
use Rattle.machine.specs.Step.{target}
use Rattle.machine.specs.Offsets.{distance_between}
use Rattle.machine.specs.Operands.{is_auipc}
use Rattle.machine.specs.Program.{LoadSegment}
use Rattle.machine.specs.Loading.{is_code_section, lies_in_any, section_ranges}
use Rattle.tests.specs.Admission.Terms.{is_in_image, is_cut, is_ragged, high_register}
use Rattle.tests.specs.Admission.DataRanges.{is_written, is_executed, is_data, data_ranges, do_meet}
use Rattle.tests.specs.Admission.Places.{base_of, ElfFile, Segment, image_of}
use Rattle.tests.specs.Admission.CodeWords.{loads_of, is_code, word_at, instruction_at}

-- number i of a list passes a test
abbrev pub passes_at : {A : Type 0} → (A → Bool) → Option A → Bool
passes_at test None = false
passes_at test (Some x) = test x

-- ---- A3: a segment of the image is written and executed
abbrev pub is_writable_code : Segment → Bool
is_writable_code s = is_in_image s && (is_written s && is_executed s)

-- ---- A5: the shape of code
-- the addresses of a section and of a segment
abbrev pub section_range : Section → ℕ × ℕ
section_range s = (s.address, s.address + s.size)

abbrev pub segment_range : Segment → ℕ × ℕ
segment_range s = (s.address, s.address + s.memory)

-- an executable section is cut by an executable segment, or is a code range whose start or size is not a multiple of 4
abbrev pub is_misshapen_section : List LoadSegment → Section → Bool
is_misshapen_section ls s = is_cut ls s || (is_code_section s && (lies_in_any s ls && is_ragged (section_range s)))

-- a list has no member
abbrev pub is_empty : {A : Type 0} → List A → Bool
is_empty [] = true
is_empty (x ∷ xs) = false

-- no section is a code range, and the start or size of this executable segment is not a multiple of 4
abbrev pub is_misshapen_segment : ElfFile → Segment → Bool
is_misshapen_segment f s = is_empty (section_ranges (loads_of f) f.sections) && (is_in_image s && (is_executed s && is_ragged (segment_range s)))

-- ---- A6: the word at a code address is in no row of the instruction table, where the zero word has one
abbrev pub is_unknown : ElfFile → ℕ → Bool
is_unknown f a = is_code f a && is_none (decode_of (word_at f a))

-- ---- A7: the first register above x13 of the instruction at a code address
abbrev pub high_in : Option Ins → Option ℕ
high_in None = None
high_in (Some i) = high_register i

abbrev pub high_at : ElfFile → ℕ → Option ℕ
high_at f a = high_in (instruction_at f a)

-- ---- A8: an EBREAK at a code address
abbrev pub is_ebreak : Kind → Bool
is_ebreak Ebreak = true
is_ebreak _ = false

abbrev pub is_breakpoint : ElfFile → ℕ → Bool
is_breakpoint f a = passes_at (λ i. is_ebreak i.kind) (instruction_at f a)

-- ---- A9: the result of an AUIPC at a code address is out of reach of the base
-- a distance below -2^28, or at least 2^28
abbrev pub is_far : ℤ → Bool
is_far (pos n) = not (nat_lt n (2 ^ 28))
is_far (negsuc n) = not (nat_lt n (2 ^ 28))

abbrev pub is_far_constant : ElfFile → ℕ → Bool
is_far_constant f a = passes_at (λ i. is_auipc i.kind && is_far (distance_between (base_of (image_of f)) (target i a))) (instruction_at f a)

-- ---- A10: a segment of the image that is not a data segment has a byte in a data range
abbrev pub is_mixed : List Segment → Segment → Bool
is_mixed image s = is_in_image s && (not (is_data image s) && list_any (do_meet (segment_range s)) (data_ranges image))
