-- What the output of any test holds: segments, sections and symbols, made of those of the input. Names and numbers are
-- those of the ELF gABI.
use Rattle.std.specs.Prelude.{ℕ, ◌+◌, ◌-◌, ◌*◌, ◌/◌, max, Bool, false, nat_lt, not, if◌then◌else◌, Option, Some, None, List, [], ◌∷◌, ◌++◌, length, map}
use Rattle.std.specs.Prelude.{filter, flat_map, codes}
use Rattle.std.specs.List.{list_any}
use Rattle.elf_types.specs.declared.output.OutFile.{OutFile}
use Rattle.elf_types.specs.declared.output.OutSection.{OutSection}
use Rattle.elf_types.specs.declared.abi.TheConstants.{PT_LOAD, PF_R, PF_W, SHF_ALLOC}
use Rattle.qed_model.specs.declared.plan.EntryRow.{EntryRow}
use Rattle.qed_model.specs.declared.plan.PieceRow.{PieceRow}
use Rattle.machine.specs.Numbers.{number_bytes}
use Rattle.machine.specs.Below.{each, gather}
use Rattle.machine.specs.Loading.{load_segments}
use Rattle.machine.specs.Cells.{byte_among}
use Rattle.tests.specs.Admission.DataRanges.{is_written, is_data, data_segments, data_ranges, is_in}
use Rattle.tests.specs.Admission.Places.{Segment, ElfFile, image_of, half_of, code_place, by_address}
pub use Rattle.qed_model.specs.Weave.OutputParts.{shifted}
use Rattle.qed_model.specs.Weave.OutputParts.{copies, code_segment, text_section, map_section, out_symbols}
use Rattle.qed_model.specs.Weave.Placed.{entry_at}
use Rattle.qed_model.specs.Weave.Sequences.{class_of, Ins, Block, End, Falls, Stops}
use Rattle.tests.specs.Admission.Leaders.{is_indirect}

-- ---- data ranges
-- the data segments in a range
abbrev pub data_in : List Segment → ℕ × ℕ → List Segment
data_in image r = filter (λ s. is_in r s.address) (data_segments image)

-- PF_R, and PF_W where one of them is written
abbrev pub range_flags : List Segment → ℕ
range_flags held = if list_any is_written held then PF_R + PF_W else PF_R

-- the end of the last byte that they have in the file; where they have none, the start of the range
abbrev pub file_end : ℕ → List Segment → ℕ
file_end start [] = start
file_end start (s ∷ ss) = if nat_lt 0 (length s.bytes) then max (s.address + length s.bytes) (file_end start ss) else file_end start ss

-- the bytes of a range up to there, as the image has them, and 0 where it has none
abbrev pub range_bytes : List Segment → ℕ × ℕ → List ℕ
range_bytes image r = each (file_end r.0 (data_in image r) - r.0) (λ k. byte_among (load_segments image) (r.0 + k))

-- the whole range as one segment
abbrev pub range_segment : List Segment → ℕ × ℕ → Segment
range_segment image r = record { kind = PT_LOAD; flags = range_flags (data_in image r); address = r.0; memory = r.1 - r.0; bytes = range_bytes image r }

-- ---- the halves
-- the segments that are no data segments
abbrev pub other_segments : List Segment → List Segment
other_segments image = filter (λ s. not (is_data image s)) image

-- the original half: the others without PF_X, and the data ranges
abbrev pub original_half : List Segment → List Segment
original_half image = by_address (copies 0 (other_segments image) ++ map (range_segment image) (data_ranges image))

-- both halves
abbrev pub halves : ℕ → List Segment → List Segment
halves d image = original_half image ++ map (shifted d) (original_half image)

-- ---- the table, by the entries in ascending order of input addresses
abbrev pub first_input : List EntryRow → ℕ
first_input [] = 0
first_input (row ∷ rows) = row.input

abbrev pub last_input : List EntryRow → ℕ
last_input [] = 0
last_input (row ∷ []) = row.input
last_input (row ∷ next ∷ rows) = last_input (next ∷ rows)

-- how far an entry is from a place of the table; 0 for an address without an entry
abbrev pub distance_to : ℕ → Option ℕ → ℕ
distance_to place None = 0
distance_to place (Some entry) = entry - place

-- the word of an input address, which stands 2D above it
abbrev pub table_word : ℕ → List EntryRow → ℕ → ℕ
table_word d rows a = distance_to (a + 2 * d) (entry_at rows a)

-- from the first entry to the last, a word for each 4 bytes of the input
abbrev pub table_bytes : ℕ → List EntryRow → List ℕ
table_bytes d rows = gather ((last_input rows - first_input rows) / 4 + 1) (λ k. number_bytes 4 (table_word d rows (first_input rows + 4 * k)))

-- PT_LOAD with PF_R
abbrev pub table_segment : ℕ → List EntryRow → Segment
table_segment d rows =
    let bytes = table_bytes d rows in
    record { kind = PT_LOAD; flags = PF_R; address = first_input rows + 2 * d; memory = length bytes; bytes = bytes }

-- a block that ends with a JALR, which looks its target up in the table
abbrev pub looks_up : End → Bool
looks_up Falls = false
looks_up (Stops i) = is_indirect (class_of i.kind)

abbrev pub has_table : List Block → Bool
has_table blocks = list_any (λ b. looks_up b.end) blocks

-- ---- segments and sections
abbrev pub file_segments : ℕ → List Segment → ℕ → Bool → List EntryRow → List ℕ → List Segment
file_segments d image code_at table rows code = halves d image ++ ((if table then table_segment d rows ∷ [] else []) ++ code_segment code_at code ∷ [])

-- over the table, with SHF_ALLOC
abbrev pub table_section : ℕ → List EntryRow → OutSection
table_section d rows = record {
  name = codes ".qed.table";
  flags = SHF_ALLOC;
  address = first_input rows + 2 * d;
  size = length (table_bytes d rows);
  bytes = [];
}

abbrev pub file_sections : ℕ → ℕ → Bool → List EntryRow → List ℕ → List OutSection
file_sections d code_at table rows code = text_section code_at code ∷ ((if table then table_section d rows ∷ [] else []) ++ map_section rows ∷ [])

-- ---- the file
-- of an input with this distance of the halves, with or without a table, with the entries and the bytes of the new code
abbrev pub file_of : ElfFile → Option ℕ → Bool → List EntryRow → List ℕ → OutFile
file_of f half table rows code =
    let d = half_of half (image_of f) in
    let code_at = code_place half (image_of f) in
    record {
      entry = code_at;
      flags = f.flags;
      segments = file_segments d (image_of f) code_at table rows code;
      sections = file_sections d code_at table rows code;
      symbols = out_symbols rows f.symbols;
    }

-- ---- the rows of the plan for pieces
-- of a block, from an input address on; an empty piece stands at the end
abbrev pub rows_of_pieces : ℕ → ℕ → List (List Ins) → List PieceRow
rows_of_pieces entry at [] = []
rows_of_pieces entry at (p ∷ ps) = record { entry = entry; first = at; length = length p } ∷ rows_of_pieces entry (at + 4 * length p) ps

abbrev pub piece_rows : List Block → List PieceRow
piece_rows blocks = flat_map (λ b. rows_of_pieces b.start b.start b.body) blocks
