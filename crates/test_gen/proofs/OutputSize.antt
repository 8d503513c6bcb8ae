-- How long an output is, by the sizes of its parts.
use Rattle.std.proofs.Common.{◌≡◌, ℕ, ◌+◌, ◌*◌, ◌≤◌, Bool, true, false, cond, ◌&&◌, not, List, [], ◌∷◌, ◌++◌, length, map, get_or, Option, Some, None, refl, arith, length-append}
use Rattle.std.specs.Prelude.{All, filter, nat_le, if◌then◌else◌}
use Rattle.std.proofs.lemmas.List.{length-map}
use Rattle.std.proofs.lemmas.List.Sums.{length-filter, count_by-le-length}
use Rattle.std.proofs.lemmas.List.Elements.{All-append, All-map, All-filter}
use Rattle.elf_types.specs.declared.file.Symbol.{Symbol}
use Rattle.elf_types.specs.declared.output.OutFile.{OutFile}
use Rattle.qed_model.specs.declared.plan.EntryRow.{EntryRow}
use Rattle.tests.specs.Elf.Written.{offset_from, end_from}
use Rattle.tests.specs.Elf.Layout.{written, own_bytes, own_place, string_table, section_names}
use Rattle.tests.specs.Admission.Places.{insert_segment, by_address, image_of, half_of, code_place, ElfFile, Segment}
use Rattle.qed_model.specs.Weave.OutputFile.{original_half, shifted, halves, table_bytes, table_segment, file_sections, file_of}
use Rattle.qed_model.specs.Weave.OutputParts.{code_segment, map_bytes, is_kept, is_local, may_name_code, at_entry, out_symbol, symbol_group, out_symbols}
use Rattle.qed_model.specs.Weave.Placed.{entry_at}
use Rattle.qed_model.proofs.Lemmas.{length-map_bytes}
use Rattle.elf_write.proofs.PlainFits.{offset_room, upper}
use Rattle.test_gen.proofs.Writable.{names_size}

-- ---- segments
-- how many bytes segments have in the file
abbrev pub bytes_in : List Segment → ℕ
bytes_in [] = 0
bytes_in (s ∷ ss) = length s.bytes + bytes_in ss

bytes_in-append : (xs ys : List Segment) → bytes_in (xs ++ ys) ≡ bytes_in xs + bytes_in ys
bytes_in-append [] ys = omega arith
bytes_in-append (x ∷ xs) ys = omega (arith, bytes_in-append xs ys)

bytes_in-shifted : (d : ℕ) (ss : List Segment) → bytes_in (map (shifted d) ss) ≡ bytes_in ss
bytes_in-shifted d [] = refl
bytes_in-shifted d (s ∷ ss) = omega (arith, bytes_in-shifted d ss)

-- their order does not matter
bytes_in-insert : (s : Segment) (ss : List Segment) → bytes_in (insert_segment s ss) ≡ length s.bytes + bytes_in ss
bytes_in-insert s [] = refl
bytes_in-insert s (t ∷ ss) =
    let all = length s.bytes + (length t.bytes + bytes_in ss) in
    elim (nat_le s.address t.address) as (λ b. bytes_in (if b then s ∷ t ∷ ss else t ∷ insert_segment s ss) ≡ all) [
      | true ↦ refl
      | false ↦ omega (arith, bytes_in-insert s ss)
    ]

pub bytes_in-order : (ss : List Segment) → bytes_in (by_address ss) ≡ bytes_in ss
bytes_in-order [] = refl
bytes_in-order (s ∷ ss) = omega (arith, bytes_in-insert s (by_address ss), bytes_in-order ss)

length-insert : (s : Segment) (ss : List Segment) → length (insert_segment s ss) ≡ 1 + length ss
length-insert s [] = refl
length-insert s (t ∷ ss) =
    elim (nat_le s.address t.address) as (λ b. length (if b then s ∷ t ∷ ss else t ∷ insert_segment s ss) ≡ 1 + length (t ∷ ss)) [
      | true ↦ omega arith
      | false ↦ omega (arith, length-insert s ss)
    ]

pub length-order : (ss : List Segment) → length (by_address ss) ≡ length ss
length-order [] = refl
length-order (s ∷ ss) = omega (arith, length-insert s (by_address ss), length-order ss)

-- each segment begins less than 4096 bytes behind the one before
end_below : (at : ℕ) (ss : List Segment) → end_from at ss ≤ at + 4095 * length ss + bytes_in ss
end_below at [] = omega arith
end_below at (s ∷ ss) = omega (arith, offset_room at s.address, end_below (offset_from at s.address + length s.bytes) ss)

-- ---- symbols
-- the name has no more than 5 bytes
abbrev pub IsShortName : Symbol → Type 0
IsShortName s = length s.name ≤ 5

short_at : (s : Symbol) (o : Option ℕ) → IsShortName s → IsShortName (at_entry s o)
short_at s None h = h
short_at s (Some a) h = h

abbrev kept_in : Bool → Symbol → Bool
kept_in local s = is_kept s && (if local then is_local s else not (is_local s))

module _ (rows : List EntryRow) (ss : List Symbol) where
  group_few : (local : Bool) → length (symbol_group local rows ss) ≤ length ss
  group_few local = omega (arith, length-map (filter (kept_in local) ss) (out_symbol rows), length-filter (kept_in local) ss, count_by-le-length (kept_in local) ss)

  few_symbols : length (out_symbols rows ss) ≤ 2 * length ss
  few_symbols = omega (arith, length-append (symbol_group true rows ss) (symbol_group false rows ss), group_few true, group_few false)

  short_here : (s : Symbol) → IsShortName s → IsShortName (out_symbol rows s)
  short_here s h = short_at s (cond (may_name_code s) (entry_at rows s.value) None) h

  group_short : (local : Bool) → All IsShortName ss → All IsShortName (symbol_group local rows ss)
  group_short local h =
      let those : List Symbol = filter (kept_in local) ss in
      let kept = All-filter (kept_in local) IsShortName ss h in
      All-map IsShortName (out_symbol rows) those (λ k d l. short_here (get_or those k d) (kept k d l))

  short_names : All IsShortName ss → All IsShortName (out_symbols rows ss)
  short_names h = All-append IsShortName (symbol_group true rows ss) (symbol_group false rows ss) (group_short true h) (group_short false h)

-- ---- files
-- the sizes of the parts
pub record AreSmall (f : ElfFile) (half : Option ℕ) (rows : List EntryRow) (code : List ℕ) : Type 0 where
  pub segments_few : length (original_half (image_of f)) ≤ 3
  pub bytes_few : bytes_in (original_half (image_of f)) ≤ 2_000_000
  pub table_few : length (table_bytes (half_of half (image_of f)) rows) ≤ 400_000
  pub rows_few : length rows ≤ 400_000
  pub code_few : length code ≤ 67_108_864
  pub symbols_few : length f.symbols ≤ 2_000
  pub names_short : All IsShortName f.symbols

module _ (f : ElfFile) (half : Option ℕ) (table : Bool) (rows : List EntryRow) (code : List ℕ) (small : AreSmall f half rows code) where
  abbrev d : ℕ
  d = half_of half (image_of f)

  abbrev at : ℕ
  at = code_place half (image_of f)

  abbrev out : OutFile
  out = file_of f half table rows code

  -- the segments behind the halves
  abbrev behind : Bool → List Segment
  behind t = (if t then table_segment d rows ∷ [] else []) ++ code_segment at code ∷ []

  behind_few : (t : Bool) → length (behind t) ≤ 2
  behind_few true = omega arith
  behind_few false = omega arith

  behind_bytes : (t : Bool) → bytes_in (behind t) ≤ length (table_bytes d rows) + length code
  behind_bytes true = omega arith
  behind_bytes false = omega arith

  abbrev low_half : List Segment
  low_half = original_half (image_of f)

  pub few_segments : length out.segments ≤ 8
  few_segments =
      omega (
        arith,
        length-append (halves d (image_of f)) (behind table),
        length-append low_half (map (shifted d) low_half),
        length-map low_half (shifted d),
        behind_few table,
        small.segments_few,
      )

  all_bytes : bytes_in out.segments ≤ 4_000_000 + 400_000 + 67_108_864
  all_bytes =
      omega (
        arith,
        bytes_in-append (halves d (image_of f)) (behind table),
        bytes_in-append low_half (map (shifted d) low_half),
        bytes_in-shifted d low_half,
        behind_bytes table,
        small.bytes_few,
        small.table_few,
        small.code_few,
      )

  -- the sections' own bytes and names
  own_few : (t : Bool) → length (own_bytes (file_sections d at t rows code)) ≡ 16 * length rows
  own_few true = omega (arith, length-map_bytes rows, length-append (map_bytes rows) [])
  own_few false = omega (arith, length-map_bytes rows, length-append (map_bytes rows) [])

  names_few : (t : Bool) → length (string_table (section_names (file_sections d at t rows code))) ≤ 100
  names_few true = omega arith
  names_few false = omega arith

  sections_few : (t : Bool) → length (file_sections d at t rows code) ≤ 3
  sections_few true = omega arith
  sections_few false = omega arith

  place_few : own_place out ≤ 80_000_000
  unfolding own_place
  place_few = omega (arith, end_below (64 + 56 * length out.segments) out.segments, few_segments, all_bytes)

  pub few_bytes : length (written out) ≤ 100_000_000
  few_bytes =
      omega (
        arith,
        upper out,
        place_few,
        own_few table,
        small.rows_few,
        few_symbols rows f.symbols,
        small.symbols_few,
        names_size out.symbols (short_names rows f.symbols small.names_short),
        names_few table,
        sections_few table,
      )
