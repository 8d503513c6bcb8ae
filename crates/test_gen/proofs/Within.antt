-- If the new code of a generated test is within its limit, the output is within the others, and its run ends.
use Rattle.std.proofs.Common.{◌≡◌, ◌⊎◌, inl, inr, ⊎_elim, ℕ, suc, ◌+◌, ◌-◌, ◌*◌, ◌%◌, ◌<◌, ◌≤◌, Bool, true, false, ◌||◌, ◌==◌, List, [], ◌∷◌, ◌++◌, length, map, None, refl, sym, ap, ◌∙◌, subst, arith}
use Rattle.std.specs.Prelude.{AllPairs, nat_lt, nat_le}
use Rattle.std.proofs.lemmas.Bool.{and_parts, or_cases, eqb-true, leb-true, ltb-true, false≢true}
use Rattle.std.proofs.lemmas.List.{length-map}
use Rattle.std.proofs.lemmas.List.Elements.{All-cons}
use Rattle.elf_types.specs.declared.file.Symbol.{Symbol}
use Rattle.elf_types.specs.declared.output.OutFile.{OutFile}
use Rattle.qed_model.specs.declared.plan.EntryRow.{EntryRow}
use Rattle.tests.specs.Options.{default_options}
use Rattle.machine.specs.Numbers.{bytes_of}
use Rattle.qed_model.specs.declared.bounds.Shape.{Shape}
use Rattle.machine.specs.Loading.{load_segments, loaded_file, ElfFile, Segment}
use Rattle.machine.specs.Program.{Program, AreStartRegs, start, zeros}
use Rattle.qed_model.specs.Promise.Kept.{any_address, is_trapped}
use Rattle.qed_model.specs.Promise.OwnSteps.{arrival, KeptInStep}
use Rattle.qed_model.specs.Weave.Bounds.{start_bound, start_steps, piece_bound, longest_piece}
use Rattle.test_gen.specs.Ends.{EndsAfter, EndsWithin, run_steps}
use Rattle.test_gen.specs.Outputs.{HasSmallCode, IsWeavable, most_output_steps}
use Rattle.test_gen.proofs.Ending.{file_ends}
use Rattle.tests.specs.Admission.CodeWords.{is_code, loads_of}
use Rattle.tests.specs.Admission.DataRanges.{is_in, is_data, data_segments, data_ranges, word_count}
use Rattle.tests.specs.Admission.Refusals.{IsAdmitted}
use Rattle.tests.specs.Admission.Terms.{is_code_address}
use Rattle.machine.specs.Cells.{byte_among}
use Rattle.tests.specs.Files.File.{File}
use Rattle.tests.specs.Elf.FileRead.{file_read}
use Rattle.tests.specs.Elf.Layout.{written, string_table, symbol_names, section_names, null_symbol}
use Rattle.qed_model.specs.Weave.Blocks.{IsLeaderBlock, IsOtherBlock, AreBlocks}
use Rattle.qed_model.specs.Weave.OutputFile.{has_table, last_input, data_in, file_end, range_bytes, range_segment, other_segments, original_half}
use Rattle.tests.specs.Admission.Places.{by_address, image_of, half_of, code_place}
use Rattle.qed_model.specs.Weave.OutputParts.{copied, copies}
use Rattle.qed_model.specs.Weave.SoundOptions.{AreSoundOptions}
use Rattle.qed_model.specs.Weave.Sequences.{Block}
use Rattle.qed_model.specs.Weave.Woven.{is_far_code, new_items, code_size, new_entries, compared, IsNewCode, woven_file, IsWithin}
use Rattle.qed_model.specs.Weave.Forms.{shape_of}
use Rattle.qed_model.specs.Weave.Output.{WovenFile}
use Rattle.machine.proofs.Lemmas.{length-each, all_among, among_every, every-filter, every-map}
use Rattle.tests.proofs.Lemmas.{IsShapely, instruction_code, length-bytes_of, one_file}
use Rattle.qed_model.proofs.Lemmas.{any_reached, file_end_step, size-decoded, steady_any}
use Rattle.machine.specs.Members.{Among, Every}
use Rattle.tests.specs.Elf.Sound.{AreLoads}
use Rattle.weave_core.proofs.Lemmas.{length-table, visit_some}
use Rattle.weave_core.proofs.TestKept as kept
use Rattle.elf_write.specs.Plain.{segment}
use Rattle.test_gen.specs.Code.{function_count}
use Rattle.test_gen.specs.Generated.{code_bytes, generated_table_bytes as function_table, data_bytes, function_symbol, symbols, generated_file_of, generated}
use Rattle.test_gen.proofs.Admitted.{sized, file_admitted, few_functions}
use Rattle.test_gen.proofs.Apart.{are_loads, small_code, small_table, small_data}
use Rattle.test_gen.proofs.OutputSize.{bytes_in, bytes_in-order, length-order, IsShortName, AreSmall, few_segments, few_bytes}
use Rattle.test_gen.proofs.Readable.{test_read}
use Rattle.test_gen.proofs.Shape as shape
use Rattle.test_gen.proofs.Shape.{file_of, AreSized}
use Rattle.test_gen.proofs.Sizes.{length-code_bytes, length-table_bytes, length-data_bytes}
use Rattle.test_gen.proofs.Writable.{all_symbols, function_name_size}

-- ---- ranges and rows
file_end_below :
    (start high : ℕ) (ss : List Segment) → start ≤ high → Every (λ (s : Segment). s.address + length s.bytes ≤ high) ss
    → file_end start ss ≤ high
file_end_below start high [] h e = h
file_end_below start high (s ∷ ss) h e =
    let rest = file_end_below start high ss h e.1 in
    let here = e.0 in
    file_end_step start s ss (λ n. n ≤ high) (λ l. omega (arith, here, rest)) (λ l. rest)

last_below :
    (high : ℕ) (rows : List EntryRow) → 0 < high → Every (λ a. a < high) (map (λ (r : EntryRow). r.input) rows)
    → last_input rows < high
last_below high [] some h = some
last_below high (row ∷ []) some h = h.0
last_below high (row ∷ next ∷ rows) some h = last_below high (next ∷ rows) some h.1

-- blocks between two addresses, each behind the one before, are no more than the addresses
count_below :
    (low high : ℕ) (bs : List Block) → low ≤ high → ((b : Block) → Among b bs → (low ≤ b.start) × (b.start < high))
    → AllPairs (λ (b c : Block). b.start < c.start) bs → low + length bs ≤ high
count_below low high [] room h up = omega (arith, room)
count_below low high (b ∷ bs) room h up =
    let here = h b (inl refl) in
    let later = λ (c : Block) (m : Among c bs). all_among (λ (d : Block). b.start < d.start) c bs (λ k d l. up 0 (suc k) d (omega arith) (omega (arith, l))) m in
    let rest = count_below (b.start + 1) high bs (omega (arith, here.1)) (λ c m. let l = later c m in (omega (arith, l), (h c (inr m)).1)) (λ i j d lt le. up (suc i) (suc j) d (omega (arith, lt)) (omega (arith, le))) in
    omega (arith, rest, here.0)

-- ---- options
sound : AreSoundOptions default_options
sound = record { some = omega arith; room = omega arith; most = omega arith; visits = omega arith; few_visits = omega arith; half = tt; lean = tt }

-- ---- a test of n functions
-- the new code is within its limit
abbrev IsSmallCode : ElfFile → List Block → Type 0
IsSmallCode f bs = code_size f default_options bs ≤ 67_108_864

module _ (seed n x y z : ℕ) (some : 1 ≤ n) (few : n ≤ 1875) where
  abbrev code : List ℕ
  code = code_bytes seed n

  abbrev table : List ℕ
  table = function_table n

  abbrev named : List Symbol
  named = null_symbol ∷ symbols n

  abbrev f : ElfFile
  f = file_of code table data_bytes named x y z

  sizes : AreSized n code table data_bytes
  sizes = sized seed n x y z some few

  loads : AreLoads (loads_of f)
  loads = are_loads n code table data_bytes named x y z sizes (small_code seed n) (small_table n) small_data

  allowed : IsAdmitted f default_options
  allowed = file_admitted seed n x y z some few

  shapely : IsShapely f
  shapely = record { loads = loads; sections = allowed.sections; segments = allowed.segments }

  -- ---- code addresses
  abbrev code_end : ℕ
  code_end = 0x10000 + length code

  is_placed : (a : ℕ) → is_code f a ≡ true → (a % 4 ≡ 0) × (0x10000 ≤ a) × (a < code_end)
  is_placed a e =
      let range = shape.range_is n code table data_bytes named x y z sizes in
      let here : is_code_address ((0x10000, code_end) ∷ []) a ≡ true = ap (λ rs. is_code_address rs a) (sym range) ∙ e in
      let p = and_parts (a % 4 == 0) (is_in (0x10000, code_end) a || false) here in
      ⊎_elim
      (λ q.
      let b = and_parts (nat_le 0x10000 a) (nat_lt a code_end) q in
      (eqb-true (a % 4) 0 p.0, leb-true 0x10000 a b.0, ltb-true a code_end b.1))
      (λ q. absurd (false≢true q))
      (or_cases (is_in (0x10000, code_end) a) false p.1)

  -- ---- data ranges
  abbrev table_range : ℕ × ℕ
  table_range = (0x80000, shape.table_end n code table data_bytes named x y z sizes)

  abbrev data_range : ℕ × ℕ
  data_range = (0x90000, shape.words_end n code table data_bytes named x y z sizes)

  image_is : image_of f ≡ shape.image n code table data_bytes named x y z sizes
  image_is = shape.image_is n code table data_bytes named x y z sizes

  ranges_are : data_ranges (image_of f) ≡ table_range ∷ data_range ∷ []
  ranges_are = ap data_ranges image_is ∙ shape.data_is n code table data_bytes named x y z sizes

  -- ---- the halves
  abbrev code_part : Segment
  code_part = segment 5 0x10000 code

  others_are : other_segments (image_of f) ≡ code_part ∷ []
  others_are = ap other_segments image_is ∙ rw (shape.table_data n code table data_bytes named x y z sizes) refl

  abbrev halves_of : List Segment
  halves_of = copied 0 code_part ∷ range_segment (image_of f) table_range ∷ range_segment (image_of f) data_range ∷ []

  half_is : original_half (image_of f) ≡ by_address halves_of
  half_is =
      ap (λ o. by_address (copies 0 o ++ map (range_segment (image_of f)) (data_ranges (image_of f)))) others_are
      ∙ ap (λ d. by_address (copies 0 (code_part ∷ []) ++ map (range_segment (image_of f)) d)) ranges_are

  -- no segment ends behind the data
  abbrev Ends : Segment → Type 0
  Ends s = s.address + length s.bytes ≤ 0x90800

  all_end : Every Ends (shape.image n code table data_bytes named x y z sizes)
  all_end =
      let a = length-code_bytes seed n in
      let b = length-table_bytes n in
      let c = length-data_bytes in
      (omega (arith, a, few), (omega (arith, b, few), (omega (arith, c), tt)))

  range_few : (r : ℕ × ℕ) → r.0 ≤ 0x90800 → length (range_bytes (image_of f) r) ≤ 0x90800
  range_few r low =
      let ends : Every Ends (image_of f) = subst (Every Ends) (sym image_is) all_end in
      let kept_ends = every-filter Ends (is_data (image_of f)) (image_of f) ends in
      let held = every-filter Ends (λ s. is_in r s.address) (data_segments (image_of f)) kept_ends in
      omega (
        arith,
        file_end_below r.0 0x90800 (data_in (image_of f) r) low held,
        length-each (file_end r.0 (data_in (image_of f) r) - r.0) (λ k. byte_among (load_segments (image_of f)) (r.0 + k)),
      )

  -- ---- the output with these blocks
  module _ (bs : List Block) (words : List ℕ) (are : AreBlocks f default_options bs) (new : IsNewCode f default_options bs words)
      (short : IsSmallCode f bs) where
    abbrev far : Bool
    far = is_far_code f default_options bs

    abbrev rows : List EntryRow
    rows = new_entries f default_options bs

    abbrev out : OutFile
    out = woven_file f default_options bs words

    -- the blocks begin at code addresses
    starts_few : (b : Block) → Among b bs → (0x10000 ≤ b.start) × (b.start < code_end)
    starts_few b m =
        let g = all_among (λ b. IsLeaderBlock f default_options b ⊎ IsOtherBlock f default_options b) b bs are.each m in
        let here = ⊎_elim (λ l. l.leader.code) (λ q. (instruction_code f shapely b.start q.instruction q.stands).0) g in
        let place = is_placed b.start here in
        (place.1, place.2)

    inputs_are : map (λ (r : EntryRow). r.input) rows ≡ map (λ (b : Block). b.start) bs
    inputs_are = (kept.are_rows f default_options sound loads allowed bs are).inputs_are

    below : Every (λ a. a < code_end) (map (λ (r : EntryRow). r.input) rows)
    below =
        subst (Every (λ a. a < code_end)) (sym inputs_are)
        (every-map (λ a. a < code_end) (λ (b : Block). b.start) bs (among_every (λ b. b.start < code_end) bs (λ b m. (starts_few b m).1)))

    small : AreSmall f None rows (bytes_of words)
    small =
        let size = length-code_bytes seed n in
        let blocks_few = count_below 0x10000 code_end bs (omega arith) starts_few are.ascend in
        record {
          segments_few = omega (arith, ap length half_is, length-order halves_of);
          bytes_few =
              omega (
                arith,
                ap bytes_in half_is,
                bytes_in-order halves_of,
                size,
                few,
                range_few table_range (omega arith),
                range_few data_range (omega arith),
              );
          table_few = omega (arith, length-table (half_of None (image_of f)) rows, last_below code_end rows (omega arith) below, size, few);
          rows_few =
              omega (
                arith,
                ap length inputs_are,
                length-map rows (λ (r : EntryRow). r.input),
                length-map bs (λ (b : Block). b.start),
                blocks_few,
                size,
                few,
              );
          code_few =
              omega (
                arith,
                length-bytes_of words,
                size-decoded far (code_place None (image_of f)) (new_items f default_options bs) words new.code,
                short,
              );
          symbols_few = omega (arith, length-each n function_symbol, few);
          names_short =
              All-cons IsShortName null_symbol (symbols n) (omega arith)
              (all_symbols IsShortName n few (omega arith) (λ i l. function_name_size i l));
        }

    file_within : IsWithin (compared f default_options bs) out
    file_within = record {
      code = short;
      segments = omega (arith, few_segments f None (has_table bs) rows (bytes_of words) small);
      size = omega (arith, few_bytes f None (has_table bs) rows (bytes_of words) small);
    }

    -- ---- its run
    abbrev output : Program
    output = loaded_file (file_read out)

    abbrev shape_here : Shape
    shape_here = shape_of f default_options far

    file_kept : KeptInStep (loaded_file f) output any_address (half_of default_options.half (image_of f)) (start_steps shape_here) (longest_piece shape_here)
    file_kept = kept.test_kept f default_options sound loads allowed bs are words new short any_address (any_reached f default_options refl)

    start_few : start_steps shape_here ≤ 33
    start_few = elim far as (λ b. start_bound b false 2 0 ≤ 33) [ true ↦ omega arith | false ↦ omega arith ]

    piece_is : longest_piece shape_here ≡ 123
    piece_is =
        let size = length-data_bytes in
        let one : 1 ≤ word_count (table_range ∷ data_range ∷ []) = omega (arith, size) in
        ap (λ spans. piece_bound 5 16 (word_count spans) (length spans) 1) ranges_are
        ∙ ap (λ v. 110 + v * 1) (visit_some (word_count (table_range ∷ data_range ∷ [])) 2 one)

    input_ends : EndsAfter (start (loaded_file f) zeros) (run_steps n)
    input_ends = file_ends seed n x y z some few zeros refl

    file_output_ends : (regs : List ℕ) → AreStartRegs regs → EndsWithin (start output regs) most_output_steps
    file_output_ends regs start_regs =
        let kept = file_kept regs start_regs in
        let steady = (steady_any (loaded_file f) (run_steps n)).1 (ap is_trapped input_ends.ends) in
        let within = kept.within (run_steps n) in
        let count = run_steps n + 1 in
        let each_piece : count * longest_piece shape_here ≡ count * 123 = ap (λ p. count * p) piece_is in
        record {
          steps = arrival (loaded_file f) output (start_steps shape_here) (longest_piece shape_here) regs (run_steps n);
          within = omega (arith, within, start_few, each_piece, few);
          ends = (kept.ends (run_steps n) steady).1 input_ends.ends;
        }

-- ---- the test of a seed and a size
-- the output of a file is within the limits, if its new code is, and its run ends
record IsGood (f : ElfFile) (bs : List Block) (words : List ℕ) : Type 0 where
  within : IsWithin (compared f default_options bs) (woven_file f default_options bs words)
  ends :
      (regs : List ℕ) → AreStartRegs regs
      → EndsWithin (start (loaded_file (file_read (woven_file f default_options bs words))) regs) most_output_steps

abbrev AreGood : ElfFile → Type 0
AreGood f =
    (bs : List Block) (words : List ℕ) → AreBlocks f default_options bs → IsNewCode f default_options bs words → IsSmallCode f bs → IsGood f bs words

with_functions : (seed n : ℕ) → 1 ≤ n → n ≤ 1875 → AreGood (file_read (generated_file_of seed n))
unfolding generated_file_of
with_functions seed n some few bs words are new short =
    let x = 24 * (1 + length (symbols n)) in
    let y = length (string_table (symbol_names (symbols n))) in
    let z = length (string_table (section_names (generated_file_of seed n).sections)) in
    record {
      within = file_within seed n x y z some few bs words are new short;
      ends = file_output_ends seed n x y z some few bs words are new short;
    }

pub test_weavable : (seed size : ℕ) → 1 ≤ size → size ≤ 60000 → IsWeavable (written (generated seed size))
unfolding generated
test_weavable seed size some most =
    let n = few_functions size some most in
    let test = written (generated seed size) in
    let read = test_read seed size some most in
    let good : (f : ElfFile) → File test f → AreGood f =
    λ f file.
    subst AreGood (one_file test (file_read (generated seed size)) f read.file file) (with_functions seed (function_count size) n.0 n.1) in
    let woven : (out : OutFile) (w : WovenFile test default_options out) → HasSmallCode test out w → IsGood w.file w.blocks w.words =
    λ out w short. good w.file w.has.read w.blocks w.words w.has.are w.has.code short in
    record {
      within = λ out w short. subst (IsWithin (compared w.file default_options w.blocks)) (sym w.woven) (woven out w short).within;
      ends = λ out w short regs start_regs.
          subst (λ o. EndsWithin (start (loaded_file (file_read o)) regs) most_output_steps) (sym w.woven)
          ((woven out w short).ends regs start_regs);
    }
