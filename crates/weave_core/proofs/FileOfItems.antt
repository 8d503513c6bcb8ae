-- A file whose new code has the instructions of some items, with a mark for each block: it fits the input, reads as the
-- items, and its table leads to the marks.
use Rattle.std.proofs.Common.{◌≡◌, ℕ, ◌+◌, ◌%◌, ◌^◌, ◌≤◌, ⊎_elim, Bool, true, false, cond, List, [], ◌∷◌, refl, arith, inr, ◌-◌, ◌*◌, ◌<◌, ◌++◌, length, map, Option, Some, None, sym, ap, ◌∙◌, subst}
use Rattle.std.proofs.lemmas.Bool.{false≢true, and_parts, or_cases, leb-true, eqb-true}
use Rattle.std.specs.Prelude.{◌==◌, ◌&&◌, nat_le, All, slice_index, unwrap_or, IfSome}
use Rattle.std.proofs.lemmas.List.{length-map}
use Rattle.std.proofs.lemmas.List.Elements.{All-head, All-tail}
use Rattle.machine.specs.Table.{Lw, Ins, decode_of}
use Rattle.qed_model.specs.Weave.Sequences.{Form, Reads, Block}
use Rattle.qed_model.proofs.Lemmas.{sound_most, ascend_of, any_first, Ascend}
use Rattle.machine.proofs.Lemmas.{fetched_aligned, source_of, has_from, has_not, get_among, skip_front, moved_by}
use Rattle.qed_model.specs.declared.plan.EntryRow.{EntryRow}
use Rattle.machine.specs.Numbers.{number_bytes, words_of, bytes_of}
use Rattle.tests.specs.Admission.Reached.{AreReached}
use Rattle.machine.specs.Loading.{load_segment, load_segments, loaded_file}
use Rattle.tests.specs.Elf.FileRead.{file_read}
use Rattle.machine.specs.Cells.{has, cell_at, cell_among}
use Rattle.tests.specs.Admission.DataRanges.{data_ranges}
use Rattle.tests.specs.Admission.Places.{base_of, distance_of, Segment, image_of, half_of, code_place}
use Rattle.qed_model.specs.Weave.OutputParts.{code_segment}
use Rattle.qed_model.specs.Weave.SoundOptions.{AreSoundOptions}
use Rattle.tests.specs.Admission.CodeWords.{is_code}
use Rattle.tests.specs.Admission.Refusals.{IsAdmitted}
use Rattle.tests.specs.Admission.Leaders.{Entry}
use Rattle.qed_model.specs.Weave.Blocks.{ElfFile, begins_at, AreBlocks, IsBlockOf, Options}
use Rattle.qed_model.specs.Weave.Placed.{Decode, sum_of_sizes, entry_at, rows_from, entry_of, placed}
use Rattle.qed_model.specs.Weave.OutputFile.{original_half, first_input, last_input, distance_to, table_word, table_bytes, table_segment, has_table, file_of}
use Rattle.qed_model.specs.Weave.Forms.{form_of}
use Rattle.tests.proofs.Lemmas.{words_of-bytes_of, length-bytes_of, bytes_of_fit, IsShapely, code_at, code_range, instruction_code}
use Rattle.tests.specs.Elf.Sound.{AreLoads}
use Rattle.weave_core.specs.World.{Item, World, AllBelow, get, Memory, grants, number, allows, byte_in, byte_at, wrap, in_range, Fetched, Refused, Known, known_or, fetched_at, HasAt, Program, memory_of, LoadSegment, loaded}
use Rattle.weave_core.specs.Describes.{Describes}
use Rattle.weave_core.specs.Plan.{FilesFit}
use Rattle.weave_core.specs.Blocks.{TableAt}
use Rattle.weave_core.specs.WeavePromise.{AllBlocksOf}
use Rattle.weave_core.specs.WeaveForms.{weave_of}
use Rattle.weave_core.proofs.Placing.{Distinct, FetchesAt, fetches_words, has_decoded, reads_placed}
use Rattle.weave_core.proofs.HalvesFit.{halved, AreHalves}
use Rattle.weave_core.proofs.ImageHalves.{IsImage, loads_place, are_halves}
use Rattle.weave_core.proofs.FilesFit.{admitted_image, ArePlaced, behind_halves, length-table, behind, loaded_segments, loaded_ranges, files_fit}
use Rattle.weave_core.proofs.FileBlocks.{IsKnownCode, blocks_good}
use Rattle.weave_core.proofs.PlacingForm.{mark_place, length-instructions as size-instructions_from}
use Rattle.weave_core.proofs.TestTable.{AreRows, first_leads, last_leads_of, row_between, table_word_bytes, table_number, loaded_small}

-- ---- the world of two files that fit together
-- ---- what is fetched stands in a range
-- what is fetched passed the test of the ranges
ranged : (a b g : Bool) (x : Fetched) (i : Ins) → cond (a && (b && g)) x Refused ≡ Known i → b ≡ true
ranged true true g x i e = refl
ranged true false g x i e = absurd (cc)
ranged false b g x i e = absurd (cc)

-- a word of a range ends with it
below_one : (r : ℕ × ℕ) (a top : ℕ) → r.1 ≤ top → (nat_le r.0 a && nat_le (a + 4) r.1) ≡ true → a + 4 ≤ top
below_one r a top b x = let h = leb-true (a + 4) r.1 (and_parts (nat_le r.0 a) (nat_le (a + 4) r.1) x).1 in omega (arith, h, b)

below_top : (ranges : List (ℕ × ℕ)) (a top : ℕ) → AllBelow ranges top → in_range a ranges ≡ true → a + 4 ≤ top
below_top [] a top b e = absurd (false≢true e)
below_top (r ∷ rs) a top b e = ⊎_elim (λ x. below_one r a top b.0 x) (λ x. below_top rs a top b.1 x) (or_cases _ _ e)

-- so an instruction that is fetched stands below 2^63
pub fetched_low : (m : Memory) (ranges : List (ℕ × ℕ)) (a : ℕ) (i : Ins) → AllBelow ranges (2 ^ 63 - 4) → fetched_at m ranges a ≡ Known i → a + 8 ≤ 2 ^ 63
unfolding fetched_at
fetched_low m ranges a i b e =
    let h = below_top ranges a (2 ^ 63 - 4) b (ranged (a % 4 == 0) (in_range a ranges) (grants (λ f. f.execute) m a 4) (known_or (number m a 4) (decode_of (number m a 4))) i e) in
    omega (arith, h)

module _ (f g : Program) (base d : ℕ) (form : Form) (fits : FilesFit f g base d form.spans) (entry : ℕ → ℕ) (reached : ℕ → Bool) where
  -- the world of the two files
  abbrev pub world : World
  world = record {
    base = base;
    distance = d;
    input = memory_of f.segments;
    output = memory_of g.segments;
    layout = fits.layout;
    source = fetched_at (memory_of f.segments) f.ranges;
    code = fetched_at (memory_of g.segments) g.ranges;
    entry = entry;
    reached = reached;
    low = λ a i e. fetched_low (memory_of g.segments) g.ranges a i fits.output_ranges e;
    grain = λ a i e. fetched_aligned (memory_of g.segments) g.ranges a i e;
    source_low = λ a i e. fetched_low (memory_of f.segments) f.ranges a i fits.input_ranges e;
    input_fixed = fits.input_fixed;
    output_fixed = fits.output_fixed;
    output_kept = fits.output_kept;
    form = form;
    spans_low = fits.spans_low;
    spans_good = fits.spans_good;
    span_reads = fits.span_reads;
    span_data = fits.span_data;
    output_low = fits.output_low;
    output_bytes = fits.output_bytes;
  }

  -- it is theirs
  pub describes : Describes f g world
  describes = record { input = refl; output = refl; input_code = λ a. refl; output_code = λ a. refl; bytes = fits.bytes; mirror_bytes = fits.mirror_bytes; spare = fits.spare }

-- ---- what blocks begin at
pub some_block : (bs : List Block) (a : ℕ) → begins_at bs a ≡ true → (b : Block) × (cs : List Block) × (bs ≡ b ∷ cs)
some_block [] a e = absurd (false≢true e)
some_block (b ∷ bs) a e = (b, bs, refl)

-- the distance of the halves
pub half_small :
    (image : List Segment) (half : Option ℕ) → distance_of image ≤ 67_108_864 → IfSome half (λ h. (h % 4096 ≡ 0) × (4096 ≤ h) × (h ≤ 536_870_912))
    → half_of half image ≤ 536_870_912
half_small image None d h = omega (arith, d)
half_small image (Some x) d h = h.2

half_grain : (image : List Segment) (half : Option ℕ) → IfSome half (λ h. (h % 4096 ≡ 0) × (4096 ≤ h) × (h ≤ 536_870_912)) → half_of half image % 4 ≡ 0
half_grain image None h = omega arith
half_grain image (Some d) h = omega (arith, h.0)

-- four bytes of a memory as their number
read_word :
    (m : Memory) (q v : ℕ) → q + 4 ≤ 2 ^ 64 → v < 2 ^ 32 → byte_at m (q + 0) ≡ slice_index (number_bytes 4 v) 0
    → byte_at m (q + 1) ≡ slice_index (number_bytes 4 v) 1 → byte_at m (q + 2) ≡ slice_index (number_bytes 4 v) 2
    → byte_at m (q + 3) ≡ slice_index (number_bytes 4 v) 3 → number m q 4 ≡ v
unfolding number
read_word m q v low small e0 e1 e2 e3 =
    let w0 : wrap q ≡ q + 0 = omega arith in
    let w1 : wrap (q + 1) ≡ q + 1 = omega arith in
    let w2 : wrap (q + 1 + 1) ≡ q + 2 = omega arith in
    let w3 : wrap (q + 1 + 1 + 1) ≡ q + 3 = omega arith in
    table_number v (byte_at m (wrap q)) (byte_at m (wrap (q + 1))) (byte_at m (wrap (q + 1 + 1))) (byte_at m (wrap (q + 1 + 1 + 1))) small
    (ap (byte_at m) w0 ∙ e0) (ap (byte_at m) w1 ∙ e1) (ap (byte_at m) w2 ∙ e2) (ap (byte_at m) w3 ∙ e3)

-- ---- items that are woven for blocks
-- each block has its mark and no other, no more than 67,108,864 bytes are taken, and these are their words
pub record AreItems (far : Bool) (at : ℕ) (blocks : List Block) (items : List Item) (words : List ℕ) : Type 0 where
  pub distinct : Distinct items
  pub inputs_are : map (λ (r : EntryRow). r.input) (rows_from far at items) ≡ map (λ b. b.start) blocks
  pub marked : (a : ℕ) → begins_at blocks a ≡ true → (x : ℕ) × (entry_at (rows_from far at items) a ≡ Some x)
  pub some : 4 ≤ sum_of_sizes far items
  pub few : sum_of_sizes far items ≤ 67_108_864
  pub small : (k : ℕ) → slice_index words k < 2 ^ 32
  pub code : Decode words (placed far at items)

module _ (f : ElfFile) (o : Options) (sound : AreSoundOptions o) (loads : AreLoads (load_segments f.segments)) (admitted : IsAdmitted f o) (blocks : List Block) (are : AreBlocks f o blocks) where
  abbrev image : List Segment
  image = image_of f

  abbrev d : ℕ
  d = half_of o.half image

  abbrev base : ℕ
  base = base_of image

  abbrev at : ℕ
  at = code_place o.half image

  abbrev half : List LoadSegment
  half = load_segments (original_half image)

  pub is : IsImage f.segments d
  is = admitted_image f o sound loads admitted

  pub shape : IsShapely f
  shape = record { loads = loads; sections = admitted.sections; segments = admitted.segments }

  -- ---- code addresses
  pub code_bounds : (a : ℕ) → is_code f a ≡ true → (base ≤ a) × (a + 4 ≤ base + d)
  code_bounds a e =
      let c = code_at f shape a e in
      let r = (code_range f shape c.range c.among).0 in
      let x = c.from in
      let y = c.to in
      let u = r.from in
      let v = r.to in
      let low = loads_place f.segments d is r.segment a r.among (has_from r.segment a (omega (arith, x, u)) (omega (arith, y, v))) in
      let high = loads_place f.segments d is r.segment (a + 3) r.among (has_from r.segment (a + 3) (omega (arith, x, u)) (omega (arith, y, v))) in
      (low.0, omega (arith, high.1))

  pub known : IsKnownCode f
  known = record {
    shape = shape;
    low = admitted.low;
    unbroken = admitted.unbroken;
    entry = admitted.entry;
    below = λ a e. let b = code_bounds a e in let t = is.top in omega (arith, b.1, t);
  }

  -- a block begins at a code address
  pub block_code : (b : Block) → IsBlockOf f o b → is_code f b.start ≡ true
  block_code b x = ⊎_elim (λ l. l.leader.code) (λ q. (instruction_code f shape b.start q.instruction q.stands).0) x

  lead_code : (bs : List Block) (a : ℕ) → All (IsBlockOf f o) bs → begins_at bs a ≡ true → is_code f a ≡ true
  lead_code [] a h e = absurd (false≢true e)
  lead_code (b ∷ bs) a h e =
      ⊎_elim
      (λ x. ap (is_code f) (sym (eqb-true b.start a x)) ∙ block_code b (All-head (IsBlockOf f o) b bs h))
      (λ x. lead_code bs a (All-tail (IsBlockOf f o) b bs h) x)
      (or_cases (b.start == a) (begins_at bs a) e)

  pub block_bounds : (a : ℕ) → begins_at blocks a ≡ true → (base ≤ a) × (a + 4 ≤ base + d)
  block_bounds a e = code_bounds a (lead_code blocks a are.each e)

  pub block_grain : (a : ℕ) → begins_at blocks a ≡ true → a % 4 ≡ 0
  block_grain a e = (code_at f shape a (lead_code blocks a are.each e)).grain

  pub ascend : Ascend 0 blocks
  ascend = ascend_of 0 blocks (any_first blocks) are.ascend

  pub begins : begins_at blocks f.entry ≡ true
  begins = are.leaders f.entry (record { code = admitted.entry; begins = Entry refl })

  -- ---- the new code
  module _ (far table : Bool) (items : List Item) (words : List ℕ) (of : AreItems far at blocks items words) where
    abbrev cs : List ℕ
    cs = bytes_of words

    abbrev pub form : Form
    form = form_of f o far

    abbrev rows : List EntryRow
    rows = rows_from far at items

    -- the rows are those of the blocks
    are_rows : AreRows rows blocks
    are_rows = record { inputs_are = of.inputs_are; ascend = (0, ascend); some = some_block blocks f.entry begins }

    abbrev rest : List LoadSegment
    rest = load_segments (behind_halves d at table rows cs)

    abbrev new_segment : LoadSegment
    new_segment = load_segment (code_segment at cs)

    -- the size of the code
    pub length-code : length cs ≡ sum_of_sizes far items
    length-code =
        let l : length words ≡ length (placed far at items) = sym (length-map words decode_of) ∙ ap length of.code ∙ length-map (placed far at items) Some in
        let s = size-instructions_from far (entry_of far at items) at items in
        let b = length-bytes_of words in
        omega (arith, l, s, b)

    pub are_placed : ArePlaced image d table rows cs
    are_placed =
        let size = length-code in
        let some = of.some in
        let few = of.few in
        let first = block_bounds (first_input rows) (first_leads rows blocks are_rows) in
        let last = block_bounds (last_input rows) (last_leads_of rows blocks are_rows) in
        let between = row_between rows blocks (last_input rows) are_rows (last_leads_of rows blocks are_rows) in
        record {
          some = omega (arith, size, some);
          room = omega (arith, size, few);
          fit = bytes_of_fit words;
          low = λ e. first.0;
          ascend = λ e. between.0;
          high = λ e. last.1;
        }

    halves : AreHalves (load_segments f.segments) half rest base d
    halves = are_halves f.segments d is rest (behind image d rows cs is.top table are_placed)

    abbrev pub g : ElfFile
    g = file_read (file_of f o.half table rows cs)

    -- ---- what stands behind the halves
    g_get : (q : ℕ) → get (memory_of (loaded_file g).segments) q ≡ cell_among (halved d half rest) q
    g_get q = ap (λ ss. get (memory_of ss) q) (loaded_segments f o sound loads admitted table rows cs are_placed) ∙ get_among (halved d half rest) q halves.all_sized

    behind_cell : (q : ℕ) → base + 2 * d ≤ q → cell_among (halved d half rest) q ≡ cell_among rest q
    behind_cell q h =
        skip_front half (map (moved_by d) half ++ rest) q (λ s m. let p = halves.half_low s m in has_not s q (inr (omega (arith, p.1, h))))
        ∙ skip_front (map (moved_by d) half) rest q (λ s m.
        let x = source_of (moved_by d) half s m in
        let p = halves.half_low x.source x.among in
        let far_end : s.address + s.size ≤ base + 2 * d = subst (λ t. t.address + t.size ≤ base + 2 * d) (sym x.is) (omega (arith, p.1)) in
        has_not s q (inr (omega (arith, far_end, h))))

    -- the new code
    code_alone : (q : ℕ) → at ≤ q → q < at + length cs → cell_among (new_segment ∷ []) q ≡ Some (cell_at new_segment q)
    code_alone q a b = ap (λ c. cond c (Some (cell_at new_segment q)) None) (has_from new_segment q a b)

    code_in_rest :
        (t : Bool) → ArePlaced image d t rows cs → (q : ℕ) → at ≤ q → q < at + length cs
        → cell_among (load_segments (behind_halves d at t rows cs)) q ≡ Some (cell_at new_segment q)
    code_in_rest true p q a b =
        let low = p.low refl in
        let high = p.high refl in
        let up = p.ascend refl in
        let size = length-table d rows in
        skip_front (load_segment (table_segment d rows) ∷ []) (new_segment ∷ []) q
        (λ s m. ⊎_elim (λ e. subst (λ t. has t q ≡ false) (sym e) (has_not (load_segment (table_segment d rows)) q (inr (omega (arith, size, high, low, up, a))))) (λ x. absurd x) m)
        ∙ code_alone q a b
    code_in_rest false p q a b = code_alone q a b

    code_cell : (i : ℕ) → i < length cs → get (memory_of (loaded_file g).segments) (at + i) ≡ Some (cell_at new_segment (at + i))
    code_cell i lt = g_get (at + i) ∙ behind_cell (at + i) (omega arith) ∙ code_in_rest table are_placed (at + i) (omega arith) (omega (arith, lt))

    abbrev y : ℕ → Fetched
    y = fetched_at (memory_of (loaded_file g).segments) (loaded_file g).ranges

    pub code_grain : at % 4 ≡ 0
    code_grain = let g4 = half_grain image o.half sound.half in omega (arith, g4)

    code_byte : (i : ℕ) → i < length cs → byte_at (memory_of (loaded_file g).segments) (at + i) ≡ slice_index cs i
    unfolding byte_at
    code_byte i lt = let e : at + i - at ≡ i = omega arith in ap byte_in (code_cell i lt) ∙ ap (slice_index cs) e

    -- is fetched as its words
    new_fetches : FetchesAt y at words
    new_fetches =
        let m = memory_of (loaded_file g).segments in
        let top = is.top in
        let size = length-code in
        let few = of.few in
        let bytes : FetchesAt (fetched_at m ((at, at + length cs) ∷ [])) at (words_of cs) =
        fetches_words m at (at + length cs) at cs code_grain (omega arith) (omega arith) (omega (arith, top, size, few)) code_byte (λ i lt. ap (allows (λ k. k.execute)) (code_cell i lt)) in
        subst (λ r. FetchesAt (fetched_at m r) at words) (sym (loaded_ranges f o sound loads admitted table rows cs are_placed))
        (subst (FetchesAt (fetched_at m ((at, at + length cs) ∷ [])) at) (words_of-bytes_of words of.small) bytes)

    -- so its instructions stand in their places
    pub stand : HasAt y at (placed far at items)
    stand = has_decoded y at words (placed far at items) of.code new_fetches

    -- the code reads as the items
    pub reads : Reads far y (entry_of far at items) at items
    reads =
        reads_placed far y at items of.distinct stand

    -- ---- both files
    pub fits : FilesFit (loaded_file f) (loaded_file g) base d (data_ranges image)
    fits = files_fit f o sound loads admitted table rows cs are_placed

    -- ---- the table
    table_cell :
        table ≡ true → (a j : ℕ) → begins_at blocks a ≡ true → j < 4
        → get (memory_of (loaded_file g).segments) (a + 2 * d + j) ≡ Some (cell_at (load_segment (table_segment d rows)) (a + 2 * d + j))
    table_cell e a j l lt =
        let q = a + 2 * d + j in
        let low = block_bounds a l in
        let between = row_between rows blocks a are_rows l in
        let size = length-table d rows in
        let grain = block_grain a l in
        let first_grain = block_grain (first_input rows) (first_leads rows blocks are_rows) in
        let last_grain = block_grain (last_input rows) (last_leads_of rows blocks are_rows) in
        let holds : has (load_segment (table_segment d rows)) q ≡ true = has_from (load_segment (table_segment d rows)) q (omega (arith, between.0)) (omega (arith, between.0, between.1, size, lt, grain, first_grain, last_grain)) in
        g_get q ∙ behind_cell q (omega (arith, low.0))
        ∙ ap (λ t. cell_among (load_segments (behind_halves d at t rows cs)) q) e
        ∙ ap (λ c. cond c (Some (cell_at (load_segment (table_segment d rows)) q)) (cell_among (new_segment ∷ []) q)) holds

    table_byte :
        table ≡ true → (a j : ℕ) → begins_at blocks a ≡ true → j < 4
        → byte_at (memory_of (loaded_file g).segments) (a + 2 * d + j) ≡ slice_index (number_bytes 4 (table_word d rows a)) j
    unfolding byte_at
    table_byte e a j l lt =
        let between = row_between rows blocks a are_rows l in
        let grain = block_grain a l in
        let first_grain = block_grain (first_input rows) (first_leads rows blocks are_rows) in
        let place : a + 2 * d + j - (first_input rows + 2 * d) ≡ a - first_input rows + j = omega (arith, between.0) in
        ap byte_in (table_cell e a j l lt)
        ∙ ap (slice_index (table_bytes d rows)) place
        ∙ table_word_bytes d rows a j between.0 between.1 (omega (arith, grain, first_grain, between.0)) lt

    -- the word of an address
    word_value : (a x : ℕ) → entry_at (rows_from far at items) a ≡ Some x → table_word d rows a ≡ x - (a + 2 * d)
    word_value a x e = ap (distance_to (a + 2 * d)) e

    -- ---- the world of both files, where jumps by register lead to addresses that are reached
    module _ (reached : ℕ → Bool) (aims : AreReached f o reached) where
      abbrev pub w : World
      w = world (loaded_file f) (loaded_file g) base d form fits (entry_of far at items) reached

      -- the table leads to each entry
      pub table_at : table ≡ true → (a : ℕ) → begins_at blocks a ≡ true → TableAt w a
      table_at e a l =
          let low = block_bounds a l in
          let top = is.top in
          let small = half_small image o.half admitted.span sound.half in
          let m = of.marked a l in
          let few = of.few in
          let x = m.0 in
          let place = mark_place far at items a x m.1 in
          let value = word_value a x m.1 in
          let v = table_word d rows a in
          let small_value : v < 2 ^ 31 = omega (arith, value, place.1, few, small, low.0) in
          let q = a + 2 * d in
          let mem = memory_of (loaded_file g).segments in
          let word : number mem q 4 ≡ v = read_word mem q v (omega (arith, low.1, top)) (omega (arith, small_value)) (table_byte e a 0 l (omega arith)) (table_byte e a 1 l (omega arith)) (table_byte e a 2 l (omega arith)) (table_byte e a 3 l (omega arith)) in
          let entry : entry_of far at items a ≡ x = ap (λ k. unwrap_or k (at + sum_of_sizes far items - 4)) m.1 in
          let sum : (v + q) % 2 ^ 64 ≡ x = omega (arith, value, place.0, place.1, few, low.1, top) in
          record {
            from = low.0;
            low = omega (arith, low.1, top);
            reads = λ j lt. ap (allows (λ c. c.read)) (table_cell e a j l lt);
            leads = ap (λ n. (n + q) % 2 ^ 64) (ap (loaded Lw) word ∙ loaded_small v small_value) ∙ sum ∙ sym entry;
          }

      -- ---- the blocks
      pub good : (has_table blocks ≡ true → table ≡ true) → AllBlocksOf w (weave_of form o.inst_max) (begins_at blocks) blocks
      good tabled = blocks_good f known w (λ a. refl) o (sound_most o sound) blocks are aims (λ e. table_at (tabled e))

      pub both : Describes (loaded_file f) (loaded_file g) w
      both = describes (loaded_file f) (loaded_file g) base d form fits (entry_of far at items) reached
