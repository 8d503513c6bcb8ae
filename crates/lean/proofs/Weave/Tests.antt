-- The lean form of an admitted test: within a JAL's reach all of it has words; it is a plan that keeps the promises.
use Rattle.std.proofs.Common.{◌≡◌, ℕ, zero, suc, ◌+◌, ◌*◌, ◌%◌, ◌^◌, ◌<◌, ◌≤◌, Bool, true, false, List, [], ◌∷◌, ◌++◌, length, Some, refl, sym, ap, ◌∙◌, subst, arith, append_assoc, length-append, ◌-◌, inl, inr}
use Rattle.std.specs.Prelude.{map, All, pos, unwrap_or}
use Rattle.std.proofs.lemmas.Bool.{and_from, eq-eqb, false≢true}
use Rattle.std.proofs.Math.Nat.{min-le_left}
use Rattle.tests.specs.declared.options.Entries.TheVariants as entries
use Rattle.qed_model.specs.declared.plan.EntryRow.{EntryRow}
use Rattle.machine.specs.Numbers.{bytes_of}
use Rattle.tests.specs.Admission.CodeWords.{instruction_at, ElfFile, Ins}
use Rattle.tests.specs.Admission.Reached.{AreReached}
use Rattle.machine.specs.Loading.{loaded_file}
use Rattle.machine.specs.Members.{Among}
use Rattle.qed_model.specs.Weave.Blocks.{StopsAt, IsBodyAt, IsLeaderBlock, begins_at, Options}
use Rattle.qed_model.specs.Weave.Code.{Sequences, AreUnmarked, entries_of, code_of, NoMarks, pieces_of, body_of, block_items}
use Rattle.tests.specs.Admission.Places.{base_of, image_of, half_of, code_place}
use Rattle.qed_model.specs.Weave.Placed.{sum_of_sizes, rows_from, entry_of, instructions_from, placed}
use Rattle.machine.specs.Offsets.{distance_between}
use Rattle.qed_model.specs.Weave.Sequences.{Form, End, Falls, Stops, Reads, Block, body_length, stub, original, each_part, before_end}
use Rattle.qed_model.specs.Weave.Forms.{form_of, mirror_of}
use Rattle.qed_model.specs.Weave.Lean.{call_at, check, begin, leave}
use Rattle.qed_model.specs.Weave.LeanCode.{lean_of, lean_items, items_with, start_at, Lean, is_store, store_part, both_parts, parts_with, worded, fall_words, Counting, counting_of}
use Rattle.qed_model.specs.Weave.LeanBounds.{cost_of, entry_steps, lean_bounds, word_bound}
use Rattle.qed_model.proofs.Lemmas.{sound_most, size-append, IsInside, mark_inside, grain_of_sizes, is_near, IsNearCode, near_jump, near_words, has_word}
use Rattle.tests.proofs.Lemmas.{known_instruction}
use Rattle.weave_core.specs.World.{World, Item, Program, Known, class_of, Go}
use Rattle.weave_core.specs.Blocks.{IsEntryOf, TableAt}
use Rattle.weave_core.specs.WeavePromise.{AllBlocksOf, OnlyCode}
use Rattle.weave_core.proofs.Lemmas.{marked, rows_inputs, reads_front, place_low, AreItems, loaded_ranges, Ascend, code_distinct, rows_are, entry_or_stub, length-instructions, mark_behind, rows_behind, down, up, both_all, if_all, AllPieces, IsKnownBlock, InImage, admitted_image, test_writable}
use Rattle.lockstep.proofs.Lemmas.{only_inside}
use Rattle.lean.specs.Tests.{LeanTestsPlaces, LeanTestsFaultsClean, LeanTestsNoWrongEnd, IsLeanTest, LeanTestsKept, LeanTestsCaught, LeanTestsCaughtEarly, LeanTestsFaults, LeanTestsLanded, LeanTestsStrayed, LeanTestsDisplaced, LeanTestsAdrift, LeanTestsUndisturbed, LeanTestsNoSilentSlip, LeanTestsClean, AreLeanBlocks, LeanTestsHaveWords, LeanTestsWritable}
use Rattle.lean.specs.Woven.{LeanIn, LeanPlan, lean_weave_of}
use Rattle.lean.proofs.Weave.Costs.{call_fits}
use Rattle.lean.proofs.Weave.Ways.{reads_behind}
use Rattle.lean.proofs.Weave.Blocks.{begun, begins, length_is, leading, starts, in_order, all_good}
use Rattle.lean.proofs.Weave.Short.{only_reached, few_steps, own_most, own_few, short}
use Rattle.lean.proofs.Weave.Ticks.{entry_ticks, few_most, all_counted}
use Rattle.lean.proofs.Weave.Landed.{lean_landed}
use Rattle.lean.proofs.Weave.Piece.{store_class}
use Rattle.lean.proofs.Weave.Plan.{entry_grain}
use Rattle.lean.proofs.Weave.Off.{lean_displaced, lean_adrift}
use Rattle.lean.specs.Strayed.{entry_in}
use Rattle.lean.specs.Undisturbed.{undisturbed_piece, undisturbed_ends}
use Rattle.lean.proofs.Weave.NoWrongEnd.{has_bound, no_wrong_end}
use Rattle.lean.proofs.Weave.Silent.{silent}
use Rattle.lean.proofs.Weave.Undisturbed.{lean_undisturbed}
use Rattle.lean.proofs.Weave.Strays.{lean_strayed}
use Rattle.lean.proofs.Weave.Promise.{lean_in_step, lean_caught, lean_caught_early, lean_faults, lean_places, lean_faults_clean, lean_early, lean_clean}
use Rattle.lean.proofs.Weave.Unmarked.{unmarked_worded, entry_same, same_code, code_size}
use Rattle.std.specs.List.{list_all}
use Rattle.std.proofs.lemmas.List.{append_assoc}
use Rattle.std.proofs.lemmas.List.Elements.{All-head, All-tail}
use Rattle.tests.specs.Admission.DataRanges.{data_ranges, word_count}
use Rattle.weave_core.specs.Leaving.{sweep_cost}
use Rattle.machine.specs.Table.{ins, Illegal, Jal}
use Rattle.qed_model.specs.Promise.Landed.{IsEntry}
use Rattle.lean.proofs.Weave.Near.{check_near, begin_near, enter_near, store_near, leave_near, before_near}
use Rattle.weave_core.proofs.FileOfItems as of
use Rattle.weave_core.proofs.TestKnown as there
use Rattle.weave_core.proofs.TestWords as words

module _ (f : ElfFile) (o : Options) (every : ℕ) (blocks : List Block) (t : AreLeanBlocks f o every blocks) where
  abbrev d : ℕ
  d = half_of o.half (image_of f)

  abbrev base : ℕ
  base = base_of (image_of f)

  abbrev at : ℕ
  at = code_place o.half (image_of f)

  abbrev form : Form
  form = form_of f o false

  abbrev l : Lean
  l = lean_of f o every blocks

  abbrev s : (ℕ → ℕ) → Sequences
  s entry = worded form base entry l (begins_at blocks)

  abbrev placed_at : ℕ → ℕ
  placed_at = entry_of false at (items_with f o every blocks (λ a. 0))

  abbrev top : base + 3 * d + 134217728 ≤ 2 ^ 63
  top = (there.is f o t.sound t.file.loads t.admitted blocks t.are).top

  abbrev bounds : (d % 4096 ≡ 0) × (d ≤ 536870912)
  bounds = there.bounds f o t.sound t.file.loads t.admitted blocks t.are

  abbrev near_code : Item → Bool
  near_code = is_near at down up

  spans : InImage at base d refl top bounds.1 (data_ranges (image_of f))
  spans = there.spans_there f o t.sound t.file.loads t.admitted blocks t.are (data_ranges (image_of f)) (λ r m. m)

  reached_only : o.entries ≡ entries.Reached
  reached_only = only_reached f o every t.sound t.lean

  grain : (a : ℕ) → begins_at blocks a ≡ true → a % 4 ≡ 0
  grain a e = of.block_grain f o t.sound t.file.loads t.admitted blocks t.are a e

  unmarked : AreUnmarked (s placed_at)
  unmarked = unmarked_worded form base placed_at l (begins_at blocks)

  ascend : Ascend 0 blocks
  ascend = of.ascend f o t.sound t.file.loads t.admitted blocks t.are

  -- from each entry there are fewer steps to the next tick than from check to check
  abbrev counting : Counting
  counting = counting_of o f.entry every blocks

  few_ahead : (a : ℕ) → l.most a < every
  few_ahead a =
      let own = own_few f o every t.sound t.lean in
      let most = few_most counting (own_most f o every t.sound t.lean) blocks (λ b m. short f o every t.sound t.lean blocks t.are grain b m) a in
      let room = min-le_left (every - (entry_steps o.land + 28 + cost_of o.diverse * o.inst_max)) 48 in
      omega (arith, own, most, room)

  -- ---- where the entries are
  abbrev first : List Item
  first = begin d f.entry ++ check base d every form.round form.spans

  no_first : NoMarks first
  no_first = (unmarked_worded form base (λ a. 0) l (begins_at blocks)).first d f.entry

  abbrev rest : List Item
  rest = entries_of (s (λ a. 0)) blocks ++ stub

  code_grain : at % 4 ≡ 0
  code_grain = let g = bounds.0 in omega (arith, g)

  -- the entry of each block stands behind the check
  inside : (m : ℕ) → begins_at blocks m ≡ true → IsInside (at + sum_of_sizes false first) (sum_of_sizes false rest) (placed_at m)
  inside m e =
      let k = marked (s (λ a. 0)) (unmarked_worded form base (λ a. 0) l (begins_at blocks)) false (at + sum_of_sizes false first) blocks stub m e in
      let same : placed_at m ≡ k.0 = ap (λ x. unwrap_or x (at + sum_of_sizes false (first ++ rest) - 4)) (mark_behind false at first rest m no_first ∙ k.1) in
      let g = code_grain in
      let n = grain_of_sizes false first in
      subst (IsInside (at + sum_of_sizes false first) (sum_of_sizes false rest)) (sym same) (mark_inside false (at + sum_of_sizes false first) rest m k.0 (omega (arith, g, n)) k.1)

  -- ---- the words, where there are no more bytes
  module _ (size : sum_of_sizes false (lean_items f o every blocks) ≤ 1_048_576) where
    -- so the check is in reach of each tick
    calls : (m : ℕ) → begins_at blocks m ≡ true → has_word (ins Jal 0 0 0 (distance_between (placed_at m + call_at o.land) l.check)) ≡ true
    calls m h =
        let e = inside m h in
        let low = e.low in
        let high = e.high in
        let g = e.grain in
        let k = grain_of_sizes false (begin d f.entry) in
        let c = code_grain in
        let whole = code_size form base l (begins_at blocks) (λ a. 0) placed_at d f.entry blocks in
        let joined = size-append false first rest in
        let parts = size-append false (begin d f.entry) (check base d every form.round form.spans) in
        let some : 4 ≤ sum_of_sizes false rest = let z = size-append false (entries_of (s (λ a. 0)) blocks) stub in omega (arith, z) in
        let long : sum_of_sizes false (begin d f.entry) ≡ 124 = refl in
        let call = call_fits o.land in
        let from : placed_at m + call_at o.land ≤ l.check + (sum_of_sizes false (first ++ rest) - 92) = omega (arith, high, joined, some, long, parts, call.0) in
        near_jump (placed_at m + call_at o.land) l.check l.check (sum_of_sizes false (first ++ rest) - 92) (omega (arith, low, parts)) from (omega arith) (omega arith)
        (omega (arith, top, whole, size, long)) (omega (arith, whole, size)) (omega (arith, g, call.1)) (omega (arith, c, k))

    -- ---- the blocks
    fall_near : (a : ℕ) → list_all near_code (fall_words (begins_at blocks) a) ≡ true
    fall_near a = if_all near_code (begins_at blocks a) [] (Go a ∷ []) (λ e. refl) (λ e. refl)

    -- instructions with their words, from an address on
    abbrev Knows : List Ins → ℕ → Type 0
    Knows is a = words.AllKnown at base d refl top bounds.1 is a

    both_near : (is : List Ins) (a : ℕ) → Knows is a → list_all near_code (both_parts o.diverse is a) ≡ true
    both_near is a k =
        both_all near_code (each_part original is a) (each_part (mirror_of o.diverse) is a) (words.each_near at base d refl top bounds.1 original (words.original_near at base d refl top bounds.1) is a k)
        (words.each_near at base d refl top bounds.1 (mirror_of o.diverse) (there.mirrors_near f o t.sound t.file.loads t.admitted blocks t.are o.diverse) is a k)

    one_more : (run : List Ins) (i : Ins) (a : ℕ) → Knows run a → words.Known at base d refl top bounds.1 i (a + 4 * length run) → Knows (run ++ (i ∷ [])) a
    one_more [] i a k h = let z : a + 4 * 0 ≡ a = omega arith in (subst (words.Known at base d refl top bounds.1 i) z h, tt)
    one_more (j ∷ run) i a k h = let z : a + 4 * length (j ∷ run) ≡ a + 4 + 4 * length run = omega arith in (k.0, one_more run i (a + 4) k.1 (subst (words.Known at base d refl top bounds.1 i) z h))

    parts_near : (run : List Ins) (a : ℕ) (is : List Ins) → Knows run a → Knows is (a + 4 * length run) → list_all near_code (parts_with o.diverse run a is) ≡ true
    parts_near run a [] k h = both_near run a k
    parts_near run a (i ∷ is) k h =
        let n = a + 4 * length run in
        let long : a + 4 * length run + 4 ≡ a + 4 * length run + 4 + 4 * 0 = omega arith in
        let more : a + 4 * length run + 4 ≡ a + 4 * length (run ++ (i ∷ [])) = let c = length-append run (i ∷ []) in omega (arith, c) in
        let rest = parts_with o.diverse [] (n + 4) is in
        if_all near_code (is_store (class_of i.kind)) (both_parts o.diverse run a ++ (store_part i ++ rest)) (parts_with o.diverse (run ++ (i ∷ [])) a is)
        (λ e. both_all near_code (both_parts o.diverse run a) (store_part i ++ rest) (both_near run a k)
        (both_all near_code (store_part i) rest (store_near at base d refl top bounds.1 i n (store_class (class_of i.kind) e) h.0) (parts_near [] (n + 4) is tt (subst (Knows is) long h.1))))
        (λ e. parts_near (run ++ (i ∷ [])) a is (one_more run i a k h.0) (subst (Knows is) more h.1))

    pieces_near : (ps : List (List Ins)) (a : ℕ) → AllPieces at base d refl top bounds.1 ps a → list_all near_code (pieces_of (s placed_at) ps a) ≡ true
    pieces_near [] a k = refl
    pieces_near (p ∷ ps) a k =
        let here : a ≡ a + 4 * 0 = omega arith in
        both_all near_code (parts_with o.diverse [] a p) (pieces_of (s placed_at) ps (a + 4 * length p)) (parts_near [] a p tt (subst (Knows p) here k.0)) (pieces_near ps (a + 4 * length p) k.1)

    block_near : (b : Block) → Among b blocks → IsKnownBlock at base d refl top bounds.1 b → list_all near_code (block_items (s placed_at) b) ≡ true
    block_near b m k =
        let n = b.start + 4 * body_length b.body in
        let a = start_at blocks b.end (b.start + 4 * body_length b.body) in
        let own : start_at blocks b.end (b.start + 4 * body_length b.body) ≡ b.start = starts f o (sound_most o t.sound) blocks t.are reached_only grain (of.ascend f o t.sound t.file.loads t.admitted blocks t.are) b m in
        let less = few_ahead b.start in
        let few = few_steps f o every t.sound t.lean in
        both_all near_code ((s placed_at).enter b.start) (body_of (s placed_at) b.body b.end b.start) (enter_near at base d refl top bounds.1 o.land (l.ticks b.start) b.start (l.most b.start) (distance_between (placed_at b.start + call_at o.land) l.check) k.0 k.1 (omega (arith, less, few)) (calls b.start (begins blocks b m)))
        (both_all near_code (pieces_of (s placed_at) b.body b.start) (leave d (before_end form) (fall_words (begins_at blocks)) b.end a n) (pieces_near b.body b.start k.2)
        (leave_near at base d refl top bounds.1 (before_end form) (fall_words (begins_at blocks)) (before_near at base d refl top bounds.1 form spans) fall_near bounds.0 a (let low = k.0 in omega (arith, own, low)) (let high = k.1 in omega (arith, own, high)) b.end n k.3))

    entries_near : (bs : List Block) → ((b : Block) → Among b bs → Among b blocks) → All (IsKnownBlock at base d refl top bounds.1) bs → list_all near_code (entries_of (s placed_at) bs) ≡ true
    entries_near [] h k = refl
    entries_near (b ∷ bs) h k =
        both_all near_code (block_items (s placed_at) b) (entries_of (s placed_at) bs) (block_near b (h b (inl refl)) (All-head (IsKnownBlock at base d refl top bounds.1) b bs k))
        (entries_near bs (λ c m. h c (inr m)) (All-tail (IsKnownBlock at base d refl top bounds.1) b bs k))

    -- ---- all of it
    abbrev front : List Item
    front = first ++ entries_of (s placed_at) blocks

    joined : front ++ stub ≡ lean_items f o every blocks
    joined = append_assoc first (entries_of (s placed_at) blocks) stub

    all_near : list_all near_code (lean_items f o every blocks) ≡ true
    all_near =
        let b = there.in_bounds f o t.sound t.file.loads t.admitted blocks t.are f.entry t.admitted.entry in
        let high = b.1 in
        both_all near_code first (entries_of (s placed_at) blocks ++ stub)
        (both_all near_code (begin d f.entry) (check base d every form.round form.spans) (begin_near at base d refl top bounds.1 f.entry bounds.0 b.0 (omega (arith, high))) (check_near at base d refl top bounds.1 every form.round form.spans bounds.0 spans))
        (both_all near_code (entries_of (s placed_at) blocks) stub (entries_near blocks (λ b m. m) (there.blocks_there f o t.sound t.file.loads t.admitted blocks t.are blocks t.are.each)) (words.stub_near at base d refl top bounds.1))

    have_words : (ws : List ℕ) × IsLeanTest f o every blocks ws
    have_words =
        let same : sum_of_sizes false (front ++ stub) ≡ sum_of_sizes false (lean_items f o every blocks) = ap (sum_of_sizes false) joined in
        let near : IsNearCode false at (sum_of_sizes false (front ++ stub)) down up = record { grain = code_grain; top = omega (arith, top, size, same); short = omega (arith, size, same); below = omega (arith, size, same); above = omega arith } in
        let all : list_all near_code (front ++ stub) ≡ true = ap (list_all near_code) joined ∙ all_near in
        let words : list_all has_word (placed false at (lean_items f o every blocks)) ≡ true = subst (λ xs. list_all has_word (placed false at xs) ≡ true) joined (near_words false at down up front (ins Illegal 0 0 0 (pos 0)) near all) in
        let r = there.all_words (placed false at (lean_items f o every blocks)) words in
        (r.0, record { cut = t; size = size; small = r.1; code = r.2 })

  -- ---- the plan
  module _ (words : List ℕ) (u : IsLeanTest f o every blocks words) where
    abbrev items : List Item
    items = lean_items f o every blocks

    abbrev behind : List Item
    behind = entries_of (s placed_at) blocks ++ stub

    -- ---- the items
    pub are_items : AreItems false at blocks items words
    are_items = record {
      distinct = code_distinct (s placed_at) unmarked d f.entry 0 blocks ascend;
      inputs_are = ap (λ l. map (λ (r : EntryRow). r.input) l) (rows_behind false at first behind (unmarked.first d f.entry)) ∙ rows_inputs (s placed_at) unmarked false (at + sum_of_sizes false first) blocks;
      marked = λ a e. let m = marked (s placed_at) unmarked false (at + sum_of_sizes false first) blocks stub a e in (m.0, mark_behind false at first behind a (unmarked.first d f.entry) ∙ m.1);
      some = let a = size-append false first behind in let b = size-append false (entries_of (s placed_at) blocks) stub in omega (arith, a, b);
      few = let z = u.size in omega (arith, z);
      small = u.small;
      code = u.code;
    }

    abbrev pub input : Program
    input = loaded_file f

    abbrev pub output : Program
    output = loaded_file (of.g f o t.sound t.file.loads t.admitted blocks t.are false true items words are_items)

    module _ (reached : ℕ → Bool) (aims : AreReached f o reached) where
      abbrev w : World
      w = of.w f o t.sound t.file.loads t.admitted blocks t.are false true items words are_items reached aims

      -- the ticks know where the entries are
      same_items : items ≡ code_of (s w.entry) d f.entry blocks
      same_items = same_code form base l (begins_at blocks) placed_at w.entry (λ a. entry_same form base l (begins_at blocks) (λ a. 0) placed_at d f.entry blocks at a) d f.entry blocks

      reads : Reads false w.code w.entry output.entry (code_of (s w.entry) d f.entry blocks)
      reads = subst (λ k. Reads false w.code w.entry output.entry k) same_items (of.reads f o t.sound t.file.loads t.admitted blocks t.are false true items words are_items)

      -- ---- the blocks
      -- an instruction stands where one begins
      codes : (a : ℕ) → begins_at blocks a ≡ true → (i : Ins) × (w.source a ≡ Known i)
      codes a e = let b = begun blocks a e in subst (λ x. (i : Ins) × (w.source x ≡ Known i)) b.2 (of_block b.0 (leading f o (sound_most o t.sound) blocks t.are reached_only grain b.0 b.1)) where
        known : (x : ℕ) (i : Ins) → instruction_at f x ≡ Some i → (i : Ins) × (w.source x ≡ Known i)
        known x i h = (i, known_instruction f (of.shape f o t.sound t.file.loads t.admitted blocks t.are) x i h)

        of_block : (b : Block) → IsLeaderBlock f o b → (i : Ins) × (w.source b.start ≡ Known i)
        of_block b k = by k.body k.stands k.stops where
          alone : (e : End) → StopsAt f o e 0 (b.start + 4 * 0) → (i : Ins) × (w.source b.start ≡ Known i)
          alone Falls x = absurd (let z = x.0 in omega (arith, z))
          alone (Stops i) x = let z : b.start + 4 * 0 ≡ b.start = omega arith in known b.start i (ap (instruction_at f) (sym z) ∙ x.0)

          by : (is : List Ins) → IsBodyAt f b.start is → StopsAt f o b.end (length is) (b.start + 4 * length is) → (i : Ins) × (w.source b.start ≡ Known i)
          by [] q x = alone b.end x
          by (i ∷ is) q x = known b.start i q.0

      good : AllBlocksOf w (lean_weave_of w l (begins_at blocks)) (begins_at blocks) blocks
      good =
          all_good w l (begins_at blocks) blocks
          (λ b m. and_from _ _ (eq-eqb (start_at blocks b.end (b.start + 4 * body_length b.body)) b.start (starts f o (sound_most o t.sound) blocks t.are reached_only grain ascend b m)) (begins blocks b m))
          (of.good f o t.sound t.file.loads t.admitted blocks t.are false true items words are_items reached aims (λ e. refl))

      -- ---- the plan
      begins_entry : begins_at blocks f.entry ≡ true
      begins_entry = of.begins f o t.sound t.file.loads t.admitted blocks t.are

      table : (a : ℕ) → begins_at blocks a ≡ true → TableAt w a
      table a e = of.table_at f o t.sound t.file.loads t.admitted blocks t.are false true items words are_items reached aims refl a e

      known : (a : ℕ) → begins_at blocks a ≡ true → IsEntryOf w a
      known a e =
          let tb = table a e in
          let first = (s w.entry).first d f.entry in
          let size = length-instructions false w.entry at first in
          let grain : at % 4 ≡ 0 = w.grain at _ reads.0 in
          record {
            low = let low = tb.low in omega (arith, low);
            entry_low = let leads = tb.leads in omega (arith, leads);
            grain = entry_grain w l (begins_at blocks) blocks (at + sum_of_sizes false first) a stub (omega (arith, grain, size)) (reads_behind false w.code w.entry at first (entries_of (s w.entry) blocks ++ stub) reads) e;
          }

      sound : LeanIn w l (begins_at blocks)
      sound = record {
        near = refl;
        small = let h = of.half_small (image_of f) o.half t.admitted.span t.sound.half in omega (arith, h);
        few = few_steps f o every t.sound t.lean;
        apart = refl;
        check = check_reads;
        ticks = λ a e. few_ahead a;
        codes = codes;
        grain = λ a e. let g = grain a e in omega (arith, g);
        known = known;
        table = table;
      } where
        check_reads : Reads false w.code w.entry l.check (check base d every form.round form.spans)
        check_reads =
            let rest = entries_of (s w.entry) blocks ++ stub in
            let whole : Reads false w.code w.entry at (begin d f.entry ++ (check base d every form.round form.spans ++ rest)) = subst (λ k. Reads false w.code w.entry at k) (append_assoc (begin d f.entry) (check base d every form.round form.spans) rest) reads in
            reads_front false w.code w.entry l.check (check base d every form.round form.spans) rest (reads_behind false w.code w.entry at (begin d f.entry) (check base d every form.round form.spans ++ rest) whole)

      -- where the stub stands
      abbrev before_stub : List Item
      before_stub = (s w.entry).first d f.entry

      abbrev last : ℕ
      last = at + 4 * length (instructions_from false w.entry at (before_stub ++ entries_of (s w.entry) blocks))

      only : OnlyCode input output w (s w.entry) blocks
      only = record {
        only = only_inside input output w _ last (of.both f o t.sound t.file.loads t.admitted blocks t.are false true items words are_items reached aims) reads.0 range;
        stubbed = λ a. entry_or_stub w (s w.entry) output.entry d f.entry blocks reads (unmarked_worded form base w.entry l (begins_at blocks)) a (ap (λ k. entry_of false at k a) same_items);
      } where
        range : output.ranges ≡ (output.entry, last + 4) ∷ []
        range =
            let size = of.length-code f o t.sound t.file.loads t.admitted blocks t.are false true items words are_items in
            let same = ap (sum_of_sizes false) same_items in
            let body = length-instructions false w.entry at (before_stub ++ entries_of (s w.entry) blocks) in
            let a = size-append false before_stub (entries_of (s w.entry) blocks) in
            let b = size-append false before_stub (entries_of (s w.entry) blocks ++ stub) in
            let c = size-append false (entries_of (s w.entry) blocks) stub in
            let e : at + length (bytes_of words) ≡ last + 4 = omega (arith, size, same, body, a, b, c) in
            loaded_ranges f o t.sound t.file.loads t.admitted true (rows_from false at items) (bytes_of words) (of.are_placed f o t.sound t.file.loads t.admitted blocks t.are false true items words are_items) ∙ ap (λ n. (at, n) ∷ []) e

      plan : LeanPlan input output w l blocks
      plan = record {
        world = of.both f o t.sound t.file.loads t.admitted blocks t.are false true items words are_items reached aims;
        sound = sound;
        words = reads;
        check = refl;
        good = good;
        begins = begins_entry;
        ticked = entry_ticks counting blocks f.entry refl;
        order = in_order f o (sound_most o t.sound) blocks t.are reached_only grain ascend room;
        only = only;
        counts = all_counted counting l blocks (λ a. refl) (λ a. refl) refl refl ascend;
      } where
        -- a block ends far below 2^64
        room : (b : Block) → Among b blocks → b.start + 4 * body_length b.body + 4 < 2 ^ 64
        room b m =
            let k = leading f o (sound_most o t.sound) blocks t.are reached_only grain b m in
            let n = length_is f o (sound_most o t.sound) b k in
            let code = of.known f o t.sound t.file.loads t.admitted blocks t.are in
            let from = code.below b.start k.leader.code in
            let low = stands b.start k.body k.stands (omega (arith, from)) in
            omega (arith, n, low) where
              stands : (a : ℕ) (is : List Ins) → IsBodyAt f a is → a ≤ 2 ^ 63 → a + 4 * length is ≤ 2 ^ 63
              stands a [] q h = omega (arith, h)
              stands a (i ∷ is) q h = let p = place_low f (of.known f o t.sound t.file.loads t.admitted blocks t.are) a i q.0 in let r = stands (a + 4) is q.2 p in omega (arith, r)

      -- its rows are the entries of the blocks
      entries_known : (a e : ℕ) → IsEntry (rows_from false at items) a e → (begins_at blocks a ≡ true) × (e ≡ w.entry a)
      entries_known a e h =
          rows_are (s w.entry) (unmarked_worded form base w.entry l (begins_at blocks)) false w.code w.entry output.entry d f.entry blocks reads a e
          (subst (λ k. IsEntry (rows_from false at k) a e) same_items h)

-- ---- the laws
pub tests_kept : LeanTestsKept
tests_kept f o every blocks words t reached aims = lean_in_step (input f o every blocks t.cut words t) (output f o every blocks t.cut words t) (w f o every blocks t.cut words t reached aims) (lean_of f o every blocks) blocks (plan f o every blocks t.cut words t reached aims)

pub tests_caught : LeanTestsCaught
tests_caught f o every blocks words t reached aims =
    lean_caught (input f o every blocks t.cut words t) (output f o every blocks t.cut words t) (w f o every blocks t.cut words t reached aims) (lean_of f o every blocks) blocks (lean_bounds f o every) (plan f o every blocks t.cut words t reached aims) t.cut.sound.visits (record { register = refl; word = refl; early_register = refl; early_word = refl })

pub tests_caught_early : LeanTestsCaughtEarly
tests_caught_early f o every blocks words t reached aims =
    lean_caught_early (input f o every blocks t.cut words t) (output f o every blocks t.cut words t) (w f o every blocks t.cut words t reached aims) (lean_of f o every blocks) blocks (lean_bounds f o every) (plan f o every blocks t.cut words t reached aims) t.cut.sound.visits (record { register = refl; word = refl; early_register = refl; early_word = refl })

pub tests_faults : LeanTestsFaults
tests_faults f o every blocks words t reached aims =
    lean_faults (input f o every blocks t.cut words t) (output f o every blocks t.cut words t) (w f o every blocks t.cut words t reached aims) (lean_of f o every blocks) blocks (lean_bounds f o every) (plan f o every blocks t.cut words t reached aims) t.cut.sound.visits (record { register = refl; word = refl; early_register = refl; early_word = refl })

pub tests_places : LeanTestsPlaces
tests_places f o every blocks words t reached aims =
    lean_places (input f o every blocks t.cut words t) (output f o every blocks t.cut words t) (w f o every blocks t.cut words t reached aims) (lean_of f o every blocks) blocks (lean_bounds f o every) (plan f o every blocks t.cut words t reached aims) t.cut.sound.visits (record { register = refl; word = refl; early_register = refl; early_word = refl })

pub tests_landed : LeanTestsLanded
tests_landed f o every blocks words t land reached aims =
    let world = w f o every blocks t.cut words t reached aims in
    lean_landed (input f o every blocks t.cut words t) (output f o every blocks t.cut words t) world (lean_of f o every blocks) blocks (rows_from false (code_place o.half (image_of f)) (lean_items f o every blocks)) (plan f o every blocks t.cut words t reached aims) land
    (entries_known f o every blocks t.cut words t reached aims)

-- whatever the jumps by register of the input lead to
pub tests_strayed : LeanTestsStrayed
tests_strayed f o every blocks words t land =
    let u = t.cut in
    let reached : ℕ → Bool = λ a. false in
    let aims : AreReached f o (λ a. false) = λ e a h. absurd (false≢true h) in
    lean_strayed (input f o every blocks u words t) (output f o every blocks u words t) (w f o every blocks u words t reached aims) (lean_of f o every blocks) blocks (plan f o every blocks u words t reached aims) land

pub tests_displaced : LeanTestsDisplaced
tests_displaced f o every blocks words t =
    let u = t.cut in
    let reached : ℕ → Bool = λ a. false in
    let aims : AreReached f o (λ a. false) = λ e a h. absurd (false≢true h) in
    lean_displaced (input f o every blocks u words t) (output f o every blocks u words t) (w f o every blocks u words t reached aims) (lean_of f o every blocks) blocks (plan f o every blocks u words t reached aims)

pub tests_adrift : LeanTestsAdrift
tests_adrift f o every blocks words t =
    let u = t.cut in
    let reached : ℕ → Bool = λ a. false in
    let aims : AreReached f o (λ a. false) = λ e a h. absurd (false≢true h) in
    lean_adrift (input f o every blocks u words t) (output f o every blocks u words t) (w f o every blocks u words t reached aims) (lean_of f o every blocks) blocks (plan f o every blocks u words t reached aims)

pub tests_undisturbed : LeanTestsUndisturbed
tests_undisturbed f o every blocks words t reached aims =
    lean_undisturbed (input f o every blocks t.cut words t) (output f o every blocks t.cut words t) (w f o every blocks t.cut words t reached aims) (lean_of f o every blocks) blocks (plan f o every blocks t.cut words t reached aims)

pub tests_silent : LeanTestsNoSilentSlip
tests_silent f o every blocks words t reached aims =
    let spans = data_ranges (image_of f) in
    let bounds = lean_bounds f o every in
    silent (input f o every blocks t.cut words t) (output f o every blocks t.cut words t) reached spans (base_of (image_of f)) (half_of o.half (image_of f)) (entry_in f o every blocks) blocks bounds
    (undisturbed_piece o.land (length spans) o.round) (undisturbed_ends spans)
    (tests_kept f o every blocks words t reached aims) (tests_faults f o every blocks words t reached aims) (tests_places f o every blocks words t reached aims) (tests_undisturbed f o every blocks words t reached aims) (omega arith) (λ c h. least o.land (word_count spans) o.round _ _ c h) where
      some_same : (x y : ℕ) → Some x ≡ Some y → x ≡ y
      some_same x y e = cc

      least : (land : Bool) (n round ends period c : ℕ) → word_bound land n round ends period ≡ Some c → 8 ≤ c
      least land zero round ends period c h = absurd (cc)
      least land (suc n) round ends period c h = subst (λ z. 8 ≤ z) (some_same _ c h) (omega arith)

pub tests_clean : LeanTestsClean
tests_clean f o every blocks words t swept reached aims =
    lean_clean (input f o every blocks t.cut words t) (output f o every blocks t.cut words t) (w f o every blocks t.cut words t reached aims) (lean_of f o every blocks) blocks (plan f o every blocks t.cut words t reached aims) swept

pub tests_faults_clean : LeanTestsFaultsClean
tests_faults_clean f o every blocks words t swept reached aims =
    lean_faults_clean (input f o every blocks t.cut words t) (output f o every blocks t.cut words t) (w f o every blocks t.cut words t reached aims) (lean_of f o every blocks) blocks (plan f o every blocks t.cut words t reached aims) swept

pub tests_no_wrong_end : LeanTestsNoWrongEnd
tests_no_wrong_end f o every blocks words t swept reached aims =
    let spans = data_ranges (image_of f) in
    no_wrong_end (input f o every blocks t.cut words t) (output f o every blocks t.cut words t) reached spans (base_of (image_of f)) (half_of o.half (image_of f)) (entry_in f o every blocks) blocks (lean_bounds f o every)
    (undisturbed_piece o.land (length spans) o.round) (undisturbed_ends spans) (sweep_cost spans + 14)
    (tests_kept f o every blocks words t reached aims) (tests_faults f o every blocks words t reached aims) (tests_places f o every blocks words t reached aims) (tests_undisturbed f o every blocks words t reached aims) (tests_faults_clean f o every blocks words t swept reached aims)
    (λ i u s. has_bound o.land spans o.round _ _ i u s)
    (lean_early (input f o every blocks t.cut words t) (output f o every blocks t.cut words t) (w f o every blocks t.cut words t reached aims) (lean_of f o every blocks) blocks (plan f o every blocks t.cut words t reached aims) swept)

pub tests_have_words : LeanTestsHaveWords
tests_have_words f o every blocks t size = have_words f o every blocks t size

pub tests_writable : LeanTestsWritable
tests_writable f o every blocks words u segments size =
    let t = u.cut in
    test_writable f o.half true (rows_from false (code_place o.half (image_of f)) (lean_items f o every blocks)) (bytes_of words) (admitted_image f o t.sound t.file.loads t.admitted) t.file.apart t.file.read
    (of.are_placed f o t.sound t.file.loads t.admitted blocks t.are false true (lean_items f o every blocks) words (are_items f o every blocks t words u)) segments (omega (arith, size))
