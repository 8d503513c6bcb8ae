-- A plan of the lean form keeps the values, its code is calm, changes are caught, and the sweep leaves none silent.
use Rattle.std.proofs.Common.{◌≡◌, ℕ, zero, suc, ◌+◌, ◌*◌, ◌^◌, ◌<◌, ◌≤◌, ◌⊎◌, ⊎_elim, Bool, true, false, List, [], ◌++◌, length, Option, Some, refl, sym, ap, ◌∙◌, subst, arith, append_assoc, length-append}
use Rattle.std.proofs.lemmas.Bool.{cases_lt}
use Rattle.rv_isa.specs.declared.class.Class.TheVariants as class
use Rattle.qed_model.specs.declared.bounds.Bounds.{Bounds}
use Rattle.tests.specs.Admission.DataRanges.{word_count, word_address}
use Rattle.machine.specs.Members.{Among}
use Rattle.qed_model.specs.Promise.InStep.{CaughtInStep, CaughtEarly, CleanInStep}
use Rattle.qed_model.specs.Promise.Kept.{Kept, after_output, Steady}
use Rattle.qed_model.specs.Promise.OwnSteps.{KeptInStep, Covers}
use Rattle.qed_model.specs.Weave.Blocks.{begins_at}
use Rattle.qed_model.specs.Weave.Code.{Sequences, entries_of}
use Rattle.qed_model.specs.Weave.Pieces.{piece_count}
use Rattle.qed_model.specs.Weave.Placed.{instructions_from}
use Rattle.qed_model.specs.Weave.Sequences.{Reads, Block, stub}
use Rattle.qed_model.specs.Weave.Lean.{check, begin}
use Rattle.qed_model.specs.Weave.LeanCode.{Lean, worded}
use Rattle.qed_model.specs.Weave.LeanBounds.{cost_of, entry_steps, call_steps, period, register_bound, word_bound}
use Rattle.weave_core.specs.World.{World, Item, Program, Going, Ended, Known, HasAt, Ins, AreStartRegs, next, class_of, start as from_regs}
use Rattle.weave_core.specs.KindItems.{LockItems, AllLand, OpenEntries, AllBlocks}
use Rattle.weave_core.specs.Kinds.{opens}
use Rattle.weave_core.specs.Lock.{Opens}
use Rattle.weave_core.specs.Leaving.{sweep_cost}
use Rattle.weave_core.specs.Weave.{stage_steps, most_before_start}
use Rattle.weave_core.specs.WeaveLaws.{EntriesAt}
use Rattle.weave_core.proofs.Lemmas.{reads_front, instructions_then, reads_words, stub_opens, items_then, all_land_append, has_rest, opens_behind, length-instructions, WeaveIn, kept, in_step, feeds_at, quiet_before}
use Rattle.lockstep.proofs.Lemmas.{round_some, CalmCode, loaded_at, CleanAll, clean_of, cleaned, faults_clean, faults_found, places_found, WordAt, stub_words, reads_rest, word_of, stub_open, Times, BoundsBy, CaughtAll, caught_of, settles_all, settles_early, Sizes, Trace, all_blocks}
use Rattle.qed_model.specs.Promise.Faults.{FaultsFound, WritesOriginal}
use Rattle.lockstep.specs.WrongOnce.{PlacesFound, FaultsClean}
use Rattle.lean.specs.Woven.{LeanPlan, LeanKept, LeanKeptInStep, LeanCaught, LeanCaughtEarly, LeanClean, IsLeanBoundsOf, lean_weave_of, check_steps, swept_steps, lean_start_of, lean_piece_of}
use Rattle.lean.proofs.Weave.Beats.{sizes, traced, Bound, swept_end, swept_alone}
use Rattle.lean.proofs.Weave.Begin.{lean_starts}
use Rattle.lean.proofs.Weave.Cells.{Counts}
use Rattle.lean.proofs.Weave.Lands.{entries_locks, blocks_open, open_of, entries_land}
use Rattle.lean.proofs.Weave.Left.{lean_rows}
use Rattle.lean.proofs.Weave.Blocks.{begun}
use Rattle.lean.proofs.Weave.Plan.{BlockAt, Counted, block_of, entry_of}
use Rattle.lean.proofs.Weave.Words.{begin_items, begin_lands, check_items, check_lands}

module _ (f g : Program) (w : World) (l : Lean) (blocks : List Block) (p : LeanPlan f g w l blocks) where
  abbrev leader : ℕ → Bool
  leader a = begins_at blocks a

  abbrev sequences : Sequences
  sequences = worded w.form w.base w.entry l leader

  -- the three parts of the code
  abbrev first : List Item
  first = begin w.distance f.entry

  abbrev middle : List Item
  middle = check w.base w.distance l.every w.form.round w.form.spans

  abbrev last : List Item
  last = entries_of sequences blocks

  -- where they stand
  abbrev pub at_check : ℕ
  at_check = g.entry + 4 * length (instructions_from false w.entry g.entry first)

  abbrev pub at_cells : ℕ
  at_cells = at_check + 4 * length (instructions_from false w.entry at_check middle)

  -- the check stands in its place
  pub check_is : at_check ≡ l.check
  check_is = let s = length-instructions false w.entry g.entry first in let e = p.check in omega (arith, s, e)

  -- their words
  whole_words : Reads false w.code w.entry g.entry (first ++ ((middle ++ last) ++ stub))
  whole_words = subst (λ k. Reads false w.code w.entry g.entry k) (append_assoc first middle (last ++ stub) ∙ ap (λ k. first ++ k) (sym (append_assoc middle last stub))) p.words

  code_words : Reads false w.code w.entry g.entry ((first ++ (middle ++ last)) ++ stub)
  code_words = subst (λ k. Reads false w.code w.entry g.entry k) (sym (append_assoc first (middle ++ last) stub)) whole_words

  pub reads_check : Reads false w.code w.entry at_check ((middle ++ last) ++ stub)
  reads_check = reads_rest false w.code w.entry g.entry first ((middle ++ last) ++ stub) (whole_words)

  pub reads_cells : Reads false w.code w.entry at_cells (last ++ stub)
  reads_cells = reads_rest false w.code w.entry at_check middle (last ++ stub) (subst (λ k. Reads false w.code w.entry at_check k) (append_assoc middle last stub) reads_check)

  -- the entries
  pub block_at : (b : Block) → Among b blocks → BlockAt w l leader b
  block_at b m = block_of w l leader blocks at_cells b stub reads_cells p.good p.counts p.order m

  counted : (a : ℕ) → leader a ≡ true → Counted w l leader a
  counted a h = let b = begun blocks a h in entry_of w l leader p.sound.near b.0 a (block_at b.0 b.1) b.2

  entries : EntriesAt w (lean_weave_of w l leader) leader
  entries a h = (counted a h).entry

  counts : Counts w l leader entries
  unfolding entries
  counts = record { each = λ a h. (counted a h).counts }

  pub begins : Reads w.form.far w.code w.entry g.entry (begin w.distance f.entry)
  begins = subst (λ b. Reads b w.code w.entry g.entry first) (sym p.sound.near) (reads_front false w.code w.entry g.entry first ((middle ++ last) ++ stub) (whole_words))

  -- ---- the words
  pub good : AllBlocks blocks
  good = all_blocks w (lean_weave_of w l leader) leader blocks p.good

  rest_items : LockItems false (middle ++ last)
  rest_items = items_then false middle last (check_items false w.base w.distance l.every w.form.round w.form.spans) (entries_locks w l leader blocks good)

  body_items : LockItems false (first ++ (middle ++ last))
  body_items = items_then false first (middle ++ last) (begin_items w.distance f.entry) rest_items

  -- all words stand before the stub, far below 2^64
  pub words_has : HasAt w.code g.entry (instructions_from false w.entry g.entry (first ++ (middle ++ last)) ++ stub_words)
  words_has = subst (HasAt w.code g.entry) (instructions_then false w.entry g.entry (first ++ (middle ++ last)) stub) (reads_words false w.code w.entry g.entry ((first ++ (middle ++ last)) ++ stub) code_words)

  near : g.entry + 4 * length (instructions_from false w.entry g.entry (first ++ (middle ++ last))) + 128 < 2 ^ 64
  near = let low = w.low (g.entry + 4 * length (instructions_from false w.entry g.entry (first ++ (middle ++ last)))) _ (has_rest w.code g.entry (instructions_from false w.entry g.entry (first ++ (middle ++ last))) stub_words words_has).0 in omega (arith, low)

  -- how many there are
  whole : instructions_from false w.entry g.entry (first ++ (middle ++ last)) ≡ instructions_from false w.entry g.entry first ++ (instructions_from false w.entry at_check middle ++ instructions_from false w.entry at_cells last)
  whole = instructions_then false w.entry g.entry first (middle ++ last) ∙ ap (λ k. instructions_from false w.entry g.entry first ++ k) (instructions_then false w.entry at_check middle last)

  count : length (instructions_from false w.entry g.entry (first ++ (middle ++ last))) ≡ length (instructions_from false w.entry g.entry first) + (length (instructions_from false w.entry at_check middle) + length (instructions_from false w.entry at_cells last))
  count =
      let x = instructions_from false w.entry g.entry first in
      let y = instructions_from false w.entry at_check middle in
      let z = instructions_from false w.entry at_cells last in
      ap length whole ∙ length-append x (y ++ z) ∙ ap (λ n. length x + n) (length-append y z)

  -- no register is closed at the check, nor at an entry
  check_open : Opens w.code l.check
  check_open =
      let rest = instructions_from false w.entry at_check (middle ++ last) in
      let has : HasAt w.code at_check (instructions_from false w.entry at_check (middle ++ last) ++ stub_words) = subst (HasAt w.code at_check) (instructions_then false w.entry at_check (middle ++ last) stub) (reads_words false w.code w.entry at_check ((middle ++ last) ++ stub) reads_check) in
      let here : Opens w.code (at_check + 4 * 0) = opens_behind w.code at_check [] (rest ++ stub_words) (omega (arith, near, count)) has ((rest_items w.entry at_check).front stub_words stub_opens) in
      subst (Opens w.code) (zero_on at_check ∙ check_is) here where
        zero_on : (n : ℕ) → n + 4 * 0 ≡ n
        zero_on n = omega arith

  entries_open : OpenEntries w.code w.entry
  entries_open t = ⊎_elim (λ h. open_of w l leader blocks t (blocks_open w l leader blocks at_cells good (omega (arith, near, count)) reads_cells) h) (λ z. stub_open w t z) (p.only.stubbed t)

  -- where all lead
  lands : AllLand w.code g.entry (instructions_from false w.entry g.entry (first ++ (middle ++ last)))
  lands =
      let x = instructions_from false w.entry g.entry first in
      let y = instructions_from false w.entry at_check middle in
      let z = instructions_from false w.entry at_cells last in
      let has : HasAt w.code g.entry (x ++ ((y ++ z) ++ stub_words)) = subst (HasAt w.code g.entry) (ap (λ k. k ++ stub_words) whole ∙ append_assoc x (y ++ z) stub_words) words_has in
      let has_y : HasAt w.code at_check (y ++ (z ++ stub_words)) = subst (HasAt w.code at_check) (append_assoc y z stub_words) (has_rest w.code g.entry x ((y ++ z) ++ stub_words) has) in
      let open_yz : opens ((y ++ z) ++ stub_words) ≡ true = subst (λ k. opens (k ++ stub_words) ≡ true) (instructions_then false w.entry at_check middle last) ((rest_items w.entry at_check).front stub_words stub_opens) in
      let open_z : opens (z ++ stub_words) ≡ true = (entries_locks w l leader blocks good w.entry at_cells).front stub_words stub_opens in
      let one = begin_lands w.distance f.entry w.code w.entry g.entry ((y ++ z) ++ stub_words) (omega (arith, near, count)) has open_yz entries_open in
      let two = check_lands false w.base w.distance l.every w.form.round w.form.spans w.code w.entry at_check (z ++ stub_words) (omega (arith, near, count)) has_y open_z entries_open in
      let three = entries_land w l leader (omega (arith, near, count, check_is)) check_open entries_open blocks at_cells good (omega (arith, near, count)) reads_cells in
      subst (AllLand w.code g.entry) (sym whole) (all_land_append w.code g.entry x (y ++ z) one (all_land_append w.code at_check y z two three))

  -- ---- the code is calm
  -- nothing else is code
  pub only : (a : ℕ) (i : Ins) → w.code a ≡ Known i → (k : ℕ) × (a ≡ g.entry + 4 * k) × (a ≤ g.entry + 4 * length (instructions_from false w.entry g.entry (first ++ (middle ++ last))))
  only =
      subst (λ k. (a : ℕ) (i : Ins) → w.code a ≡ Known i → (n : ℕ) × (a ≡ g.entry + 4 * n) × (a ≤ g.entry + 4 * length (instructions_from false w.entry g.entry k))) (append_assoc first middle last)
      (subst (λ b. (a : ℕ) (i : Ins) → w.code a ≡ Known i → (n : ℕ) × (a ≡ g.entry + 4 * n) × (a ≤ g.entry + 4 * length (instructions_from b w.entry g.entry ((first ++ middle) ++ last)))) p.sound.near p.only.only)

  words : (a : ℕ) (i : Ins) → w.code a ≡ Known i → WordAt w.code a i
  words =
      let body = first ++ (middle ++ last) in
      let far = sym p.sound.near in
      let items : LockItems w.form.far (first ++ (middle ++ last)) = subst (λ b. LockItems b (first ++ (middle ++ last))) far body_items in
      let reads : Reads w.form.far w.code w.entry g.entry ((first ++ (middle ++ last)) ++ stub) = subst (λ b. Reads b w.code w.entry g.entry ((first ++ (middle ++ last)) ++ stub)) far code_words in
      word_of w g.entry body items reads (subst (λ b. AllLand w.code g.entry (instructions_from b w.entry g.entry (first ++ (middle ++ last)))) far lands)
      (subst (λ b. (a : ℕ) (i : Ins) → w.code a ≡ Known i → (k : ℕ) × (a ≡ g.entry + 4 * k) × (a ≤ g.entry + 4 * length (instructions_from b w.entry g.entry (first ++ (middle ++ last))))) far only)

  pub woven : WeaveIn f g w (lean_weave_of w l leader) leader
  woven = record { rows = lean_rows w l leader p.sound; starts = lean_starts f g w l leader p.sound; world = p.world; entries = entries; leads = p.begins; begins = begins }

  -- the bounds on its steps
  abbrev before : ℕ
  before = most_before_start (lean_weave_of w l leader)

  abbrev per : ℕ
  per = stage_steps (lean_weave_of w l leader)

  calm : CalmCode f g w before per
  calm = record {
    world = p.world;
    words = words;
    entries = entries_open;
    kept = in_step f g w (lean_weave_of w l leader) leader woven (omega arith);
    quiet = quiet_before f g w (lean_weave_of w l leader) leader woven;
  }

  -- ---- changes are caught
  module _ (round : 1 ≤ w.form.round) where
    abbrev z : Sizes
    z = sizes f g w l leader p.sound p.world entries counts p.begins p.ticked begins

    times : Times w z w.form.round
    times = record { words = refl; same = λ h. round_some (word_count w.form.spans) w.form.round h; some = round; big = omega arith; fits = omega arith }

    -- the most steps to the first check
    abbrev to_first : ℕ
    to_first = 31 + (entry_steps l.land + call_steps l.land)

    by :
        (ends register : ℕ) (word : Option ℕ) → register ≡ register_bound l.land ends (period l.land (check_steps w) l.every)
        → word ≡ word_bound l.land (word_count w.form.spans) w.form.round ends (period l.land (check_steps w) l.every) → BoundsBy w z w.form.round to_first (2 + ends) register word
    by ends register word r is = record {
      of_register = omega (arith, r);
      of_word = λ h. is ∙ word_some (word_count w.form.spans) h ∙ ap Some (sum ends ((piece_count w.form.round (word_count w.form.spans) + 1) * (check_steps w + (l.every + entry_steps l.land + call_steps l.land))));
    } where
      word_some : (n : ℕ) → 1 ≤ n → word_bound l.land n w.form.round ends (period l.land (check_steps w) l.every) ≡ Some (53 + entry_steps l.land + call_steps l.land + ends + (piece_count w.form.round n + 1) * (check_steps w + (l.every + entry_steps l.land + call_steps l.land)))
      word_some zero h = absurd (omega (arith, h))
      word_some (suc n) h = refl

      sum : (s n : ℕ) → 53 + entry_steps l.land + call_steps l.land + s + n ≡ 31 + (entry_steps l.land + call_steps l.land) + (2 + s) + (n + 20)
      sum s n = omega arith

    -- the trace up to a step that is covered
    trace_of : (regs : List ℕ) (start : AreStartRegs regs) (h : ℕ) → Covers f g w.reached before per regs h → Trace w.code (from_regs g regs) z (word_address w.form.spans) to_first h (Bound f g w l leader p.sound p.world entries counts p.begins p.ticked begins regs start)
    trace_of regs start h c = traced f g w l leader p.sound p.world entries counts p.begins p.ticked begins regs start h (feeds_at f g w (lean_weave_of w l leader) leader woven regs h c)

  module _ (round : 1 ≤ w.form.round) (bounds : Bounds) (are : IsLeanBoundsOf w l bounds) where
    late : BoundsBy w (z round) w.form.round (to_first round) (2 + swept_steps w) bounds.register bounds.word
    late = by round (swept_steps w) bounds.register bounds.word are.register are.word

    -- early ones
    pub catches_early : CaughtEarly f g w.reached w.form.spans bounds before per
    catches_early = record {
      settles = λ regs cs b c start ordered free bound wide covers going.
          settles_early f g w before per calm regs start (z round) w.form.round (to_first round) (Bound f g w l leader p.sound p.world entries counts p.begins p.ticked begins regs start) (times round) (trace_of round regs start)
          (2 + 0) (register_bound l.land 0 (period l.land (check_steps w) l.every)) bounds are.early_register (by round 0 _ bounds.early_word refl are.early_word) late cs b c ordered free bound wide covers going;
    }

    catches_all : CaughtAll f g w before per bounds
    catches_all = record {
      settles = λ regs cs b start ordered free bound covers going.
          settles_all f g w before per calm regs start (z round) w.form.round (to_first round) (Bound f g w l leader p.sound p.world entries counts p.begins p.ticked begins regs start) (times round) (trace_of round regs start)
          bounds late cs b ordered free bound covers going;
    }

    pub catches : CaughtInStep f g w.reached w.form.spans bounds before per
    catches = caught_of f g w before per bounds calm catches_all

    -- the bound of a word has two steps
    wide : (b : ℕ) → bounds.word ≡ Some b → 2 ≤ b
    wide b e = by (word_count w.form.spans) (sym are.word ∙ e) where
      by : (n : ℕ) → word_bound l.land n w.form.round (swept_steps w) (period l.land (check_steps w) l.every) ≡ Some b → 2 ≤ b
      by zero e = absurd (cc)
      by (suc n) e =
          let is : 53 + entry_steps l.land + call_steps l.land + swept_steps w + (piece_count w.form.round (suc n) + 1) * period l.land (check_steps w) l.every ≡ b = cc in
          omega (arith, is)

    -- wrong results are caught, as changes
    pub finds : FaultsFound f g w.reached w.form.spans bounds before per
    finds = faults_found f g w before per calm bounds (omega (arith, are.register)) wide catches_all

    pub finds_places : PlacesFound f g w.reached w.form.spans bounds before per
    finds_places = places_found f g w before per calm bounds wide catches_all

  -- ---- with the sweep none ends silently
  cleans_all : w.form.sweep ≡ true → CleanAll f g w before per (sweep_cost w.form.spans + 14)
  cleans_all sweeps = record {
    settles = λ regs cs e start ordered free early ended first covers.
        cleaned f g w before per calm (sweep_cost w.form.spans) regs start cs e ordered free early ended first covers (λ always going. swept_end f g w l leader p.sound p.world entries counts p.begins p.ticked begins regs start e always sweeps ended going);
  }

  pub cleans : w.form.sweep ≡ true → CleanInStep f g w.reached w.form.spans (sweep_cost w.form.spans + 14) before per
  cleans sweeps = clean_of f g w before per (sweep_cost w.form.spans + 14) calm (cleans_all sweeps)

  pub cleans_faults : w.form.sweep ≡ true → FaultsClean f g w.reached w.form.spans (sweep_cost w.form.spans + 14) before per
  cleans_faults sweeps = faults_clean f g w before per calm (sweep_cost w.form.spans + 14) (omega arith) (cleans_all sweeps)

  -- no instruction of the test stands in the sweep or behind it
  early :
      w.form.sweep ≡ true → (regs : List ℕ) (m e : ℕ) (i : Ins) → AreStartRegs regs → next (after_output g regs m) ≡ Known i → WritesOriginal i ⊎ (class_of i.kind ≡ class.Store) → ((k : ℕ) → Steady f w.reached k)
      → m < e → (after_output g regs e).outcome ≡ Ended → ((k : ℕ) → k < e → (after_output g regs k).outcome ≡ Going) → m + 1 + (sweep_cost w.form.spans + 14) ≤ e
  early sweeps regs m e i are known own steady less ended going =
      let x = swept_alone f g w l leader p.sound p.world entries counts p.begins p.ticked begins regs are e steady sweeps ended going in
      let exact = x.swept.exact in
      ⊎_elim
      (λ lt. omega (arith, lt, exact))
      (λ ge. absurd (x.alone m i ge less (sym ((loaded_at f g w before per calm regs are m).code (after_output g regs m).pc) ∙ known) own))
      (cases_lt m x.swept.start)

-- ---- the laws
-- the bound on the steps for each step of the input
pub stage_is : (l : Lean) (c m : ℕ) → 2 * entry_steps l.land + (call_steps l.land + c) + (m + 27) ≡ 27 + call_steps l.land + 2 * entry_steps l.land + c + m
stage_is l c m = omega arith

pub lean_kept : LeanKept
lean_kept f g w l blocks p = subst (λ n. Kept f g w.reached (lean_start_of w) n) (stage_is l (check_steps w) (cost_of l.diverse * l.inst_max)) (kept f g w (lean_weave_of w l (begins_at blocks)) (begins_at blocks) (woven f g w l blocks p))

pub lean_in_step : LeanKeptInStep
lean_in_step f g w l blocks p = subst (λ n. KeptInStep f g w.reached w.distance (lean_start_of w) n) (stage_is l (check_steps w) (cost_of l.diverse * l.inst_max)) (in_step f g w (lean_weave_of w l (begins_at blocks)) (begins_at blocks) (woven f g w l blocks p) (omega arith))

pub lean_caught : LeanCaught
lean_caught f g w l blocks bounds p round are = subst (λ n. CaughtInStep f g w.reached w.form.spans bounds (lean_start_of w) n) (stage_is l (check_steps w) (cost_of l.diverse * l.inst_max)) (catches f g w l blocks p round bounds are)

pub lean_caught_early : LeanCaughtEarly
lean_caught_early f g w l blocks bounds p round are = subst (λ n. CaughtEarly f g w.reached w.form.spans bounds (lean_start_of w) n) (stage_is l (check_steps w) (cost_of l.diverse * l.inst_max)) (catches_early f g w l blocks p round bounds are)

pub lean_faults :
    (f g : Program) (w : World) (l : Lean) (blocks : List Block) (bounds : Bounds) → LeanPlan f g w l blocks → 1 ≤ w.form.round → IsLeanBoundsOf w l bounds → FaultsFound f g w.reached w.form.spans bounds (lean_start_of w) (lean_piece_of w l)
lean_faults f g w l blocks bounds p round are = subst (λ n. FaultsFound f g w.reached w.form.spans bounds (lean_start_of w) n) (stage_is l (check_steps w) (cost_of l.diverse * l.inst_max)) (finds f g w l blocks p round bounds are)

pub lean_places :
    (f g : Program) (w : World) (l : Lean) (blocks : List Block) (bounds : Bounds) → LeanPlan f g w l blocks → 1 ≤ w.form.round → IsLeanBoundsOf w l bounds → PlacesFound f g w.reached w.form.spans bounds (lean_start_of w) (lean_piece_of w l)
lean_places f g w l blocks bounds p round are = subst (λ n. PlacesFound f g w.reached w.form.spans bounds (lean_start_of w) n) (stage_is l (check_steps w) (cost_of l.diverse * l.inst_max)) (finds_places f g w l blocks p round bounds are)

pub lean_faults_clean :
    (f g : Program) (w : World) (l : Lean) (blocks : List Block) → LeanPlan f g w l blocks → w.form.sweep ≡ true → FaultsClean f g w.reached w.form.spans (sweep_cost w.form.spans + 14) (lean_start_of w) (lean_piece_of w l)
lean_faults_clean f g w l blocks p sweeps = subst (λ n. FaultsClean f g w.reached w.form.spans (sweep_cost w.form.spans + 14) (lean_start_of w) n) (stage_is l (check_steps w) (cost_of l.diverse * l.inst_max)) (cleans_faults f g w l blocks p sweeps)

pub lean_early :
    (f g : Program) (w : World) (l : Lean) (blocks : List Block) → LeanPlan f g w l blocks → w.form.sweep ≡ true → (regs : List ℕ) (m e : ℕ) (i : Ins) → AreStartRegs regs
    → next (after_output g regs m) ≡ Known i → WritesOriginal i ⊎ (class_of i.kind ≡ class.Store) → ((k : ℕ) → Steady f w.reached k)
    → m < e → (after_output g regs e).outcome ≡ Ended → ((k : ℕ) → k < e → (after_output g regs k).outcome ≡ Going) → m + 1 + (sweep_cost w.form.spans + 14) ≤ e
lean_early f g w l blocks p sweeps = early f g w l blocks p sweeps

pub lean_clean : LeanClean
lean_clean f g w l blocks p sweeps = subst (λ n. CleanInStep f g w.reached w.form.spans (sweep_cost w.form.spans + 14) (lean_start_of w) n) (stage_is l (check_steps w) (cost_of l.diverse * l.inst_max)) (cleans f g w l blocks p sweeps)
