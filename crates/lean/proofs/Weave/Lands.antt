-- The words of the blocks of a plan: of the kinds, and where they lead.
use Rattle.std.proofs.Common.{◌≡◌, ℕ, ◌+◌, ◌*◌, ◌%◌, ◌^◌, ◌<◌, ⊎_elim, Bool, true, false, cond, List, [], ◌∷◌, ◌++◌, length, refl, sym, ap, ◌∙◌, subst, arith, append_assoc, length-append}
use Rattle.std.specs.Prelude.{◌==◌, pos}
use Rattle.std.proofs.lemmas.Bool.{eqb-true, false≢true, or_cases}
use Rattle.machine.specs.Table.{ins, Ins, Bge, Jal}
use Rattle.qed_model.specs.Weave.Blocks.{begins_at}
use Rattle.qed_model.specs.Weave.Code.{Sequences, pieces_of, body_of, block_items, entries_of}
use Rattle.machine.specs.Offsets.{distance_between}
use Rattle.qed_model.specs.Weave.Placed.{instructions_from}
use Rattle.qed_model.specs.Weave.Sequences.{Reads, Block, class_of, body_length, guards, check_sign, original, each_part, before_end, stub, SPARE, TEMPORARY}
use Rattle.qed_model.specs.Weave.Costs.{used}
use Rattle.qed_model.specs.Weave.Forms.{mirror_of}
use Rattle.qed_model.specs.Weave.Lean.{tick, enter, call_at, leave}
use Rattle.qed_model.specs.Weave.LeanCode.{Lean, is_store, store_part, both_parts, parts_with, worded, fall_words}
use Rattle.machine.proofs.Lemmas.{difference}
use Rattle.weave_core.specs.World.{World, Item, Plain, Constant, Go, HasAt, wrapped}
use Rattle.weave_core.specs.Blocks.{FitsPiece, AllFit}
use Rattle.weave_core.specs.Lock.{Opens}
use Rattle.weave_core.specs.Kinds.{opens}
use Rattle.weave_core.specs.KindItems.{LockItems, LandItems, Straight, AllLand, OpenEntries, AllPieces, GoodEnd, AllBlocks}
use Rattle.weave_core.proofs.Lemmas.{brk, instructions_then, reads_words, stub_opens, items_then, items_none, items_go, original_items, opens_behind, all_land_append, has_rest, over_words, straight_none, straight_then, straight_lands, straight_guards, land_behind, land_go, land_then, straight_bare, store_items, store_lands, guarded_original, used_low, mirrors_fit_of}
use Rattle.weave_core.specs.Parts.{unguarded}
use Rattle.lockstep.proofs.Lemmas.{stub_words, reads_rest}
use Rattle.lean.proofs.Weave.Piece.{store_class}
use Rattle.lean.proofs.Weave.Words.{tick_items, sign_lands, enter_items, leave_items, leave_lands}

-- ---- pieces
each_items : (part : Ins → ℕ → List Item) → ((i : Ins) (at : ℕ) → FitsPiece i → LockItems false (part i at)) → (is : List Ins) (at : ℕ) → AllFit is → LockItems false (each_part part is at)
each_items part h [] at f = items_none false
each_items part h (i ∷ is) at f = items_then false (part i at) (each_part part is (at + 4)) (h i at f.0) (each_items part h is (at + 4) f.1)

straight_each : (part : Ins → ℕ → List Item) → ((i : Ins) (at : ℕ) → FitsPiece i → Straight false (part i at)) → (is : List Ins) (at : ℕ) → AllFit is → Straight false (each_part part is at)
straight_each part h [] at f = straight_none false
straight_each part h (i ∷ is) at f = straight_then false (part i at) (each_part part is (at + 4)) (h i at f.0) (straight_each part h is (at + 4) f.1)

straight_original : (i : Ins) (at : ℕ) → FitsPiece i → Straight false (original i at)
straight_original i at f = subst (Straight false) (guarded_original i at) (straight_then false (guards (used i)) (unguarded i at) (straight_guards false (used i) (used_low i f)) (straight_bare false i at f))

-- without a store
module _ (diverse : Bool) where
  both_items : (is : List Ins) (at : ℕ) → AllFit is → LockItems false (both_parts diverse is at)
  both_items is at f = items_then false (each_part original is at) (each_part (mirror_of diverse) is at) (each_items original (λ i at h. original_items false i at h) is at f) (each_items (mirror_of diverse) (λ i at h. (mirrors_fit_of diverse false).fit i at h) is at f)

  straight_parts : (is : List Ins) (at : ℕ) → AllFit is → Straight false (both_parts diverse is at)
  straight_parts is at f = straight_then false (each_part original is at) (each_part (mirror_of diverse) is at) (straight_each original straight_original is at f) (straight_each (mirror_of diverse) (λ i at h. (mirrors_fit_of diverse false).straight i at h) is at f)

  -- one instruction more
  one_more : (run : List Ins) (i : Ins) → AllFit run → FitsPiece i → AllFit (run ++ (i ∷ []))
  one_more [] i f h = (h, tt)
  one_more (j ∷ run) i f h = (f.0, one_more run i f.1 h)

  -- with stores
  abbrev next : List Ins → ℕ → ℕ
  next run at = at + 4 * length run + 4

  parts_items : (run : List Ins) (at : ℕ) (is : List Ins) → AllFit run → AllFit is → LockItems false (parts_with diverse run at is)
  parts_items run at [] f g = both_items run at f
  parts_items run at (i ∷ is) f g = by (is_store (class_of i.kind)) refl (parts_items [] (next run at) is tt g.1) (parts_items (run ++ (i ∷ [])) at is (one_more run i f g.0) g.1) where
    by :
        (b : Bool) → is_store (class_of i.kind) ≡ b → LockItems false (parts_with diverse [] (next run at) is) → LockItems false (parts_with diverse (run ++ (i ∷ [])) at is)
        → LockItems false (cond b (both_parts diverse run at ++ (store_part i ++ parts_with diverse [] (next run at) is)) (parts_with diverse (run ++ (i ∷ [])) at is))
    by true e behind more =
        let rest = parts_with diverse [] (next run at) is in
        items_then false (both_parts diverse run at) (store_part i ++ rest) (both_items run at f) (items_then false (store_part i) rest (store_items false i g.0 (store_class (class_of i.kind) e)) behind)
    by false e behind more = more

  parts_lands : (run : List Ins) (at : ℕ) (is : List Ins) → AllFit run → AllFit is → LandItems false (parts_with diverse run at is)
  parts_lands run at [] f g = straight_lands false (both_parts diverse run at) (straight_parts run at f)
  parts_lands run at (i ∷ is) f g = by (is_store (class_of i.kind)) refl (parts_lands [] (next run at) is tt g.1) (parts_lands (run ++ (i ∷ [])) at is (one_more run i f g.0) g.1) where
    by :
        (b : Bool) → is_store (class_of i.kind) ≡ b → LandItems false (parts_with diverse [] (next run at) is) → LandItems false (parts_with diverse (run ++ (i ∷ [])) at is)
        → LandItems false (cond b (both_parts diverse run at ++ (store_part i ++ parts_with diverse [] (next run at) is)) (parts_with diverse (run ++ (i ∷ [])) at is))
    by true e behind more =
        let rest = parts_with diverse [] (next run at) is in
        land_behind false (both_parts diverse run at) (store_part i ++ rest) (straight_parts run at f) (land_then false (store_part i) rest (store_lands false i g.0 (store_class (class_of i.kind) e)) (parts_items [] (next run at) is tt g.1) behind)
    by false e behind more = more

-- ---- falls
fall_items : (leader : ℕ → Bool) (t : ℕ) → LockItems false (fall_words leader t)
fall_items leader t = by (leader t) where
  by : (b : Bool) → LockItems false (cond b [] (Go t ∷ []))
  by true = items_none false
  by false = items_go false t [] (items_none false)

fall_lands : (leader : ℕ → Bool) (t : ℕ) → LandItems false (fall_words leader t)
fall_lands leader t = by (leader t) where
  by : (b : Bool) → LandItems false (cond b [] (Go t ∷ []))
  by true = straight_lands false [] (straight_none false)
  by false = land_go false t

module _ (w : World) (l : Lean) (leader : ℕ → Bool) where
  abbrev s : Sequences
  s = worded w.form w.base w.entry l leader

  pieces_items : (ps : List (List Ins)) (at : ℕ) → AllPieces ps → LockItems false (pieces_of s ps at)
  pieces_items [] at f = items_none false
  pieces_items (p ∷ ps) at f = items_then false (parts_with l.diverse [] at p) (pieces_of s ps (at + 4 * length p)) (parts_items l.diverse [] at p tt f.0) (pieces_items ps (at + 4 * length p) f.1)

  pieces_lands : (ps : List (List Ins)) (at : ℕ) → AllPieces ps → LandItems false (pieces_of s ps at)
  pieces_lands [] at f = straight_lands false [] (straight_none false)
  pieces_lands (p ∷ ps) at f =
      land_then false (parts_with l.diverse [] at p) (pieces_of s ps (at + 4 * length p)) (parts_lands l.diverse [] at p tt f.0) (pieces_items ps (at + 4 * length p) f.1) (pieces_lands ps (at + 4 * length p) f.1)

  -- ---- blocks
  body_items : (b : Block) → AllPieces b.body → GoodEnd b.end → LockItems false (body_of s b.body b.end b.start)
  body_items b f g =
      let at = b.start + 4 * body_length b.body in
      items_then false (pieces_of s b.body b.start) (leave l.distance (before_end w.form) (fall_words leader) b.end (l.start_of b.end at) at) (pieces_items b.body b.start f) (leave_items l.distance w.form (fall_words leader) b.end (l.start_of b.end at) at (fall_items leader) g)

  body_lands : (b : Block) → AllPieces b.body → GoodEnd b.end → LandItems false (body_of s b.body b.end b.start)
  body_lands b f g =
      let at = b.start + 4 * body_length b.body in
      land_then false (pieces_of s b.body b.start) (leave l.distance (before_end w.form) (fall_words leader) b.end (l.start_of b.end at) at) (pieces_lands b.body b.start f)
      (leave_items l.distance w.form (fall_words leader) b.end (l.start_of b.end at) at (fall_items leader) g) (leave_lands l.distance w.form (fall_words leader) b.end (l.start_of b.end at) at (fall_items leader) (fall_lands leader) g)

  block_locks : (b : Block) → AllPieces b.body → GoodEnd b.end → LockItems false (block_items s b)
  block_locks b f g = items_then false (s.enter b.start) (body_of s b.body b.end b.start) (enter_items false l.land (l.ticks b.start) b.start (l.most b.start) (distance_between (w.entry b.start + call_at l.land) l.check)) (body_items b f g)

  pub entries_locks : (bs : List Block) → AllBlocks bs → LockItems false (entries_of s bs)
  entries_locks [] f = items_none false
  entries_locks (b ∷ bs) f = items_then false (block_items s b) (entries_of s bs) (block_locks b f.0 f.1) (entries_locks bs f.2)

  -- ---- where they stand
  -- the blocks behind one
  rest_of :
      (b : Block) (bs : List Block) (p : ℕ) → Reads false w.code w.entry p (entries_of s (b ∷ bs) ++ stub)
      → Reads false w.code w.entry (p + 4 * length (instructions_from false w.entry p (block_items s b))) (entries_of s bs ++ stub)
  rest_of b bs p r = reads_rest false w.code w.entry p (block_items s b) (entries_of s bs ++ stub) (subst (λ k. Reads false w.code w.entry p k) (append_assoc (block_items s b) (entries_of s bs) stub) r)

  -- the words of some blocks stand before the stub
  stands : (bs : List Block) (p : ℕ) → Reads false w.code w.entry p (entries_of s bs ++ stub) → HasAt w.code p (instructions_from false w.entry p (entries_of s bs) ++ stub_words)
  stands bs p r = subst (HasAt w.code p) (instructions_then false w.entry p (entries_of s bs) stub) (reads_words false w.code w.entry p (entries_of s bs ++ stub) r)

  free : (bs : List Block) (p : ℕ) → AllBlocks bs → opens (instructions_from false w.entry p (entries_of s bs) ++ stub_words) ≡ true
  free bs p f = (entries_locks bs f w.entry p).front stub_words stub_opens

  -- no register is closed at the entries
  abbrev pub AllOpen : List Block → Type 0
  AllOpen [] = Unit {0}
  AllOpen (b ∷ bs) = ((w.entry b.start < 2 ^ 64) × Opens w.code (w.entry b.start)) × AllOpen bs

  pub blocks_open : (bs : List Block) (p : ℕ) → AllBlocks bs → p + 4 * length (instructions_from false w.entry p (entries_of s bs)) + 64 < 2 ^ 64 → Reads false w.code w.entry p (entries_of s bs ++ stub) → AllOpen bs
  blocks_open [] p f near r = tt
  blocks_open (b ∷ bs) p f near r =
      let here : Opens w.code (p + 0) = opens_behind w.code p [] (instructions_from false w.entry p (entries_of s (b ∷ bs)) ++ stub_words) (omega (arith, near)) (stands (b ∷ bs) p r) (free (b ∷ bs) p f) in
      let begins : w.entry b.start ≡ p = r.0 in
      let same : p + 0 ≡ w.entry b.start = omega (arith, begins) in
      let x = instructions_from false w.entry p (block_items s b) in
      let next = p + 4 * length (instructions_from false w.entry p (block_items s b)) in
      let count = ap length (instructions_then false w.entry p (block_items s b) (entries_of s bs)) ∙ length-append x (instructions_from false w.entry next (entries_of s bs)) in
      ((omega (arith, near, begins), subst (Opens w.code) same here), blocks_open bs next f.2 (omega (arith, near, count)) (rest_of b bs p r))

  pub open_of : (bs : List Block) (t : ℕ) → AllOpen bs → begins_at bs t ≡ true → (w.entry t < 2 ^ 64) × Opens w.code (w.entry t)
  open_of [] t m h = absurd (false≢true h)
  open_of (b ∷ bs) t m h = ⊎_elim (λ s. subst (λ x. (w.entry x < 2 ^ 64) × Opens w.code (w.entry x)) (eqb-true b.start t s) m.0) (λ r. open_of bs t m.1 r) (or_cases (b.start == t) (begins_at bs t) h)

  -- ---- where they lead
  module _ (low : l.check < 2 ^ 64) (checked : Opens w.code l.check) (entries : OpenEntries w.code w.entry) where
    -- the jump to the check
    leads : (from p : ℕ) → p ≡ from → p < 2 ^ 64 → Opens w.code ((p + wrapped (distance_between from l.check)) % 2 ^ 64)
    leads from p is near = subst (λ q. Opens w.code ((q + wrapped (distance_between from l.check)) % 2 ^ 64)) (sym is) (subst (Opens w.code) (sym (difference from l.check (omega (arith, is, near)) low)) checked)

    -- a tick, behind which no register is closed, and which goes to the check from `from`
    tick_lands :
        (land : Bool) (a most from p : ℕ) (ys : List Ins) → p + cond land 12 20 ≡ from → p + 104 < 2 ^ 64 → HasAt w.code p (instructions_from false w.entry p (tick land a most (distance_between from l.check)) ++ ys)
        → opens ys ≡ true → AllLand w.code p (instructions_from false w.entry p (tick land a most (distance_between from l.check)))
    tick_lands true a most from p ys is near has o =
        let j = ins Jal 0 0 0 (distance_between from l.check) in
        let over : Opens w.code ((p + 4 + 4 + 12) % 2 ^ 64) = over_words w.code (p + 4 + 4) 12 (ins Bge 0 SPARE 0 (pos 12) ∷ j ∷ brk ∷ []) ys refl (omega (arith, near)) has.1.1 o in
        (tt, (tt, ((λ g. over), (leads from (p + 4 + 4 + 4) (omega (arith, is)) (omega (arith, near)), (tt, tt)))))
    tick_lands false a most from p ys is near has o =
        let behind = instructions_from false w.entry (p + 4 + 4) (Plain (ins Bge 0 SPARE 0 (pos 20)) ∷ Constant TEMPORARY a ∷ Plain (ins Jal 0 0 0 (distance_between from l.check)) ∷ Plain brk ∷ []) in
        let over : Opens w.code ((p + 4 + 4 + 20) % 2 ^ 64) = over_words w.code (p + 4 + 4) 20 behind ys refl (omega (arith, near)) has.1.1 o in
        (tt, (tt, ((λ g. over), (tt, (tt, (leads from (p + 4 + 4 + 4 + 4 + 4) (omega (arith, is)) (omega (arith, near)), (tt, tt)))))))

    -- an entry
    enter_lands :
        (land ticks : Bool) (a most p : ℕ) (ys : List Ins) → w.entry a ≡ p → p + 128 < 2 ^ 64
        → HasAt w.code p (instructions_from false w.entry p (enter land ticks a most (distance_between (w.entry a + call_at land) l.check)) ++ ys) → opens ys ≡ true
        → AllLand w.code p (instructions_from false w.entry p (enter land ticks a most (distance_between (w.entry a + call_at land) l.check)))
    enter_lands true false a most p ys is near has o = sign_lands false a [] (items_none false) (λ c e q zs n h k g. tt) w.code w.entry p ys (omega (arith, near)) has o entries
    enter_lands true true a most p ys is near has o =
        let t = tick true a most (distance_between (w.entry a + 28) l.check) in
        let xs = instructions_from false w.entry p (check_sign a) in
        let ts = instructions_from false w.entry (p + 16) t in
        let behind : HasAt w.code (p + 16) (ts ++ ys) = has_rest w.code p xs (ts ++ ys) has in
        let open_tick : opens (ts ++ ys) ≡ true = (tick_items false true a most (distance_between (w.entry a + 28) l.check) w.entry (p + 16)).front ys o in
        all_land_append w.code p xs ts
        (sign_lands false a [] (items_none false) (λ c e q zs n h k g. tt) w.code w.entry p (ts ++ ys) (omega (arith, near)) has open_tick entries)
        (tick_lands true a most (w.entry a + 28) (p + 16) ys (omega (arith, is)) (omega (arith, near)) behind o)
    enter_lands false true a most p ys is near has o = tick_lands false a most (w.entry a + 20) p ys (omega (arith, is)) (omega (arith, near)) has o
    enter_lands false false a most p ys is near has o = tt

    -- a block
    block_lands :
        (b : Block) (p : ℕ) (ys : List Ins) → AllPieces b.body → GoodEnd b.end → w.entry b.start ≡ p → p + 4 * length (instructions_from false w.entry p (block_items s b)) + 128 < 2 ^ 64
        → HasAt w.code p (instructions_from false w.entry p (block_items s b) ++ ys) → opens ys ≡ true → AllLand w.code p (instructions_from false w.entry p (block_items s b))
    block_lands b p ys f g is near has o =
        let t = s.enter b.start in
        let body = body_of s b.body b.end b.start in
        let ts = instructions_from false w.entry p t in
        let next = p + 4 * length (instructions_from false w.entry p (s.enter b.start)) in
        let bs = instructions_from false w.entry next body in
        let whole : instructions_from false w.entry p (t ++ body) ≡ ts ++ bs = instructions_then false w.entry p t body in
        let count = ap length whole ∙ length-append ts bs in
        let split : HasAt w.code p (ts ++ (bs ++ ys)) = subst (HasAt w.code p) (ap (λ k. k ++ ys) whole ∙ append_assoc ts bs ys) has in
        let open_body : opens (bs ++ ys) ≡ true = (body_items b f g w.entry next).front ys o in
        let first = enter_lands l.land (l.ticks b.start) b.start (l.most b.start) p (bs ++ ys) is (omega (arith, near)) split open_body in
        let second = body_lands b f g w.code w.entry next ys (omega (arith, near, count)) (has_rest w.code p ts (bs ++ ys) split) o entries in
        subst (AllLand w.code p) (sym whole) (all_land_append w.code p ts bs first second)

    pub entries_land :
        (bs : List Block) (p : ℕ) → AllBlocks bs → p + 4 * length (instructions_from false w.entry p (entries_of s bs)) + 128 < 2 ^ 64 → Reads false w.code w.entry p (entries_of s bs ++ stub)
        → AllLand w.code p (instructions_from false w.entry p (entries_of s bs))
    entries_land [] p f near r = tt
    entries_land (b ∷ bs) p f near r =
        let x = instructions_from false w.entry p (block_items s b) in
        let next = p + 4 * length (instructions_from false w.entry p (block_items s b)) in
        let y = instructions_from false w.entry next (entries_of s bs) in
        let whole : instructions_from false w.entry p (entries_of s (b ∷ bs)) ≡ x ++ y = instructions_then false w.entry p (block_items s b) (entries_of s bs) in
        let count = ap length whole ∙ length-append x y in
        let has : HasAt w.code p (x ++ (y ++ stub_words)) = subst (HasAt w.code p) (ap (λ k. k ++ stub_words) whole ∙ append_assoc x y stub_words) (stands (b ∷ bs) p r) in
        let first = block_lands b p (y ++ stub_words) f.0 f.1 r.0 (omega (arith, near, count)) has (free bs next f.2) in
        let second = entries_land bs next f.2 (omega (arith, near, count)) (rest_of b bs p r) in
        subst (AllLand w.code p) (sym whole) (all_land_append w.code p x y first second)
