-- The segments of a data range, laid one behind another, are the range as one segment.
use Rattle.std.proofs.Common.{◌≡◌, ◌⊎◌, inl, inr, ⊎_elim, ℕ, ◌+◌, ◌-◌, ◌<◌, ◌≤◌, Bool, true, false, cond, ◌&&◌, List, [], ◌∷◌, ◌++◌, length, map, replicate, Option, Some, None, refl, sym, ap, ◌∙◌, subst, arith, length-append}
use Rattle.std.specs.Prelude.{nat_lt, nat_le, filter, slice_index}
use Rattle.std.specs.List.{list_any}
use Rattle.std.proofs.lemmas.Bool.{true_from_ne_false, leb-true, ltb-true, lt-ltb, and_parts, cases_lt, false≢true}
use Rattle.std.proofs.lemmas.Bool.Decides.{nat_tests}
use Rattle.std.proofs.lemmas.List.{get_or_append_left, get_or-append_right, get_or-replicate, length-replicate, ext_get_or}
use Rattle.tests.specs.declared.range.Range.{Range}
use Rattle.machine.specs.Memory.{Cell, byte_in}
use Rattle.machine.specs.Loading.{load_segment, load_segments, Segment}
use Rattle.machine.specs.Cells.{has, cell_at, cell_among, byte_among}
use Rattle.tests.specs.Admission.DataRanges.{is_written, is_data, data_segments, data_ranges, is_in}
use Rattle.qed_model.specs.Weave.OutputFile.{data_in, range_flags, file_end, range_bytes, range_segment}
use Rattle.machine.proofs.Lemmas.{length-each, among-filter, among-kept, any_passing, passing, has_from, has_parts, found_among, among_agreed}
use Rattle.qed_model.proofs.Lemmas.{same_tests, data_range, not_mixed, index_past, index_each, file_end_from, file_end_most, file_end_step}
use Rattle.machine.specs.Members.{Among}
use Rattle.tests.proofs.Lemmas.{spaced_from, in_from, in_parts, among_load, load_source}
use Rattle.output_file.specs.Images.{IsImage}
use Rattle.output_file.specs.Laid.{laid}
use Rattle.output_file.specs.Runs.{run_of, has_bytes, placed_bytes, run_bytes, run_segment}
use Rattle.output_file.proofs.Images.{parts, unmixed, sized, alone, spaced}
use Rattle.output_file.proofs.Orders.{Rise, rise_from, rise-filter}

-- ---- bytes that are laid
-- each segment begins behind the bytes of the one before it
abbrev Follow : ℕ → List Segment → Type 0
Follow at [] = Unit {0}
Follow at (s ∷ ss) = (at ≤ s.address) × Follow (s.address + length s.bytes) ss

abbrev filed : Segment → ℕ → Bool
filed s q = nat_le s.address q && nat_lt q (s.address + length s.bytes)

-- the byte that segments have in the file at an address
abbrev file_byte : List Segment → ℕ → ℕ
file_byte [] q = 0
file_byte (s ∷ ss) q = cond (filed s q) (slice_index s.bytes (q - s.address)) (file_byte ss q)

filed_parts : (s : Segment) (q : ℕ) → filed s q ≡ true → (s.address ≤ q) × (q < s.address + length s.bytes)
filed_parts s q e = let p = and_parts (nat_le s.address q) (nat_lt q (s.address + length s.bytes)) e in (leb-true s.address q p.0, ltb-true q (s.address + length s.bytes) p.1)

filed_not : (s : Segment) (q : ℕ) → (q < s.address) ⊎ (s.address + length s.bytes ≤ q) → filed s q ≡ false
filed_not s q h = ⊎_elim (λ x. grind (arith, nat_tests)) (λ x. grind (arith, nat_tests)) h

byte_low : (at q : ℕ) (ss : List Segment) → Follow at ss → q < at → file_byte ss q ≡ 0
byte_low at q [] f h = refl
byte_low at q (s ∷ ss) f h = rw (filed_not s q (inl (omega (arith, h, f.0)))) (byte_low (s.address + length s.bytes) q ss f.1 (omega (arith, h, f.0)))

-- the parts of laid bytes: zeros, the bytes of the first segment, and the rest
zeros_then : (n : ℕ) (xs ys : List ℕ) (k : ℕ) → k < n → slice_index (replicate n 0 ++ (xs ++ ys)) k ≡ 0
zeros_then n xs ys k h = get_or_append_left (replicate n 0) (xs ++ ys) 0 k (rw length-replicate h) ∙ get_or-replicate n k 0 0 h

then_first : (n : ℕ) (xs ys : List ℕ) (k : ℕ) → n ≤ k → k < n + length xs → slice_index (replicate n 0 ++ (xs ++ ys)) k ≡ slice_index xs (k - n)
then_first n xs ys k h g = get_or-append_right (replicate n 0) (xs ++ ys) n k 0 (length-replicate n 0) h ∙ get_or_append_left xs ys 0 (k - n) (omega (arith, h, g))

then_rest : (n : ℕ) (xs ys : List ℕ) (k : ℕ) → n + length xs ≤ k → slice_index (replicate n 0 ++ (xs ++ ys)) k ≡ slice_index ys (k - (n + length xs))
then_rest n xs ys k h =
    let e : k - n - length xs ≡ k - (n + length xs) = omega arith in
    get_or-append_right (replicate n 0) (xs ++ ys) n k 0 (length-replicate n 0) (omega (arith, h)) ∙ get_or-append_right xs ys (length xs) (k - n) 0 refl (omega (arith, h)) ∙ ap (slice_index ys) e

abbrev stands : ℕ → ℕ → List Segment → List ℕ
stands start n ss = laid start n (map placed_bytes ss)

laid_byte : (start n q : ℕ) (ss : List Segment) → Follow (start + n) ss → start + n ≤ q → slice_index (stands start n ss) (q - (start + n)) ≡ file_byte ss q
laid_byte start n q [] f h = refl
laid_byte start n q (s ∷ ss) f h = ⊎_elim before (λ a. ⊎_elim (inside a) (behind (laid_byte start next q ss follow)) (cases_lt q (s.address + length s.bytes))) (cases_lt q s.address) where
  next : ℕ
  next = n + (s.address - start - n) + length s.bytes

  follow : Follow (start + (n + (s.address - start - n) + length s.bytes)) ss
  follow = let e : s.address + length s.bytes ≡ start + (n + (s.address - start - n) + length s.bytes) = omega (arith, f.0) in subst (λ x. Follow x ss) e f.1

  before : q < s.address → slice_index (stands start n (s ∷ ss)) (q - (start + n)) ≡ file_byte (s ∷ ss) q
  before l =
      zeros_then (s.address - start - n) s.bytes (stands start (n + (s.address - start - n) + length s.bytes) ss) (q - (start + n)) (omega (arith, h, l))
      ∙ sym (rw (filed_not s q (inl l)) (byte_low (s.address + length s.bytes) q ss f.1 (omega (arith, l))))

  inside : s.address ≤ q → q < s.address + length s.bytes → slice_index (stands start n (s ∷ ss)) (q - (start + n)) ≡ file_byte (s ∷ ss) q
  inside a l =
      let e : q - (start + n) - (s.address - start - n) ≡ q - s.address = omega (arith, a, f.0) in
      let t : filed s q ≡ true = grind (arith, nat_tests) in
      then_first (s.address - start - n) s.bytes (stands start (n + (s.address - start - n) + length s.bytes) ss) (q - (start + n)) (omega (arith, a, f.0)) (omega (arith, a, l, f.0))
      ∙ ap (slice_index s.bytes) e
      ∙ sym (rw t refl)

  behind : (start + (n + (s.address - start - n) + length s.bytes) ≤ q → slice_index (stands start (n + (s.address - start - n) + length s.bytes) ss) (q - (start + (n + (s.address - start - n) + length s.bytes))) ≡ file_byte ss q) → s.address + length s.bytes ≤ q → slice_index (stands start n (s ∷ ss)) (q - (start + n)) ≡ file_byte (s ∷ ss) q
  behind rec l =
      let e : q - (start + n) - (s.address - start - n + length s.bytes) ≡ q - (start + (n + (s.address - start - n) + length s.bytes)) = omega (arith, f.0, l) in
      then_rest (s.address - start - n) s.bytes (stands start (n + (s.address - start - n) + length s.bytes) ss) (q - (start + n)) (omega (arith, f.0, l))
      ∙ ap (slice_index (stands start (n + (s.address - start - n) + length s.bytes) ss)) e
      ∙ rec (omega (arith, f.0, l))
      ∙ sym (rw (filed_not s q (inr l)) refl)

-- the number of laid bytes
laid_length : (start n : ℕ) (s : Segment) (ss : List Segment) → length (stands start n (s ∷ ss)) ≡ s.address - start - n + (length s.bytes + length (stands start (n + (s.address - start - n) + length s.bytes) ss))
laid_length start n s ss =
    let rest = stands start (n + (s.address - start - n) + length s.bytes) ss in
    length-append (replicate (s.address - start - n) 0) (s.bytes ++ rest) ∙ (λ i. length-replicate {A = ℕ} (s.address - start - n) 0 i + length-append s.bytes rest i)

laid_below : (start n top : ℕ) (ss : List Segment) → Follow (start + n) ss → start + n ≤ top → ((s : Segment) → Among s ss → s.address + length s.bytes ≤ top) → start + n + length (stands start n ss) ≤ top
laid_below start n top [] f h g = omega (arith, h)
laid_below start n top (s ∷ ss) f h g =
    let here = g s (inl refl) in
    let e : s.address + length s.bytes ≡ start + (n + (s.address - start - n) + length s.bytes) = omega (arith, f.0) in
    let rec = laid_below start (n + (s.address - start - n) + length s.bytes) top ss (subst (λ x. Follow x ss) e f.1) (omega (arith, here, e)) (λ t m. g t (inr m)) in
    let l = laid_length start n s ss in
    omega (arith, rec, l, f.0)

laid_above : (start n : ℕ) (ss : List Segment) (s : Segment) → Follow (start + n) ss → Among s ss → s.address + length s.bytes ≤ start + n + length (stands start n ss)
laid_above start n [] s f m = absurd m
laid_above start n (t ∷ ss) s f m =
    let l = laid_length start n t ss in
    let e : t.address + length t.bytes ≡ start + (n + (t.address - start - n) + length t.bytes) = omega (arith, f.0) in
    ⊎_elim
    (λ is. let p : s.address + length s.bytes ≡ t.address + length t.bytes = ap (λ x. x.address + length x.bytes) is in omega (arith, p, l, f.0))
    (λ r. let rec = laid_above start (n + (t.address - start - n) + length t.bytes) ss s (subst (λ x. Follow x ss) e f.1) r in omega (arith, rec, l, f.0))
    m

-- ---- the end of the bytes
end_below : (start top : ℕ) (ss : List Segment) → start ≤ top → ((t : Segment) → Among t ss → 0 < length t.bytes → t.address + length t.bytes ≤ top) → file_end start ss ≤ top
end_below start top [] h k = h
end_below start top (s ∷ ss) h k =
    let rest = end_below start top ss h (λ t m. k t (inr m)) in
    file_end_step start s ss (λ n. n ≤ top) (λ l. let here = k s (inl refl) l in omega (arith, here, rest)) (λ l. rest)

-- ---- the segment that has an address in the file
record Holder (ss : List Segment) (q : ℕ) : Type 0 where
  segment : Segment
  among : Among segment ss
  holds : filed segment q ≡ true
  byte : file_byte ss q ≡ slice_index segment.bytes (q - segment.address)

-- no segment has the address
record IsFree (ss : List Segment) (q : ℕ) : Type 0 where
  none : (s : Segment) → Among s ss → filed s q ≡ false
  zero_byte : file_byte ss q ≡ 0

holder : (ss : List Segment) (q : ℕ) → Holder ss q ⊎ IsFree ss q
holder [] q = inr (record { none = λ s m. absurd m; zero_byte = refl })
holder (s ∷ ss) q = by (filed s q) refl (holder ss q) where
  by : (b : Bool) → filed s q ≡ b → Holder ss q ⊎ IsFree ss q → Holder (s ∷ ss) q ⊎ IsFree (s ∷ ss) q
  by true e rec = inl (record { segment = s; among = inl refl; holds = e; byte = rw e refl })
  by false e rec =
      ⊎_elim
      (λ h. inl (record { segment = h.segment; among = inr h.among; holds = h.holds; byte = rw e h.byte }))
      (λ f. inr (record { none = λ t m. ⊎_elim (λ is. ap (λ x. filed x q) is ∙ e) (λ r. f.none t r) m; zero_byte = rw e f.zero_byte }))
      rec

any_same : {A : Type 0} (p : A → Bool) (xs ys : List A) → ((x : A) → Among x xs → Among x ys) → ((x : A) → Among x ys → Among x xs) → list_any p xs ≡ list_any p ys
any_same p xs ys h g =
    same_tests _ _
    (λ e. let x = passing p xs e in any_passing p x.member ys (h x.member x.among) x.passes)
    (λ e. let x = passing p ys e in any_passing p x.member xs (g x.member x.among) x.passes)

-- ---- a range of an image, whose segments stand in ascending order
module _ (image : List Segment) (ranges : List Range) (is : IsImage image ranges) (ordered : List Segment) (rise : Rise 0 ordered) (all : (s : Segment) → Among s image → Among s ordered) (only : (s : Segment) → Among s ordered → Among s image) (r : ℕ × ℕ) (member : Among r (data_ranges image)) where
  abbrev run : List Segment
  run = run_of ordered r

  abbrev filled : List Segment
  filled = filter has_bytes run

  begins : (s : Segment) → Among s run → Among s image × (is_in r s.address ≡ true)
  begins s m = let p = among-kept (λ t. is_in r t.address) s ordered m in (only s p.0, p.1)

  is_data_here : (s : Segment) → Among s image → is_in r s.address ≡ true → is_data image s ≡ true
  is_data_here s m i = true_from_ne_false (is_data image s) (λ d. let p = parts image ranges is s m in not_mixed image is.segments is.image_is (unmixed image ranges is) s r s.address m d member (omega arith) (omega (arith, p.2)) i)

  run_data : (s : Segment) → Among s run → Among s (data_in image r)
  run_data s m = let p = begins s m in among-filter (λ t. is_in r t.address) s (data_segments image) p.1 (among-filter (is_data image) s image (is_data_here s p.0 p.1) p.0)

  data_run : (s : Segment) → Among s (data_in image r) → Among s run
  data_run s m =
      let x = among-kept (λ t. is_in r t.address) s (data_segments image) m in
      let y = among-kept (is_data image) s image x.0 in
      among-filter (λ t. is_in r t.address) s ordered x.1 (all s y.0)

  flags_same : range_flags run ≡ range_flags (data_in image r)
  flags_same = ap (λ b. cond b 6 4) (any_same is_written run (data_in image r) run_data data_run)

  -- ---- the segments follow one another
  some : r.0 < r.1
  some = (spaced_from 0 (data_ranges image) r (spaced image ranges is) member).1

  -- the next segment begins behind the end
  next_behind : (s t : Segment) → Among s image → Among t image → s.address < t.address → s.address + s.memory ≤ t.address
  next_behind s t m k lt =
      ⊎_elim
      (λ x.
      let p = parts image ranges is t k in
      let e : s ≡ t = alone image ranges is s t t.address m k (omega (arith, lt)) x (omega arith) (omega (arith, p.2)) in
      let a : s.address ≡ t.address = ap (λ u. u.address) e in
      absurd (omega (arith, a, lt)))
      (λ x. x)
      (cases_lt t.address (s.address + s.memory))

  follows : (low : ℕ) (ss : List Segment) → Rise low ss → ((s : Segment) → Among s ss → Among s image) → (at : ℕ) → ((s : Segment) → Among s ss → at ≤ s.address) → Follow at ss
  follows low [] f m at h = tt
  follows low (s ∷ ss) f m at h = (
    h s (inl refl),
    follows (s.address + 1) ss f.1 (λ t k. m t (inr k)) (s.address + length s.bytes) (λ t k.
        let up = rise_from (s.address + 1) ss t f.1 k in
        let size = sized image ranges is s (m s (inl refl)) in
        let b = next_behind s t (m s (inl refl)) (m t (inr k)) (omega (arith, up)) in
        omega (arith, size, b)),
  )

  in_filled : (s : Segment) → Among s filled → Among s run × (0 < length s.bytes)
  in_filled s m = let p = among-kept has_bytes s run m in (p.0, ltb-true 0 (length s.bytes) p.1)

  follow : Follow (r.0 + 0) filled
  follow =
      follows 0 filled (rise-filter 0 has_bytes run (rise-filter 0 (λ t. is_in r t.address) ordered rise)) (λ s m. (begins s (in_filled s m).0).0) (r.0 + 0)
      (λ s m. let p = in_parts r s.address (begins s (in_filled s m).0).1 in omega (arith, p.0))

  -- ---- how many bytes there are
  abbrev bytes : List ℕ
  bytes = run_bytes r.0 run

  end_is : file_end r.0 (data_in image r) ≡ r.0 + length bytes
  end_is =
      let top = file_end r.0 (data_in image r) in
      let from = file_end_from r.0 (data_in image r) in
      let a = laid_below r.0 0 top filled follow (omega (arith, from)) (λ s m. let p = in_filled s m in file_end_most r.0 (data_in image r) s (run_data s p.0) p.1) in
      let b = end_below r.0 (r.0 + length bytes) (data_in image r) (omega arith) (λ t m l. let p = laid_above r.0 0 filled t follow (among-filter has_bytes t run (lt-ltb 0 (length t.bytes) l) (data_run t m)) in omega (arith, p)) in
      omega (arith, a, b)

  end_low : file_end r.0 (data_in image r) ≤ r.1
  end_low = end_below r.0 r.1 (data_in image r) (omega (arith, some)) (λ t m l.
      let p = begins t (data_run t m) in
      let q = parts image ranges is t p.0 in
      let e = data_range image is.segments is.image_is (unmixed image ranges is) t r t.address p.0 (is_data_here t p.0 p.1) member (omega arith) (omega (arith, q.2)) p.1 in
      let s = sized image ranges is t p.0 in
      omega (arith, e.1, s))

  -- ---- the bytes
  -- the image has the bytes of each of its segments
  image_cell : (s : Segment) (q : ℕ) → Among s image → s.address ≤ q → q < s.address + s.memory → cell_among (load_segments image) q ≡ Some (cell_at (load_segment s) q)
  image_cell s q m a b =
      let p = parts image ranges is s m in
      among_agreed (load_segments image) q (cell_at (load_segment s) q)
      (λ l k g.
      let o = load_source image l k in
      let h = has_parts (load_segment o.segment) q (sym (ap (λ x. has x q) o.is) ∙ g) in
      let e : o.segment ≡ s = alone image ranges is o.segment s q o.among m h.0 h.1 a b in
      ap (λ x. cell_at x q) (o.is ∙ ap load_segment e))
      (load_segment s) (among_load s image p.1 m) (has_from (load_segment s) q a b)

  free_byte : (q : ℕ) → is_in r q ≡ true → ((s : Segment) → Among s filled → filed s q ≡ false) → (o : Option Cell) → cell_among (load_segments image) q ≡ o → byte_in o ≡ 0
  free_byte q i none None e = refl
  free_byte q i none (Some c) e =
      let f = found_among (load_segments image) q c e in
      let o = load_source image f.segment f.among in
      let h = has_parts (load_segment o.segment) q (sym (ap (λ x. has x q) o.is) ∙ f.holds) in
      let at : c.byte ≡ slice_index o.segment.bytes (q - o.segment.address) = ap (λ t. t.byte) f.cell_is ∙ ap (λ t. slice_index t.bytes (q - t.address)) o.is in
      at ∙ past o.segment o.among h.0 h.1 (cases_lt q (o.segment.address + length o.segment.bytes)) where
        past : (x : Segment) → Among x image → x.address ≤ q → q < x.address + x.memory → (q < x.address + length x.bytes) ⊎ (x.address + length x.bytes ≤ q) → slice_index x.bytes (q - x.address) ≡ 0
        past x m a b (inr l) = index_past x.bytes (q - x.address) (omega (arith, a, l))
        past x m a b (inl l) = absurd (false≢true (sym (none x (among-filter has_bytes x run (lt-ltb 0 (length x.bytes) (omega (arith, a, l))) (in_run x m a b))) ∙ now)) where
          now : filed x q ≡ true
          now = grind (arith, nat_tests)

          in_run : (x : Segment) → Among x image → x.address ≤ q → q < x.address + x.memory → Among x run
          in_run x m a b =
              let d = true_from_ne_false (is_data image x) (λ n. not_mixed image is.segments is.image_is (unmixed image ranges is) x r q m n member a b i) in
              let p = data_range image is.segments is.image_is (unmixed image ranges is) x r q m d member a b i in let y = in_parts r q i in among-filter (λ t. is_in r t.address) x ordered (in_from r x.address p.0 (omega (arith, a, y.1))) (all x m)

  file_is_image : (q : ℕ) → is_in r q ≡ true → file_byte filled q ≡ byte_among (load_segments image) q
  file_is_image q i =
      ⊎_elim
      (λ h.
      let p = filed_parts h.segment q h.holds in
      let m = (begins h.segment (in_filled h.segment h.among).0).0 in
      let size = sized image ranges is h.segment m in
      h.byte ∙ sym (ap byte_in (image_cell h.segment q m p.0 (omega (arith, p.1, size)))))
      (λ f. f.zero_byte ∙ sym (free_byte q i f.none (cell_among (load_segments image) q) refl))
      (holder filled q)

  bytes_same : bytes ≡ range_bytes image r
  bytes_same =
      let f = λ (k : ℕ). byte_among (load_segments image) (r.0 + k) in
      let n = file_end r.0 (data_in image r) - r.0 in
      let size : length bytes ≡ length (range_bytes image r) = let l = length-each n f in omega (arith, end_is, l) in
      ext_get_or 0 bytes (range_bytes image r) size (λ k lt.
      let e : r.0 + k - (r.0 + 0) ≡ k = omega arith in
      let i : is_in r (r.0 + k) ≡ true = in_from r (r.0 + k) (omega arith) (omega (arith, lt, end_is, end_low)) in
      let below : k < n = omega (arith, lt, end_is) in
      sym (ap (slice_index bytes) e) ∙ laid_byte r.0 0 (r.0 + k) filled follow (omega arith) ∙ file_is_image (r.0 + k) i ∙ sym (index_each n f k below))

  pub run_is : run_segment ordered r ≡ range_segment image r
  run_is = λ i. record { kind = 1; flags = flags_same i; address = r.0; memory = r.1 - r.0; bytes = bytes_same i }
