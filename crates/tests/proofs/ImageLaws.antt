-- The image of a file: its segments and as they are loaded, where they stand, and the segments in ascending order.
use Rattle.std.proofs.Common.{◌≡◌, inl, inr, ⊎_elim, ℕ, ◌+◌, ◌*◌, ◌/◌, ◌%◌, ◌<◌, ◌≤◌, Bool, true, false, cond, List, [], ◌∷◌, length, refl, sym, ap, ◌∙◌, subst, arith}
use Rattle.std.specs.Prelude.{nat_lt, nat_le, ◌==◌}
use Rattle.std.proofs.lemmas.Bool.{eqb-true, eq-eqb, ltb-true, lt-ltb, and_parts, and_from, false≢true}
use Rattle.machine.specs.Memory.{Flags, flags_of}
use Rattle.machine.specs.Program.{LoadSegment}
use Rattle.machine.specs.Loading.{load_segment, load_segments}
use Rattle.tests.specs.Admission.Terms.{Segment, is_in_image, image_segments}
use Rattle.tests.specs.Admission.DataRanges.{AreJoined, data_parts, data_ranges, DataRangesAreJoined}
use Rattle.tests.specs.Admission.Places.{low_of, high_of, base_of, insert_segment, by_address}
use Rattle.machine.specs.Cells.{has}
use Rattle.machine.proofs.Lemmas.{AllSized, among-filter, among-kept, has_parts}
use Rattle.machine.specs.Members.{Among}
use Rattle.tests.proofs.DataRangesLaws.{AllRoom, are_data_ranges, joined_only}

-- ---- segments as they are loaded
-- a segment of type PT_LOAD is loaded
load_step :
    (s : Segment) (ss : List Segment) (l : LoadSegment) → (s.kind ≡ 1 → Among l (load_segment s ∷ load_segments ss))
    → ((s.kind == 1) ≡ false → Among l (load_segments ss)) → Among l (load_segments (s ∷ ss))
load_step s ss l here later = elim (s.kind == 1) as (λ b. (s.kind == 1) ≡ b → Among l (cond b (load_segment s ∷ load_segments ss) (load_segments ss))) [ true ↦ λ e. here (eqb-true s.kind 1 e) | false ↦ λ e. later e ] refl

pub among_load : (s : Segment) (ss : List Segment) → s.kind ≡ 1 → Among s ss → Among (load_segment s) (load_segments ss)
among_load s [] k m = absurd m
among_load s (t ∷ ss) k m =
    load_step t ss (load_segment s)
    (λ h. ⊎_elim (λ e. inl (ap load_segment e)) (λ r. inr (among_load s ss k r)) m)
    (λ n. ⊎_elim (λ e. absurd (false≢true (sym n ∙ eq-eqb t.kind 1 (ap (λ x. x.kind) (sym e) ∙ k)))) (λ r. among_load s ss k r) m)

-- the segment that a loaded one is
pub record LoadSource (ss : List Segment) (l : LoadSegment) : Type 0 where
  pub segment : Segment
  pub among : Among segment ss
  pub kind : segment.kind ≡ 1
  pub is : l ≡ load_segment segment

load_later : (s : Segment) (ss : List Segment) (l : LoadSegment) → LoadSource ss l → LoadSource (s ∷ ss) l
load_later s ss l o = record { segment = o.segment; among = inr o.among; kind = o.kind; is = o.is }

load_source_step :
    (s : Segment) (ss : List Segment) (l : LoadSegment) → (Among l (load_segments ss) → LoadSource ss l) → (b : Bool) → (s.kind == 1) ≡ b
    → Among l (cond b (load_segment s ∷ load_segments ss) (load_segments ss)) → LoadSource (s ∷ ss) l
load_source_step s ss l rec true e m = ⊎_elim (λ d. record { segment = s; among = inl refl; kind = eqb-true s.kind 1 e; is = d }) (λ r. load_later s ss l (rec r)) m
load_source_step s ss l rec false e m = load_later s ss l (rec m)

pub load_source : (ss : List Segment) (l : LoadSegment) → Among l (load_segments ss) → LoadSource ss l
load_source [] l m = absurd m
load_source (s ∷ ss) l m = load_source_step s ss l (load_source ss l) (s.kind == 1) refl m

-- no file has more bytes of a segment than its size
pub all_sized_among : (ss : List LoadSegment) → ((s : LoadSegment) → Among s ss → length s.bytes ≤ s.size) → AllSized ss
all_sized_among [] h = tt
all_sized_among (s ∷ ss) h = (h s (inl refl), all_sized_among ss (λ t m. h t (inr m)))

-- ---- the image
pub image_parts : (s : Segment) (ss : List Segment) → Among s (image_segments ss) → Among s ss × (s.kind ≡ 1) × (0 < s.memory)
image_parts s ss m =
    let k = among-kept is_in_image s ss m in
    let p = and_parts (s.kind == 1) (nat_lt 0 s.memory) k.1 in
    (k.0, eqb-true s.kind 1 p.0, ltb-true 0 s.memory p.1)

pub in_image : (s : Segment) (ss : List Segment) → Among s ss → s.kind ≡ 1 → 0 < s.memory → Among s (image_segments ss)
in_image s ss m k r = among-filter is_in_image s ss (and_from (s.kind == 1) (nat_lt 0 s.memory) (eq-eqb s.kind 1 k) (lt-ltb 0 s.memory r)) m

room_among : (ss : List Segment) → ((s : Segment) → Among s ss → 0 < s.memory) → AllRoom ss
room_among [] h = tt
room_among (s ∷ ss) h = (h s (inl refl), room_among ss (λ t m. h t (inr m)))

pub image_room : (ss : List Segment) → AllRoom (image_segments ss)
image_room ss = room_among (image_segments ss) (λ s m. (image_parts s ss m).2)

-- so its data ranges are the joined ones
pub joined_data : DataRangesAreJoined
joined_data f ranges =
    let is = are_data_ranges (image_segments f.segments) (image_room f.segments) in (
      λ j. joined_only (data_parts (image_segments f.segments)) ranges (data_ranges (image_segments f.segments)) j is,
      λ e. subst (AreJoined (data_parts (image_segments f.segments))) (sym e) is,
    )

-- a loaded segment that has an address is of the image
pub record ImageSource (ss : List Segment) (l : LoadSegment) : Type 0 where
  pub segment : Segment
  pub among : Among segment (image_segments ss)
  pub is : l ≡ load_segment segment

pub image_source : (ss : List Segment) (l : LoadSegment) (q : ℕ) → Among l (load_segments ss) → has l q ≡ true → ImageSource ss l
image_source ss l q m h =
    let s = load_source ss l m in
    let p = has_parts l q h in
    let a : l.address ≡ s.segment.address = ap (λ x. x.address) s.is in
    let z : l.size ≡ s.segment.memory = ap (λ x. x.size) s.is in
    record { segment = s.segment; among = in_image s.segment ss s.among s.kind (omega (arith, p.0, p.1, z)); is = s.is }

-- ---- its ends
pub low_least : (s : Segment) (ss : List Segment) → Among s ss → low_of ss ≤ s.address
low_least s [] m = absurd m
low_least s (t ∷ []) m = ⊎_elim (λ e. let a : s.address ≡ t.address = ap (λ x. x.address) e in omega (arith, a)) (λ r. absurd r) m
low_least s (t ∷ u ∷ ss) m = ⊎_elim (λ e. let a : s.address ≡ t.address = ap (λ x. x.address) e in omega (arith, a)) (λ r. let h = low_least s (u ∷ ss) r in omega (arith, h)) m

pub high_most : (s : Segment) (ss : List Segment) → Among s ss → s.address + s.memory ≤ high_of ss
high_most s [] m = absurd m
high_most s (t ∷ ss) m =
    ⊎_elim
    (λ e. let a : s.address ≡ t.address = ap (λ x. x.address) e in let b : s.memory ≡ t.memory = ap (λ x. x.memory) e in omega (arith, a, b))
    (λ r. let h = high_most s ss r in omega (arith, h))
    m

pub base_low : (s : Segment) (ss : List Segment) → Among s ss → base_of ss ≤ s.address
base_low s ss m = let h = low_least s ss m in omega (arith, h)

-- ---- in ascending order
insert_step : (s t x : Segment) (ts : List Segment) → Among x (s ∷ t ∷ ts) → Among x (t ∷ insert_segment s ts) → Among x (insert_segment s (t ∷ ts))
insert_step s t x ts a b = elim (nat_le s.address t.address) as (λ c. Among x (cond c (s ∷ t ∷ ts) (t ∷ insert_segment s ts))) [ true ↦ a | false ↦ b ]

pub among-insert : (s : Segment) (ts : List Segment) (x : Segment) → Among x (s ∷ ts) → Among x (insert_segment s ts)
among-insert s [] x m = m
among-insert s (t ∷ ts) x m =
    insert_step s t x ts m
    (⊎_elim (λ e. inr (among-insert s ts x (inl e))) (λ r. ⊎_elim (λ e. inl e) (λ k. inr (among-insert s ts x (inr k))) r) m)

insert_among_step :
    (s t x : Segment) (ts : List Segment) → (Among x (insert_segment s ts) → Among x (s ∷ ts)) → (c : Bool)
    → Among x (cond c (s ∷ t ∷ ts) (t ∷ insert_segment s ts)) → Among x (s ∷ t ∷ ts)
insert_among_step s t x ts rec true m = m
insert_among_step s t x ts rec false m = ⊎_elim (λ e. inr (inl e)) (λ r. ⊎_elim (λ e. inl e) (λ k. inr (inr k)) (rec r)) m

pub insert_among : (s : Segment) (ts : List Segment) (x : Segment) → Among x (insert_segment s ts) → Among x (s ∷ ts)
insert_among s [] x m = m
insert_among s (t ∷ ts) x m = insert_among_step s t x ts (insert_among s ts x) (nat_le s.address t.address) m

pub among-ordered : (ss : List Segment) (x : Segment) → Among x ss → Among x (by_address ss)
among-ordered [] x m = m
among-ordered (s ∷ ss) x m = among-insert s (by_address ss) x (⊎_elim (λ e. inl e) (λ r. inr (among-ordered ss x r)) m)

pub ordered_among : (ss : List Segment) (x : Segment) → Among x (by_address ss) → Among x ss
ordered_among [] x m = m
ordered_among (s ∷ ss) x m = ⊎_elim (λ e. inl e) (λ r. inr (ordered_among ss x r)) (insert_among s (by_address ss) x m)

-- ---- permissions
-- the permissions without PF_X
abbrev pub unexecuted : Flags → Flags
unexecuted f = record { read = f.read; write = f.write; execute = false }

pub flags-unexecuted : (n : ℕ) → flags_of (n / 2 * 2) ≡ unexecuted (flags_of n)
flags-unexecuted n =
    let a : n / 2 * 2 / 4 ≡ n / 4 = omega arith in
    let b : n / 2 * 2 / 2 ≡ n / 2 = omega arith in
    let c : n / 2 * 2 % 2 ≡ 0 = omega arith in
    λ i. record { read = a i % 2 == 1; write = b i % 2 == 1; execute = c i == 1 }
