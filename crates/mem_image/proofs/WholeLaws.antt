-- Accesses whose bytes all lie in one segment.
use Rattle.std.proofs.Common.{◌≡◌, ℕ, zero, suc, ◌+◌, ◌-◌, ◌*◌, ◌^◌, ◌%◌, ◌<◌, ◌≤◌, Bool, true, false, List, [], ◌∷◌, length, Some, None, refl, sym, ap, ◌∙◌, arith, add-zero, add-one, set, length-set, get_or, get_or-set_same, Result, Ok, Err, IfErr}
use Rattle.std.proofs.Math.Nat.{pow-suc, pow-le-pow_right, mul_assoc, mul-le-mul_right}
use Rattle.std.specs.Prelude.{slice_index, slice_get}
use Rattle.std.proofs.lemmas.Bool.{leb-true, ltb-true, and_parts, false_from_ne_true}
use Rattle.std.proofs.lemmas.Option.{get_or_from_slice_get, slice_get_within}
use Rattle.std.proofs.lemmas.Bool.Decides.{nat_tests}
use Rattle.machine.specs.Memory.{byte_of, Flags, Memory, wrap, allows, grants, number, poked, put, get}
use Rattle.machine.specs.Program.{LoadSegment, memory_of}
use Rattle.std.proofs.lemmas.List.{set-set, set-get_or, get_or_default}
use Rattle.machine.proofs.Lemmas.{grants_from, put_none, put-more, byte_of_cell, has_from, shared}
use Rattle.machine.specs.Apart.{FitsMemory, AllFitMemory, AreApart}
use Rattle.machine.specs.Cells.{cell_at, has}
use Rattle.mem_image.specs.Segments.{has_all, number_in, with_byte_at, with_bytes_at, IsWholeAt, IsLike}
use Rattle.mem_image.specs.Access.{allowed_number}
use Rattle.mem_image.specs.Fixed.{HasCells}
use Rattle.mem_image.proofs.NumberLaws.{byte_power}
use Rattle.mem_image.specs.Overlap.{Ascends, AreImage}
use Rattle.mem_image.proofs.SegmentLaws.{stands_at, IsWhole, get-memory_of, cell_among-first, memory_of-set, all_fit-set, none_past}
use Rattle.mem_image.proofs.OverlapLaws.{ascends-apart}

-- ---- a number from the bytes of a list
-- the lowest t bytes from place i on were read, and make v
pub record Gathered (bs : List ℕ) (i t v : ℕ) : Type 0 where
  pub is : v ≡ number_in bs i t
  pub small : v < 256 ^ t

pub gathered_none : (bs : List ℕ) (i : ℕ) → Gathered bs i 0 0
unfolding number_in
gathered_none bs i = record { is = refl; small = omega arith }

number_in-behind : (bs : List ℕ) (i t : ℕ) → number_in bs i (suc t) ≡ number_in bs i t + slice_index bs (i + t) * 256 ^ t
unfolding number_in
number_in-behind bs i zero = let here : i + 0 ≡ i = add-zero i in rw here (omega arith)
number_in-behind bs i (suc t) =
    let rest = number_in-behind bs (i + 1) t in
    let place : i + 1 + t ≡ i + suc t = omega arith in
    let power : slice_index bs (i + suc t) * 256 ^ suc t ≡ slice_index bs (i + suc t) * 256 ^ t * 256 = ap (λ p. slice_index bs (i + suc t) * p) (pow-suc 256 t) ∙ sym (mul_assoc (slice_index bs (i + suc t)) (256 ^ t) 256) in
    rw (rest, place, power) (omega arith)

-- a byte at its place in a number of 64 bits
shifted : (b t : ℕ) → b < 256 → t < 8 → (b * 256 ^ t ≤ 255 * 256 ^ t) × (b * 2 ^ (8 * t) % 2 ^ 64 ≡ b * 256 ^ t)
shifted b t l k =
    let most : b * 256 ^ t ≤ 255 * 256 ^ t = mul-le-mul_right (256 ^ t) (omega (arith, l)) in
    let top : 256 ^ t ≤ 256 ^ 7 = pow-le-pow_right {n = 256} (omega arith) {i = t} {j = 7} (omega (arith, k)) in
    let power = byte_power t in
    (most, rw power (omega (arith, most, top)))

pub gathered_more : (bs : List ℕ) (i t v b : ℕ) → Gathered bs i t v → t < 8 → b ≡ slice_index bs (i + t) → b < 256 → Gathered bs i (t + 1) (v + b * 2 ^ (8 * t) % 2 ^ 64)
gathered_more bs i t v b h l e k =
    let s = shifted b t k l in
    let most = s.0 in
    let low = h.small in
    let power : 256 ^ suc t ≡ 256 ^ t * 256 = pow-suc 256 t in
    let behind : v + b * 256 ^ t ≡ number_in bs i (suc t) = ap (λ n. n + b * 256 ^ t) h.is ∙ ap (λ x. number_in bs i t + x * 256 ^ t) e ∙ sym (number_in-behind bs i t) in
    rw (s.1, add-one) (record { is = behind; small = omega (arith, most, low, power) })

-- one byte more fits 64 bits
pub gathered_fits : (bs : List ℕ) (i t v b : ℕ) → Gathered bs i t v → t < 8 → b < 256 → v + b * 2 ^ (8 * t) % 2 ^ 64 < 2 ^ 64
gathered_fits bs i t v b h l k =
    let s = shifted b t k l in
    let most = s.0 in
    let low = h.small in
    let top : 256 ^ t ≤ 256 ^ 7 = pow-le-pow_right {n = 256} (omega arith) {i = t} {j = 7} (omega (arith, l)) in
    rw s.1 (omega (arith, most, low, top))

-- ---- the addresses of a segment
pub spans : (s : LoadSegment) (a n : ℕ) → has_all s a n ≡ true → (s.address ≤ a) × (a + n ≤ s.address + s.size)
spans s a n h =
    let p = and_parts _ _ h in
    let q = and_parts _ _ p.0 in
    let low = leb-true _ _ q.0 in
    let near = ltb-true _ _ q.1 in
    let room = leb-true _ _ p.1 in
    (low, omega (arith, low, near, room))

-- a segment with some bytes from an address on has each smaller number of them
pub has_fewer : (s : LoadSegment) (a m n : ℕ) → has_all s a m ≡ true → n ≤ m → has_all s a n ≡ true
has_fewer s a m n h l = grind (arith, nat_tests)

pub has_span : (s : LoadSegment) (a n q : ℕ) → s.address ≤ a → a + n ≤ s.address + s.size → a ≤ q → q < a + n → has s q ≡ true
has_span s a n q low room above below = has_from s q (omega arith) (omega arith)

-- ---- several bytes are written
pub address-with_bytes : (s : LoadSegment) (a n v : ℕ) → (with_bytes_at s a n v).address ≡ s.address
unfolding with_bytes_at
address-with_bytes s a zero v = refl
address-with_bytes s a (suc n) v = address-with_bytes s a n v

pub size-with_bytes : (s : LoadSegment) (a n v : ℕ) → (with_bytes_at s a n v).size ≡ s.size
unfolding with_bytes_at
size-with_bytes s a zero v = refl
size-with_bytes s a (suc n) v = size-with_bytes s a n v

pub length-with_bytes : (s : LoadSegment) (a n v : ℕ) → length (with_bytes_at s a n v).bytes ≡ length s.bytes
unfolding with_bytes_at
length-with_bytes s a zero v = refl
length-with_bytes s a (suc n) v = length-set _ _ _ ∙ length-with_bytes s a n v

pub has-with_bytes : (s : LoadSegment) (a n v q : ℕ) → has (with_bytes_at s a n v) q ≡ has s q
has-with_bytes s a n v q = rw (address-with_bytes s a n v, size-with_bytes s a n v) refl

-- ---- segments that share nothing
-- an address has one segment
pub before_apart : (ss : List LoadSegment) (k : ℕ) (s : LoadSegment) (q : ℕ) → AreApart ss → slice_get ss k ≡ Some s → has s q ≡ true → (j : ℕ) (p : LoadSegment) → j < k → slice_get ss j ≡ Some p → has p q ≡ false
before_apart ss k s q apart at w j p h e = false_from_ne_true (has p q) (λ x. apart j k (record { order = h; first = p; second = s; first_at = e; second_at = at; share = shared p s q x w }))

-- a segment that is replaced by one of the same addresses
ascends-set : (lo : ℕ) (ss : List LoadSegment) (k : ℕ) (s t : LoadSegment) → Ascends lo ss → slice_get ss k ≡ Some s → t.address ≡ s.address → t.size ≡ s.size → Ascends lo (set ss k t)
ascends-set lo [] k s t h e a z = tt
ascends-set lo (x ∷ xs) zero s t h e a z =
    let is : x ≡ s = cc in
    let both : (lo ≤ s.address) × Ascends (s.address + s.size) xs = rw is at h in
    (rw a both.0, rw (a, z) both.1)
ascends-set lo (x ∷ xs) (suc k) s t h e a z = (h.0, ascends-set (x.address + x.size) xs k s t h.1 e a z)

pub sound_like : (ss : List LoadSegment) (k : ℕ) (s t : LoadSegment) → AreImage ss → slice_get ss k ≡ Some s → IsLike s t → AreImage (set ss k t)
sound_like ss k s t h e l = record { fit = all_fit-set ss k s t h.fit e l.address l.size l.bytes; ascends = ascends-set 0 ss k s t h.ascends e l.address l.size }

-- a segment whose bytes were put
pub like_put : (s t : LoadSegment) (a n v : ℕ) → t ≡ with_bytes_at s a n v → IsLike s t
like_put s t a n v e = rw e (record { address = address-with_bytes s a n v; size = size-with_bytes s a n v; bytes = length-with_bytes s a n v })

-- ---- a look-up in the segment
-- the segment ends at 2^64 or before
pub fits_at : (ss : List LoadSegment) (k : ℕ) (s : LoadSegment) → AllFitMemory ss → slice_get ss k ≡ Some s → FitsMemory s
fits_at [] k s f e = absurd (cc)
fits_at (x ∷ xs) zero s f e = let is : x ≡ s = cc in rw is at f.0
fits_at (x ∷ xs) (suc k) s f e = fits_at xs k s f.1 e

pub ends : (ss : List LoadSegment) (k : ℕ) (s : LoadSegment) → AllFitMemory ss → slice_get ss k ≡ Some s → s.address + s.size ≤ 2 ^ 64
ends ss k s f e = (fits_at ss k s f e).1

get_whole : (ss : List LoadSegment) (k : ℕ) (s : LoadSegment) (q : ℕ) → AreImage ss → slice_get ss k ≡ Some s → has s q ≡ true → get (memory_of ss) q ≡ Some (cell_at s q)
get_whole ss k s q h e w = get-memory_of ss q h.fit ∙ cell_among-first ss q k s e w (before_apart ss k s q (ascends-apart 0 ss h.ascends) e w)

stands_number : (m : Memory) (s : LoadSegment) (a n : ℕ) → HasCells m s → s.address ≤ a → a + n ≤ s.address + s.size → number m a n ≡ number_in s.bytes (a - s.address) n
unfolding number number_in
stands_number m s a zero h low room = refl
stands_number m s a (suc n) h low room =
    let end = h.ends in
    let same : wrap a ≡ a = omega arith in
    let w = has_span s a (suc n) a low room (omega arith) (omega arith) in
    let next : a + 1 - s.address ≡ a - s.address + 1 = omega arith in
    rw (same, byte_of_cell m a, h.cells a w, stands_number m s (a + 1) n h (omega arith) (omega arith), next) refl

refused_whole : (need : Flags → Bool) (ss : List LoadSegment) (k : ℕ) (s : LoadSegment) (a n : ℕ) → AreImage ss → slice_get ss k ≡ Some s → s.address ≤ a → a + suc n ≤ s.address + s.size → need s.flags ≡ false → grants need (memory_of ss) a (suc n) ≡ false
unfolding grants
refused_whole need ss k s a n h e low room t =
    let end = ends ss k s h.fit e in
    let same : wrap a ≡ a = omega arith in
    rw (same, ap (allows need) (get_whole ss k s a h e (has_span s a (suc n) a low room (omega arith) (omega arith))), t) refl

-- ---- the bytes of an access, by what the code knows
-- the segment that the code reads at the place that was found
pub here_whole : (ss l : List LoadSegment) (a n k : ℕ) (s : LoadSegment) → l ≡ ss → IsWholeAt l a n k → k < length l → s ≡ get_or ss k s → (slice_get ss k ≡ Some s) × (has_all s a n ≡ true)
here_whole ss l a n k s e h below read =
    let stands : slice_get ss k ≡ Some h.segment = rw e at h.stands in
    let inside : k < length ss = rw e at below in
    let here = stands_at ss k s inside read in
    let is : h.segment ≡ s = cc in
    (here, rw is at h.has)

pub here_at : (ss : List LoadSegment) (a n k : ℕ) (d : LoadSegment) → IsWholeAt ss a n k → k < length ss → (slice_get ss k ≡ Some (get_or ss k d)) × (has_all (get_or ss k d) a n ≡ true)
here_at ss a n k d whole below = here_whole ss ss a n k (get_or ss k d) refl whole below (get_or_default ss k d (get_or ss k d) below)

-- a segment of those that make a memory stands in it
pub among_stands : (ss : List LoadSegment) (k : ℕ) (s : LoadSegment) → AreImage ss → slice_get ss k ≡ Some s → HasCells (memory_of ss) s
among_stands ss k s h e = record { cells = λ q w. get_whole ss k s q h e w; ends = ends ss k s h.fit e }

-- an access within a segment that stands in a memory
pub held_granted : (need : Flags → Bool) (m : Memory) (s : LoadSegment) (a n : ℕ) → HasCells m s → has_all s a n ≡ true → need s.flags ≡ true → grants need m a n ≡ true
held_granted need m s a n h w t =
    let room = spans s a n w in
    let end = h.ends in
    grants_from need m a n (λ i l. let same : wrap (a + i) ≡ a + i = omega (arith, room, end, l) in rw same (ap (allows need) (h.cells (a + i) (has_span s a n (a + i) room.0 room.1 (omega arith) (omega arith))) ∙ t))

pub held_number : (m : Memory) (s : LoadSegment) (a n : ℕ) → HasCells m s → has_all s a n ≡ true → number_in s.bytes (a - s.address) n ≡ number m a n
held_number m s a n h w = let room = spans s a n w in sym (stands_number m s a n h room.0 room.1)

pub whole_granted : (need : Flags → Bool) (ss : List LoadSegment) (k : ℕ) (s : LoadSegment) (a n : ℕ) → AreImage ss → slice_get ss k ≡ Some s → has_all s a n ≡ true → need s.flags ≡ true → grants need (memory_of ss) a n ≡ true
whole_granted need ss k s a n h e w t = held_granted need (memory_of ss) s a n (among_stands ss k s h e) w t

pub whole_refused : (need : Flags → Bool) (ss : List LoadSegment) (k : ℕ) (s : LoadSegment) (a n : ℕ) → AreImage ss → slice_get ss k ≡ Some s → has_all s a n ≡ true → 0 < n → need s.flags ≡ false → grants need (memory_of ss) a n ≡ false
whole_refused need ss k s a zero h e w l t = absurd (omega arith)
whole_refused need ss k s a (suc n) h e w l t = let room = spans s a (suc n) w in refused_whole need ss k s a n h e room.0 room.1 t

pub whole_number : (ss : List LoadSegment) (k : ℕ) (s : LoadSegment) (a n : ℕ) → AreImage ss → slice_get ss k ≡ Some s → has_all s a n ≡ true → number_in s.bytes (a - s.address) n ≡ number (memory_of ss) a n
whole_number ss k s a n h e w = held_number (memory_of ss) s a n (among_stands ss k s h e) w

-- ---- several bytes of the segment are written
pub set_none : (ss : List LoadSegment) (k : ℕ) (s : LoadSegment) → slice_get ss k ≡ Some s → set ss k s ≡ ss
set_none ss k s e = ap (set ss k) (sym (get_or_from_slice_get ss k s s e)) ∙ set-get_or ss k s

there_set : (ss : List LoadSegment) (k : ℕ) (s t : LoadSegment) → slice_get ss k ≡ Some s → slice_get (set ss k t) k ≡ Some t
there_set ss k s t e =
    let l = slice_get_within ss k s e in
    stands_at (set ss k t) k t (omega (arith, l, length-set ss k t)) (sym (get_or-set_same ss k t t l))

put_whole : (ss : List LoadSegment) (k : ℕ) (s : LoadSegment) (a n v : ℕ) → AreImage ss → slice_get ss k ≡ Some s → IsWhole s → s.address ≤ a → a + n ≤ s.address + s.size → memory_of (set ss k (with_bytes_at s a n v)) ≡ put (memory_of ss) a n v
unfolding with_bytes_at
put_whole ss k s a zero v h e whole low room = ap memory_of (set_none ss k s e) ∙ sym (put_none (memory_of ss) a v)
put_whole ss k s a (suc n) v h e whole low room =
    let sound : AreImage (set ss k (with_bytes_at s a n v)) = sound_like ss k s (with_bytes_at s a n v) h e (like_put s (with_bytes_at s a n v) a n v refl) in
    let there : slice_get (set ss k (with_bytes_at s a n v)) k ≡ Some (with_bytes_at s a n v) = there_set ss k s (with_bytes_at s a n v) e in
    let full : IsWhole (with_bytes_at s a n v) = length-with_bytes s a n v ∙ whole ∙ sym (size-with_bytes s a n v) in
    let inside : has (with_bytes_at s a n v) (a + n) ≡ true = has-with_bytes s a n v (a + n) ∙ has_span s a (suc n) (a + n) low room (omega arith) (omega arith) in
    let end = ends ss k s h.fit e in
    let same : a + n ≡ wrap (a + n) = omega arith in
    ap memory_of (sym (set-set ss k (with_bytes_at s a n v) (with_byte_at (with_bytes_at s a n v) (a + n) (byte_of v n))))
    ∙ memory_of-set (set ss k (with_bytes_at s a n v)) k (with_bytes_at s a n v) (a + n) (byte_of v n) sound.fit there full inside (before_apart (set ss k (with_bytes_at s a n v)) k (with_bytes_at s a n v) (a + n) (ascends-apart 0 (set ss k (with_bytes_at s a n v)) sound.ascends) there inside)
    ∙ ap (poked (a + n) (byte_of v n)) (put_whole ss k s a n v h e whole low (omega arith))
    ∙ ap (λ q. poked q (byte_of v n) (put (memory_of ss) a n v)) same
    ∙ put-more (memory_of ss) a n v (omega arith) (omega arith) (λ q l. none_past ss q h.fit l)
    ∙ rw add-one refl

pub whole_put : (ss : List LoadSegment) (k : ℕ) (s : LoadSegment) (a n v : ℕ) → AreImage ss → slice_get ss k ≡ Some s → IsWhole s → has_all s a n ≡ true → memory_of (set ss k (with_bytes_at s a n v)) ≡ put (memory_of ss) a n v
whole_put ss k s a n v h e whole w = let room = spans s a n w in put_whole ss k s a n v h e whole room.0 room.1

-- ---- what is answered
pub refused_number : (need : Flags → Bool) (m : Memory) (a n : ℕ) → grants need m a n ≡ false → None ≡ allowed_number need m a n
refused_number need m a n e = rw e refl

pub granted_number : (need : Flags → Bool) (m : Memory) (a n v : ℕ) → grants need m a n ≡ true → v ≡ number m a n → Some v ≡ allowed_number need m a n
granted_number need m a n v e is = rw (e, is) refl

-- what holds at any error
pub any_err : {T E : Type 0} (r : Result T E) (P : Type 0) → P → IfErr r (λ _. P)
any_err (Ok x) P p = tt
any_err (Err e) P p = p
