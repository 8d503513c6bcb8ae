-- Where an address stands among segments by their addresses.
use Rattle.std.proofs.Common.{◌≡◌, ℕ, zero, suc, ◌+◌, ◌<◌, ◌≤◌, true, false, List, [], ◌∷◌, Some, None, arith, ⊎_elim}
use Rattle.std.specs.Prelude.{slice_get}
use Rattle.std.proofs.lemmas.Bool.{cases_lt, false_from_ne_true}
use Rattle.machine.specs.Program.{LoadSegment}
use Rattle.machine.specs.Cells.{has, cell_among}
use Rattle.mem_image.specs.Segments.{IsFirst}
use Rattle.machine.proofs.Lemmas.{has_parts}
use Rattle.mem_image.specs.Overlap.{Ascends}
use Rattle.mem_image.proofs.SegmentLaws.{cell_among-none}
use Rattle.mem_image.proofs.OverlapLaws.{ascends-apart, begins}
use Rattle.mem_image.proofs.WholeLaws.{before_apart}

-- a segment ends before a later one begins
pub ordered : (lo : ℕ) (ss : List LoadSegment) (j k : ℕ) (s t : LoadSegment) → Ascends lo ss → j < k → slice_get ss j ≡ Some s → slice_get ss k ≡ Some t → s.address + s.size ≤ t.address
ordered lo [] j k s t h l e g = absurd (cc)
ordered lo (x ∷ xs) j zero s t h l e g = absurd (omega arith)
ordered lo (x ∷ xs) zero (suc k) s t h l e g = let is : x ≡ s = cc in rw is at (begins (x.address + x.size) k xs t h.1 g)
ordered lo (x ∷ xs) (suc j) (suc k) s t h l e g = ordered (x.address + x.size) xs j k s t h.1 (omega arith) e g

-- or begins no later
pub no_later : (ss : List LoadSegment) (j k : ℕ) (s t : LoadSegment) → Ascends 0 ss → j ≤ k → slice_get ss j ≡ Some s → slice_get ss k ≡ Some t → s.address ≤ t.address
no_later ss j k s t h l e g =
    ⊎_elim (λ m. let o = ordered 0 ss j k s t h m e g in omega arith) (λ m. let same : k ≡ j = omega arith in let there : slice_get ss j ≡ Some t = rw same at g in let is : s ≡ t = cc in rw is (omega arith)) (cases_lt j k)

pub outside : (s : LoadSegment) (q : ℕ) → ((s.address ≤ q) → (q < s.address + s.size) → ⊥) → has s q ≡ false
outside s q h = false_from_ne_true (has s q) (λ e. let p = has_parts s q e in h p.0 p.1)

-- the address is in the segment at a place
pub first_near : (ss : List LoadSegment) (q k : ℕ) (s : LoadSegment) → Ascends 0 ss → slice_get ss k ≡ Some s → has s q ≡ true → IsFirst ss q k
first_near ss q k s h e w = record { found = (s, (e, w)); before = before_apart ss k s q (ascends-apart 0 ss h) e w }

-- no segment begins at the address or before it
pub none_begun : (ss : List LoadSegment) (q : ℕ) → ((j : ℕ) (s : LoadSegment) → 0 ≤ j → slice_get ss j ≡ Some s → q < s.address) → cell_among ss q ≡ None
none_begun ss q h = cell_among-none ss q (λ j s e. let l = h j s (omega arith) e in outside s q (λ a b. omega arith))

-- the last one that does has not the address
pub none_near : (ss : List LoadSegment) (q k : ℕ) (s : LoadSegment) → Ascends 0 ss → slice_get ss k ≡ Some s → s.address ≤ q → has s q ≡ false → ((j : ℕ) (t : LoadSegment) → k + 1 ≤ j → slice_get ss j ≡ Some t → q < t.address) → cell_among ss q ≡ None
none_near ss q k s h e low w behind = cell_among-none ss q (λ j t g. ⊎_elim (λ l. let o = ordered 0 ss j k t s h l g e in outside t q (λ a b. omega arith)) (λ l. at j t g l) (cases_lt j k)) where
  at : (j : ℕ) (t : LoadSegment) → slice_get ss j ≡ Some t → k ≤ j → has t q ≡ false
  at j t g l = ⊎_elim (λ m. let same : k ≡ j = omega arith in let there : slice_get ss k ≡ Some t = rw same g in let is : s ≡ t = cc in rw is at w) (λ m. let b = behind j t (omega arith) g in outside t q (λ x y. omega arith)) (cases_lt j (k + 1))
