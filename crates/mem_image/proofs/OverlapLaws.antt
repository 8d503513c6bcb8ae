-- What shares a byte, and segments that ascend.
use Rattle.std.proofs.Common.{◌≡◌, ℕ, zero, suc, ◌+◌, ◌<◌, ◌≤◌, Bool, true, false, List, [], ◌∷◌, length, map, Some, sym, ap, ◌∙◌, arith, get_or}
use Rattle.std.specs.Prelude.{slice_get}
use Rattle.std.specs.Option.{option_map}
use Rattle.std.proofs.lemmas.Bool.{false≢true}
use Rattle.std.proofs.lemmas.Bool.Decides.{nat_tests}
use Rattle.std.proofs.lemmas.Option.{slice_get-get_or, slice_get_within, slice_get-map}
use Rattle.std.proofs.lemmas.List.{length-map}
use Rattle.machine.specs.Program.{LoadSegment}
use Rattle.machine.specs.Apart.{share, Overlaps, AreApart}
use Rattle.mem_image.specs.Overlap.{IsPair, IsLeastPair, Ascends}

-- ---- two places of a list
-- what is seen at a place that the code reads
pub seen_there : {A V : Type 0} (view : A → V) (xs : List A) (i : ℕ) (a : A) → i < length xs → a ≡ get_or xs i a → slice_get (map view xs) i ≡ Some (view a)
seen_there view xs i a h e = slice_get-map view xs i ∙ ap (option_map view) (slice_get-get_or xs i a h ∙ ap Some (sym e))

module _ {A V : Type 0} (view : A → V) (shares : V → V → Bool) (xs : List A) where
  pub pair_is : (i j : ℕ) (a b : A) → i < length xs → j < length xs → a ≡ get_or xs i a → b ≡ get_or xs j b → i < j → shares (view a) (view b) ≡ true → IsPair shares (map view xs) i j
  pair_is i j a b hi hj ea eb order share = record { order = order; first = view a; second = view b; first_at = seen_there view xs i a hi ea; second_at = seen_there view xs j b hj eb; share = share }

  pub pair_share : (i j : ℕ) (a b : A) → i < length xs → j < length xs → a ≡ get_or xs i a → b ≡ get_or xs j b → IsPair shares (map view xs) i j → shares (view a) (view b) ≡ true
  pair_share i j a b hi hj ea eb o =
      let x = seen_there view xs i a hi ea in
      let y = seen_there view xs j b hj eb in
      let p = o.first_at in
      let q = o.second_at in
      let f : o.first ≡ view a = cc in
      let g : o.second ≡ view b = cc in
      rw (f, g) at o.share

  -- both are places of the list
  pub within_list : (i j : ℕ) → IsPair shares (map view xs) i j → (i < length xs) × (j < length xs)
  within_list i j o =
      let l : length (map view xs) ≡ length xs = simp length-map in
      let x = slice_get_within (map view xs) i o.first o.first_at in
      let y = slice_get_within (map view xs) j o.second o.second_at in
      (rw l at x, rw l at y)

-- of segments these are overlaps
overlap_is : (ss : List LoadSegment) (i j : ℕ) → Overlaps ss i j → IsPair share ss i j
overlap_is ss i j o = record { order = o.order; first = o.first; second = o.second; first_at = o.first_at; second_at = o.second_at; share = o.share }

pub none_overlaps : (ss : List LoadSegment) → ((i j : ℕ) → IsPair share ss i j → ⊥) → AreApart ss
none_overlaps ss none i j o = none i j (overlap_is ss i j o)

pub least_overlaps : (ss : List LoadSegment) (i j : ℕ) → IsLeastPair (IsPair share ss) i j → IsLeastPair (Overlaps ss) i j
least_overlaps ss i j p = let o = p.is in record {
  is = record { order = o.order; first = o.first; second = o.second; first_at = o.first_at; second_at = o.second_at; share = o.share };
  least = λ h k q. p.least h k (overlap_is ss h k q);
}

-- ---- segments that ascend
-- the segment at a place begins at the bound or behind it
pub begins : (lo k : ℕ) (ss : List LoadSegment) (t : LoadSegment) → Ascends lo ss → slice_get ss k ≡ Some t → lo ≤ t.address
begins lo k [] t h e = absurd (cc)
begins lo zero (s ∷ ss) t h e = let is : s ≡ t = cc in rw is at h.0
begins lo (suc k) (s ∷ ss) t h e = let l = begins (s.address + s.size) k ss t h.1 e in omega (arith, l, h.0)

-- a segment that begins behind another shares no byte with it
behind : (s t : LoadSegment) → s.address + s.size ≤ t.address → share s t ≡ true → ⊥
behind s t h e = let none : share s t ≡ false = grind (arith, nat_tests) in false≢true (sym none ∙ e)

-- no two of them share a byte
pub ascends-apart : (lo : ℕ) (ss : List LoadSegment) → Ascends lo ss → AreApart ss
ascends-apart lo [] h i j o = let e = o.first_at in absurd (cc)
ascends-apart lo (s ∷ ss) h zero zero o = let l = o.order in absurd (omega arith)
ascends-apart lo (s ∷ ss) h zero (suc j) o =
    let e = o.first_at in
    let is : s ≡ o.first = cc in
    behind o.first o.second (rw is at (begins (s.address + s.size) j ss o.second h.1 o.second_at)) o.share
ascends-apart lo (s ∷ ss) h (suc i) zero o = let l = o.order in absurd (omega arith)
ascends-apart lo (s ∷ ss) h (suc i) (suc j) o =
    let l = o.order in
    ascends-apart (s.address + s.size) ss h.1 i j (record { order = omega arith; first = o.first; second = o.second; first_at = o.first_at; second_at = o.second_at; share = o.share })
