-- Files that share no byte, by their segments.
use Rattle.std.proofs.Common.{◌≡◌, ◌≢◌, ℕ, zero, suc, ◌+◌, ◌^◌, ◌<◌, ◌⊎◌, inl, inr, ⊎_elim, true, false, cond, List, [], ◌∷◌, ◌++◌, length, Some, is_some, refl, sym, ap, ◌∙◌, subst, arith}
use Rattle.std.specs.Prelude.{slice_get}
use Rattle.std.specs.List.{list_any}
use Rattle.std.proofs.lemmas.Bool.{false≢true, cases_lt}
use Rattle.std.proofs.lemmas.Option.{slice_get_within}
use Rattle.std.proofs.lemmas.Map.Keys.{any_passes_from_place}
use Rattle.machine.specs.Program.{Program, LoadSegment}
use Rattle.qed_model.specs.Promise.Kept.{is_mapped}
use Rattle.harts.specs.Harts.{all_segments}
use Rattle.harts.specs.Together.{IsProgram, AreDisjoint as FilesAreApart}
use Rattle.machine.specs.Cells.{has, cell_at, cell_among}
use Rattle.machine.specs.Apart.{share, FitsMemory, AllFitMemory, AreApart}
use Rattle.machine.proofs.Lemmas.{has_parts, get_among, shared as share_at}
use Rattle.mem_image.specs.Overlap.{any_share}
use Rattle.harts.specs.Shared.{IsShared, AreUnshared, AreSound, FilesApart}
use Rattle.mem_image.proofs.WholeLaws.{fits_at}
use Rattle.mem_image.proofs.SegmentLaws.{all_sized}

-- ---- a mapped address lies in a segment
record Inside (ss : List LoadSegment) (q : ℕ) : Type 0 where
  place : ℕ
  segment : LoadSegment
  stands : slice_get ss place ≡ Some segment
  has : has segment q ≡ true

inside : (ss : List LoadSegment) (q : ℕ) → is_some (cell_among ss q) ≡ true → Inside ss q
inside [] q e = absurd (false≢true e)
inside (s ∷ ss) q e =
    elim (has s q) as (λ t. has s q ≡ t → is_some (cond t (Some (cell_at s q)) (cell_among ss q)) ≡ true → Inside (s ∷ ss) q) [
      | true ↦ λ w x. record { place = 0; segment = s; stands = refl; has = w }
      | false ↦ λ w x. let r = inside ss q x in record { place = suc r.place; segment = r.segment; stands = r.stands; has = r.has }
    ] refl e

mapped_inside : (g : Program) (q : ℕ) → AllFitMemory g.segments → is_mapped g q ≡ true → Inside g.segments q
mapped_inside g q fit e = inside g.segments q (ap is_some (sym (get_among g.segments q (all_sized g.segments fit))) ∙ e)

-- a file of a sound list fits
fits : (gs : List Program) (i : ℕ) (g : Program) → AreSound gs → IsProgram gs i g → AllFitMemory g.segments
fits [] i g sound e = absurd (cc)
fits (x ∷ gs) zero g sound e = let is : x ≡ g = cc in subst (λ y. AllFitMemory y.segments) is sound.0
fits (x ∷ gs) (suc i) g sound e = fits gs i g sound.2 e

-- a fitting segment has only addresses below 2^64
low_in : (s : LoadSegment) (q : ℕ) → FitsMemory s → has s q ≡ true → q < 2 ^ 64
low_in s q fit e =
    let p = has_parts s q e in
    let c = fit.1 in
    let b = p.1 in omega (arith, b, c)

-- ---- the files are apart
-- two segments that share a byte
both_at : (ss ts : List LoadSegment) (i j : ℕ) (s t : LoadSegment) → slice_get ss i ≡ Some s → slice_get ts j ≡ Some t → share s t ≡ true → any_share ss ts ≡ true
both_at ss ts i j s t a b h = any_passes_from_place (λ x. list_any (share x) ts) ss i s a (any_passes_from_place (share s) ts j t b h)

-- an address in two files
shares : (g h : Program) (q : ℕ) → Inside g.segments q → Inside h.segments q → any_share g.segments h.segments ≡ true
shares g h q x y = both_at g.segments h.segments x.place y.place x.segment y.segment x.stands y.stands (share_at x.segment y.segment q x.has y.has)

shared : (gs : List Program) (i j : ℕ) (g h : Program) → IsProgram gs i g → IsProgram gs j h → i < j → any_share g.segments h.segments ≡ true → IsShared gs i j
shared gs i j g h a b l s = record { order = l; first = g; second = h; first_at = a; second_at = b; share = s }

module _ (gs : List Program) (sound : AreSound gs) (none : AreUnshared gs) where
  apart : (i j : ℕ) (g h : Program) → IsProgram gs i g → IsProgram gs j h → i ≢ j → (q : ℕ) → is_mapped g q ≡ true → is_mapped h q ≡ true → ⊥
  apart i j g h a b n q x y =
      let p = mapped_inside g q (fits gs i g sound a) x in
      let r = mapped_inside h q (fits gs j h sound b) y in
      ⊎_elim
      (λ l. none i j (shared gs i j g h a b l (shares g h q p r)))
      (λ l. none j i (shared gs j i h g b a (omega (arith, l, n)) (shares h g q r p)))
      (cases_lt i j)

  files_apart : FilesAreApart gs
  files_apart = record {
    low = λ i g e q o. let x = mapped_inside g q (fits gs i g sound e) o in low_in x.segment q (fits_at g.segments x.place x.segment (fits gs i g sound e) x.stands) x.has;
    apart = apart;
  }

-- ---- all segments
fit_append : (xs ys : List LoadSegment) → AllFitMemory xs → AllFitMemory ys → AllFitMemory (xs ++ ys)
fit_append [] ys a b = b
fit_append (x ∷ xs) ys a b = (a.0, fit_append xs ys a.1 b)

-- a place in two lists joined is one of the first, or one of the second
record Behind (xs ys : List LoadSegment) (k : ℕ) (s : LoadSegment) : Type 0 where
  place : ℕ
  is : k ≡ length xs + place
  stands : slice_get ys place ≡ Some s

behind_more : (x : LoadSegment) (xs ys : List LoadSegment) (k : ℕ) (s : LoadSegment) → Behind xs ys k s → Behind (x ∷ xs) ys (suc k) s
behind_more x xs ys k s b = let is = b.is in record { place = b.place; is = omega (arith, is); stands = b.stands }

at_append : (xs ys : List LoadSegment) (k : ℕ) (s : LoadSegment) → slice_get (xs ++ ys) k ≡ Some s → (slice_get xs k ≡ Some s) ⊎ Behind xs ys k s
at_append [] ys k s e = inr (record { place = k; is = omega arith; stands = e })
at_append (x ∷ xs) ys zero s e = inl e
at_append (x ∷ xs) ys (suc k) s e = ⊎_elim (λ a. inl a) (λ b. inr (behind_more x xs ys k s b)) (at_append xs ys k s e)

-- two lists whose segments share nothing
apart_append : (xs ys : List LoadSegment) → AreApart xs → AreApart ys → ((i j : ℕ) (s t : LoadSegment) → slice_get xs i ≡ Some s → slice_get ys j ≡ Some t → share s t ≡ true → ⊥) → AreApart (xs ++ ys)
apart_append xs ys a b cross i j o = by (at_append xs ys i o.first o.first_at) (at_append xs ys j o.second o.second_at) where
  by : (slice_get xs i ≡ Some o.first) ⊎ Behind xs ys i o.first → (slice_get xs j ≡ Some o.second) ⊎ Behind xs ys j o.second → ⊥
  by (inl p) (inl q) = a i j (record { order = o.order; first = o.first; second = o.second; first_at = p; second_at = q; share = o.share })
  by (inl p) (inr q) = cross i q.place o.first o.second p q.stands o.share
  by (inr p) (inl q) = let l = slice_get_within xs j o.second q in let k = p.is in let m = o.order in absurd (omega (arith, l, k, m))
  by (inr p) (inr q) = let k = p.is in let l = q.is in let m = o.order in b p.place q.place (record { order = omega (arith, k, l, m); first = o.first; second = o.second; first_at = p.stands; second_at = q.stands; share = o.share })

-- the file of a segment among all segments
record Of (gs : List Program) (s : LoadSegment) : Type 0 where
  number : ℕ
  file : Program
  place : ℕ
  file_at : IsProgram gs number file
  stands : slice_get file.segments place ≡ Some s

of_later : (g : Program) (gs : List Program) (s : LoadSegment) → Of gs s → Of (g ∷ gs) s
of_later g gs s x = record { number = suc x.number; file = x.file; place = x.place; file_at = x.file_at; stands = x.stands }

of_file : (gs : List Program) (k : ℕ) (s : LoadSegment) → slice_get (all_segments gs) k ≡ Some s → Of gs s
of_file [] k s e = absurd (cc)
of_file (g ∷ gs) k s e = ⊎_elim (λ a. record { number = 0; file = g; place = k; file_at = refl; stands = a }) (λ b. of_later g gs s (of_file gs b.place s b.stands)) (at_append g.segments (all_segments gs) k s e)

-- the files behind the first
shared_rest : (g : Program) (gs : List Program) (i j : ℕ) → IsShared gs i j → IsShared (g ∷ gs) (suc i) (suc j)
shared_rest g gs i j x = let l = x.order in record { order = omega (arith, l); first = x.first; second = x.second; first_at = x.first_at; second_at = x.second_at; share = x.share }

all_fit : (gs : List Program) → AreSound gs → AllFitMemory (all_segments gs)
all_fit [] s = tt
all_fit (g ∷ gs) s = fit_append g.segments (all_segments gs) s.0 (all_fit gs s.2)

nothing : (i : ℕ) (s : LoadSegment) → slice_get {X = LoadSegment} [] i ≡ Some s → ⊥
nothing i s e = absurd (cc)

all_apart : (gs : List Program) → AreSound gs → AreUnshared gs → AreApart (all_segments gs)
all_apart [] s none = λ i j o. nothing i o.first o.first_at
all_apart (g ∷ gs) s none =
    apart_append g.segments (all_segments gs) s.1 (all_apart gs s.2 (λ i j x. none (suc i) (suc j) (shared_rest g gs i j x)))
    (λ i j a b p q x.
    let y = of_file gs j b q in
    none 0 (suc y.number) (shared (g ∷ gs) 0 (suc y.number) g y.file refl y.file_at (omega arith) (both_at g.segments y.file.segments i y.place a b p y.stands x)))

pub none_shared : (gs : List Program) → AreSound gs → AreUnshared gs → FilesApart gs
none_shared gs s none = record { files = files_apart gs s none; fit = all_fit gs s; segments = all_apart gs s none }
