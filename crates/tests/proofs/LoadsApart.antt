-- The PT_LOAD segments of a file that was read fit into memory, and share no byte.
use Rattle.std.proofs.Common.{◌≡◌, ◌⊎◌, ℕ, zero, suc, ◌+◌, ◌^◌, ◌<◌, ◌≤◌, Bool, true, false, cond, ◌==◌, List, [], ◌∷◌, Some, refl, sym, ◌∙◌, subst, inl, inr, ⊎_elim, arith}
use Rattle.std.specs.Prelude.{All, slice_get}
use Rattle.std.proofs.lemmas.Bool.{eqb-true, false≢true, cases_lt}
use Rattle.std.proofs.lemmas.Bool.Decides.{nat_tests}
use Rattle.elf_types.specs.declared.records.ProgramHeader.{ProgramHeader}
use Rattle.tests.specs.Files.Header.{e_phnum}
use Rattle.tests.specs.Files.Fields.{program_header}
use Rattle.tests.specs.Files.Rules.{is_misshapen, do_overlap}
use Rattle.tests.specs.Files.File.{File, segment_of}
use Rattle.machine.specs.Below.{each}
use Rattle.machine.specs.Program.{LoadSegment}
use Rattle.machine.specs.Loading.{load_segment, load_segments, ElfFile, Segment}
use Rattle.machine.specs.Apart.{FitsMemory, AllFitMemory, share, Overlaps, AreApart}
use Rattle.machine.specs.Members.{Among, Every, Pairs}
use Rattle.tests.specs.Elf.Sound.{ApartLoads, Apart}
use Rattle.machine.proofs.Lemmas.{all_among, All-each, pairs-append}
use Rattle.tests.proofs.AcceptanceLaws.{accepted}
use Rattle.tests.proofs.ReadFacts.{sized_segment}

ends_low : (p : ProgramHeader) → p.kind ≡ 1 → is_misshapen p ≡ false → p.vaddr + p.memsz ≤ 2 ^ 64
unfolding is_misshapen
ends_low p k h = grind (arith, nat_tests)

-- a segment of type PT_LOAD ends at 2^64 or before
segment_low : (file : List ℕ) (i : ℕ) → (segment_of file i).kind ≡ 1 → is_misshapen (program_header file i) ≡ false → (segment_of file i).address + (segment_of file i).memory ≤ 2 ^ 64
unfolding segment_of
segment_low file i k h = ends_low (program_header file i) k h

pairs_each : {A : Type 0} (R : A → A → Type 0) (n : ℕ) (f : ℕ → A) → ((i j : ℕ) → i < j → j < n → R (f i) (f j)) → Pairs R (each n f)
unfolding each
pairs_each R zero f h = tt
pairs_each R (suc n) f h =
    pairs-append R (each n f) (f n ∷ []) (pairs_each R n f (λ i j l m. h i j l (omega (arith, m)))) (tt, tt)
    (λ x y m k. ⊎_elim (λ e. subst (R x) (sym e) (all_among (λ z. R z (f n)) x (each n f) (All-each (λ z. R z (f n)) n f (λ i l. h i n l (omega arith))) m)) (λ r. absurd r) k)

overlaps_if :
    (p r : ProgramHeader) → p.kind ≡ 1 → r.kind ≡ 1 → 0 < p.memsz → 0 < r.memsz → p.vaddr < r.vaddr + r.memsz → r.vaddr < p.vaddr + p.memsz
    → do_overlap p r ≡ true
unfolding do_overlap
overlaps_if p r k l a b c d = grind (arith, nat_tests)

apart_headers :
    (p r : ProgramHeader) → p.kind ≡ 1 → r.kind ≡ 1 → 0 < p.memsz → 0 < r.memsz → do_overlap p r ≡ false
    → (p.vaddr + p.memsz ≤ r.vaddr) ⊎ (r.vaddr + r.memsz ≤ p.vaddr)
apart_headers p r k l a b e =
    ⊎_elim
    (λ x. ⊎_elim
    (λ y. absurd (false≢true (sym e ∙ overlaps_if p r k l a b y x)))
    (λ y. inr y)
    (cases_lt p.vaddr (r.vaddr + r.memsz)))
    (λ x. inl x)
    (cases_lt r.vaddr (p.vaddr + p.memsz))

pub read_apart : (file : List ℕ) (f : ElfFile) → File file f → Pairs ApartLoads f.segments
unfolding segment_of
read_apart file f read =
    subst (Pairs ApartLoads) (sym read.segments)
    (pairs_each ApartLoads (e_phnum file) (segment_of file) (λ i j l m k1 k2 s t. apart_headers (program_header file i) (program_header file j) k1 k2 s t ((accepted file read.accepted).apart i j l m)))

-- ---- each fits
all_fit : (ss : List Segment) → ((s : Segment) → Among s ss → s.kind ≡ 1 → FitsMemory (load_segment s)) → AllFitMemory (load_segments ss)
all_fit [] h = tt
all_fit (s ∷ ss) h =
    elim (s.kind == 1) as (λ t. (s.kind == 1) ≡ t → AllFitMemory (cond t (load_segment s ∷ load_segments ss) (load_segments ss))) [
      | true ↦ λ e. (h s (inl refl) (eqb-true s.kind 1 e), all_fit ss (λ t m. h t (inr m)))
      | false ↦ λ e. all_fit ss (λ t m. h t (inr m))
    ] refl

pub file_fits : (file : List ℕ) (f : ElfFile) → File file f → AllFitMemory (load_segments f.segments)
file_fits file f read =
    let P = λ (s : Segment). s.kind ≡ 1 → FitsMemory (load_segment s) in
    let shapes = (accepted file read.accepted).segment_shapes in
    all_fit f.segments (λ s m. all_among P s f.segments (subst (All P) (sym read.segments) (All-each P (e_phnum file) (segment_of file) (λ i l k. (sized_segment file i (shapes i l), segment_low file i k (shapes i l))))) m)

-- ---- no two share a byte
unshared : (s t : Segment) → s.kind ≡ 1 → t.kind ≡ 1 → ApartLoads s t → share (load_segment s) (load_segment t) ≡ true → ⊥
unshared s t k l h e = by (h k l some.0 some.1) where
  some : (0 < s.memory) × (0 < t.memory) × (s.address < t.address + t.memory) × (t.address < s.address + s.memory)
  some = (grind (arith, nat_tests), grind (arith, nat_tests), grind (arith, nat_tests), grind (arith, nat_tests))

  by : Apart s t → ⊥
  by (inl x) = let a = some.3 in absurd (omega (arith, x, a))
  by (inr x) = let a = some.2 in absurd (omega (arith, x, a))

-- what a loaded one shares with none of, by its place
alone : (s : Segment) (ss : List Segment) → s.kind ≡ 1 → Every (ApartLoads s) ss → (j : ℕ) (t : LoadSegment) → slice_get (load_segments ss) j ≡ Some t → share (load_segment s) t ≡ true → ⊥
alone s [] k h j t e = λ x. absurd (cc)
alone s (u ∷ ss) k h j t e = by (λ i. alone s ss k h.1 i t) (u.kind == 1) refl j e where
  by : ((i : ℕ) → slice_get (load_segments ss) i ≡ Some t → share (load_segment s) t ≡ true → ⊥) → (b : Bool) → (u.kind == 1) ≡ b → (i : ℕ) → slice_get (cond b (load_segment u ∷ load_segments ss) (load_segments ss)) i ≡ Some t → share (load_segment s) t ≡ true → ⊥
  by rest true is zero e x = let same : load_segment u ≡ t = cc in unshared s u k (eqb-true u.kind 1 is) h.0 (subst (λ y. share (load_segment s) y ≡ true) (sym same) x)
  by rest true is (suc i) e x = rest i e x
  by rest false is i e x = rest i e x

pub apart : (ss : List Segment) → Pairs ApartLoads ss → AreApart (load_segments ss)
apart [] h = λ i j o. let e = o.first_at in absurd (cc)
apart (s ∷ ss) h = by (apart ss h.1) (s.kind == 1) refl where
  by : AreApart (load_segments ss) → (b : Bool) → (s.kind == 1) ≡ b → (i j : ℕ) → Overlaps (cond b (load_segment s ∷ load_segments ss) (load_segments ss)) i j → ⊥
  by rest false is i j o = rest i j o
  by rest true is i zero o = let l = o.order in absurd (omega arith)
  by rest true is zero (suc j) o =
      let e = o.first_at in
      let same : load_segment s ≡ o.first = cc in
      alone s ss (eqb-true s.kind 1 is) h.0 j o.second o.second_at (subst (λ x. share x o.second ≡ true) (sym same) o.share)
  by rest true is (suc i) (suc j) o =
      let l = o.order in
      rest i j (record { order = omega arith; first = o.first; second = o.second; first_at = o.first_at; second_at = o.second_at; share = o.share })

pub file_apart : (file : List ℕ) (f : ElfFile) → File file f → AreApart (load_segments f.segments)
file_apart file f read = apart f.segments (read_apart file f read)
