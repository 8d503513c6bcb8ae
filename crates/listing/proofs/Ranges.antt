-- Each code range of a file lies in a loaded segment.
use Rattle.std.proofs.Common.{◌≡◌, inl, inr, ⊎_elim, ℕ, ◌+◌, Bool, true, false, cond, ◌&&◌, List, [], ◌∷◌, refl, ap, ◌∙◌, subst, arith}
use Rattle.std.specs.Prelude.{nat_le, nat_lt, All}
use Rattle.std.specs.List.Sorted.{IsPermutation}
use Rattle.std.proofs.lemmas.Bool.{and_parts, and_from, or_cases, or_left, or_right, le-leb, false≢true}
use Rattle.std.proofs.lemmas.List.Elements.{All-nil, All-cons}
use Rattle.std.proofs.lemmas.List.Sorted.{All-permutation}
use Rattle.elf_types.specs.declared.file.Section.{Section}
use Rattle.tests.specs.declared.range.Span.{Span}
use Rattle.tests.specs.Ranges.{span, spans}
use Rattle.machine.specs.Program.{LoadSegment}
use Rattle.machine.specs.Loading.{is_code_section, lies_in_code, lies_in_any, section_ranges, segment_ranges, first_some, ElfFile}
use Rattle.tests.specs.Admission.CodeWords.{loads_of, ranges_of}
use Rattle.machine.specs.Members.{Among}
use Rattle.listing.specs.Homes.{holds_range, is_held, IsHeldRange}

-- ---- sections
section_held : (ls : List LoadSegment) (s : Section) → lies_in_any s ls ≡ true → is_held (s.address, s.address + s.size) ls ≡ true
section_held [] s e = absurd (false≢true e)
section_held (l ∷ ls) s e =
    let r : ℕ × ℕ = (s.address, s.address + s.size) in
    ⊎_elim
    (λ x. or_left (holds_range l r) (is_held r ls) (and_parts l.flags.execute (nat_le l.address s.address && nat_le (s.address + s.size) (l.address + l.size)) x).1)
    (λ x. or_right (holds_range l r) (is_held r ls) (section_held ls s x))
    (or_cases (lies_in_code s l) (lies_in_any s ls) e)

section_step :
    (ls : List LoadSegment) (s : Section) (ss : List Section) (r : ℕ × ℕ) → (Among r (section_ranges ls ss) → is_held r ls ≡ true) → (b : Bool)
    → (is_code_section s && lies_in_any s ls) ≡ b → Among r (cond b ((s.address, s.address + s.size) ∷ section_ranges ls ss) (section_ranges ls ss)) → is_held r ls ≡ true
section_step ls s ss r rec true e m =
    ⊎_elim
    (λ d. ap (λ x. is_held x ls) d ∙ section_held ls s (and_parts (is_code_section s) (lies_in_any s ls) e).1)
    (λ k. rec k)
    m
section_step ls s ss r rec false e m = rec m

sections_held : (ls : List LoadSegment) (ss : List Section) (r : ℕ × ℕ) → Among r (section_ranges ls ss) → is_held r ls ≡ true
sections_held ls [] r m = absurd m
sections_held ls (s ∷ ss) r m = section_step ls s ss r (sections_held ls ss r) (is_code_section s && lies_in_any s ls) refl m

-- ---- segments
whole_held : (l : LoadSegment) → holds_range l (l.address, l.address + l.size) ≡ true
whole_held l = and_from (nat_le l.address l.address) (nat_le (l.address + l.size) (l.address + l.size)) (le-leb l.address l.address (omega arith)) (le-leb (l.address + l.size) (l.address + l.size) (omega arith))

segment_step :
    (l : LoadSegment) (ls : List LoadSegment) (r : ℕ × ℕ) → (Among r (segment_ranges ls) → is_held r ls ≡ true) → (b : Bool)
    → Among r (cond b ((l.address, l.address + l.size) ∷ segment_ranges ls) (segment_ranges ls)) → is_held r (l ∷ ls) ≡ true
segment_step l ls r rec true m =
    ⊎_elim
    (λ d. or_left (holds_range l r) (is_held r ls) (ap (holds_range l) d ∙ whole_held l))
    (λ k. or_right (holds_range l r) (is_held r ls) (rec k))
    m
segment_step l ls r rec false m = or_right (holds_range l r) (is_held r ls) (rec m)

segments_held : (ls : List LoadSegment) (r : ℕ × ℕ) → Among r (segment_ranges ls) → is_held r ls ≡ true
segments_held [] r m = absurd m
segments_held (l ∷ ls) r m = segment_step l ls r (segments_held ls r) (l.flags.execute && nat_lt 0 l.size) m

-- ---- all ranges
some_held : (ls : List LoadSegment) (r : ℕ × ℕ) (xs ys : List (ℕ × ℕ)) → (Among r xs → is_held r ls ≡ true) → (Among r ys → is_held r ls ≡ true) → Among r (first_some xs ys) → is_held r ls ≡ true
some_held ls r [] ys f g m = g m
some_held ls r (x ∷ xs) ys f g m = f m

range_held : (f : ElfFile) (r : ℕ × ℕ) → Among r (ranges_of f) → is_held r (loads_of f) ≡ true
range_held f r m = some_held (loads_of f) r (section_ranges (loads_of f) f.sections) (segment_ranges (loads_of f)) (sections_held (loads_of f) f.sections r) (segments_held (loads_of f) r) m

each_held : (ls : List LoadSegment) (rs : List Span) → ((r : ℕ × ℕ) → Among r (spans rs) → is_held r ls ≡ true) → All (λ r. IsHeldRange ls (span r)) rs
each_held ls [] h = All-nil (λ r. IsHeldRange ls (span r))
each_held ls (r ∷ rs) h = All-cons (λ x. IsHeldRange ls (span x)) r rs (record { is = h (span r) (inl refl) }) (each_held ls rs (λ x m. h x (inr m)))

pub all_held : (f : ElfFile) (xs ys : List Span) → spans xs ≡ ranges_of f → IsPermutation xs ys → All (λ r. IsHeldRange (loads_of f) (span r)) ys
all_held f xs ys e moved = All-permutation (λ r. IsHeldRange (loads_of f) (span r)) xs ys moved (each_held (loads_of f) xs (λ r m. range_held f r (subst (Among r) e m)))
