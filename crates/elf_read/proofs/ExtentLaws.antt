-- Segments in the order of their addresses: which of them share no byte with another.
use Rattle.std.proofs.Common.{◌≡◌, ℕ, ◌+◌, ◌<◌, ◌&&◌, ltb, true, None, List, length, get_or, sym, ap, ◌∙◌, inl, inr, arith}
use Rattle.std.specs.List.{Contains}
use Rattle.std.specs.List.Sorted.{IsNonDecreasingBy}
use Rattle.std.proofs.lemmas.Bool.{and_parts, ltb-true, false_from_ne_true, cases_order}
use Rattle.std.proofs.lemmas.Bool.Decides.{nat_tests}
use Rattle.std.proofs.lemmas.List.{get_or_default}
use Rattle.tests.specs.Files.Header.{e_phnum}
use Rattle.tests.specs.Files.Fields.{program_header}
use Rattle.tests.specs.Files.Rules.{do_overlap, overlapped}
use Rattle.machine.proofs.Lemmas.{first_none}
use Rattle.elf_types.specs.declared.records.ProgramHeader.{ProgramHeader}
use Rattle.elf_read.specs.declared.extents.Extent.{Extent}
use Rattle.elf_read.specs.Extents.{HasExtents, IsClearInFront, IsClearBehind, extent_of, has_memory}

in_front_or_behind :
    (xs : List Extent) (a b : ℕ) (x y : Extent)
    → IsNonDecreasingBy (λ (e : Extent). e.start) xs → IsClearInFront xs a → IsClearBehind xs b
    → Contains xs x → Contains xs y → x.number < a → x.number < b
    → (x.number ≡ y.number → ⊥) → x.start < y.end → y.start < x.end → ⊥
in_front_or_behind xs a b x y up front behind at_x at_y lt_a lt_b differ x_first y_first =
    let k = at_x.0 in
    let l = at_y.0 in
    let x_in : k < length xs = at_x.1 in
    let y_in : l < length xs = at_y.1 in
    let x_is : get_or xs k x ≡ x = at_x.2 in
    let y_is : get_or xs l x ≡ y = get_or_default xs l x y y_in ∙ at_y.2 in
    elim (cases_order k l) [
      | inl same ↦ differ (ap (λ (e : Extent). e.number) (sym x_is ∙ ap (λ (i : ℕ). get_or xs i x) same ∙ y_is))
      | inr apart ↦ elim apart [
        | inl before ↦
            let next = rw y_is at (up (k + 1) l x (omega arith) y_in) in
            let least = rw x_is at (behind.clear k x (omega arith) (rw x_is (omega (arith, next)))) in
            omega (arith, least)
        | inr after ↦ let least = rw x_is at (front.clear l k x after x_in (rw (x_is, y_is) x_first)) in omega (arith, least)
      ]
    ]

record Overlap (p q : ProgramHeader) : Type 0 where
  first : has_memory p ≡ true
  second : has_memory q ≡ true
  low : p.vaddr < q.vaddr + q.memsz
  high : q.vaddr < p.vaddr + p.memsz

overlap_says : (p q : ProgramHeader) → do_overlap p q ≡ true → Overlap p q
unfolding do_overlap
overlap_says p q t = record { first = grind (arith, nat_tests); second = grind (arith, nat_tests); low = grind (arith, nat_tests); high = grind (arith, nat_tests) }

-- a segment of a number below both bounds shares no byte with a later one
pub none_overlaps :
    (file : List ℕ) (xs : List Extent) (a b i : ℕ)
    → HasExtents file (e_phnum file) xs → IsNonDecreasingBy (λ (e : Extent). e.start) xs → IsClearInFront xs a → IsClearBehind xs b
    → i < a → i < b → i < e_phnum file → overlapped file i ≡ None
unfolding overlapped
none_overlaps file xs a b i has up front behind lt_a lt_b lt =
    first_none (e_phnum file) (λ j. ltb i j && do_overlap (program_header file i) (program_header file j)) (λ j below.
    false_from_ne_true _ (λ t.
    let both = and_parts (ltb i j) (do_overlap (program_header file i) (program_header file j)) t in
    let later : i < j = ltb-true i j both.0 in
    let o = overlap_says (program_header file i) (program_header file j) both.1 in
    in_front_or_behind xs a b (extent_of file i) (extent_of file j) up front behind (has.each i lt o.first) (has.each j below o.second) lt_a lt_b (λ same. omega arith) o.low o.high))
