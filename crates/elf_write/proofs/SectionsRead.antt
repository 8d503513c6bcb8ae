-- The section headers that were written: their numbers fit, the rules on them hold, and what each of them says.
use Rattle.std.proofs.Common.{◌≡◌, ℕ, ◌+◌, ◌-◌, ◌^◌, ◌<◌, ◌≤◌, ◌&&◌, ◌||◌, true, false, cond, ltb, leb, eqb, List, [], ◌∷◌, ◌++◌, length, map, refl, arith, length-append}
use Rattle.std.specs.Prelude.{All}
use Rattle.std.specs.List.{list_any}
use Rattle.std.proofs.lemmas.Bool.{le-ltb, and_parts}
use Rattle.std.proofs.lemmas.Bool.Decides.{nat_tests}
use Rattle.std.proofs.lemmas.List.Elements.{All-cons, All-nil, All-head, All-tail}
use Rattle.elf_types.specs.declared.file.Segment.{Segment}
use Rattle.elf_types.specs.declared.file.Section.{Section}
use Rattle.elf_types.specs.declared.output.OutSection.{OutSection}
use Rattle.elf_types.specs.declared.records.SectionHeader.{SectionHeader}
use Rattle.elf_types.specs.Abi.{has_alloc}
use Rattle.tests.specs.Files.Rules.{name_at, is_unended}
use Rattle.tests.specs.Elf.Written.{offset_from, end_from}
use Rattle.tests.specs.Elf.Layout.{IsLoadable, IsPlaced, IsName, names_bytes, is_in_memory, is_inside, offset_in, own_bytes, section_fields, header_with, headers_from}
use Rattle.tests.specs.Elf.FileRead.{section_read}
use Rattle.elf_write.specs.Widths.{SectionFits}
use Rattle.elf_write.proofs.Places.{end_from_above}
use Rattle.elf_write.proofs.Stands.{Stands, stands_within, AllFit}
use Rattle.elf_write.proofs.NamesRead.{first_name, other_names}

-- ---- a section in memory
record IsInside (x : OutSection) (s : Segment) : Type 0 where
  above : s.address ≤ x.address
  below : x.address + x.size ≤ s.address + length s.bytes

inside_is : (x : OutSection) (s : Segment) → is_inside x s ≡ true → IsInside x s
inside_is x s t =
    let h = and_parts (leb s.address x.address) (leb (x.address + x.size) (s.address + length s.bytes)) t in
    record { above = grind (arith, nat_tests); below = grind (arith, nat_tests) }

-- it ends where the segments end, or before
offset_ends : (at : ℕ) (segments : List Segment) (x : OutSection) → list_any (is_inside x) segments ≡ true → offset_in at segments x + x.size ≤ end_from at segments
offset_ends at [] x t = absurd cc
offset_ends at (s ∷ segments) x t =
    let next : ℕ = offset_from at s.address + length s.bytes in
    let above = end_from_above next segments in
    elim (is_inside x s) as (λ b. is_inside x s ≡ b → (b || list_any (is_inside x) segments) ≡ true
    → cond b (offset_from at s.address + (x.address - s.address)) (offset_in next segments x) + x.size ≤ end_from next segments) [
      | true ↦ λ e h. let i = inside_is x s e in omega (arith, i.above, i.below, above)
      | false ↦ λ e h. offset_ends next segments x h
    ] refl t

-- its last address does not wrap
address_below : (segments : List Segment) (x : OutSection) → All IsLoadable segments → list_any (is_inside x) segments ≡ true → x.address + x.size ≤ 2 ^ 64
address_below [] x loadable t = absurd cc
address_below (s ∷ segments) x loadable t =
    let l = All-head IsLoadable s segments loadable in
    elim (is_inside x s) as (λ b. is_inside x s ≡ b → (b || list_any (is_inside x) segments) ≡ true → x.address + x.size ≤ 2 ^ 64) [
      | true ↦ λ e h. let i = inside_is x s e in omega (arith, i.below, l.memory, l.fits)
      | false ↦ λ e h. address_below segments x (All-tail IsLoadable s segments loadable) h
    ] refl t

-- ---- the given sections
-- where the bytes of a section stand
abbrev offset_at : ℕ → List Segment → ℕ → OutSection → ℕ
offset_at start segments own x = cond (is_in_memory x) (offset_in start segments x) own

one_ends : (n start : ℕ) (segments : List Segment) (own : ℕ) (x : OutSection) → IsPlaced segments x → end_from start segments ≤ n → own + length x.bytes ≤ n
    → offset_at start segments own x + x.size ≤ n
one_ends n start segments own x is end owned =
    elim (is_in_memory x) as (λ b. is_in_memory x ≡ b → cond b (offset_in start segments x) own + x.size ≤ n) [
      | true ↦ λ e. omega (arith, offset_ends start segments x (is.inside e))
      | false ↦ λ e. omega (arith, is.own e)
    ] refl

-- a section that is not in memory beyond 2^64
abbrev pub NoWrap : SectionHeader → Type 0
NoWrap h = (has_alloc h.flags && ltb (2 ^ 64) (h.addr + h.size)) ≡ false

one_wraps_not : (segments : List Segment) (name offset : ℕ) (x : OutSection) → All IsLoadable segments → IsPlaced segments x → NoWrap (header_with name offset x)
one_wraps_not segments name offset x loadable is =
    elim (is_in_memory x) as (λ b. is_in_memory x ≡ b → (b && ltb (2 ^ 64) (x.address + x.size)) ≡ false) [
      | true ↦ λ e. le-ltb _ _ (address_below segments x loadable (is.inside e))
      | false ↦ λ e. refl
    ] refl

-- ---- what their headers say
-- what a header describes, with a table of names
abbrev pub shown : List ℕ → SectionHeader → Section
shown table h = record { name = name_at table h.name; kind = h.kind; flags = h.flags; address = h.addr; size = h.size }

-- a header fits its fields, and the rules on it hold in a file of n bytes with such a table
pub record Passes (table : List ℕ) (n : ℕ) (h : SectionHeader) : Type 0 where
  pub fits : AllFit (section_fields h)
  pub ends : h.offset + h.size ≤ n
  pub wraps_not : NoWrap h
  pub ended : is_unended table h.name ≡ false
  pub no_rela : eqb h.kind 4 ≡ false

pub record GivenRead (table : List ℕ) (n : ℕ) (headers : List SectionHeader) (sections : List OutSection) : Type 0 where
  pub shown_are : map (shown table) headers ≡ map section_read sections
  pub pass : All (Passes table n) headers
  pub given : All (λ (h : SectionHeader). h.kind ≡ 1) headers

-- the names stand from an offset on, and others may follow
module _ (table : List ℕ) (n start : ℕ) (segments : List Segment) (more : List (List ℕ)) (small : n < 2 ^ 32) (short : length table ≤ n) (end : end_from start segments ≤ n) (loadable : All IsLoadable segments) where
  pub given_read : (name own : ℕ) (sections : List OutSection) → 0 < name → own + length (own_bytes sections) ≤ n → All SectionFits sections → All (IsPlaced segments) sections
      → All (λ x. IsName x.name) sections → Stands table name (names_bytes (map (λ x. x.name) sections ++ more)) → GivenRead table n (headers_from start segments name own sections) sections
  given_read name own [] above owned fits placed named s = record { shown_are = refl; pass = All-nil (Passes table n); given = All-nil (λ (h : SectionHeader). h.kind ≡ 1) }
  given_read name own (x ∷ sections) above owned fits placed named s =
      let others : List (List ℕ) = map (λ x. x.name) sections ++ more in
      let w = All-head SectionFits x sections fits in
      let is = All-head (IsPlaced segments) x sections placed in
      let both = length-append x.bytes (own_bytes sections) in
      let within = stands_within (names_bytes (x.name ∷ others)) s in
      let one = first_name table name x.name others above (All-head (λ x. IsName x.name) x sections named) s in
      let ends = one_ends n start segments own x is end (omega arith) in
      let rest = given_read (name + length x.name + 1) (own + length x.bytes) sections (omega arith) (omega arith) (All-tail SectionFits x sections fits) (All-tail (IsPlaced segments) x sections placed)
      (All-tail (λ x. IsName x.name) x sections named) (other_names table name x.name others s) in
      let h = header_with name (offset_at start segments own x) x in
      let headers = headers_from start segments (name + length x.name + 1) (own + length x.bytes) sections in
      let fit : AllFit (section_fields h) = (omega arith, (omega arith, (omega arith, (omega arith, (omega arith, (omega arith, (omega arith, (omega arith, (omega arith, (omega arith, tt)))))))))) in
      let head : shown table h ≡ section_read x = λ j. record { name = one.is j; kind = 1; flags = x.flags; address = x.address; size = x.size } in
      record {
        shown_are = rw (head, rest.shown_are) refl;
        pass = All-cons (Passes table n) h headers (record { fits = fit; ends = ends; wraps_not = one_wraps_not segments name (offset_at start segments own x) x loadable is; ended = one.ended; no_rela = refl }) rest.pass;
        given = All-cons (λ (h : SectionHeader). h.kind ≡ 1) h headers refl rest.given;
      }
