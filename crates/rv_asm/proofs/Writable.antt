-- An assembled file can be written.
use Rattle.std.proofs.Common.{◌≡◌, ◌≢◌, inl, inr, ℕ, ◌+◌, ◌*◌, ◌≤◌, true, false, cond, ◌==◌, List, [], ◌∷◌, length, map, refl, sym, ap, ◌∙◌, arith, length-append}
use Rattle.std.specs.Prelude.{All, AllPairs, codes}
use Rattle.std.specs.List.{list_all}
use Rattle.std.proofs.lemmas.Bool.{and_parts, false≢true}
use Rattle.std.proofs.lemmas.List.Elements.{All-nil, All-cons}
use Rattle.elf_types.specs.declared.file.Segment.{Segment}
use Rattle.elf_types.specs.declared.file.Symbol.{Symbol}
use Rattle.elf_types.specs.declared.output.OutSection.{OutSection}
use Rattle.machine.specs.Numbers.{number_bytes, bytes_of}
use Rattle.tests.specs.Elf.Written.{offset_from, end_from}
use Rattle.tests.specs.Elf.Layout.{written, names_bytes, own_bytes, own_place, do_share, IsName, IsLoadable, IsPlaced, IsWritable}
use Rattle.tests.proofs.Lemmas.{length-number_bytes, length-bytes_of, name_test, not_shared}
use Rattle.machine.proofs.Lemmas.{pairs_all, every_all}
use Rattle.elf_write.proofs.PlainFits.{loadable, offset_room, inside_itself, placed, upper}
use Rattle.elf_write.proofs.Sizes.{length-section_names}
use Rattle.rv_asm.specs.Lines.{begins_name, continues_name, is_name}
use Rattle.rv_asm.specs.Assembled.{values_bytes, text_segment, text_data_segment, segments, code_section, data_section, sections, file_from, file_of_given}
use Rattle.rv_asm.proofs.Room.{cost, cost_is}
use Rattle.rv_asm.proofs.Sound.{IsLabelSymbol}

length-values_bytes : (values : List ℕ) → length (values_bytes values) ≡ 8 * length values
length-values_bytes [] = refl
length-values_bytes (v ∷ values) = omega (arith, length-append (number_bytes 8 v) (values_bytes values), length-number_bytes 8 v, length-values_bytes values)

-- ---- names
name_later : (cs : List ℕ) → list_all continues_name cs ≡ true → IsName cs
name_later [] e = All-nil (λ byte. byte ≢ 0)
name_later (c ∷ cs) e =
    let p = and_parts (continues_name c) (list_all continues_name cs) e in
    All-cons (λ byte. byte ≢ 0) c cs (λ z. false≢true (sym (ap continues_name z) ∙ p.0)) (name_later cs p.1)

name_sound : (name : List ℕ) → is_name name ≡ true → IsName name
unfolding is_name
name_sound [] e = All-nil (λ byte. byte ≢ 0)
name_sound (c ∷ cs) e =
    let p = and_parts (begins_name c) (list_all continues_name cs) e in
    All-cons (λ byte. byte ≢ 0) c cs (λ z. false≢true (sym (ap begins_name z) ∙ p.0)) (name_later cs p.1)

-- ---- segments and sections
-- what is asked of the segments and sections of a small file
record ArePlain (ss : List Segment) (xs : List OutSection) : Type 0 where
  loads : All IsLoadable ss
  ascend : AllPairs (λ s t. s.address ≤ t.address) ss
  apart : AllPairs (λ s t. do_share s t ≡ false) ss
  few : length ss ≤ 2
  places : All (IsPlaced ss) xs
  names : All (λ x. IsName x.name) xs
  few_sections : length xs ≤ 2
  own : own_bytes xs ≡ []
  short : length (names_bytes (map (λ x. x.name) xs)) ≤ 13
  ends : end_from (64 + 56 * length ss) ss ≤ 2000000

one_plain : (code : List ℕ) → length code ≤ 16384 → ArePlain (text_segment code ∷ []) (code_section code ∷ [])
one_plain code h =
    let s = text_segment code in
    let size = length-bytes_of code in
    record {
      loads = every_all IsLoadable (s ∷ []) (loadable 5 0x10000 (bytes_of code) (omega arith), tt);
      ascend = pairs_all (λ s t. s.address ≤ t.address) (s ∷ []) (tt, tt);
      apart = pairs_all (λ s t. do_share s t ≡ false) (s ∷ []) (tt, tt);
      few = omega arith;
      places = every_all (IsPlaced (s ∷ [])) (code_section code ∷ []) (placed (codes ".text") 6 s refl (s ∷ []) (inl refl) (inside_itself (codes ".text") 6 5 0x10000 (bytes_of code)), tt);
      names = every_all (λ x. IsName x.name) (code_section code ∷ []) (name_test (codes ".text") refl, tt);
      few_sections = omega arith;
      own = refl;
      short = omega arith;
      ends = omega (arith, size, offset_room 120 0x10000);
    }

two_plain : (code values : List ℕ) → length code ≤ 16384 → length values ≤ 131072 → ArePlain (text_segment code ∷ text_data_segment values ∷ []) (code_section code ∷ data_section values ∷ [])
two_plain code values h k =
    let s = text_segment code in
    let t = text_data_segment values in
    let size = length-bytes_of code in
    let data_size = length-values_bytes values in
    record {
      loads = every_all IsLoadable (s ∷ t ∷ []) (loadable 5 0x10000 (bytes_of code) (omega arith), (loadable 6 0x20000 (values_bytes values) (omega arith), tt));
      ascend = pairs_all (λ s t. s.address ≤ t.address) (s ∷ t ∷ []) ((omega arith, tt), (tt, tt));
      apart = pairs_all (λ s t. do_share s t ≡ false) (s ∷ t ∷ []) ((not_shared s t (omega arith), tt), (tt, tt));
      few = omega arith;
      places = every_all (IsPlaced (s ∷ t ∷ [])) (code_section code ∷ data_section values ∷ []) (
        placed (codes ".text") 6 s refl (s ∷ t ∷ []) (inl refl) (inside_itself (codes ".text") 6 5 0x10000 (bytes_of code)),
        (placed (codes ".data") 3 t refl (s ∷ t ∷ []) (inr (inl refl)) (inside_itself (codes ".data") 3 6 0x20000 (values_bytes values)), tt),
      );
      names = every_all (λ x. IsName x.name) (code_section code ∷ data_section values ∷ []) (name_test (codes ".text") refl, (name_test (codes ".data") refl, tt));
      few_sections = omega arith;
      own = refl;
      short = omega arith;
      ends = omega (arith, size, data_size, offset_room 176 0x10000, offset_room (offset_from 176 0x10000 + length (bytes_of code)) 0x20000);
    }

plain : (code values : List ℕ) → length code ≤ 16384 → length values ≤ 131072 → ArePlain (segments code values) (sections code values)
plain code values h k =
    elim (length values == 0) as (λ b. ArePlain (cond b (text_segment code ∷ []) (text_segment code ∷ text_data_segment values ∷ [])) (cond b (code_section code ∷ []) (code_section code ∷ data_section values ∷ [])))
    [ true ↦ one_plain code h | false ↦ two_plain code values h k ]

-- ---- the file
small : (ss : List Segment) (xs : List OutSection) (symbols : List Symbol) → ArePlain ss xs → cost symbols ≤ 603979785 → length (written (file_from ss xs symbols)) ≤ 1073741824
unfolding own_place
small ss xs symbols p h =
    let own : length (own_bytes xs) ≡ 0 = ap length p.own in
    let place : own_place (file_from ss xs symbols) ≡ end_from (64 + 56 * length ss) ss = refl in
    omega (arith, upper (file_from ss xs symbols), p.ends, p.short, p.few_sections, own, place, cost_is symbols, length-section_names xs)

plain_writable : (ss : List Segment) (xs : List OutSection) (symbols : List Symbol) → ArePlain ss xs → All IsLabelSymbol symbols → cost symbols ≤ 603979785 → IsWritable (file_from ss xs symbols)
plain_writable ss xs symbols p all h =
    let size_small = small ss xs symbols p h in
    record {
      segments = p.loads;
      ascend = p.ascend;
      apart = p.apart;
      few_segments = omega (arith, p.few);
      sections = p.places;
      section_names = p.names;
      few_sections = omega (arith, p.few_sections);
      symbols = λ k d l. let s = all k d l in record { kind = omega (arith, s.kind); binding = omega (arith, s.binding) };
      symbol_names = λ k d l. let s = all k d l in name_sound _ s.name;
      not_null = λ k d l e. let s = all k d l in let i = ap (λ (s : Symbol). s.index) e in absurd (omega (arith, s.index, i));
      locals_first = λ i j d lt l z. let s = all i d (omega arith) in s.binding;
      size = size_small;
    }

pub writable : (code values : List ℕ) (symbols : List Symbol) → length code ≤ 16384 → length values ≤ 131072 → All IsLabelSymbol symbols → cost symbols ≤ 603979785 → IsWritable (file_of_given code values symbols)
unfolding file_of_given
writable code values symbols h k all c = plain_writable (segments code values) (sections code values) symbols (plain code values h k) all c
