-- The segments that were written, read.
use Rattle.std.proofs.Common.{◌≡◌, ℕ, ◌+◌, ◌-◌, ◌^◌, ◌<◌, ◌≤◌, ◌&&◌, Bool, true, false, cond, ltb, eqb, List, [], ◌∷◌, ◌++◌, length, map, take, drop, replicate, None, Ok, refl, sym, ap, ◌∙◌, arith, inl, inr}
use Rattle.std.specs.Prelude.{All, AllPairs}
use Rattle.std.specs.Option.{is_some}
use Rattle.std.proofs.lemmas.Bool.{cases_lt, le-ltb}
use Rattle.std.proofs.Math.Bool.{and-false}
use Rattle.std.proofs.lemmas.List.{length-replicate}
use Rattle.std.proofs.lemmas.List.Elements.{All-cons, All-nil, All-head, All-tail}
use Rattle.elf_types.specs.declared.file.Segment.{Segment}
use Rattle.elf_types.specs.declared.records.ProgramHeader.{ProgramHeader}
use Rattle.elf_types.specs.Abi.{is_load}
use Rattle.machine.specs.Below.{sum_below, each}
use Rattle.tests.specs.Files.Header.{e_phoff, e_phnum}
use Rattle.tests.specs.Files.Fields.{program_header}
use Rattle.tests.specs.Files.Rules.{is_segment_outside, segment_place_rule, is_misshapen, segment_shape_rule, do_overlap, overlapped, segment_overlap_rule, file_size}
use Rattle.tests.specs.Files.File.{load_bytes, segment_of}
use Rattle.tests.specs.Elf.Written.{segments_bytes, offset_from, end_from, program_headers}
use Rattle.tests.specs.Elf.Layout.{IsLoadable, do_share}
use Rattle.machine.proofs.Lemmas.{first_none}
use Rattle.elf_write.specs.Widths.{SegmentFits}
use Rattle.elf_write.proofs.Stands.{Stands, stands_left, stands_right, stands_within, stands_slice, AllFit}
use Rattle.elf_write.proofs.Listing.{each_has, each_pair, each_map, sum_each, total}
use Rattle.elf_write.proofs.RecordsRead.{program_of, programs_from, fields_of_program, programs_read}

-- ---- one segment
-- what a header describes
abbrev described : List ℕ → ProgramHeader → Segment
described file p = record { kind = p.kind; flags = p.flags; address = p.vaddr; memory = p.memsz; bytes = load_bytes file p }

described_is : (file : List ℕ) (at : ℕ) (s : Segment) → s.kind ≡ 1 → Stands file at s.bytes → described file (program_of at s) ≡ s
unfolding load_bytes
described_is file at s kind stands =
    let slice : cond (eqb s.kind 1) (take (length s.bytes) (drop at file)) [] ≡ s.bytes = rw kind (stands_slice s.bytes stands) in
    λ j. record { kind = s.kind; flags = s.flags; address = s.address; memory = s.memory; bytes = slice j }

-- its header fits its fields, and the rules on it hold
record Passes (file : List ℕ) (p : ProgramHeader) : Type 0 where
  fits : AllFit (fields_of_program p)
  inside : is_segment_outside file p ≡ false
  shaped : is_misshapen p ≡ false

passes : (file : List ℕ) (at : ℕ) (s : Segment) → length file < 2 ^ 64 → IsLoadable s → SegmentFits s → Stands file at s.bytes → Passes file (program_of at s)
unfolding is_segment_outside is_misshapen
passes file at s small l w stands =
    let within = stands_within s.bytes stands in
    let short : ltb (length file) (at + length s.bytes) ≡ false = le-ltb _ _ within in
    let a : ltb s.memory (length s.bytes) ≡ false = le-ltb _ _ l.memory in
    let b : ltb (2 ^ 64) (s.address + s.memory) ≡ false = le-ltb _ _ l.fits in
    record {
      fits = (omega (arith, l.kind), (omega arith, (omega arith, (omega arith, (omega arith, (omega arith, (omega arith, (omega arith, tt))))))));
      inside = rw short (and-false (eqb s.kind 1 && ltb 0 (length s.bytes)));
      shaped = rw (a, b) (and-false (eqb s.kind 1));
    }

at_most : (b : Bool) (n : ℕ) → cond b n 0 ≤ n
at_most true n = omega arith
at_most false n = omega arith

-- ---- segments whose bytes stand in a file
record ProgramsAre (file : List ℕ) (at : ℕ) (segments : List Segment) : Type 0 where
  pass : All (Passes file) (programs_from at segments)
  described_are : map (described file) (programs_from at segments) ≡ segments
  count : length (programs_from at segments) ≡ length segments
  bytes : at + total file_size (programs_from at segments) ≤ end_from at segments

programs_are : (file : List ℕ) (at : ℕ) (segments : List Segment) → length file < 2 ^ 64 → All IsLoadable segments → All SegmentFits segments → Stands file at (segments_bytes at segments) → ProgramsAre file at segments
programs_are file at [] small loadable fits s = record { pass = All-nil (Passes file); described_are = refl; count = refl; bytes = omega arith }
programs_are file at (x ∷ segments) small loadable fits s =
    let offset : ℕ = offset_from at x.address in
    let next : ℕ = offset + length x.bytes in
    let zeros : List ℕ = replicate (offset - at) 0 in
    let rest : List ℕ = segments_bytes next segments in
    let body = stands_right offset zeros (x.bytes ++ rest) (omega (arith, length-replicate {A = ℕ} (offset - at) 0)) s in
    let here = stands_left x.bytes rest body in
    let l = All-head IsLoadable x segments loadable in
    let more = programs_are file next segments small (All-tail IsLoadable x segments loadable) (All-tail SegmentFits x segments fits) (stands_right next x.bytes rest refl body) in
    let size : file_size (program_of offset x) ≤ length x.bytes = at_most (eqb x.kind 1) (length x.bytes) in
    record {
      pass = All-cons (Passes file) (program_of offset x) (programs_from next segments) (passes file offset x small l (All-head SegmentFits x segments fits) here) more.pass;
      described_are = rw (described_is file offset x l.kind here, more.described_are) refl;
      count = omega (arith, more.count);
      bytes = omega (arith, size, more.bytes);
    }

-- ---- of a file
pub record SegmentsPass (file : List ℕ) (at : ℕ) (segments : List Segment) : Type 0 where
  pub place : segment_place_rule file ≡ Ok tt
  pub shape : segment_shape_rule file ≡ Ok tt
  pub overlap : segment_overlap_rule file ≡ Ok tt
  pub are : each (e_phnum file) (segment_of file) ≡ segments
  pub bytes : at + sum_below (e_phnum file) (λ i. file_size (program_header file i)) ≤ end_from at segments

pub third_fails : (a b c : Bool) → c ≡ false → (a && b && c) ≡ false
third_fails a b c h = rw h (and-false (a && b))

alone : (file : List ℕ) (segments : List Segment) → each (e_phnum file) (segment_of file) ≡ segments → AllPairs (λ s t. do_share s t ≡ false) segments → (i : ℕ) → overlapped file i ≡ None
unfolding overlapped do_overlap segment_of
alone file segments are pairs i =
    first_none (e_phnum file) (λ j. ltb i j && do_overlap (program_header file i) (program_header file j)) (λ j lt.
    elim (cases_lt i j) [
      | inl before ↦
          let none : do_share (segment_of file i) (segment_of file j) ≡ false = each_pair (λ (s t : Segment). do_share s t ≡ false) (e_phnum file) (segment_of file) segments are pairs i j before lt in
          rw (third_fails (is_load (program_header file i).kind) (is_load (program_header file j).kind) (do_share (segment_of file i) (segment_of file j)) none) (and-false (ltb i j))
      | inr after ↦ let e : ltb i j ≡ false = le-ltb _ _ after in rw e refl
    ])

each_described : (file : List ℕ) (n : ℕ) → each n (segment_of file) ≡ map (described file) (each n (program_header file))
unfolding segment_of
each_described file n = each_map (described file) n (program_header file)

pub segments_pass : (file : List ℕ) (at : ℕ) (segments : List Segment) → e_phnum file ≡ length segments → length file < 2 ^ 64 → All IsLoadable segments → All SegmentFits segments
    → AllPairs (λ s t. do_share s t ≡ false) segments → Stands file (e_phoff file) (program_headers at segments) → Stands file at (segments_bytes at segments) → SegmentsPass file at segments
unfolding segment_place_rule segment_shape_rule segment_overlap_rule
segments_pass file at segments n small loadable fits pairs headers stand =
    let programs = programs_from at segments in
    let all = programs_are file at segments small loadable fits stand in
    let read = programs_read file at segments (n ∙ sym all.count) (λ i d lt. (all.pass i d lt).fits) headers in
    let pass = each_has (Passes file) (e_phnum file) (program_header file) programs read all.pass in
    let are = each_described file (e_phnum file) ∙ ap (map (described file)) read ∙ all.described_are in
    let a = first_none (e_phnum file) (λ i. is_segment_outside file (program_header file i)) (λ i lt. (pass i lt).inside) in
    let b = first_none (e_phnum file) (λ i. is_misshapen (program_header file i)) (λ i lt. (pass i lt).shaped) in
    let c = first_none (e_phnum file) (λ i. is_some (overlapped file i)) (λ i lt. ap is_some (alone file segments are pairs i)) in
    record {
      place = rw a refl;
      shape = rw b refl;
      overlap = rw c refl;
      are = are;
      bytes = omega (arith, sum_each file_size (e_phnum file) (program_header file), ap (total file_size) read, all.bytes);
    }
