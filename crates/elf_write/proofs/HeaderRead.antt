-- The header that was written, read, and where the parts of the file stand.
use Rattle.std.proofs.Common.{◌≡◌, ℕ, ◌+◌, ◌^◌, ◌<◌, ◌≤◌, true, false, ltb, eqb, List, [], ◌++◌, length, Ok, refl, ap, ◌∙◌, arith, length-append}
use Rattle.std.proofs.Math.Bool.{or-true}
use Rattle.std.proofs.lemmas.Bool.{le-ltb}
use Rattle.std.proofs.lemmas.Bool.Decides.{nat_tests}
use Rattle.elf_types.specs.declared.output.OutFile.{OutFile}
use Rattle.tests.specs.Files.Header.{e_entry, e_phoff, e_shoff, e_flags, e_phnum, e_shnum}
use Rattle.tests.specs.Files.Fields.{e_shstrndx}
use Rattle.tests.specs.Files.Rules.{magic_rule, header_rule, class_rule, encoding_rule, version_rule, file_type_rule, machine_rule, header_shape_rule, header_rules}
use Rattle.tests.specs.Elf.Layout.{file_fields, file_header, headers_place}
use Rattle.tests.proofs.Lemmas.{slice_index-field}
use Rattle.elf_write.proofs.Sizes.{length-file_fields}
use Rattle.elf_write.proofs.Stands.{AllFit, AllRead, stands_fields}

-- ---- the header
pub record HeaderRead (f : OutFile) (file : List ℕ) : Type 0 where
  pub rules : header_rules file ≡ Ok tt
  pub entry : e_entry file ≡ f.entry
  pub phoff : e_phoff file ≡ 64
  pub shoff : e_shoff file ≡ headers_place f
  pub flags : e_flags file ≡ f.flags
  pub phnum : e_phnum file ≡ length f.segments
  pub shnum : e_shnum file ≡ length f.sections + 4
  pub shstrndx : e_shstrndx file ≡ length f.sections + 3

-- its fields in their order: the identification; from the type to the flags; the sizes and counts
pub header_read : (f : OutFile) (file rest : List ℕ) → file ≡ file_header f ++ rest → f.entry < 2 ^ 64 → f.flags < 2 ^ 32 → length f.segments ≤ 4000 → length f.sections ≤ 4000 → headers_place f < 2 ^ 64
    → HeaderRead f file
unfolding header_rules magic_rule header_rule class_rule encoding_rule version_rule file_type_rule machine_rule header_shape_rule
header_read f file rest is he hf few some hh =
    let fields = file_fields f.entry f.flags (length f.segments) (headers_place f) (length f.sections) in
    let long : 64 ≤ length file = omega (arith, ap length is, length-append (file_header f) rest, length-file_fields f.entry f.flags (length f.segments) (headers_place f) (length f.sections)) in
    let fit : AllFit fields = (omega arith, (omega arith, (omega arith, (omega arith, (omega arith, (omega arith, (omega arith, (omega arith, (omega arith, (omega arith, (omega arith, (omega arith, (omega arith, (omega arith, (omega arith, (omega arith, (omega arith, (omega arith, (omega arith, tt))))))))))))))))))) in
    let ident : AllRead file 0 0 fields = stands_fields 0 0 0 fields refl fit (record { front = []; back = rest; parts = is; before = refl }) in
    let class = slice_index-field 4 file ∙ ident.1.0 in
    let encoding = slice_index-field 5 file ∙ ident.1.1.0 in
    let version = slice_index-field 6 file ∙ ident.1.1.1.0 in
    let main = ident.1.1.1.1.1.1 in
    let sizes = main.1.1.1.1.1.1.1 in
    let l4 : ltb (length file) 4 ≡ false = le-ltb _ _ (omega arith) in
    let l64 : ltb (length file) 64 ≡ false = le-ltb _ _ long in
    let small : eqb (length f.segments) 0xffff ≡ false = grind (arith, nat_tests) in
    let sections : eqb (length f.sections + 4) 0 ≡ false = grind (arith, nat_tests) in
    let more : ltb 0 (length f.sections + 4) ≡ true = grind (arith, nat_tests) in
    let last : ltb (length f.sections + 3) (length f.sections + 4) ≡ true = grind (arith, nat_tests) in
    record {
      rules = rw (l4, ident.0, l64, class, encoding, version, main.1.1.0, main.0, main.1.0, sizes.0, sizes.1.1.0, sizes.1.0, sizes.1.1.1.1.0, sizes.1.1.1.0, sizes.1.1.1.1.1.0, small, sections, more, last, or-true (eqb (length f.segments) 0)) refl;
      entry = main.1.1.1.0;
      phoff = main.1.1.1.1.0;
      shoff = main.1.1.1.1.1.0;
      flags = main.1.1.1.1.1.1.0;
      phnum = sizes.1.1.0;
      shnum = sizes.1.1.1.1.0;
      shstrndx = sizes.1.1.1.1.1.0;
    }
