-- A generated test is admitted.
use Rattle.std.proofs.Common.{◌≡◌, ℕ, ◌+◌, ◌*◌, ◌≤◌, true, List, ◌∷◌, length, refl, subst, arith}
use Rattle.std.proofs.lemmas.Bool.{or_from}
use Rattle.tests.specs.Options.{default_options}
use Rattle.tests.specs.Files.File.{IsReadAs}
use Rattle.tests.specs.Elf.FileRead.{file_read}
use Rattle.tests.specs.Elf.Layout.{string_table, symbol_names, section_names, null_symbol}
use Rattle.tests.specs.Admission.CodeWords.{is_code, ElfFile}
use Rattle.tests.specs.Admission.Refusals.{IsAdmitted}
use Rattle.qed_model.proofs.ExampleCode as made
use Rattle.qed_model.proofs.Lemmas.{IsCodeOf}
use Rattle.tests.proofs.Lemmas.{one_file}
use Rattle.test_gen.specs.Code.{function_count, code}
use Rattle.test_gen.specs.Generated.{code_bytes, generated_table_bytes, data_bytes, symbols, generated_file_of, generated}
use Rattle.test_gen.proofs.Functions.{length-code}
use Rattle.test_gen.proofs.Sizes.{length-code_bytes, length-table_bytes, length-data_bytes}
use Rattle.test_gen.proofs.Plain.{code_plain}
use Rattle.test_gen.proofs.Stands.{IsImage, known, code_here, all_fine}
use Rattle.test_gen.proofs.Shape as shape
use Rattle.test_gen.proofs.Shape.{file_of, AreSized}

module _ (seed n x y z : ℕ) (some : 1 ≤ n) (few : n ≤ 1875) where
  abbrev f : ElfFile
  f = file_of (code_bytes seed n) (generated_table_bytes n) data_bytes (null_symbol ∷ symbols n) x y z

  -- how long its segments are
  pub sized : AreSized n (code_bytes seed n) (generated_table_bytes n) data_bytes
  sized = record { some = some; few = few; code_size = length-code_bytes seed n; table_size = length-table_bytes n; words_size = length-data_bytes }

  image : IsImage f 0x10000 (code_bytes seed n)
  image = shape.code_image n (code_bytes seed n) (generated_table_bytes n) data_bytes (null_symbol ∷ symbols n) x y z sized

  -- its code is that of `main` and of the functions
  pub is_code_of : IsCodeOf f 0x10000 (code seed n)
  unfolding code_bytes
  is_code_of = known f 0x10000 (code_bytes seed n) image (code seed n) (code_plain seed n few) refl

  entry : is_code f 0x10000 ≡ true
  entry = code_here f 0x10000 (code_bytes seed n) image 0 refl (omega (arith, length-code_bytes seed n))

  -- no rule refuses it
  pub file_admitted : IsAdmitted f default_options
  file_admitted =
      let c = code_bytes seed n in
      let t = generated_table_bytes n in
      let s = null_symbol ∷ symbols n in
      let base = shape.base_is n c t data_bytes s x y z sized in
      let high = shape.high_is n c t data_bytes s x y z sized in
      let distance = shape.distance_is n c t data_bytes s x y z sized in
      made.admitted f 0x10000 (code seed n) is_code_of (all_fine f 0x10000 (code seed n) is_code_of 0x10000 (code seed n) (code_plain seed n few)) default_options
      (or_from _ _ refl (or_from _ _ refl (or_from _ _ (shape.separate n c t data_bytes s x y z sized)
      (or_from _ _ (shape.sections_pass n c t data_bytes s x y z sized)
      (or_from _ _ (shape.segments_pass n c t data_bytes s x y z sized) (shape.unmixed n c t data_bytes s x y z sized))))))
      entry (omega (arith, length-code seed n, few)) (omega (arith, base, high, distance)) (omega (arith, distance)) (omega (arith, base, distance))

-- the file of n functions, when read, is admitted
with_functions : (seed n : ℕ) → 1 ≤ n → n ≤ 1875 → IsAdmitted (file_read (generated_file_of seed n)) default_options
unfolding generated_file_of
with_functions seed n some few =
    file_admitted seed n (24 * (1 + length (symbols n))) (length (string_table (symbol_names (symbols n)))) (length (string_table (section_names (generated_file_of seed n).sections))) some few

-- a generated test has 1 to 1,875 functions
pub few_functions : (size : ℕ) → 1 ≤ size → size ≤ 60000 → (1 ≤ function_count size) × (function_count size ≤ 1875)
unfolding function_count
few_functions size some most = (omega (arith, some), omega (arith, most))

-- any file that its bytes are read as is admitted
pub admitted : (seed size : ℕ) (bytes : List ℕ) → 1 ≤ size → size ≤ 60000 → IsReadAs bytes (file_read (generated seed size)) → (f : ElfFile) → IsReadAs bytes f → IsAdmitted f default_options
unfolding generated
admitted seed size bytes some most read f r =
    let n = few_functions size some most in
    subst (λ g. IsAdmitted g default_options) (one_file bytes (file_read (generated seed size)) f read.file r.file) (with_functions seed (function_count size) n.0 n.1)
