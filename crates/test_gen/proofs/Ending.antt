-- The run of a generated test ends.
use Rattle.std.proofs.Common.{◌≡◌, ℕ, ◌+◌, ◌*◌, ◌≤◌, List, ◌∷◌, length, refl, ◌∙◌, subst, get_or-set_same, arith}
use Rattle.std.proofs.lemmas.List.{length-set}
use Rattle.tests.specs.Files.File.{IsReadAs}
use Rattle.tests.specs.Elf.FileRead.{file_read}
use Rattle.tests.specs.Elf.Layout.{string_table, symbol_names, section_names, null_symbol}
use Rattle.machine.specs.Loading.{loaded_file, ElfFile}
use Rattle.machine.specs.Program.{AreStartRegs, start, memory_of}
use Rattle.tests.specs.Admission.CodeWords.{loads_of, ranges_of}
use Rattle.tests.proofs.Lemmas.{one_file}
use Rattle.test_gen.specs.Code.{function_count}
use Rattle.test_gen.specs.Ends.{EndsAfter, run_steps, test_steps}
use Rattle.test_gen.specs.Generated.{code_bytes, generated_table_bytes, data_bytes, symbols, generated_file_of, generated}
use Rattle.test_gen.proofs.Admitted.{sized, is_code_of, file_admitted, few_functions}
use Rattle.test_gen.proofs.Apart.{are_loads, small_code, small_table, small_data}
use Rattle.test_gen.proofs.Loaded.{is_made}
use Rattle.test_gen.proofs.MainEnd.{ends_after}
use Rattle.test_gen.proofs.Shape.{file_of}

module _ (seed n x y z : ℕ) (some : 1 ≤ n) (few : n ≤ 1875) where
  abbrev f : ElfFile
  f = file_of (code_bytes seed n) (generated_table_bytes n) data_bytes (null_symbol ∷ symbols n) x y z

  pub file_ends : (regs : List ℕ) → length regs ≡ 32 → EndsAfter (start (loaded_file f) regs) (run_steps n)
  file_ends regs count =
      let sizes = sized seed n x y z some few in
      let loads = are_loads n (code_bytes seed n) (generated_table_bytes n) data_bytes (null_symbol ∷ symbols n) x y z sizes (small_code seed n) (small_table n) small_data in
      let made = is_made seed n (code_bytes seed n) data_bytes (null_symbol ∷ symbols n) x y z sizes loads (is_code_of seed n x y z some few) (file_admitted seed n x y z some few) in
      ends_after (memory_of (loads_of f)) (ranges_of f) seed n made some (start (loaded_file f) regs)
      (record { going = refl; ranges_are = refl; flags = λ q. refl; fixed = λ q l. refl; count = length-set regs 0 0 ∙ count })
      (get_or-set_same regs 0 0 0 (omega (arith, count))) refl

with_functions : (seed n : ℕ) → 1 ≤ n → n ≤ 1875 → (regs : List ℕ) → length regs ≡ 32 → EndsAfter (start (loaded_file (file_read (generated_file_of seed n))) regs) (run_steps n)
unfolding generated_file_of
with_functions seed n some few regs count =
    file_ends seed n (24 * (1 + length (symbols n))) (length (string_table (symbol_names (symbols n)))) (length (string_table (section_names (generated_file_of seed n).sections))) some few regs count

-- the file that its bytes are read as ends after these steps
pub test_ends :
    (seed size : ℕ) (bytes : List ℕ) → 1 ≤ size → size ≤ 60000 → IsReadAs bytes (file_read (generated seed size)) → (f : ElfFile) → IsReadAs bytes f
    → (regs : List ℕ) → AreStartRegs regs → EndsAfter (start (loaded_file f) regs) (test_steps size)
unfolding generated test_steps
test_ends seed size bytes some most read f r regs start_regs =
    let n = few_functions size some most in
    subst (λ g. EndsAfter (start (loaded_file g) regs) (run_steps (function_count size))) (one_file bytes (file_read (generated seed size)) f read.file r.file)
    (with_functions seed (function_count size) n.0 n.1 regs start_regs.count)
