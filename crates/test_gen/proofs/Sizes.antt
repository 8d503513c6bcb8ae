-- The sizes of the parts of a generated file.
use Rattle.std.proofs.Common.{◌≡◌, ℕ, zero, suc, ◌+◌, ◌*◌, length, map, refl, arith, length-append}
use Rattle.std.proofs.lemmas.List.{length-map}
use Rattle.machine.specs.Below.{gather}
use Rattle.machine.specs.Numbers.{number_bytes}
use Rattle.tests.proofs.Lemmas.{length-number_bytes, length-bytes_of}
use Rattle.test_gen.specs.Code.{code}
use Rattle.test_gen.specs.Generated.{generated_word, code_bytes, function_at, generated_table_bytes, data_bytes}
use Rattle.test_gen.proofs.Functions.{length-code}

-- numbers of 8 bytes, end to end
pub length-numbers : (n : ℕ) (f : ℕ → ℕ) → length (gather n (λ i. number_bytes 8 (f i))) ≡ 8 * n
unfolding gather
length-numbers zero f = refl
length-numbers (suc n) f = omega (arith, length-append (gather n (λ i. number_bytes 8 (f i))) (number_bytes 8 (f n)), length-numbers n f, length-number_bytes 8 (f n))

pub length-code_bytes : (seed n : ℕ) → length (code_bytes seed n) ≡ 48 + 132 * n
unfolding code_bytes
length-code_bytes seed n = omega (arith, length-bytes_of (map generated_word (code seed n)), length-map (code seed n) generated_word, length-code seed n)

pub length-table_bytes : (n : ℕ) → length (generated_table_bytes n) ≡ 8 * n
unfolding generated_table_bytes
length-table_bytes n = length-numbers n function_at

pub length-data_bytes : length data_bytes ≡ 2048
unfolding data_bytes
length-data_bytes = length-numbers 256 (λ i. i)
