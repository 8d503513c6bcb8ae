-- The segments of a generated file are bytes, and share none.
use Rattle.std.proofs.Common.{inl, ℕ, zero, suc, ◌+◌, ◌^◌, ◌<◌, ◌≤◌, List, length, map, arith}
use Rattle.std.specs.Prelude.{slice_index}
use Rattle.elf_types.specs.declared.file.Symbol.{Symbol}
use Rattle.machine.specs.Below.{gather}
use Rattle.machine.specs.Numbers.{number_bytes}
use Rattle.machine.specs.Program.{LoadSegment}
use Rattle.tests.specs.Admission.CodeWords.{loads_of, ElfFile}
use Rattle.machine.specs.Members.{Every, Pairs}
use Rattle.tests.proofs.Lemmas.{bytes_of_fit, number_bytes_fit, append_fit, apart}
use Rattle.machine.proofs.Lemmas.{every_among, alone}
use Rattle.tests.specs.Elf.Sound.{AreLoads, ApartLoads}
use Rattle.test_gen.specs.Code.{code}
use Rattle.test_gen.specs.Generated.{generated_word, code_bytes, generated_table_bytes, data_bytes, function_at}
use Rattle.test_gen.proofs.Shape.{file_of, AreSized}

-- ---- bytes
small_numbers : (n : ℕ) (f : ℕ → ℕ) (k : ℕ) → slice_index (gather n (λ i. number_bytes 8 (f i))) k < 256
unfolding gather number_bytes
small_numbers zero f k = omega arith
small_numbers (suc n) f k = append_fit (gather n (λ i. number_bytes 8 (f i))) (number_bytes 8 (f n)) (small_numbers n f) (λ j. number_bytes_fit 8 0 (f n) j) k

pub small_code : (seed n k : ℕ) → slice_index (code_bytes seed n) k < 256
unfolding code_bytes
small_code seed n k = bytes_of_fit (map generated_word (code seed n)) k

pub small_table : (n k : ℕ) → slice_index (generated_table_bytes n) k < 256
unfolding generated_table_bytes
small_table n k = small_numbers n function_at k

pub small_data : (k : ℕ) → slice_index data_bytes k < 256
unfolding data_bytes
small_data k = small_numbers 256 (λ i. i) k

-- ---- segments
-- a segment in bounds: its bytes fit it, it fits memory, and each is a byte
record IsLoad (l : LoadSegment) : Type 0 where
  sized : length l.bytes ≤ l.size
  fit : l.address + l.size ≤ 2 ^ 64
  small : (k : ℕ) → slice_index l.bytes k < 256

module _ (n : ℕ) (code_part table words : List ℕ) (symbols : List Symbol) (x y z : ℕ) (sized : AreSized n code_part table words) (a : (k : ℕ) → slice_index code_part k < 256) (b : (k : ℕ) → slice_index table k < 256) (c : (k : ℕ) → slice_index words k < 256) where
  abbrev f : ElfFile
  f = file_of code_part table words symbols x y z

  loads_are : Every IsLoad (loads_of f)
  loads_are =
      let k = sized.few in
      let s = sized.code_size in
      let t = sized.table_size in
      let u = sized.words_size in
      (record { sized = omega arith; fit = omega (arith, k, s); small = a }, (record { sized = omega arith; fit = omega (arith, k, t); small = b }, (record { sized = omega arith; fit = omega (arith, u); small = c }, tt)))

  first_second : 0x10000 + length code_part ≤ 0x80000
  first_second = let k = sized.few in let s = sized.code_size in omega (arith, k, s)

  second_third : 0x80000 + length table ≤ 0x90000
  second_third = let k = sized.few in let s = sized.table_size in omega (arith, k, s)

  first_third : 0x10000 + length code_part ≤ 0x90000
  first_third = omega (arith, first_second)

  -- the segments are apart, by those that they are loaded from
  pairs : Pairs ApartLoads f.segments
  pairs = (((λ k l a b. inl first_second), ((λ k l a b. inl first_third), tt)), (((λ k l a b. inl second_third), tt), (tt, tt)))

  pub are_loads : AreLoads (loads_of f)
  are_loads = record {
    sized = λ l i. (every_among IsLoad l (loads_of f) loads_are i).sized;
    fit = λ l i. (every_among IsLoad l (loads_of f) loads_are i).fit;
    alone = alone (loads_of f) (apart f.segments pairs);
    bytes = λ l i. (every_among IsLoad l (loads_of f) loads_are i).small;
  }
