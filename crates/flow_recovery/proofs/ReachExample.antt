-- A test of nine words; five are reached, each for its own reason. Proved by computing.
use Rattle.std.proofs.Common.{◌≡◌, ℕ, ◌+◌, true, false, List, [], ◌∷◌, map, refl}
use Rattle.std.specs.Prelude.{pos}
use Rattle.elf_types.specs.declared.abi.TheConstants.{PT_LOAD, PF_R}
use Rattle.elf_types.specs.declared.file.ElfFile.{ElfFile}
use Rattle.elf_types.specs.declared.file.Segment.{Segment}
use Rattle.tests.specs.declared.test.CodeWord.{CodeWord}
use Rattle.tests.specs.declared.test.Test.{Test}
use Rattle.machine.specs.Table.{ins, Ins, Auipc, Addi, Jalr, Ecall}
use Rattle.tests.specs.Admission.Reached.{leads, one_pass, twice, made_by, is_reached}

-- constants at 4144 and 4097, a linking jump to 4116, and ends; no rule looks at `word`
abbrev code_from : ℕ → List Ins → List CodeWord
code_from a [] = []
code_from a (i ∷ is) = record { at = a; word = 0; ins = i } ∷ code_from (a + 4) is

abbrev code : List CodeWord
code =
    code_from 4096
    (ins Auipc 1 0 0 (pos 0) ∷ ins Addi 2 1 0 (pos 48) ∷ ins Addi 1 1 0 (pos 1) ∷ ins Jalr 5 1 0 (pos 19)
    ∷ ins Ecall 0 0 0 (pos 0) ∷ ins Ecall 0 0 0 (pos 0) ∷ ins Ecall 0 0 0 (pos 0) ∷ ins Ecall 0 0 0 (pos 0) ∷ ins Ecall 0 0 0 (pos 0) ∷ [])

-- the distance -24 from 4144, and the address 4124
abbrev data_segment : Segment
data_segment = record { kind = PT_LOAD; flags = PF_R; address = 4144; memory = 8; bytes = 232 ∷ 255 ∷ 255 ∷ 255 ∷ 28 ∷ 16 ∷ 0 ∷ 0 ∷ [] }

abbrev file : ElfFile
file = record { entry = 4096; flags = 0; segments = data_segment ∷ []; sections = []; symbols = []; relas = [] }

abbrev test : Test
test = record {
  entry = 4096;
  ranges = record { start = 4096; end = 4132 } ∷ [];
  code = code;
  base = 4096;
  distance = 4096;
  low = 4096;
  high = 4152;
  span = [];
  segments = data_segment ∷ [];
}

-- the entry; by the link; by two immediates; by the distance; by the word
reached_words : map (λ c. is_reached file test c.at) code ≡ true ∷ false ∷ false ∷ false ∷ true ∷ true ∷ true ∷ true ∷ false ∷ []
unfolding leads one_pass twice made_by
reached_words = refl
