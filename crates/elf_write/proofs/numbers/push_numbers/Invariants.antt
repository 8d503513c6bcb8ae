use Rattle.std.proofs.Common.{◌≡◌, ◌++◌, drop, map}
use Rattle.tests.specs.Elf.Written.{fields_bytes}
use Rattle.elf_write.specs.Numbers.{size_and_value}
use Rattle.elf_write.proofs.numbers.push_numbers.Given as goal

-- the file so far and the numbers that are left make the whole
abbrev pub invariant-loop-number : goal.invariant-loop-number
invariant-loop-number l =
    l.file.items ++ fields_bytes (map size_and_value (drop l.number-index l.numbers)) ≡ l.initial.file.items ++ fields_bytes (map size_and_value l.numbers)
