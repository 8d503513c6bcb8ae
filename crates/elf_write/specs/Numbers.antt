-- Numbers with their sizes.
use Rattle.std.specs.Prelude.{ℕ}
use Rattle.elf_write.specs.declared.numbers.Number.{Number}
use Rattle.elf_write.specs.declared.numbers.Number.TheVariants.{Byte, Half, Word, Long}

-- the size in bytes, and the number
abbrev pub size_and_value : Number → ℕ × ℕ
size_and_value (Byte x) = (1, x)
size_and_value (Half x) = (2, x)
size_and_value (Word x) = (4, x)
size_and_value (Long x) = (8, x)
