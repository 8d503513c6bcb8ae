-- Bytes that are a file.
use Rattle.std.specs.Prelude.{ℕ, List}
use Rattle.elf_types.specs.declared.file.ElfFile.{ElfFile}
use Rattle.tests.specs.Files.File.{IsReadAs}

-- no rule refuses the bytes, and they are within the limits of the reader
pub record IsReadable (bytes : List ℕ) : Type 0 where
  pub file : ElfFile
  pub read : IsReadAs bytes file
