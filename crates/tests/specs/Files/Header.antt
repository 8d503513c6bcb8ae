-- The fields of a file's header (ELF gABI, ELF header).
use Rattle.std.specs.Prelude.{◌≡◌, ℕ, ◌≤◌, List, length}
use Rattle.elf_types.specs.declared.abi.TheConstants.{ELFMAG}
use Rattle.machine.specs.Numbers.{field}

abbrev pub e_type : List ℕ → ℕ
e_type file = field 16 2 file

abbrev pub e_machine : List ℕ → ℕ
e_machine file = field 18 2 file

abbrev pub e_version : List ℕ → ℕ
e_version file = field 20 4 file

abbrev pub e_entry : List ℕ → ℕ
e_entry file = field 24 8 file

abbrev pub e_phoff : List ℕ → ℕ
e_phoff file = field 32 8 file

abbrev pub e_shoff : List ℕ → ℕ
e_shoff file = field 40 8 file

abbrev pub e_flags : List ℕ → ℕ
e_flags file = field 48 4 file

abbrev pub e_ehsize : List ℕ → ℕ
e_ehsize file = field 52 2 file

abbrev pub e_phentsize : List ℕ → ℕ
e_phentsize file = field 54 2 file

abbrev pub e_phnum : List ℕ → ℕ
e_phnum file = field 56 2 file

abbrev pub e_shnum : List ℕ → ℕ
e_shnum file = field 60 2 file

-- the file begins with 7f 45 4c 46
pub record HasMagic (file : List ℕ) : Type 0 where
  pub room : 4 ≤ length file
  pub magic : field 0 4 file ≡ ELFMAG
