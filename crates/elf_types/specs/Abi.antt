-- What types and flags in ELF files say (ELF gABI; RISC-V ELF psABI for the flags of the header).
use Rattle.std.specs.Prelude.{ℕ, ◌/◌, ◌%◌, ◌==◌, ◌||◌, Bool}
use Rattle.elf_types.specs.declared.abi.TheConstants.{PT_LOAD, PT_DYNAMIC, PT_INTERP, SHT_SYMTAB, SHT_STRTAB, SHT_RELA}

-- e_flags has EF_RISCV_RVC, bit 0
abbrev pub has_compressed : ℕ → Bool
has_compressed flags = flags % 2 == 1

-- ---- segments
-- p_type is PT_LOAD
abbrev pub is_load : ℕ → Bool
is_load kind = kind == PT_LOAD

-- p_type is PT_DYNAMIC or PT_INTERP
abbrev pub is_linked : ℕ → Bool
is_linked kind = kind == PT_DYNAMIC || kind == PT_INTERP

-- p_flags has PF_X, bit 0
abbrev pub may_execute : ℕ → Bool
may_execute flags = flags % 2 == 1

-- p_flags has PF_W, bit 1
abbrev pub may_write : ℕ → Bool
may_write flags = flags / 2 % 2 == 1

-- p_flags has PF_R, bit 2
abbrev pub may_read : ℕ → Bool
may_read flags = flags / 4 % 2 == 1

-- ---- sections
-- sh_flags has SHF_ALLOC, bit 1
abbrev pub has_alloc : ℕ → Bool
has_alloc flags = flags / 2 % 2 == 1

-- sh_flags has SHF_EXECINSTR, bit 2
abbrev pub has_instructions : ℕ → Bool
has_instructions flags = flags / 4 % 2 == 1

-- sh_type is SHT_SYMTAB
abbrev pub is_symbol_table : ℕ → Bool
is_symbol_table kind = kind == SHT_SYMTAB

-- sh_type is SHT_STRTAB
abbrev pub is_string_table : ℕ → Bool
is_string_table kind = kind == SHT_STRTAB

-- sh_type is SHT_RELA
abbrev pub is_rela_table : ℕ → Bool
is_rela_table kind = kind == SHT_RELA
