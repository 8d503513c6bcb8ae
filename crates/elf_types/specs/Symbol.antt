-- What a symbol says of what it names (ELF gABI, symbol table).
use Rattle.std.specs.Prelude.{◌==◌, ◌&&◌, ◌||◌, not, Bool}
use Rattle.elf_types.specs.declared.file.Symbol.{Symbol}
use Rattle.elf_types.specs.declared.abi.TheConstants.{STT_NOTYPE, STT_FUNC, STB_LOCAL, SHN_UNDEF}

-- st_shndx is not SHN_UNDEF
abbrev pub is_defined : Symbol → Bool
is_defined s = not (s.index == SHN_UNDEF)

-- its type is STT_FUNC or STT_NOTYPE, so that its value may be the address of code
abbrev pub may_name_code : Symbol → Bool
may_name_code s = s.kind == STT_FUNC || s.kind == STT_NOTYPE

-- its binding is STB_LOCAL
abbrev pub is_local : Symbol → Bool
is_local s = s.binding == STB_LOCAL

-- a defined symbol of such a type
abbrev pub is_code_symbol : Symbol → Bool
is_code_symbol s = is_defined s && may_name_code s
