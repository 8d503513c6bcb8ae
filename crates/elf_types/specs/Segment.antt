-- What a program header says of its segment (ELF gABI, program header).
use Rattle.std.specs.Prelude.{ℕ, ◌+◌, ◌&&◌, nat_lt, Bool}
use Rattle.elf_types.specs.declared.file.Segment.{Segment}
use Rattle.elf_types.specs.Abi.{is_load, is_linked}

-- it is loaded, and has bytes in memory
abbrev pub is_in_image : Segment → Bool
is_in_image s = is_load s.kind && nat_lt 0 s.memory

-- it asks for dynamic linking
abbrev pub is_dynamic_segment : Segment → Bool
is_dynamic_segment s = is_linked s.kind

-- the address behind its last byte in memory
abbrev pub segment_end : Segment → ℕ
segment_end s = s.address + s.memory
