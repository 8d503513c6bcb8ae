-- What the types of the fields say of their numbers.
use Rattle.std.specs.Prelude.{◌^◌, ◌<◌, All}
use Rattle.elf_types.specs.declared.file.Segment.{Segment}
use Rattle.elf_types.specs.declared.file.Symbol.{Symbol}
use Rattle.elf_types.specs.declared.output.OutFile.{OutFile}
use Rattle.elf_types.specs.declared.output.OutSection.{OutSection}

pub record SegmentFits (s : Segment) : Type 0 where
  pub flags : s.flags < 2 ^ 32
  pub address : s.address < 2 ^ 64
  pub memory : s.memory < 2 ^ 64

pub record SectionFits (x : OutSection) : Type 0 where
  pub flags : x.flags < 2 ^ 64
  pub address : x.address < 2 ^ 64
  pub size : x.size < 2 ^ 64

pub record SymbolFits (s : Symbol) : Type 0 where
  pub value : s.value < 2 ^ 64
  pub size : s.size < 2 ^ 64
  pub other : s.other < 2 ^ 8
  pub index : s.index < 2 ^ 16

pub record FileFits (f : OutFile) : Type 0 where
  pub entry : f.entry < 2 ^ 64
  pub flags : f.flags < 2 ^ 32
  pub segments : All SegmentFits f.segments
  pub sections : All SectionFits f.sections
  pub symbols : All SymbolFits f.symbols
