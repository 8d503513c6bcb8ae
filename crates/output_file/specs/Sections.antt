-- Sections over segments.
use Rattle.std.specs.Prelude.{Option, Some, None, List, [], ◌∷◌, ◌++◌, codes}
use Rattle.elf_types.specs.declared.file.Segment.{Segment}
use Rattle.elf_types.specs.declared.output.OutSection.{OutSection}
use Rattle.qed_model.specs.declared.plan.EntryRow.{EntryRow}
use Rattle.qed_model.specs.Weave.OutputParts.{map_section}
use Rattle.elf_write.specs.Plain.{section}

-- the section over the table, if there is one, with SHF_ALLOC
abbrev pub table_over : Option Segment → List OutSection
table_over None = []
table_over (Some s) = section (codes ".qed.table") 2 s ∷ []

-- the sections: over the new code, with SHF_ALLOC and SHF_EXECINSTR, over the table, and the map
abbrev pub sections_over : Segment → Option Segment → List EntryRow → List OutSection
sections_over code table rows = section (codes ".qed.text") 6 code ∷ (table_over table ++ map_section rows ∷ [])
