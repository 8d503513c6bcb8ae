use Rattle.std.proofs.Common.{◌≡◌, ℕ, ◌+◌, ◌++◌, ◌<◌, length, drop, map, slice_index_or}
use Rattle.elf_types.specs.declared.output.OutSection.{OutSection}
use Rattle.tests.specs.Elf.Layout.{names_bytes, own_bytes, headers_bytes, headers_from}
use Rattle.elf_write.specs.Widths.{SectionFits}
use Rattle.elf_write.proofs.sections.push_given_headers.Given as goal

-- the file so far and the headers that are left make the whole
abbrev pub invariant-loop-section : goal.invariant-loop-section
invariant-loop-section l = record {
  rest : l.out.items ++ headers_bytes (headers_from l.start l.segments l.name l.own (drop l.section-index l.sections))
      ≡ l.initial.out.items ++ headers_bytes (headers_from l.start l.segments 1 l.first l.sections);
  names : l.name + length (names_bytes (map (λ x. x.name) (drop l.section-index l.sections))) ≡ 1 + length (names_bytes (map (λ x. x.name) l.sections));
  owned : l.own + length (own_bytes (drop l.section-index l.sections)) ≡ l.first + length (own_bytes l.sections);
  fits : (k : ℕ) (d : OutSection) → k < l.section-index → SectionFits (slice_index_or l.sections k d);
}
