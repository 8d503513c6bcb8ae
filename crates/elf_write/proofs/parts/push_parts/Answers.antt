use Rattle.std.proofs.Common.{◌≡◌, ℕ, List, [], ◌∷◌, ◌++◌, map, append_assoc, subst}
use Rattle.std.specs.Prelude.{All}
use Rattle.elf_types.specs.declared.output.OutSection.{OutSection}
use Rattle.tests.specs.Elf.Written.{program_headers, segments_bytes}
use Rattle.tests.specs.Elf.Layout.{file_header, parts_start, own_bytes, symbols_bytes, symbol_entries, names_bytes, symbol_names, table_names, header_bytes, headers_bytes, headers_from, null_header, table_headers, own_place, headers_of, written, tables_bytes}
use Rattle.elf_write.specs.Widths.{SegmentFits, SectionFits, SymbolFits}
use Rattle.elf_write.proofs.Sizes.{names_bytes-append, headers_bytes-append}
use Rattle.elf_write.proofs.parts.push_parts.Goals as goal

-- the parts of each call, one behind the other
joined : (out header programs segments own before entries strings given tables behind null own_headers others : List ℕ)
    → ((((((((((((((out ++ header) ++ programs) ++ segments) ++ own) ++ before) ++ entries) ++ 0 ∷ []) ++ strings) ++ 0 ∷ []) ++ given) ++ tables) ++ behind) ++ null) ++ own_headers) ++ others
    ≡ out ++ (header ++ (programs ++ (segments ++ (own ++ (before ++ (entries ++ ((0 ∷ strings) ++ ((0 ∷ (given ++ tables)) ++ (behind ++ (null ++ (own_headers ++ others)))))))))))
joined out header programs segments own before entries strings given tables behind null own_headers others = simp append_assoc

pub returns-clause-bytes : goal.returns-clause-bytes
unfolding written tables_bytes headers_of
returns-clause-bytes c =
    let f = c.args.file.now in
    rw (
      c.in_ok-push_table_headers.ensures,
      c.in_ok-push_given_headers.ensures.bytes,
      c.in_ok-push_section_header.ensures,
      c.in_ok-push_zeros-2.ensures,
      c.in_ok-push_table_names.ensures,
      c.in_ok-push_section_names.ensures,
      c.in_ok-push-2.ensures.items,
      c.in_ok-push_symbol_names.ensures,
      c.in_ok-push.ensures.items,
      c.in_ok-push_symbols.ensures.bytes,
      c.in_ok-push_zeros.ensures,
      c.in_ok-push_own_bytes.ensures,
      c.in_ok-push_segments.ensures,
      c.in_ok-push_program_headers.ensures.bytes,
      c.in_ok-push_header.ensures.bytes,
      c.as_slice-segments.ensures,
      c.as_slice-sections.ensures,
      c.as_slice-symbols.ensures,
      c.requires.places.start,
      c.requires.places.own,
      c.requires.places.symbols,
      c.requires.places.own_end,
      c.requires.places.headers,
      c.requires.places.names_end,
      names_bytes-append (map (λ (x : OutSection). x.name) f.sections) table_names,
      headers_bytes-append (headers_from (parts_start f) f.segments 1 (own_place f) f.sections) (table_headers f),
    ) (joined c.args.out.now.items (file_header f) (program_headers (parts_start f) f.segments) (segments_bytes (parts_start f) f.segments) (own_bytes f.sections) _ (symbols_bytes (symbol_entries f.symbols)) (names_bytes (symbol_names f.symbols)) (names_bytes (map (λ x. x.name) f.sections)) (names_bytes table_names) _ (header_bytes null_header) (headers_bytes (headers_from (parts_start f) f.segments 1 (own_place f) f.sections)) (headers_bytes (table_headers f)))

pub returns-clause-fits : goal.returns-clause-fits
returns-clause-fits c = record {
  entry = c.push_header.ensures.fits.0;
  flags = c.push_header.ensures.fits.1;
  segments = subst (All SegmentFits) c.as_slice-segments.ensures c.in_ok-push_program_headers.ensures.fits;
  sections = subst (All SectionFits) c.as_slice-sections.ensures c.in_ok-push_given_headers.ensures.fits;
  symbols = subst (All SymbolFits) c.as_slice-symbols.ensures c.in_ok-push_symbols.ensures.fits;
}
