-- The laws that proofs of other crates cite.
pub use Rattle.tests.proofs.Fields.{append_fit, are_bytes, bytes_of_fit, field-number_bytes, length-bytes_of, length-fields_bytes, length-number_bytes, number_bytes_fit, slice_index-field, words_of-bytes_of, zeros_start}
pub use Rattle.tests.proofs.ProgramHeaders.{length-program_headers, length-segments_bytes}
pub use Rattle.tests.proofs.DataRangesLaws.{AllAligned, AllRoom, AllSome, Inside, Spaced, aligned_data, in_any-joined, in_data, in_from, in_parts, inside-joined, one_range, same_ranges, spaced-joined, spaced_data, spaced_from}
pub use Rattle.tests.proofs.Sought.{are_spaced, ends_ascend, in_here, in_past, meets_here, meets_past}
pub use Rattle.tests.proofs.ImageLaws.{all_sized_among, among-ordered, among_load, base_low, flags-unexecuted, high_most, image_parts, image_room, image_source, in_image, insert_among, load_source, ordered_among, unexecuted}
pub use Rattle.tests.proofs.LowRegisters.{low_fields}
pub use Rattle.tests.proofs.Fetches.{IsShapely, code_at, code_grain, code_range, even_parts, even_range, fetch_word, fetched_code, instruction_code, known_instruction, none_passes}
pub use Rattle.tests.proofs.AdmissionLaws.{admitted_of, no_fault, not_refused}
pub use Rattle.tests.proofs.OneRefusal.{Rising, addresses_only, one_refusal}
pub use Rattle.tests.proofs.Addresses.{addresses_there, pairs_of, rising_lower}
pub use Rattle.tests.proofs.Written.{name_test, not_shared}
pub use Rattle.tests.proofs.AcceptanceLaws.{read_as, read_or_refused}
pub use Rattle.tests.proofs.ReadFacts.{one_file}
pub use Rattle.tests.proofs.LoadsApart.{apart, file_apart}
pub use Rattle.tests.proofs.ReadLoads.{read_sound}
pub use Rattle.tests.proofs.ExampleFile.{is_file}
unfoldable pub use Rattle.tests.proofs.ExampleFile.{opened_verdict, read_of}
