-- The laws that proofs of other crates cite.
pub use Rattle.machine.proofs.Masks.{high6_is, high_is, middle_is}
pub use Rattle.machine.proofs.Formats.{to_bits-lt}
pub use Rattle.machine.proofs.EachKind.{each_in, each_kind, has_kind}
pub use Rattle.machine.proofs.Tables.{decode-fits, decode_encode, encode_decode, fits-decode}
pub use Rattle.machine.proofs.Operands.{reads_rs1-format, reads_rs2-format, writes_rd-format}
pub use Rattle.machine.proofs.MemoryLaws.{Apart, apart_before, byte_at-put_outside, get-poked, get-put, get-put_outside, grants-put, grants_at, grants_from, mirror_byte, mirror_offset, number-put_apart, put-more, put_none, same_memory, same_number, same_number_at, wrap_offset}
pub use Rattle.machine.proofs.Wrapped.{difference, wrapped-add, wrapped-lt, wrapped-signed}
pub use Rattle.machine.proofs.Steps.{allows-flags, fetched_aligned, flags-put, grants-flags, guard, same_fetch, step-class, step-compute, step-guard, step-known, step-load, step-store}
pub use Rattle.machine.proofs.Walk.{Over, brk, constant_value, constant_walk, guard_walk, known_at, over_moved, run-last, run-more, run-none, run-one, set_reg-pos}
pub use Rattle.machine.proofs.Walked.{Walk, walk_none, walk_on, walk_one}
pub use Rattle.machine.proofs.CellsLaws.{byte_of_cell, find_front, find_skip, get_memory}
pub use Rattle.machine.proofs.SegmentCells.{AllSized, cells_of-append}
pub use Rattle.machine.proofs.Among.{Source, all_among, among-either, among-filter, among-kept, among-left, among-map, among-right, among_of, any_passing, contains_of, none_passing, passing, place_of, source_of}
pub use Rattle.machine.proofs.Pairs.{among_every, every-append, every-filter, every-map, every_all, every_among, pairs-append, pairs-filter, pairs-map, pairs_all, pairs_weaker}
pub use Rattle.machine.proofs.CellsAmong.{among-moved, among_agreed, by_bytes, found_among, get_among, has_from, has_not, has_parts, index_zeros, moved_by, none_among, number-among, option_or-cond, skip_back, skip_front}
pub use Rattle.machine.proofs.ApartLaws.{alone, fit_among, shared}
pub use Rattle.machine.proofs.BelowLaws.{All-each, each_fails, each_front, each_none, first_found, first_least, first_none, gather_more, gather_none, gather_nothing, length-each, none_is, push_after, push_each, some_is}
