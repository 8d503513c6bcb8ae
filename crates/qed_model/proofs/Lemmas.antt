-- The laws that proofs of other crates cite.
pub use Rattle.qed_model.proofs.Placing.{instructions_from-append}
pub use Rattle.qed_model.proofs.DiverseWorth.{Env, asked, asked_operand, computes_as, env, fine, fine_part, gives, got, is_last, is_read, is_temp, kept, operates, other_operand, worth}
pub use Rattle.qed_model.proofs.DiverseProducts.{high_lt}
pub use Rattle.qed_model.proofs.DiverseRows.{Right, all_fine, answers, as_parts, known_upper}
pub use Rattle.qed_model.proofs.Changes.{AllBy, by_last, first_last, none_left, rest_last, rest_ordered, run_unchanged, struck_outcome}
pub use Rattle.qed_model.proofs.InOrder.{in_order_ordered}
pub use Rattle.qed_model.proofs.HalvesLaws.{allows-flags, byte_after, grants-weaker, some-flags, some_of_allows, store_row, untouched}
pub use Rattle.qed_model.proofs.Reach.{addi_word, fits_12, has_word, is_some-some_if, lui_word}
pub use Rattle.qed_model.proofs.PlacedWords.{IsInside, entry_inside, go_length, grain_of_sizes, jump_reach, mark_inside, size-append, size-decoded, size-instructions_from}
pub use Rattle.qed_model.proofs.MirrorWords.{pair_reg, renamed_word}
pub use Rattle.qed_model.proofs.DiverseWords.{encodable, part_has_word, parts_encodable}
pub use Rattle.qed_model.proofs.ExampleCode.{IsCodeOf, StandFrom, defaults, each_at, is_fine, options, sound, swept}
pub use Rattle.qed_model.proofs.RangeSegments.{data_inside, data_range, file_end_from, file_end_most, file_end_step, held_in, index_each, index_past, load_among, not_held, not_mixed, range_bytes_fit, range_holds, range_reads, range_sized, range_unexecuted, range_writes}
pub use Rattle.qed_model.proofs.PieceLaws.{Cut, EachPiece, Empty, Filled, pieces_cut, pieces_whole, run_alone, sound_most, total, total_lengths}
pub use Rattle.qed_model.proofs.Nearby.{IsNearCode, is_near, is_within, near_constant, near_jump, near_words}
pub use Rattle.qed_model.proofs.WovenWords.{add_word, branch_imm, branch_word, jump_imm, leap_imm, mirror_load_word, mirror_store_word, near_imm}
pub use Rattle.qed_model.proofs.BlocksOnly.{Ascend, any_first, ascend_of, blocks_only, body_code, run_prefix, same_tests}
pub use Rattle.qed_model.proofs.OneTest.{any_reached, reached_by}
pub use Rattle.qed_model.proofs.Parts.{joined_append, lean_are, parts_are, roles_cover, to_stub_joined}
pub use Rattle.qed_model.proofs.OutputFits.{length-map_bytes, local_pairs, locals, map_placed, name_at, names_fit, not_null, others, symbols_fit}
pub use Rattle.qed_model.proofs.Steady.{steady_any}
pub use Rattle.qed_model.proofs.Following.{covers_less, covers_steady, promises_follow}
pub use Rattle.qed_model.proofs.Arrivals.{Marks, arrives, arrived, arrival_grows, arrival_within, arrival_order, values_from, values_are}
pub use Rattle.qed_model.proofs.OneOutput.{one_woven_test, same_words}
