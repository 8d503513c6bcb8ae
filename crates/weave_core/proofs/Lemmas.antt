-- The laws that proofs of other crates cite.
pub use Rattle.weave_core.proofs.Rows.{compute_walk, flagged_moved, halved_moved, halved_input, halved_original, halved_pair, halved_regs, halved_views, led_more, led_none, led_on, pair_value, pc_four, quiet_as, signed_other}
pub use Rattle.weave_core.proofs.Sized.{sized_step, small_put, width_le}
pub use Rattle.weave_core.proofs.Words.{all_small, auipc_step, compare_stands, result_alike, step-fence}
pub use Rattle.weave_core.proofs.Access.{beyond, load_granted, mapped_in, over_stored, raised_place, spared, store_granted}
pub use Rattle.weave_core.proofs.Source.{has_front, not_trapped_front, not_trapped_le, source_run, steady_le, steady_rest}
pub use Rattle.weave_core.proofs.Leaves.{Arrives, branch_passed, branch_taken, end_walk, equal_holds, go_most, go_walk, halved_gone, jump_step, jumped_to, links_as, no_code, own_signed, sign_walk, step-branch, step-break, step-end, step-illegal, step-jump}
pub use Rattle.weave_core.proofs.Branch.{Branches, Passes, branch_step, branch_to, guard_pass, own_pair, pass_none, pass_on, skipped, skipped_grain}
pub use Rattle.weave_core.proofs.Sets.{AllTemps, Sets, halved_writes, writes, writes_long, writes_out}
unfoldable pub use Rattle.weave_core.proofs.Sets.{sets_compute, sets_const, sets_equal, sets_on}
pub use Rattle.weave_core.proofs.Visit.{add_result, checked_behind, cursor_decided, cursor_is, sub_result, visit_later, visit_row, visit_some, word_low, words_within}
pub use Rattle.weave_core.proofs.Body.{auipc_is, mirror_steps_le, mirrored_part, spent_le}
pub use Rattle.weave_core.proofs.Indirect.{Leaps, Tabled, addi_value, aim, andi_value, entry_leap, find, found, leap_step, leap_there, linked, linked_out, links_sets, look_walk, looked_keeps, table_load, table_word, tabled, word}
pub use Rattle.weave_core.proofs.Endings.{guards_pass, visit_more}
pub use Rattle.weave_core.proofs.Trails.{Row, feeds_first, feeds_less, feeds_on, holds_of, met_at, met_ended, met_going, met_same, trail_first, trail_later, trail_met, trail_none, trail_on, trail_one}
pub use Rattle.weave_core.proofs.Trace.{full_rest, none_run, one_run, run-ended, stops_few, trace, trail_leave}
pub use Rattle.weave_core.proofs.Feeds.{piece_steady, steady_none}
pub use Rattle.weave_core.proofs.Prologue.{begin_row}
pub use Rattle.weave_core.proofs.Values.{WeaveIn, ended_fired, feeds_at, going_ended, going_fired, in_step, kept, plan_in, quiet_at, quiet_before, soon_there, weave_kept}
pub use Rattle.weave_core.proofs.Placing.{unmarked_append}
pub use Rattle.weave_core.proofs.Marks.{Ascend, behind, code_distinct, entry_or_stub, rows_are, unmarked_behind, unmarked_cond, unmarked_each, unmarked_form, unmarked_guard, unmarked_guards, unmarked_links, unmarked_original, unmarked_prologue, unmarked_sweep, unmarked_visit, unmarked_zero}
pub use Rattle.weave_core.proofs.Diverse.{diverse_mirrors, diverse_row, operates_class}
pub use Rattle.weave_core.proofs.ImageHalves.{IsImage, are_spans}
pub use Rattle.weave_core.proofs.FilesFit.{admitted_image, length-table, loaded_ranges}
pub use Rattle.weave_core.proofs.FileBlocks.{IsKnownCode, body_fits, clean_alone, fits_piece, is_fence_class, low_instruction, place_low}
pub use Rattle.weave_core.proofs.PlacingForm.{length-instructions, mark_behind, rows_behind}
pub use Rattle.weave_core.proofs.BlockMarks.{marked, rows_inputs}
pub use Rattle.weave_core.proofs.FormMirrors.{mirrors_fit_of, mirrors_of, unmarked_of}
pub use Rattle.weave_core.proofs.FileOfItems.{AreItems, block_code, code_bounds}
pub use Rattle.weave_core.proofs.TestKept.{are_rows}
pub use Rattle.weave_core.proofs.TestWritable.{test_writable}
pub use Rattle.weave_core.proofs.Tests.{tests_have_words, tests_kept, tests_landed, tests_writable}
pub use Rattle.weave_core.proofs.TestWords.{AllPieces, InImage, IsKnownBlock, IsKnownEnd, IsNear, KnownEnd, both_all, down, if_all, near, up}
pub use Rattle.weave_core.proofs.TestKnown.{body_size}
pub use Rattle.weave_core.proofs.Listed.{fits_in, guard_found, opens_behind}
pub use Rattle.weave_core.proofs.KindWords.{AllOriginal, a_break, a_jump, a_jump_reg, all_original, an_end, an_illegal, brk, compare_lockstep, guard_if, high_branch, if_guarded, leave_branch, scratch_branch, scratch_compute, scratch_load}
pub use Rattle.weave_core.proofs.BodyWords.{IsBodyWord, body_computes, body_fences, body_loads, body_stores, body_word}
pub use Rattle.weave_core.proofs.KindItems.{compare_items, end_items, enter_items, go_items, instructions_then, items_constant, items_go, items_none, items_one, items_then, leave_items, links_items, one_guard, original_items, pair_scratch, prologue_items, reads_words, stub_opens, sweep_items, takes_use, two_guards, visits_items, zero_items}
pub use Rattle.weave_core.proofs.Landing.{all_land_append, has_rest, known_same, land_at, land_behind, land_check, land_end, land_enter, land_go, land_go_on, land_leave, land_prologue, land_sweep, land_then, land_visits, over_words, small_size, straight_both, straight_compare, straight_compute, straight_constant, straight_guard, straight_guards, straight_lands, straight_links, straight_load, straight_none, straight_one, straight_then, straight_zeros}
pub use Rattle.weave_core.proofs.Ways.{opposite_is}
pub use Rattle.weave_core.proofs.Fork.{branch_items, branch_lands, fork, fork_items, fork_lands}
pub use Rattle.weave_core.proofs.Store.{store_items, store_lands, store_row}
pub use Rattle.weave_core.proofs.ScratchParts.{plain_mirrors_fit}
pub use Rattle.weave_core.proofs.DiverseFit.{diverse_mirrors_fit}
pub use Rattle.weave_core.proofs.Entries.{first_sourced, reads_front, reads_rest}
pub use Rattle.weave_core.proofs.Compose.{each_same, leads_led, lockstep_alone, lockstep_each, lockstep_guarded, lockstep_then, quiet_each, quiet_guarded, quiet_guards, quiet_then}
pub use Rattle.weave_core.proofs.PartLaws.{lockstep_mirror, lockstep_original, quiet_compare, quiet_mirrored, quiet_original, quiet_visit, straight_bare}
pub use Rattle.weave_core.proofs.PieceLaws.{both_checks, cost_parts, for_mirrors, for_originals, gives_mirrors, gives_originals, guarded_original, needs_mirrors, needs_originals, originals_trail, never_mirrors, never_originals, parts_are, piece_leads, used_low}
pub use Rattle.weave_core.proofs.LeaveLaws.{quiet_enter, quiet_leave, quiet_sweep}
pub use Rattle.weave_core.proofs.FormRows.{NeedsOther, both, both_steps, checks_after, each_plus, form_checks, form_guarded, form_rows, form_starts, front_row, goes_is, held_is, held_parts, kept_with, lockstep_piece, other_cost, plus, quiet_front, quiet_other, rows_with, starts_with}
pub use Rattle.weave_core.proofs.Landings.{Standing, landed, standing_at, standing_run, standing_step, weave_landed}
