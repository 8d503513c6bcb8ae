-- The laws that proofs of other crates cite.
pub use Rattle.lockstep.proofs.Sets.{word_below}
pub use Rattle.lockstep.proofs.ManyChanges.{changed_later}
pub use Rattle.lockstep.proofs.Trace.{EndsSoon, NextSteps, PieceSteps, Sizes, SweptEnd, Trace}
pub use Rattle.lockstep.proofs.Numbered.{AtNumber, placed, round_of, round_on, round_some}
pub use Rattle.lockstep.proofs.Ending.{LastBoundary, Numbered, ToEnd, next_numbered, swept_is, to_end, visits_in}
pub use Rattle.lockstep.proofs.Calm.{CalmCode, loaded_at}
pub use Rattle.lockstep.proofs.Closing.{only_inside}
pub use Rattle.lockstep.proofs.Cleaned.{CleanAll, clean_of, cleaned}
pub use Rattle.lockstep.proofs.Weaves.{all_blocks, weave_caught, weave_clean}
pub use Rattle.lockstep.proofs.Tests.{tests_caught, tests_clean}
pub use Rattle.lockstep.proofs.Coded.{WordAt, reads_rest, stub_open, stub_words, word_of}
pub use Rattle.lockstep.proofs.Promise.{BoundsBy, CaughtAll, Times, caught_of, settles, settles_all, settles_early}
pub use Rattle.lockstep.proofs.FormWords.{caught_with, form_words, visits_ten}
pub use Rattle.lockstep.proofs.InstructionFaults.{faults_clean, faults_found, instruction_faults_are_caught, places_found, tests_faults_clean, tests_places}
pub use Rattle.lockstep.proofs.WrongTurns.{tests_turned}
