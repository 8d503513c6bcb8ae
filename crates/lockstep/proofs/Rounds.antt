-- Visits in a row reach every data word, by the numbers of the words.
use Rattle.std.proofs.Common.{◌≡◌, ◌+◌, ◌*◌, ◌/◌, ◌%◌, sym, ap, ◌∙◌, arith}
use Rattle.tests.specs.Admission.DataRanges.{word_count, word_address}
use Rattle.qed_model.specs.Weave.Pieces.{piece_count}
use Rattle.weave_core.specs.World.{words_on}
use Rattle.lockstep.specs.Rounds.{VisitsReachAll}
use Rattle.lockstep.proofs.Countdown.{advance-add, reaches, round_whole}
use Rattle.lockstep.proofs.Numbered.{number_of, words_are, advance_below}
use Rattle.lockstep.proofs.Trace.{advance}
use Rattle.std.proofs.lemmas.Nat.{div_below}

pub visits_reach_all : VisitsReachAll
visits_reach_all base spans round x a good some dx da =
    let w = word_count spans in
    let i = number_of base spans x good dx in
    let j = number_of base spans a good da in
    let s = reaches w i.index j.index i.below j.below in
    let split : s.count / round * round + s.count % round ≡ s.count = omega (arith, some) in
    let whole = round_whole w round some in
    let m = advance w (s.count / round * round) i.index in
    record {
      visit = s.count / round;
      few = div_below s.count round (piece_count round w) some (omega (arith, s.few, whole));
      word = s.count % round;
      inside = omega (arith, some);
      there =
          ap (λ y. words_on spans (s.count % round) (words_on spans (s.count / round * round) y)) (sym i.is)
          ∙ ap (words_on spans (s.count % round)) (words_are base spans (s.count / round * round) i.index good i.below)
          ∙ words_are base spans (s.count % round) m good (advance_below w (s.count / round * round) i.index i.below)
          ∙ ap (word_address spans) (sym (advance-add w (s.count / round * round) (s.count % round) i.index) ∙ ap (λ n. advance w n i.index) split ∙ s.there)
          ∙ j.is;
    }
