-- Visits in a row reach every data word.
use Rattle.std.specs.Prelude.{◌≡◌, ℕ, ◌*◌, ◌<◌, ◌≤◌, List}
use Rattle.tests.specs.Admission.DataRanges.{word_count}
use Rattle.qed_model.specs.Promise.Changed.{IsDataWord}
use Rattle.qed_model.specs.Weave.Pieces.{piece_count}
use Rattle.weave_core.specs.World.{GoodSpans, words_on}

-- of as many visits as all data words need, beginning at the word x, one looks at the word a; each looks at `round`
-- words one after the other, and the next begins behind them
pub record IsVisited (spans : List (ℕ × ℕ)) (round x a : ℕ) : Type 0 where
  pub visit : ℕ
  pub few : visit < piece_count round (word_count spans)
  pub word : ℕ
  pub inside : word < round
  pub there : words_on spans word (words_on spans (visit * round) x) ≡ a

abbrev pub VisitsReachAll : Type 0
VisitsReachAll = (base : ℕ) (spans : List (ℕ × ℕ)) (round x a : ℕ) → GoodSpans base spans → 1 ≤ round → IsDataWord spans x
    → IsDataWord spans a → IsVisited spans round x a
