-- Why words give no order.
use Rattle.std.specs.Prelude.{◌≡◌, ℕ, List, Err}
use Rattle.qed_words.specs.Words.{asked}
use Rattle.qed_words.specs.declared.error.WordsError.{WordsError}
use Rattle.qed_words.specs.declared.error.WordsError.TheVariants.{Usage, Memory}

-- the cause of an error: the first reason, or want of memory
abbrev pub ExplainsWords : List (List ℕ) → WordsError → Type 0
ExplainsWords words (Usage reason) = asked words ≡ Err reason
ExplainsWords words Memory = Unit {0}
