-- The texts of words, one a line, say the words, and are short.
use Rattle.std.proofs.Common.{◌≡◌, ℕ, ◌*◌, ◌^◌, ◌<◌, ◌≤◌, true, List, [], ◌∷◌, ◌++◌, length, map, inl, inr, refl, sym, ap, ◌∙◌, arith, append-nil, All}
use Rattle.std.specs.List.{join_with_byte}
use Rattle.std.proofs.lemmas.List.{length-append, length-map}
use Rattle.std.proofs.lemmas.List.Elements.{All-tail, All-map}
use Rattle.rv_text.specs.Text.{text_of}
use Rattle.rv_asm.specs.Assembled.{Assembled}
use Rattle.rv_asm.specs.Lines.{newline, lines_of, statement}
use Rattle.listing.specs.WordTexts.{AreTextWords, words_file, words_text, IsTextOf, said_in, SaysWords}
use Rattle.listing.proofs.Texts.Joined.{split, last_line, ended_line, split_lines, join_short}
use Rattle.listing.proofs.Texts.Kept.{Are32Bits, all_said, one_empty}
use Rattle.listing.proofs.Texts.Line.{word_line}
use Rattle.listing.proofs.Texts.Parts.{lacks}
use Rattle.listing.proofs.Texts.Sayings.{sayings_assemble}

module _ (words : List ℕ) (are : AreTextWords words) where
  abbrev lines : List (List ℕ)
  lines = map text_of words

  whole : All (λ line. lacks newline line ≡ true) lines
  whole = All-map (λ line. lacks newline line ≡ true) text_of words (λ k d below. (word_line _ (are.each k d below)).own.whole)

  short : All (λ line. length line ≤ 88) lines
  short = All-map (λ line. length line ≤ 88) text_of words (λ k d below. (word_line _ (are.each k d below)).own.short)

  some_lines : 1 ≤ length lines
  some_lines = omega (arith, length-map words text_of, are.some)

  says_itself : (ws : List ℕ) → Are32Bits ws → map statement (map text_of ws) ≡ map text_of ws
  says_itself [] h = refl
  says_itself (w ∷ ws) h =
      let first = (word_line w (h 0 0 (omega arith))).own.says in
      let rest = says_itself ws (All-tail (λ w. w < 2 ^ 32) w ws h) in
      λ i. first i ∷ rest i

  plain_lines : lines_of (words_text words) ≡ lines ++ []
  unfolding lines_of words_text
  plain_lines = ap split (sym (append-nil (join_with_byte newline lines))) ∙ split_lines [] [] lines last_line some_lines whole

  ended_lines : lines_of (words_text words ++ newline ∷ []) ≡ lines ++ [] ∷ []
  unfolding lines_of words_text
  ended_lines = split_lines (newline ∷ []) ([] ∷ []) lines ended_line some_lines whole

  text_says : (text : List ℕ) → IsTextOf words text → SaysWords text words
  text_says text (inl e) =
      let said = all_said lines [] words are.each (says_itself words are.each) refl in
      record { said = ap said_in (ap lines_of e ∙ plain_lines) ∙ said }
  text_says text (inr e) =
      let said = all_said lines ([] ∷ []) words are.each (says_itself words are.each) one_empty in
      record { said = ap said_in (ap lines_of e ∙ ended_lines) ∙ said }

  text_short : length (words_text words) ≤ 89 * 16384
  unfolding words_text
  text_short = omega (arith, join_short lines short, length-map words text_of, are.few)

pub words_assemble : (words text : List ℕ) → AreTextWords words → IsTextOf words text → Assembled text (words_file words)
words_assemble words text are is = sayings_assemble words text are (text_says words are text is)

pub texts_short : (words text : List ℕ) → AreTextWords words → IsTextOf words text → length text ≤ 67108864
texts_short words text are (inl e) = omega (arith, ap length e, text_short words are)
texts_short words text are (inr e) = omega (arith, ap length e, length-append (words_text words) (newline ∷ []), text_short words are)
