-- Lines that say the texts of words, and some that say nothing.
use Rattle.std.proofs.Common.{◌≡◌, ℕ, ◌^◌, ◌<◌, ◌≤◌, cond, eqb, List, [], ◌∷◌, ◌++◌, length, map, ap, ◌∙◌, refl, arith, append-nil, All}
use Rattle.std.specs.List.{filter}
use Rattle.std.proofs.lemmas.Bool.{ne_eqb, not_from_false}
use Rattle.std.proofs.lemmas.List.{map-append}
use Rattle.std.proofs.lemmas.List.Elements.{All-tail, filter-append}
use Rattle.rv_text.specs.Text.{text_of}
use Rattle.rv_asm.specs.Lines.{statement}
use Rattle.listing.specs.WordTexts.{has_some, said_in}
use Rattle.listing.proofs.Texts.Line.{word_line, empty_says}

-- words of 32 bits
abbrev pub Are32Bits : List ℕ → Type 0
Are32Bits words = All (λ w. w < 2 ^ 32) words

some_kept : (text : List ℕ) (texts : List (List ℕ)) → 1 ≤ length text → filter has_some (text ∷ texts) ≡ text ∷ filter has_some texts
some_kept text texts h =
    let some = not_from_false (eqb (length text) 0) (ne_eqb (length text) 0 (λ e. absurd (omega arith))) in
    ap (λ b. cond b (text ∷ filter has_some texts) (filter has_some texts)) some

all_kept : (words : List ℕ) → Are32Bits words → filter has_some (map text_of words) ≡ map text_of words
all_kept [] h = refl
all_kept (w ∷ words) h =
    let rest = all_kept words (All-tail (λ w. w < 2 ^ 32) w words h) in
    some_kept (text_of w) (map text_of words) (word_line w (h 0 0 (omega arith))).own.some ∙ ap (λ ts. text_of w ∷ ts) rest

-- the lines of words, and some that say nothing
pub all_said :
    (lines more : List (List ℕ)) (words : List ℕ) → Are32Bits words → map statement lines ≡ map text_of words → said_in more ≡ []
    → said_in (lines ++ more) ≡ map text_of words
all_said lines more words h e none =
    ap (filter has_some) (map-append statement lines more)
    ∙ (filter-append has_some (map statement lines) (map statement more)
    ∙ (ap (λ xs. filter has_some (map statement lines) ++ xs) none
    ∙ (append-nil (filter has_some (map statement lines)) ∙ (ap (filter has_some) e ∙ all_kept words h))))

pub one_empty : said_in ([] ∷ []) ≡ []
one_empty = ap (λ s. filter has_some (s ∷ [])) empty_says
