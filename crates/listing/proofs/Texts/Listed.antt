-- The lines of a listing say the words that it lists.
use Rattle.std.proofs.Common.{◌≡◌, ℕ, ◌^◌, ◌<◌, true, List, [], ◌∷◌, ◌++◌, map, refl, sym, ap, ◌∙◌, arith, append_assoc, codes}
use Rattle.std.proofs.lemmas.List.Elements.{All-tail}
use Rattle.tests.specs.Admission.CodeWords.{word_at, ElfFile}
use Rattle.texts.specs.Printed.{hex_text, word_text}
use Rattle.listing.specs.Listing.{line as listed_line, lines as listed_lines, IsListing}
use Rattle.rv_text.specs.Text.{text_of}
use Rattle.rv_asm.specs.Assembled.{Assembled}
use Rattle.rv_asm.specs.Lines.{hash, newline, lines_of, statement, front_of, trim}
use Rattle.listing.specs.WordTexts.{AreTextWords, words_file, said_in}
use Rattle.listing.proofs.Texts.Joined.{split, split_one}
use Rattle.listing.proofs.Texts.Kept.{Are32Bits, all_said, one_empty}
use Rattle.listing.proofs.Texts.Line.{word_line}
use Rattle.listing.proofs.Texts.Parts.{lacks, lacks_append, plain_lacks, parted_at, trim_ended}
use Rattle.listing.proofs.Texts.Printed.{hex_plain}
use Rattle.listing.proofs.Texts.Sayings.{sayings_assemble}

-- a line of the listing without the newline
abbrev comment : ℕ → ℕ → List ℕ
comment a w = codes " " ++ (hex_text a ++ (codes " " ++ word_text w))

abbrev body : ℕ → ℕ → List ℕ
body a w = (text_of w ++ 32 ∷ []) ++ hash ∷ comment a w

line_is : (a w : ℕ) (rest : List ℕ) → listed_line a w ++ rest ≡ body a w ++ newline ∷ rest
unfolding listed_line
line_is a w rest =
    let t = text_of w in
    let x = hex_text a in
    let y = word_text w in
    let end = codes "\n" in
    let inner : x ++ (codes " " ++ (y ++ end)) ≡ (x ++ (codes " " ++ y)) ++ end = sym (append_assoc x (codes " " ++ y) end) in
    let front = sym (append_assoc t (32 ∷ []) (hash ∷ (comment a w ++ end))) ∙ sym (append_assoc (t ++ 32 ∷ []) (hash ∷ comment a w) end) in
    let outer = ap (λ s. t ++ (codes " # " ++ s)) inner ∙ front in
    ap (λ s. s ++ rest) outer ∙ append_assoc (body a w) end rest

body_whole : (a w : ℕ) → w < 2 ^ 32 → lacks newline (body a w) ≡ true
body_whole a w h =
    let text = lacks_append newline (text_of w) (32 ∷ []) (word_line w h).own.whole refl in
    let word = lacks_append newline (codes " ") (word_text w) refl (plain_lacks newline (word_text w) refl (hex_plain 8 w)) in
    let address = plain_lacks newline (hex_text a) refl (hex_plain 16 a) in
    let behind = lacks_append newline (hex_text a) (codes " " ++ word_text w) address word in
    lacks_append newline (text_of w ++ 32 ∷ []) (hash ∷ comment a w) text behind

body_says : (a w : ℕ) → w < 2 ^ 32 → statement (body a w) ≡ text_of w
unfolding statement
body_says a w h =
    let line = (word_line w h).own in
    let front = text_of w ++ 32 ∷ [] in
    ap (λ o. trim (front_of (body a w) o)) (parted_at hash front (comment a w) (lacks_append hash (text_of w) (32 ∷ []) line.no_hash refl))
    ∙ trim_ended (text_of w) line.is

bodies : (ℕ → ℕ) → List ℕ → List (List ℕ)
bodies word [] = []
bodies word (a ∷ addresses) = body a (word a) ∷ bodies word addresses

split_listing :
    (word : ℕ → ℕ) (addresses : List ℕ) → Are32Bits (map word addresses)
    → split (listed_lines word addresses) ≡ bodies word addresses ++ [] ∷ []
unfolding bodies
split_listing word [] h = refl
split_listing word (a ∷ addresses) h =
    let rest = split_listing word addresses (All-tail (λ w. w < 2 ^ 32) (word a) (map word addresses) h) in
    let later = listed_lines word addresses in
    let first = split_one (body a (word a)) later (body_whole a (word a) (h 0 0 (omega arith))) in
    ap split (line_is a (word a) later) ∙ (first ∙ ap (λ ls. body a (word a) ∷ ls) rest)

bodies_say :
    (word : ℕ → ℕ) (addresses : List ℕ) → Are32Bits (map word addresses)
    → map statement (bodies word addresses) ≡ map text_of (map word addresses)
unfolding bodies
bodies_say word [] h = refl
bodies_say word (a ∷ addresses) h =
    let first = body_says a (word a) (h 0 0 (omega arith)) in
    let rest = bodies_say word addresses (All-tail (λ w. w < 2 ^ 32) (word a) (map word addresses) h) in
    λ i. first i ∷ rest i

pub listings_assemble :
    (f : ElfFile) (text : List ℕ) (listing : IsListing f text) → AreTextWords (map (word_at f) listing.addresses)
    → Assembled text (words_file (map (word_at f) listing.addresses))
unfolding lines_of
listings_assemble f text listing are = sayings_assemble words text are (record { said = ap said_in lines ∙ said }) where
  words : List ℕ
  words = map (word_at f) listing.addresses

  lines : lines_of text ≡ bodies (word_at f) listing.addresses ++ [] ∷ []
  lines = ap split listing.is ∙ split_listing (word_at f) listing.addresses are.each

  said : said_in (bodies (word_at f) listing.addresses ++ [] ∷ []) ≡ map text_of words
  said =
      let say = bodies_say (word_at f) listing.addresses are.each in
      all_said (bodies (word_at f) listing.addresses) ([] ∷ []) words are.each say one_empty
