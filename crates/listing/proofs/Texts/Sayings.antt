-- A text whose lines say the texts of words assembles to the words.
use Rattle.std.proofs.Common.{◌≡◌, ℕ, zero, suc, ◌+◌, ◌<◌, ◌≤◌, Bool, true, false, cond, Ok, List, [], ◌∷◌, ◌++◌, length, map, take, get_or, is_ok, refl, sym, ap, ◌∙◌, arith, append-nil, eqb}
use Rattle.std.specs.List.{filter}
use Rattle.std.proofs.lemmas.Bool.{eqb-true, not-false}
use Rattle.std.proofs.lemmas.List.{take_more, take_all, length-map, get_or-map}
use Rattle.std.proofs.lemmas.List.Filters.{length-filter_more}
use Rattle.machine.specs.Below.{gather}
use Rattle.tests.specs.Elf.Layout.{written}
use Rattle.rv_text.specs.Text.{text_of}
use Rattle.std.specs.Prelude.{Result}
use Rattle.rv_asm.specs.declared.error.Fault.{Fault}
use Rattle.rv_asm.specs.declared.given.Given.{Given}
use Rattle.rv_asm.specs.declared.given.Given.TheVariants as given
use Rattle.rv_asm.specs.declared.heads.Head.TheVariants.{Blank}
use Rattle.rv_asm.specs.declared.place.Place.{Place}
use Rattle.rv_asm.specs.Assembled.{head_in, place_behind, label_of, line_at, given_at, code_given, data_given, symbol_in, symbol_at, code_of_lines, data_of, symbols_of, file_of_given, file_of_lines, AreFaultless, Assembled}
use Rattle.rv_asm.specs.Given.{address_at, given_by}
use Rattle.rv_asm.specs.Lines.{lines_of, statement, leading_word, rest_in}
use Rattle.rv_asm.specs.Steps.{one_if, next_place}
use Rattle.rv_asm.proofs.Places.{place_push}
use Rattle.listing.specs.WordTexts.{AreTextWords, words_file, has_some, said_in, SaysWords}
use Rattle.listing.proofs.Texts.Line.{IsSaid, said_line, blank_line}

-- ---- what passes a test
-- an element that passes, by how many before it pass
record Passes {A : Type 0} (p : A → Bool) (xs : List A) (n : ℕ) (d : A) : Type 0 where
  inside : length (filter p (take n xs)) < length (filter p xs)
  is : get_or (filter p xs) (length (filter p (take n xs))) d ≡ get_or xs n d

-- one more element in front, which passes
one_more :
    {A : Type 0} (b : Bool) (x d y : A) (all some : List A) → length some < length all → get_or all (length some) d ≡ y
    → (length (cond b (x ∷ some) some) < length (cond b (x ∷ all) all))
    × (get_or (cond b (x ∷ all) all) (length (cond b (x ∷ some) some)) d ≡ y)
one_more true x d y all some h e = (omega arith, e)
one_more false x d y all some h e = (h, e)

passes : {A : Type 0} (p : A → Bool) (xs : List A) (n : ℕ) (d : A) → n < length xs → p (get_or xs n d) ≡ true → Passes p xs n d
passes p [] n d h e = absurd (omega arith)
passes p (x ∷ xs) zero d h e =
    let kept : filter p (x ∷ xs) ≡ x ∷ filter p xs = ap (λ b. cond b (x ∷ filter p xs) (filter p xs)) e in
    record { inside = omega (arith, ap length kept); is = ap (λ ys. get_or ys 0 d) kept }
passes p (x ∷ xs) (suc n) d h e =
    let rest = passes p xs n d (omega arith) e in
    let more = one_more (p x) x d (get_or xs n d) (filter p xs) (filter p (take n xs)) rest.inside rest.is in
    record { inside = more.0; is = more.1 }

empty_text : (text : List ℕ) → has_some text ≡ false → text ≡ []
empty_text [] e = refl
empty_text (c ∷ text) e =
    let none = eqb-true (length (c ∷ text)) 0 (not-false (eqb (length (c ∷ text)) 0) e) in
    absurd (omega arith)

-- n empty lists, joined, are empty
all_empty : {A : Type 0} (f : ℕ → List A) (n : ℕ) → ((i : ℕ) → i < n → f i ≡ []) → gather n f ≡ []
unfolding gather
all_empty f zero none = refl
all_empty f (suc n) none = ap (λ xs. xs ++ f n) (all_empty f n (λ i h. none i (omega arith))) ∙ none n (omega arith)

module _ (ls : List (List ℕ)) (words : List ℕ) (are : AreTextWords words) (says : said_in ls ≡ map text_of words) where
  -- how many of the first n lines say something
  said : ℕ → ℕ
  said n = length (filter has_some (take n (map statement ls)))

  size : length (map statement ls) ≡ length ls
  size = length-map ls statement

  said_more : (n : ℕ) → n < length ls → said (suc n) ≡ said n + one_if (has_some (statement (line_at ls n)))
  unfolding said
  said_more n h =
      let inside : n < length (map statement ls) = omega (arith, size, h) in
      ap said (let e : suc n ≡ n + 1 = omega arith in e)
      ∙ (length-filter_more has_some (map statement ls) n [] inside
      ∙ ap (λ s. said n + one_if (has_some s)) (get_or-map statement ls n [] [] h))

  said_all : said (length ls) ≡ length words
  unfolding said
  said_all =
      ap (λ xs. length (filter has_some xs)) (take_all (length ls) (map statement ls) (omega (arith, size)))
      ∙ (ap length says ∙ length-map words text_of)

  -- ---- a line
  record IsWordAt (n : ℕ) : Type 0 where
    below : said n < length words
    line : IsSaid (line_at ls n) (get_or words (said n) 0)
    more : said (suc n) ≡ said n + 1

  record IsBlankAt (n : ℕ) : Type 0 where
    head : head_in (line_at ls n) ≡ Blank
    same : said (suc n) ≡ said n

  data Turn (n : ℕ) : Type 0 where
    word : IsWordAt n → Turn n
    blank : IsBlankAt n → Turn n

  turn : (n : ℕ) → n < length ls → Turn n
  unfolding said
  turn n h = by (has_some (statement (line_at ls n))) refl where
    by : (b : Bool) → has_some (statement (line_at ls n)) ≡ b → Turn n
    by true e =
        let at = get_or-map statement ls n [] [] h in
        let p = passes has_some (map statement ls) n [] (omega (arith, size, h)) (ap has_some at ∙ e) in
        let below : said n < length words = omega (arith, p.inside, ap length says, length-map words text_of) in
        let text = sym (p.is ∙ at) ∙ (ap (λ xs. get_or xs (said n) []) says ∙ get_or-map text_of words (said n) 0 [] below) in
        word (record {
          below = below;
          line = said_line (line_at ls n) (get_or words (said n) 0) (are.each (said n) 0 below) text;
          more = said_more n h ∙ ap (λ b. said n + one_if b) e;
        })
    by false e =
        blank (record {
          head = blank_line (line_at ls n) (empty_text (statement (line_at ls n)) e);
          same = said_more n h ∙ (ap (λ b. said n + one_if b) e ∙ omega arith);
        })

  -- ---- places
  place_with : ℕ → Place
  place_with k = record { in_data = false; code_words = k; data_words = 0 }

  place_is : (n : ℕ) → n ≤ length ls → place_behind (take n ls) ≡ place_with (said n)
  unfolding place_with place_behind said
  place_is zero h = refl
  place_is (suc n) h =
      let line = line_at ls n in
      let next : suc n ≡ n + 1 = omega arith in
      let one = ap (λ k. place_behind (take k ls)) next ∙ ap place_behind (take_more ls n [] (omega arith)) in
      let so_far = ap (λ p. next_place p (head_in line)) (place_is n (omega arith)) in
      one ∙ (place_push (take n ls) line ∙ (so_far ∙ by (turn n (omega arith)))) where
        by : Turn n → next_place (place_with (said n)) (head_in (line_at ls n)) ≡ place_with (said (suc n))
        by (word w) =
            let count = ap (λ b. said n + one_if b) w.line.code ∙ sym w.more in
            let start = w.line.start in
            λ i. record { in_data = start i; code_words = count i; data_words = 0 }
        by (blank b) = ap (next_place (place_with (said n))) b.head ∙ ap place_with (let e = b.same in omega arith)

  -- ---- what a line gives
  word_given : (n : ℕ) → n < length ls → IsWordAt n → given_at ls n ≡ Ok (given.Code (get_or words (said n) 0))
  unfolding given_at place_with
  word_given n h w =
      let place = place_is n (omega arith) in
      let free = ap (λ (p : Place). p.in_data) place in
      let count = ap (λ (p : Place). p.code_words) place in
      w.line.gives (label_of ls) (place_behind (take n ls)) n free (omega (arith, count, w.below, are.few))

  blank_given : (n : ℕ) → IsBlankAt n → given_at ls n ≡ Ok given.Nothing
  unfolding given_at given_by
  blank_given n b =
      let line = line_at ls n in
      ap (λ h. given_by (label_of ls) (place_behind (take n ls)) n h (leading_word line) (rest_in line)) b.head

  -- ---- all lines
  codes_so_far : (n : ℕ) → n ≤ length ls → code_of_lines ls n ≡ take (said n) words
  unfolding code_of_lines gather said
  codes_so_far zero h = refl
  codes_so_far (suc n) h = ap (λ ws. ws ++ code_given (given_at ls n)) (codes_so_far n (omega arith)) ∙ by (turn n (omega arith)) where
    by : Turn n → take (said n) words ++ code_given (given_at ls n) ≡ take (said (suc n)) words
    by (word w) =
        ap (λ g. take (said n) words ++ code_given g) (word_given n (omega arith) w)
        ∙ (sym (take_more words (said n) 0 w.below) ∙ ap (λ k. take k words) (sym w.more))
    by (blank b) =
        ap (λ g. take (said n) words ++ code_given g) (blank_given n b)
        ∙ (append-nil (take (said n) words) ∙ ap (λ k. take k words) (sym b.same))

  code_is : code_of_lines ls (length ls) ≡ words
  code_is = codes_so_far (length ls) (omega arith) ∙ take_all (said (length ls)) words (omega (arith, said_all))

  -- what holds of words and of nothing holds of each line
  each_given : {A : Type 0} (f : Result Given Fault → A) (y : A) → ((w : ℕ) → f (Ok (given.Code w)) ≡ y) → f (Ok given.Nothing) ≡ y → (n : ℕ) → n < length ls → f (given_at ls n) ≡ y
  each_given f y code none n h = by (turn n h) where
    by : Turn n → f (given_at ls n) ≡ y
    by (word w) = ap f (word_given n h w) ∙ code (get_or words (said n) 0)
    by (blank b) = ap f (blank_given n b) ∙ none

  no_values : data_of ls (length ls) ≡ []
  unfolding data_of
  no_values = all_empty (λ n. data_given (given_at ls n)) (length ls) (each_given data_given [] (λ w. refl) refl)

  no_labels : symbols_of ls (length ls) ≡ []
  unfolding symbols_of
  no_labels = all_empty (symbol_at ls) (length ls) (λ n. each_given (symbol_in (leading_word (line_at ls n)) (address_at (place_behind (take n ls)))) [] (λ w. refl) refl n)

  faultless : AreFaultless ls (length ls)
  faultless = each_given is_ok true (λ w. refl) refl

  file_is : file_of_lines ls ≡ file_of_given words [] []
  unfolding file_of_lines
  file_is = λ i. file_of_given (code_is i) (no_values i) (no_labels i)

pub sayings_assemble : (words text : List ℕ) → AreTextWords words → SaysWords text words → Assembled text (words_file words)
sayings_assemble words text are says =
    let ls = lines_of text in
    let code = code_is ls words are says.said in
    record {
      faultless = faultless ls words are says.said;
      code = omega (arith, ap length code, are.some);
      file = ap written (sym (file_is ls words are says.said));
    }
