-- What is known of a line that gives something.
use Rattle.std.proofs.Common.{◌≡◌, ℕ, zero, suc, ◌+◌, ◌-◌, ◌*◌, ◌<◌, ◌≤◌, Bool, true, false, cond, ◌&&◌, ◌==◌, ltb, Option, Some, None, Result, Ok, Err, is_some, unwrap_or, List, [], ◌∷◌, length, take, drop, refl, sym, ap, ◌∙◌, subst, arith, length-append, length-drop}
use Rattle.std.specs.Prelude.{All}
use Rattle.std.specs.List.{position_from, prefix_len, suffix_len}
use Rattle.std.specs.Option.{option_map}
use Rattle.std.proofs.lemmas.Bool.{and_parts, ltb-true, false≢true}
use Rattle.std.proofs.lemmas.List.{take_more, length-take}
use Rattle.std.proofs.lemmas.List.Elements.{All-nil, All-cons, All-append}
use Rattle.elf_types.specs.declared.file.Symbol.{Symbol}
use Rattle.rv_isa.specs.declared.kind.Kind.{Kind}
use Rattle.machine.specs.Below.{gather}
use Rattle.texts.specs.Read.{colon, parted, around}
use Rattle.rv_asm.specs.declared.error.Fault.{Fault}
use Rattle.rv_asm.specs.declared.error.Fault.TheVariants as fault
use Rattle.rv_asm.specs.declared.given.Given.{Given}
use Rattle.rv_asm.specs.declared.given.Given.TheVariants as given
use Rattle.rv_asm.specs.declared.heads.Head.{Head}
use Rattle.rv_asm.specs.declared.heads.Head.TheVariants.{Blank, Instruction, Word, DataStart, DataWord, Label, Unknown}
use Rattle.rv_asm.specs.declared.labels.Label.{Label as LabelAt}
use Rattle.rv_asm.specs.declared.place.Place.{Place}
use Rattle.rv_asm.specs.Lines.{is_blank, hash, trim_start, trim_end, trim, front_of, statement, word_end, leading_word, is_name, name_before, label_in}
use Rattle.rv_asm.specs.Heads.{named_head, head_of}
use Rattle.rv_asm.specs.Given.{max_code, max_data, in_code, in_data, label_given, is_defined_before, given_by}
use Rattle.rv_asm.specs.Assembled.{head_in, gives_code, gives_data, place_behind, line_at, given_at, code_given, data_given, symbol_in, symbol_at, code_of_lines, data_of}
use Rattle.rv_asm.specs.Steps.{one_if, code_step, data_step, next_place}
use Rattle.rv_asm.proofs.Places.{place_push}
use Rattle.rv_asm.proofs.Room.{cost, IsCheap}

-- ---- words
abbrev IsCodeAt : Place → Given → Type 0
IsCodeAt p g = (w : ℕ) × (g ≡ given.Code w) × (p.in_data ≡ false) × (p.code_words < max_code)

code_cases : (p : Place) (g : Given) (w : ℕ) (b t : Bool) → p.in_data ≡ b → ltb p.code_words max_code ≡ t → cond b (Err fault.Unrecognized) (cond t (Ok (given.Code w)) (Err fault.SectionFull)) ≡ Ok g → IsCodeAt p g
code_cases p g w true t a b e = absurd (cc)
code_cases p g w false true a b e = (w, cc, a, ltb-true p.code_words max_code b)
code_cases p g w false false a b e = absurd (cc)

code_err : (p : Place) (g : Given) (f : Fault) (b : Bool) → cond b (Err fault.Unrecognized) (Err f) ≡ Ok g → ⊥
code_err p g f true e = cc
code_err p g f false e = cc

in_code_is : (p : Place) (r : Result ℕ Fault) (g : Given) → in_code p r ≡ Ok g → IsCodeAt p g
in_code_is p (Err f) g e = absurd (code_err p g f p.in_data e)
in_code_is p (Ok w) g e = code_cases p g w p.in_data (ltb p.code_words max_code) refl refl e

abbrev IsDataAt : Place → Given → Type 0
IsDataAt p g = (v : ℕ) × (g ≡ given.Data v) × (p.in_data ≡ true) × (p.data_words < max_data)

data_cases : (p : Place) (g : Given) (v : ℕ) (b t : Bool) → p.in_data ≡ b → ltb p.data_words max_data ≡ t → cond b (cond t (Ok (given.Data v)) (Err fault.SectionFull)) (Err fault.Unrecognized) ≡ Ok g → IsDataAt p g
data_cases p g v false t a b e = absurd (cc)
data_cases p g v true true a b e = (v, cc, a, ltb-true p.data_words max_data b)
data_cases p g v true false a b e = absurd (cc)

data_err : (p : Place) (g : Given) (b : Bool) → cond b (Err fault.IllegalOperands) (Err fault.Unrecognized) ≡ Ok g → ⊥
data_err p g true e = cc
data_err p g false e = cc

in_data_is : (p : Place) (o : Option ℕ) (g : Given) → in_data p o ≡ Ok g → IsDataAt p g
in_data_is p None g e = absurd (data_err p g p.in_data e)
in_data_is p (Some v) g e = data_cases p g v p.in_data (ltb p.data_words max_data) refl refl e

-- ---- other lines
alone_nothing : (g : Given) (b : Bool) → cond b (Ok given.Nothing) (Err fault.IllegalOperands) ≡ Ok g → g ≡ given.Nothing
alone_nothing g true e = cc
alone_nothing g false e = absurd (cc)

alone_label : (g : Given) (b t : Bool) → cond b (label_given t) (Err fault.IllegalOperands) ≡ Ok g → g ≡ given.Label
alone_label g true true e = absurd (cc)
alone_label g true false e = cc
alone_label g false t e = absurd (cc)

-- ---- a line, by what it gives
abbrev IsFrom : Head → Place → Given → Type 0
IsFrom h p (given.Code x) = (gives_code h ≡ true) × (p.in_data ≡ false) × (p.code_words < max_code)
IsFrom h p (given.Data x) = (gives_data h ≡ true) × (p.in_data ≡ true) × (p.data_words < max_data)
IsFrom h p given.Label = h ≡ Label
IsFrom h p given.Nothing = Unit {0}

line_is :
    (labels : List ℕ → Option LabelAt) (p : Place) (n : ℕ) (h : Head) (w r : List ℕ) (g : Given) → given_by labels p n h w r ≡ Ok g
    → IsFrom h p g
unfolding given_by
line_is labels p n Blank w r g e = let same : given.Nothing ≡ g = cc in subst (IsFrom Blank p) same tt
line_is labels p n (Instruction kind) w r g e = let k = in_code_is p _ g e in subst (IsFrom (Instruction kind) p) (sym k.1) (refl, k.2, k.3)
line_is labels p n Word w r g e = let k = in_code_is p _ g e in subst (IsFrom Word p) (sym k.1) (refl, k.2, k.3)
line_is labels p n DataStart w r g e = subst (IsFrom DataStart p) (sym (alone_nothing g (length r == 0) e)) tt
line_is labels p n DataWord w r g e = let k = in_data_is p _ g e in subst (IsFrom DataWord p) (sym k.1) (refl, k.2, k.3)
line_is labels p n Label w r g e =
    subst (IsFrom Label p) (sym (alone_label g (length r == 0) (is_defined_before n (labels (unwrap_or (label_in w) []))) e)) refl
line_is labels p n Unknown w r g e = absurd (cc)

-- the place of a line
abbrev place_at : List (List ℕ) → ℕ → Place
place_at lines n = place_behind (take n lines)

given_is : (lines : List (List ℕ)) (n : ℕ) (g : Given) → given_at lines n ≡ Ok g → IsFrom (head_in (line_at lines n)) (place_at lines n) g
unfolding given_at
given_is lines n g e = line_is _ (place_at lines n) n (head_in (line_at lines n)) _ _ g e

-- ---- how many words
-- what a line adds to a count: one word where the count grows and is below its limit, or none
record IsAdded (words : List ℕ) (count next most : ℕ) : Type 0 where
  grows : count + length words ≤ next
  room : 1 ≤ length words → count + length words ≤ most

none_added : (count step most : ℕ) → IsAdded [] count (count + step) most
none_added count step most = record { grows = omega arith; room = λ some. absurd (omega arith) }

one_added : (x count step most : ℕ) → step ≡ 1 → count < most → IsAdded (x ∷ []) count (count + step) most
one_added x count step most one less = record { grows = omega arith; room = λ some. omega arith }

code_added :
    (r : Result Given Fault) (p : Place) (h : Head) → ((g : Given) → r ≡ Ok g → IsFrom h p g)
    → IsAdded (code_given r) p.code_words (p.code_words + code_step p.in_data h) max_code
code_added (Ok (given.Code x)) p h is =
    let f = is (given.Code x) refl in
    one_added x p.code_words (code_step p.in_data h) max_code (ap (λ t. code_step t h) f.1 ∙ ap one_if f.0) f.2
code_added _ p h is = none_added p.code_words (code_step p.in_data h) max_code

data_added :
    (r : Result Given Fault) (p : Place) (h : Head) → ((g : Given) → r ≡ Ok g → IsFrom h p g)
    → IsAdded (data_given r) p.data_words (p.data_words + data_step p.in_data h) max_data
data_added (Ok (given.Data x)) p h is =
    let f = is (given.Data x) refl in
    one_added x p.data_words (data_step p.in_data h) max_data (ap (λ t. data_step t h) f.1 ∙ ap one_if f.0) f.2
data_added _ p h is = none_added p.data_words (data_step p.in_data h) max_data

within : (size so_far count most : ℕ) → so_far ≤ count → so_far ≤ most → (1 ≤ size → count + size ≤ most) → so_far + size ≤ most
within zero so_far count most h k room = omega arith
within (suc size) so_far count most h k room = let r = room (omega arith) in omega arith

-- of all lines so far
few_words :
    (words : ℕ → List ℕ) (count : ℕ → ℕ) (most n : ℕ) → ((i : ℕ) → i < n → IsAdded (words i) (count i) (count (suc i)) most)
    → (length (gather n words) ≤ count n) × (length (gather n words) ≤ most)
unfolding gather
few_words words count most zero each = (omega arith, omega arith)
few_words words count most (suc n) each =
    let so_far = few_words words count most n (λ i less. each i (omega arith)) in
    let here = each n (omega arith) in
    let size = length-append (gather n words) (words n) in
    let room = within (length (words n)) (length (gather n words)) (count n) most so_far.0 so_far.1 here.room in
    (omega (arith, so_far.0, here.grows, size), omega (arith, size, room))

next_at : (lines : List (List ℕ)) (n : ℕ) → n < length lines → place_at lines (suc n) ≡ next_place (place_at lines n) (head_in (line_at lines n))
next_at lines n h =
    ap (place_at lines) (let e : suc n ≡ n + 1 = omega arith in e)
    ∙ (ap place_behind (take_more lines n [] h) ∙ place_push (take n lines) (line_at lines n))

-- of all lines, by what each adds
few_lines :
    (lines : List (List ℕ)) (words : Result Given Fault → List ℕ) (count : Place → ℕ) (most : ℕ)
    → ((r : Result Given Fault) (p : Place) (h : Head) → ((g : Given) → r ≡ Ok g → IsFrom h p g) → IsAdded (words r) (count p) (count (next_place p h)) most)
    → length (gather (length lines) (λ i. words (given_at lines i))) ≤ most
few_lines lines words count most each =
    let here = λ (i : ℕ). words (given_at lines i) in
    let at = λ (i : ℕ). place_at lines i in
    let added = λ (i : ℕ). each (given_at lines i) (at i) (head_in (line_at lines i)) (given_is lines i) in
    (few_words here (λ i. count (at i)) most (length lines) (λ i less. subst (λ p. IsAdded (here i) (count (at i)) (count p) most) (sym (next_at lines i less)) (added i))).1

pub few_code : (lines : List (List ℕ)) → length (code_of_lines lines (length lines)) ≤ 16384
unfolding code_of_lines
few_code lines = few_lines lines code_given (λ p. p.code_words) max_code code_added

pub few_data : (lines : List (List ℕ)) → length (data_of lines (length lines)) ≤ 131072
unfolding data_of
few_data lines = few_lines lines data_given (λ p. p.data_words) max_data data_added

-- ---- labels
head_cases : (a b c d e : Bool) (o : Option Kind) → cond a Blank (cond b Label (cond c Word (cond d DataStart (cond e DataWord (named_head o))))) ≡ Label → b ≡ true
head_cases true b c d e o h = absurd (cc)
head_cases false true c d e o h = refl
head_cases false false true d e o h = absurd (cc)
head_cases false false false true e o h = absurd (cc)
head_cases false false false false true o h = absurd (cc)
head_cases false false false false false None h = absurd (cc)
head_cases false false false false false (Some k) h = absurd (cc)

head_label : (w : List ℕ) → head_of w ≡ Label → is_some (label_in w) ≡ true
unfolding head_of
head_label w h = head_cases _ (is_some (label_in w)) _ _ _ _ h

position_below : (p : ℕ → Bool) (k : ℕ) (xs : List ℕ) (i : ℕ) → position_from p k xs ≡ Some i → i < k + length xs
position_below p k [] i e = absurd (cc)
position_below p k (x ∷ xs) i e =
    elim (p x) as (λ b. cond b (Some k) (position_from p (k + 1) xs) ≡ Some i → i < k + length (x ∷ xs))
    [ true ↦ λ f. let s : k ≡ i = cc in omega arith | false ↦ λ f. let h = position_below p (k + 1) xs i f in omega arith ]
    e

around_label : (w : List ℕ) (o : Option ℕ) → ((i : ℕ) → o ≡ Some i → i < length w) → is_some (name_before (option_map (around w) o)) ≡ true
    → (name : List ℕ) × (name_before (option_map (around w) o) ≡ Some name) × (is_name name ≡ true) × (length name < length w)
around_label w None h e = absurd (false≢true e)
around_label w (Some i) h e =
    let short = h i refl in
    elim (is_name (take i w) && length (drop (i + 1) w) == 0) as (λ b. (is_name (take i w) && length (drop (i + 1) w) == 0) ≡ b → is_some (cond b (Some (take i w)) None) ≡ true → (name : List ℕ) × (cond b (Some (take i w)) None ≡ Some name) × (is_name name ≡ true) × (length name < length w)) [
      | true ↦ λ t s. (take i w, refl, (and_parts (is_name (take i w)) (length (drop (i + 1) w) == 0) t).0, omega (arith, length-take i w))
      | false ↦ λ t s. absurd (false≢true s)
    ]
    refl e

label_named : (w : List ℕ) → is_some (label_in w) ≡ true → (name : List ℕ) × (label_in w ≡ Some name) × (is_name name ≡ true) × (length name < length w)
unfolding label_in parted
label_named w e = around_label w (position_from (λ b. b == colon) 0 w) (λ i s. let h = position_below (λ b. b == colon) 0 w i s in omega arith) e

trim_short : (text : List ℕ) → length (trim text) ≤ length text
unfolding trim trim_end trim_start
trim_short text =
    let inner = drop (prefix_len is_blank text) text in
    omega (arith, length-take (length inner - suffix_len is_blank inner) inner, length-drop (prefix_len is_blank text) text)

front_short : (line : List ℕ) → length (front_of line (parted hash line)) ≤ length line
unfolding parted
front_short line = by (position_from (λ b. b == hash) 0 line) where
  by : (o : Option ℕ) → length (front_of line (option_map (around line) o)) ≤ length line
  by None = omega arith
  by (Some i) = omega (arith, length-take i line)

word_short : (line : List ℕ) → length (leading_word line) ≤ length line
unfolding leading_word statement
word_short line = omega (arith, length-take (word_end (trim (front_of line (parted hash line)))) (trim (front_of line (parted hash line))), trim_short (front_of line (parted hash line)), front_short line)

-- the label of a line that gives one
pub label_facts : (lines : List (List ℕ)) (n : ℕ) → given_at lines n ≡ Ok given.Label → (name : List ℕ) × (label_in (leading_word (line_at lines n)) ≡ Some name) × (is_name name ≡ true) × (length name < length (line_at lines n))
unfolding given_at
label_facts lines n e =
    let w = leading_word (line_at lines n) in
    let l = label_named w (head_label w (given_is lines n given.Label e)) in
    let short = l.3 in
    (l.0, l.1, l.2, omega (arith, word_short (line_at lines n)))

-- ---- symbols
name_some : (name : List ℕ) → is_name name ≡ true → 1 ≤ length name
unfolding is_name
name_some [] e = absurd (false≢true e)
name_some (c ∷ cs) e = omega arith

cheap_line : (w : List ℕ) (address l : ℕ) (r : Result Given Fault) → (r ≡ Ok given.Label → 25 + length (unwrap_or (label_in w) []) ≤ 9 * (l + 1)) → cost (symbol_in w address r) ≤ 9 * (l + 1)
cheap_line w address l (Ok given.Label) h = let k = h refl in omega arith
cheap_line w address l r h = omega arith

pub are_cheap : (lines : List (List ℕ)) → IsCheap lines
are_cheap lines = record {
  each = λ n below. cheap_line (leading_word (line_at lines n)) _ (length (line_at lines n)) (given_at lines n) (λ e.
      let l = label_facts lines n e in
      let some = name_some l.0 l.2 in
      let short = l.3 in
      let same = ap (λ o. length (unwrap_or o [])) l.1 in
      omega (arith, same));
}

-- LOCAL and NOTYPE, absolute, with the name of a label
pub record IsLabelSymbol (s : Symbol) : Type 0 where
  pub kind : s.kind ≡ 0
  pub binding : s.binding ≡ 0
  pub index : s.index ≡ 0xfff1
  pub name : is_name s.name ≡ true

label_symbols : (w : List ℕ) (address : ℕ) (r : Result Given Fault) → (r ≡ Ok given.Label → is_name (unwrap_or (label_in w) []) ≡ true) → All IsLabelSymbol (symbol_in w address r)
label_symbols w address (Ok given.Label) h = All-cons IsLabelSymbol _ [] (record { kind = refl; binding = refl; index = refl; name = h refl }) (All-nil IsLabelSymbol)
label_symbols w address r h = All-nil IsLabelSymbol

pub symbols_sound : (lines : List (List ℕ)) (n : ℕ) → All IsLabelSymbol (gather n (symbol_at lines))
unfolding gather
symbols_sound lines zero = All-nil IsLabelSymbol
symbols_sound lines (suc n) =
    All-append IsLabelSymbol (gather n (symbol_at lines)) (symbol_at lines n) (symbols_sound lines n) (label_symbols (leading_word (line_at lines n)) _ (given_at lines n) (λ e. let l = label_facts lines n e in ap (λ o. is_name (unwrap_or o [])) l.1 ∙ l.2))
