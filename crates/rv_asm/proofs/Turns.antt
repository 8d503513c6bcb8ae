-- What one line more changes.
use Rattle.std.proofs.Common.{◌≡◌, ℕ, ◌+◌, ◌-◌, ◌^◌, ◌==◌, ◌<◌, ◌≤◌, Bool, false, cond, Option, Some, None, Ok, Err, is_ok, List, [], ◌++◌, length, take, get_or, sym, ap, ◌∙◌, subst, arith, ⊎_elim}
use mathlib.Core.Path.{fun_ext}
use denote.Param.Members.{Mut}
use denote.Ref.{Bor}
use Rattle.std.specs.Fn.{CalledAt}
use Rattle.std.specs.Iterator.{Yields}
use Rattle.std.specs.Slice.Iter as slice
use Rattle.std.specs.declared.slice.Split.{Split}
use Rattle.std.proofs.lemmas.Iterator.Consumers.{YieldsList-turn, YieldsList-end}
use Rattle.std.proofs.lemmas.Iterator.Splits.{YieldsList-from_slice_split}
use Rattle.std.specs.List.{position_from, slice_split}
use Rattle.std.specs.Option.{option_map, option_or}
use Rattle.std.proofs.lemmas.Bool.{cases_lt}
use Rattle.std.proofs.lemmas.List.{take_more, length-take-le, get_or_default}
use Rattle.std.proofs.lemmas.List.Splits.{length-slice_split}
use Rattle.std.proofs.lemmas.List.Sums.{count_by-le-length}
use Rattle.std.proofs.Math.Seq.{take-length}
use Rattle.elf_types.specs.declared.file.Symbol.{Symbol}
use Rattle.machine.proofs.Lemmas.{gather_more}
use Rattle.rv_asm.specs.declared.error.Fault.{Fault}
use Rattle.rv_asm.specs.declared.given.Given.{Given}
use Rattle.rv_asm.specs.declared.heads.Head.{Head}
use Rattle.rv_asm.specs.declared.labels.Label.{Label}
use Rattle.rv_asm.specs.declared.place.Place.{Place}
use Rattle.rv_asm.specs.Lines.{newline, lines_of, leading_word, rest_in, label_in}
use Rattle.rv_asm.specs.Heads.{head_of}
use Rattle.rv_asm.specs.Given.{address_at, given_by}
use Rattle.rv_asm.specs.Assembled.{head_in, place_behind, is_same_label, defines, label_at, label_of, line_at, given_at, code_given, data_given, symbol_in, symbol_at, code_of_lines, data_of, symbols_of, AreFaultless, IsFirstFault}
use Rattle.rv_asm.specs.Steps.{next_place}
use Rattle.rv_asm.specs.declared.program.Program.{Program}
use Rattle.rv_asm.specs.Program.{IsSoFar}
use Rattle.rv_asm.proofs.Places.{place_push, code_within, data_within}
use Rattle.rv_asm.proofs.FirstLabels.{first_push}

-- ---- how many lines there are
pub lines_short : (text : List ℕ) → length (lines_of text) ≤ length text + 1
unfolding lines_of
lines_short text = omega (arith, length-slice_split (λ b. b == newline) text, count_by-le-length (λ b. b == newline) text)

-- ---- the line of a turn
pub record IsTurn (lines : List (List ℕ)) (n : ℕ) (line : List ℕ) : Type 0 where
  pub inside : n < length lines
  pub is : line ≡ line_at lines n

pub turn_of : (lines : List (List ℕ)) (n : ℕ) (line : List ℕ) → (n < length lines) × (line ≡ get_or lines n line) → IsTurn lines n line
turn_of lines n line h = record { inside = h.0; is = h.1 ∙ get_or_default lines n line [] h.0 }

-- the pieces of `split` at newlines are the lines
pub line_turn :
    {F : Type 0} (g : Mut F (Bor ℕ × Unit {0}) Bool) (text : List ℕ) (made start now next : Split ℕ F) (f : F) (xs : List (Bor (List ℕ))) (r : Option (Bor (List ℕ))) (x : Bor (List ℕ))
    → Yields (slice.split_steps g) start xs now → r ≡ Some x → slice.split_steps g now r next
    → start ≡ made → slice.split_rest made ≡ text → slice.split_done made ≡ false → slice.split_callee made ≡ f → ((y : ℕ) (b : Bool) (q : F) → CalledAt g f y b q → (q ≡ f) × (b ≡ (y == newline)))
    → IsTurn (lines_of text) (length xs) x.now
unfolding lines_of
line_turn g text made start now next f xs r x y is step gives rest done closure tests =
    turn_of (slice_split (λ b. b == newline) text) (length xs) x.now (YieldsList-turn (YieldsList-from_slice_split g (λ b. b == newline) text (ap slice.split_rest gives ∙ rest) (ap slice.split_done gives ∙ done) (ap slice.split_callee gives ∙ closure) tests) xs now y r next x is step)

pub lines_end :
    {F : Type 0} (g : Mut F (Bor ℕ × Unit {0}) Bool) (text : List ℕ) (made start now next : Split ℕ F) (f : F) (xs : List (Bor (List ℕ))) (r : Option (Bor (List ℕ)))
    → Yields (slice.split_steps g) start xs now → r ≡ None → slice.split_steps g now r next
    → start ≡ made → slice.split_rest made ≡ text → slice.split_done made ≡ false → slice.split_callee made ≡ f → ((y : ℕ) (b : Bool) (q : F) → CalledAt g f y b q → (q ≡ f) × (b ≡ (y == newline)))
    → length xs ≡ length (lines_of text)
unfolding lines_of
lines_end g text made start now next f xs r y is step gives rest done closure tests =
    (YieldsList-end (YieldsList-from_slice_split g (λ b. b == newline) text (ap slice.split_rest gives ∙ rest) (ap slice.split_done gives ∙ done) (ap slice.split_callee gives ∙ closure) tests) xs now y r next is step).1

-- ---- before a line
-- n lines were counted, and the place is behind them
pub record IsBefore (text : List ℕ) (n number : ℕ) (p : Place) : Type 0 where
  pub counted : number ≡ n
  pub placed : p ≡ place_behind (take n (lines_of text))
  pub code_near : p.code_words < 2 ^ 32
  pub values_near : p.data_words < 2 ^ 32

-- behind the next line one more is counted
pub before_next :
    (text : List ℕ) (n m number : ℕ) (line : List ℕ) (p next : Place) (h : Head) → length text ≤ 67108864 → IsTurn (lines_of text) n line → n + 1 ≡ m → IsBefore text n number p
    → h ≡ head_in line → next ≡ next_place p h → IsBefore text m (number + 1) next
before_next text n m number line p next h short t one b head e =
    let lines = lines_of text in
    let here : h ≡ head_in (line_at lines n) = head ∙ ap head_in t.is in
    let behind = ap (λ q. next_place q h) b.placed ∙ ap (next_place (place_behind (take n lines))) here ∙ sym (place_push (take n lines) (line_at lines n)) ∙ ap place_behind (sym (take_more lines n [] t.inside)) in
    let placed = e ∙ behind ∙ ap (λ k. place_behind (take k lines)) one in
    let size = length-take-le m lines (omega (arith, one, t.inside)) in
    let code = ap (λ (q : Place). q.code_words) placed in
    let words = ap (λ (q : Place). q.data_words) placed in
    record {
      counted = omega (arith, one, b.counted);
      placed = placed;
      code_near = omega (arith, short, lines_short text, code_within (take m lines), size, code);
      values_near = omega (arith, short, lines_short text, data_within (take m lines), size, words);
    }

-- ---- labels
abbrev pub labelled : ℕ → ℕ → Label
labelled address number = record { address = address; line = number }

pub turn_labels :
    (lines : List (List ℕ)) (n : ℕ) (line : List ℕ) (old new : Option Label) (q : List ℕ) (label : Label) → IsTurn lines n line
    → new ≡ option_or old (cond (is_same_label q (label_in (leading_word line))) (Some label) None) → label ≡ label_at lines n → old ≡ option_map (label_at lines) (position_from (defines q) 0 (take n lines))
    → new ≡ option_map (label_at lines) (position_from (defines q) 0 (take (n + 1) lines))
turn_labels lines n line old new q label t e k so_far =
    let f = label_at lines in
    let one = ap (λ (x : List ℕ). cond (defines q x) (Some label) None) t.is ∙ ap (λ (x : Label). cond (defines q (line_at lines n)) (Some x) None) (k ∙ ap f (sym (length-take-le n lines (omega (arith, t.inside))))) in
    e ∙ (ap (λ o. option_or o (cond (is_same_label q (label_in (leading_word line))) (Some label) None)) so_far
    ∙ (ap (option_or (option_map f (position_from (defines q) 0 (take n lines)))) one
    ∙ (sym (first_push f (defines q) (take n lines) (line_at lines n)) ∙ ap (λ ls. option_map f (position_from (defines q) 0 ls)) (sym (take_more lines n [] t.inside)))))

pub label_is : (lines : List (List ℕ)) (n : ℕ) (p : Place) (address number : ℕ) → address ≡ address_at p → p ≡ place_behind (take n lines) → number ≡ n → labelled address number ≡ label_at lines n
unfolding label_at
label_is lines n p address number a e k = let b = a ∙ ap address_at e in λ i. record { address = b i; line = k i }

pub all_labels : (lines : List (List ℕ)) (n : ℕ) (q : List ℕ) (o : Option Label) → n ≡ length lines → o ≡ option_map (label_at lines) (position_from (defines q) 0 (take n lines)) → o ≡ label_of lines q
unfolding label_of
all_labels lines n q o e h = h ∙ ap (λ ls. option_map (label_at lines) (position_from (defines q) 0 ls)) (ap (λ k. take k lines) e ∙ take-length lines)

-- ---- what a line gives
pub given_same :
    (lines : List (List ℕ)) (n : ℕ) (line : List ℕ) (labels : List ℕ → Option Label) (p : Place) (m : ℕ) (h : Head) (w r : List ℕ) → IsTurn lines n line
    → ((q : List ℕ) → labels q ≡ label_of lines q) → p ≡ place_behind (take n lines) → m ≡ n → h ≡ head_of (leading_word line) → w ≡ leading_word line → r ≡ rest_in line
    → given_by labels p m h w r ≡ given_at lines n
unfolding given_at
given_same lines n line labels p m h w r t known place number head word rest =
    let l : labels ≡ label_of lines = fun_ext known in
    let is = t.is in
    cc

faultless_more : (lines : List (List ℕ)) (n : ℕ) (g : Given) → AreFaultless lines n → given_at lines n ≡ Ok g → AreFaultless lines (n + 1)
faultless_more lines n g so_far e = λ i less. ⊎_elim (λ h. so_far i h) (λ h. let same : i ≡ n = omega arith in ap (λ k. is_ok (given_at lines k)) same ∙ ap is_ok e) (cases_lt i n)

-- a fault on the line after n lines without one
pub first_fault : (text : List ℕ) (n number : ℕ) (line : List ℕ) (f : Fault) → IsTurn (lines_of text) n line → number ≡ n → AreFaultless (lines_of text) n → given_at (lines_of text) n ≡ Err f → IsFirstFault text f (number + 1)
first_fault text n number line f t e so_far g =
    let k : number + 1 - 1 ≡ n = omega arith in
    record {
      least = omega arith;
      inside = omega (arith, t.inside, e);
      before = subst (AreFaultless (lines_of text)) (sym k) so_far;
      found = ap (given_at (lines_of text)) k ∙ g;
    }

-- ---- all lines so far
pub so_far_more :
    (lines : List (List ℕ)) (n m : ℕ) (line : List ℕ) (p : Place) (w : List ℕ) (g : Given) (old new : Program) → IsTurn lines n line → n + 1 ≡ m → p ≡ place_behind (take n lines) → w ≡ leading_word line
    → given_at lines n ≡ Ok g → IsSoFar lines n old → new.code.items ≡ old.code.items ++ code_given (Ok g) → new.values.items ≡ old.values.items ++ data_given (Ok g)
    → new.symbols.items ≡ old.symbols.items ++ symbol_in w (address_at p) (Ok g) → IsSoFar lines m new
unfolding code_of_lines data_of symbols_of
so_far_more lines n m line p w g old new t one placed word is so_far c v s =
    let here = word ∙ ap leading_word t.is in
    let symbol_here = ap (λ x. symbol_in x (address_at p) (Ok g)) here ∙ (ap (λ q. symbol_in (leading_word (line_at lines n)) (address_at q) (Ok g)) placed ∙ ap (symbol_in (leading_word (line_at lines n)) (address_at (place_behind (take n lines)))) (sym is)) in
    subst (λ k. IsSoFar lines k new) one (record {
      faultless = faultless_more lines n g so_far.faultless is;
      code = gather_more n (λ i. code_given (given_at lines i)) old.code.items new.code.items (c ∙ ap (λ r. old.code.items ++ code_given r) (sym is)) so_far.code;
      words = gather_more n (λ i. data_given (given_at lines i)) old.values.items new.values.items (v ∙ ap (λ r. old.values.items ++ data_given r) (sym is)) so_far.words;
      symbols = gather_more n (λ i. symbol_at lines i) old.symbols.items new.symbols.items (s ∙ ap (λ (x : List Symbol). old.symbols.items ++ x) symbol_here) so_far.symbols;
    })
