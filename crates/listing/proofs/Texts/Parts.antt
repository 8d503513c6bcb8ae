-- Texts around bytes, and texts without blanks at their ends.
use Rattle.std.proofs.Common.{◌≡◌, ℕ, suc, ◌+◌, ◌-◌, ◌≤◌, Bool, true, false, cond, not, ◌||◌, eqb, Some, None, List, [], ◌∷◌, ◌++◌, length, take, drop, option_map, refl, sym, ap, ◌∙◌, arith, append_assoc, append-nil, true≢false}
use Rattle.std.specs.Int.{is_in_range}
use Rattle.std.specs.List.{list_all, position_from, prefix_len, suffix_len}
use Rattle.std.proofs.lemmas.Bool.{and_parts, and_from, eq-eqb, ne_eqb, not-true, not_from_false, or_from}
use Rattle.std.proofs.lemmas.List.{take_all, take_at, length-append, get_or-append_right, reverse-append}
use Rattle.std.proofs.lemmas.List.Folds.{list_all-append}
use Rattle.std.proofs.lemmas.List.Elements.{All-weaker}
use Rattle.std.proofs.lemmas.List.Sums.{AllPass-from_list_all, list_all-from_AllPass, suffix_len_is}
use Rattle.texts.specs.Read.{parted, around}
use Rattle.rv_asm.specs.Lines.{is_blank, hash, newline, comma, opening, closing, trim, trim_start, trim_end, pair_in, triple_in, bracketed_in, trimmed_halves, triple_from, triple_with, bracketed_from, bracketed_with}

-- ---- tests of bytes
-- the bytes of names, registers and numbers: digits, lower-case letters and `-`
abbrev pub is_plain : ℕ → Bool
is_plain c = (is_in_range 48 57 c || is_in_range 97 122 c) || eqb c 45

-- any byte but `#` and a newline, which no text of a word has
abbrev pub is_inline : ℕ → Bool
is_inline c = not (eqb c hash || eqb c newline)

-- byte b does not occur
abbrev pub lacks : ℕ → List ℕ → Bool
lacks b text = list_all (λ c. not (eqb c b)) text

pub not_byte : (b c : ℕ) → is_plain b ≡ false → is_plain c ≡ true → eqb c b ≡ false
not_byte b c n h = ne_eqb c b (λ e. true≢false (sym h ∙ (ap is_plain e ∙ n)))

pub plain_blank : (c : ℕ) → is_plain c ≡ true → is_blank c ≡ false
plain_blank c h = or_from (eqb c 32) (eqb c 9) (not_byte 32 c refl h) (not_byte 9 c refl h)

pub all_weaker : (p q : ℕ → Bool) (text : List ℕ) → ((c : ℕ) → p c ≡ true → q c ≡ true) → list_all p text ≡ true → list_all q text ≡ true
all_weaker p q text f h = list_all-from_AllPass q text (All-weaker (λ c. p c ≡ true) (λ c. q c ≡ true) f text (AllPass-from_list_all p text h))

pub all_append : (p : ℕ → Bool) (xs ys : List ℕ) → list_all p xs ≡ true → list_all p ys ≡ true → list_all p (xs ++ ys) ≡ true
all_append p xs ys a b = list_all-append p xs ys ∙ and_from (list_all p xs) (list_all p ys) a b

pub lacks_append : (b : ℕ) (xs ys : List ℕ) → lacks b xs ≡ true → lacks b ys ≡ true → lacks b (xs ++ ys) ≡ true
lacks_append b xs ys h k = all_append (λ c. not (eqb c b)) xs ys h k

pub plain_lacks : (b : ℕ) (text : List ℕ) → is_plain b ≡ false → list_all is_plain text ≡ true → lacks b text ≡ true
plain_lacks b text n h = all_weaker is_plain (λ c. not (eqb c b)) text (λ c p. not_from_false (eqb c b) (not_byte b c n p)) h

plain_inline : (text : List ℕ) → list_all is_plain text ≡ true → list_all is_inline text ≡ true
plain_inline text h = all_weaker is_plain is_inline text each h where
  each : (c : ℕ) → is_plain c ≡ true → is_inline c ≡ true
  each c p =
      let neither = or_from (eqb c hash) (eqb c newline) (not_byte hash c refl p) (not_byte newline c refl p) in
      not_from_false (eqb c hash || eqb c newline) neither

-- ---- the text before and behind a byte
position_at : (b k : ℕ) (xs ys : List ℕ) → lacks b xs ≡ true → position_from (λ c. eqb c b) k (xs ++ b ∷ ys) ≡ Some (k + length xs)
position_at b k [] ys h = ap (λ t. cond t (Some k) (position_from (λ c. eqb c b) (k + 1) ys)) (eq-eqb b b refl) ∙ ap Some (omega arith)
position_at b k (x ∷ xs) ys h =
    let parts = and_parts (not (eqb x b)) (lacks b xs) h in
    ap (λ t. cond t (Some k) (position_from (λ c. eqb c b) (k + 1) (xs ++ b ∷ ys))) (not-true (eqb x b) parts.0)
    ∙ (position_at b (k + 1) xs ys parts.1 ∙ ap Some (omega arith))

position_none : (b k : ℕ) (xs : List ℕ) → lacks b xs ≡ true → position_from (λ c. eqb c b) k xs ≡ None
position_none b k [] h = refl
position_none b k (x ∷ xs) h =
    let parts = and_parts (not (eqb x b)) (lacks b xs) h in
    ap (λ t. cond t (Some k) (position_from (λ c. eqb c b) (k + 1) xs)) (not-true (eqb x b) parts.0) ∙ position_none b (k + 1) xs parts.1

drop_past : (xs ys : List ℕ) (y : ℕ) → drop (0 + length xs + 1) (xs ++ y ∷ ys) ≡ ys
drop_past [] ys y = refl
drop_past (x ∷ xs) ys y =
    let one : 0 + length (x ∷ xs) + 1 ≡ suc (0 + length xs + 1) = omega arith in
    ap (λ k. drop k (x ∷ (xs ++ y ∷ ys))) one ∙ drop_past xs ys y

pub parted_at : (b : ℕ) (xs ys : List ℕ) → lacks b xs ≡ true → parted b (xs ++ b ∷ ys) ≡ Some (xs, ys)
unfolding parted
parted_at b xs ys h =
    let front : take (0 + length xs) (xs ++ b ∷ ys) ≡ xs = take_at xs (b ∷ ys) (0 + length xs) (omega arith) in
    let back = drop_past xs ys b in
    ap (option_map (around (xs ++ b ∷ ys))) (position_at b 0 xs ys h) ∙ λ i. Some (front i, back i)

pub parted_none : (b : ℕ) (xs : List ℕ) → lacks b xs ≡ true → parted b xs ≡ None
unfolding parted
parted_none b xs h = ap (option_map (around xs)) (position_none b 0 xs h)

-- ---- no blank at an end
-- no blank stands at either end, whatever follows on the other side
pub record IsText (text : List ℕ) : Type 0 where
  pub front : (more : List ℕ) → prefix_len is_blank (text ++ more) ≡ 0
  pub back : (more : List ℕ) → suffix_len is_blank (more ++ text) ≡ 0
  pub inline : list_all is_inline text ≡ true

solid_back : (text more : List ℕ) → 1 ≤ length text → list_all (λ c. not (is_blank c)) text ≡ true → suffix_len is_blank (more ++ text) ≡ 0
solid_back text more some h =
    let all = AllPass-from_list_all (λ c. not (is_blank c)) text h in
    let whole = more ++ text in
    let size = length-append more text in
    let last = get_or-append_right more text (length more) (length whole - 1) 0 refl (omega (arith, size, some)) in
    let solid = not-true _ (all (length whole - 1 - length more) 0 (omega (arith, size, some))) in
    suffix_len_is is_blank whole (length whole) 0 (omega arith) (λ k from below. absurd (omega (arith, from, below)))
    (λ n. ap is_blank last ∙ solid)
    ∙ omega arith

pub plain_text : (text : List ℕ) → 1 ≤ length text → list_all is_plain text ≡ true → IsText text
plain_text [] some h = absurd (omega arith)
plain_text (c ∷ text) some h =
    let first = plain_blank c (and_parts (is_plain c) (list_all is_plain text) h).0 in
    let solid = all_weaker is_plain (λ c. not (is_blank c)) (c ∷ text) (λ c p. not_from_false (is_blank c) (plain_blank c p)) h in
    record {
      front = λ more. ap (λ t. cond t (1 + prefix_len is_blank (text ++ more)) 0) first;
      back = λ more. solid_back (c ∷ text) more some solid;
      inline = plain_inline (c ∷ text) h;
    }

pub closing_text : IsText (closing ∷ [])
closing_text = record { front = λ more. refl; back = λ more. solid_back (closing ∷ []) more (omega arith) refl; inline = refl }

-- two texts with some bytes between them
pub joined_text : (a m b : List ℕ) → IsText a → list_all is_inline m ≡ true → IsText b → IsText (a ++ (m ++ b))
joined_text a m b p h q = record {
  front = λ more. ap (prefix_len is_blank) (append_assoc a (m ++ b) more) ∙ p.front ((m ++ b) ++ more);
  back = λ more.
      ap (suffix_len is_blank) (sym (append_assoc more a (m ++ b)) ∙ sym (append_assoc (more ++ a) m b)) ∙ q.back ((more ++ a) ++ m);
  inline = all_append is_inline a (m ++ b) p.inline (all_append is_inline m b h q.inline);
}

-- ---- blanks around a text
trim_back : (text : List ℕ) → IsText text → trim_end text ≡ text
unfolding trim_end
trim_back text t = ap (λ n. take (length text - n) text) (t.back []) ∙ take_all (length text - 0) text (omega arith)

pub trim_text : (text : List ℕ) → IsText text → trim text ≡ text
unfolding trim trim_start
trim_text text t = ap (λ n. trim_end (drop n text)) (ap (prefix_len is_blank) (sym (append-nil text)) ∙ t.front []) ∙ trim_back text t

pub trim_space : (text : List ℕ) → IsText text → trim (32 ∷ text) ≡ text
unfolding trim trim_start
trim_space text t =
    ap (λ n. trim_end (drop (1 + n) (32 ∷ text))) (ap (prefix_len is_blank) (sym (append-nil text)) ∙ t.front []) ∙ trim_back text t

-- with one blank behind it
pub trim_ended : (text : List ℕ) → IsText text → trim (text ++ 32 ∷ []) ≡ text
unfolding trim trim_start trim_end
trim_ended text t =
    let ended = text ++ 32 ∷ [] in
    let last : suffix_len is_blank ended ≡ 1 = ap (prefix_len is_blank) (reverse-append text (32 ∷ [])) ∙ ap (λ n. 1 + n) (t.back []) in
    let size = length-append text (32 ∷ []) in
    ap (λ n. take (length (drop n ended) - suffix_len is_blank (drop n ended)) (drop n ended)) (t.front (32 ∷ []))
    ∙ (ap (λ n. take (length ended - n) ended) last ∙ take_at text (32 ∷ []) (length ended - 1) (omega (arith, size)))

-- ---- parts between commas
-- a part without a comma
pub record IsPart (text : List ℕ) : Type 0 where
  pub is : IsText text
  pub no_comma : lacks comma text ≡ true

pair_from : (a b c : List ℕ) → lacks comma a ≡ true → trim a ≡ c → IsText b → pair_in (a ++ comma ∷ 32 ∷ b) ≡ Some (c, b)
unfolding pair_in
pair_from a b c h e t =
    let back = trim_space b t in
    ap (option_map trimmed_halves) (parted_at comma a (32 ∷ b) h) ∙ λ i. Some (e i, back i)

pub pair_is : (a b : List ℕ) → IsPart a → IsText b → pair_in (a ++ comma ∷ 32 ∷ b) ≡ Some (a, b)
pair_is a b p t = pair_from a b a p.no_comma (trim_text a p.is) t

pub triple_is : (a b c : List ℕ) → IsPart a → IsPart b → IsText c → triple_in (a ++ comma ∷ 32 ∷ (b ++ comma ∷ 32 ∷ c)) ≡ Some (a, b, c)
unfolding triple_in
triple_is a b c p q t =
    let rest = pair_from (32 ∷ b) c b q.no_comma (trim_space b q.is) t in
    ap triple_from (parted_at comma a (32 ∷ (b ++ comma ∷ 32 ∷ c)) p.no_comma)
    ∙ (ap (λ x. triple_with x (pair_in ((32 ∷ b) ++ comma ∷ 32 ∷ c))) (trim_text a p.is) ∙ ap (triple_with a) rest)

-- ---- brackets
pub bracketed_is :
    (a b : List ℕ) → lacks opening a ≡ true → lacks closing b ≡ true → IsText a → IsText b
    → bracketed_in (a ++ opening ∷ (b ++ closing ∷ [])) ≡ Some (a, b)
unfolding bracketed_in
bracketed_is a b h k s t =
    let front = trim_text a s in
    let inner = trim_text b t in
    ap bracketed_from (parted_at opening a (b ++ closing ∷ []) h)
    ∙ (ap (bracketed_with (trim a)) (parted_at closing b [] k) ∙ λ i. Some (front i, inner i))
