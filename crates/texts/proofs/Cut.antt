-- Names that are printed: a character more, and the end of one that is cut.
use Rattle.std.proofs.Common.{rules, ◌≡◌, ℕ, suc, ◌+◌, ◌-◌, ◌<◌, ◌≤◌, false, Option, List, [], ◌∷◌, ◌++◌, length, take, drop, arith, slice_index, ap, sym, ◌∙◌, append_assoc, subst}
use Rattle.std.specs.Prelude.{codes, ◌==◌}
use Rattle.bstr.specs.Utf8.{decoded}
use Rattle.bstr.proofs.lemmas.PieceLemmas.{size-bounds}
use Rattle.texts.specs.Names.{character_text, printable}

-- the name has at least the bytes of its first character
pub size_fits : (bs : List ℕ) → 0 < length bs → (decoded bs).size ≤ length bs
size_fits bs some = (size-bounds (length bs) (slice_index bs 0) (slice_index bs 1) (slice_index bs 2) (slice_index bs 3) some).2

next_character : (m k : ℕ) (bs : List ℕ) → k < m → (length bs == 0) ≡ false
    → printable (m - k) bs ≡ character_text (decoded bs).char (take (decoded bs).size bs) ++ printable (m - (k + 1)) (drop (decoded bs).size bs)
next_character m k [] l some = absurd (search rules)
next_character m k (b ∷ bs) l some = let e : m - k ≡ suc (m - (k + 1)) = omega arith in rw e

-- a text with one character more of a name
pub printed_on : (m k : ℕ) (bs t : List ℕ) {char : Option ℕ} {front behind u all : List ℕ} → k < m → (length bs == 0) ≡ false
    → char ≡ (decoded bs).char → front ≡ take (decoded bs).size bs → behind ≡ drop (decoded bs).size bs
    → u ≡ t ++ character_text char front → t ++ printable (m - k) bs ≡ all → u ++ printable (m - (k + 1)) behind ≡ all
printed_on m k bs t l some char_is front_is behind_is u_is told =
    rw u_is (rw char_is (rw front_is (rw behind_is (append_assoc t _ _ ∙ (ap (λ x. t ++ x) (sym (next_character m k bs l some)) ∙ told)))))

-- a text behind the last character that is printed
pub printed_cut : (m k : ℕ) (bs t all : List ℕ) → m ≤ k → (length bs == 0) ≡ false → t ++ printable (m - k) bs ≡ all → t ++ codes "..." ≡ all
printed_cut m k [] t all l some told = absurd (search rules)
printed_cut m k (b ∷ bs) t all l some told = let e : m - k ≡ 0 = omega arith in subst (λ n. t ++ printable n (b ∷ bs) ≡ all) e told
