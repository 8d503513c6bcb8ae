-- Lines that are joined are split again.
use Rattle.std.proofs.Common.{◌≡◌, ℕ, ◌*◌, ◌≤◌, true, false, not, eqb, List, [], ◌∷◌, ◌++◌, length, refl, ap, ◌∙◌, arith, append_assoc, append-nil, All}
use Rattle.std.specs.List.{slice_split, join_with_byte}
use Rattle.std.proofs.lemmas.Bool.{not-true}
use Rattle.std.proofs.lemmas.List.{length-append}
use Rattle.std.proofs.lemmas.List.Elements.{All-tail}
use Rattle.std.proofs.lemmas.List.Splits.{slice_split_none, slice_split_at}
use Rattle.std.proofs.lemmas.List.Sums.{AllPass-from_list_all}
use Rattle.rv_asm.specs.Lines.{newline}
use Rattle.listing.proofs.Texts.Parts.{lacks}

abbrev pub split : List ℕ → List (List ℕ)
split text = slice_split (λ c. eqb c newline) text

all_other : (line : List ℕ) → lacks newline line ≡ true → All (λ c. eqb c newline ≡ false) line
all_other line h = let all = AllPass-from_list_all (λ c. not (eqb c newline)) line h in λ k d below. not-true _ (all k d below)

-- a line that ends at a newline
pub split_one : (line text : List ℕ) → lacks newline line ≡ true → split (line ++ newline ∷ text) ≡ line ∷ split text
split_one line text h = slice_split_at (λ c. eqb c newline) line newline text (all_other line h) refl

-- the last line may end at a newline or not
pub last_line : (line : List ℕ) → lacks newline line ≡ true → split (line ++ []) ≡ line ∷ []
last_line line h = ap split (append-nil line) ∙ slice_split_none (λ c. eqb c newline) line (all_other line h)

pub ended_line : (line : List ℕ) → lacks newline line ≡ true → split (line ++ newline ∷ []) ≡ line ∷ [] ∷ []
ended_line line h = split_one line [] h

-- lines split again, with a last part that gives some more lines
pub split_lines :
    (end : List ℕ) (more lines : List (List ℕ)) → ((x : List ℕ) → lacks newline x ≡ true → split (x ++ end) ≡ x ∷ more)
    → 1 ≤ length lines → All (λ line. lacks newline line ≡ true) lines → split (join_with_byte newline lines ++ end) ≡ lines ++ more
split_lines end more [] last some h = absurd (omega arith)
split_lines end more (x ∷ []) last some h = last x (h 0 [] (omega arith))
split_lines end more (x ∷ y ∷ lines) last some h =
    let rest = join_with_byte newline (y ∷ lines) in
    let later = All-tail (λ line. lacks newline line ≡ true) x (y ∷ lines) h in
    ap split (append_assoc x (newline ∷ rest) end)
    ∙ (split_one x (rest ++ end) (h 0 [] (omega arith)) ∙ ap (λ ls. x ∷ ls) (split_lines end more (y ∷ lines) last (omega arith) later))

pub join_short : (lines : List (List ℕ)) → All (λ line. length line ≤ 88) lines → length (join_with_byte newline lines) ≤ 89 * length lines
join_short [] h = omega arith
join_short (x ∷ []) h = let here = h 0 [] (omega arith) in omega arith
join_short (x ∷ y ∷ lines) h =
    let here = h 0 [] (omega arith) in
    let rest = join_short (y ∷ lines) (All-tail (λ line. length line ≤ 88) x (y ∷ lines) h) in
    omega (arith, here, rest, length-append x (newline ∷ join_with_byte newline (y ∷ lines)))
