-- How much room the labels of a text take in the file: less than nine bytes for each byte of the text.
use Rattle.std.proofs.Common.{◌≡◌, ℕ, zero, suc, ◌+◌, ◌*◌, ◌<◌, ◌≤◌, Bool, true, false, cond, List, [], ◌∷◌, ◌++◌, length, take, refl, ap, ◌∙◌, arith, length-append}
use Rattle.std.specs.List.{slice_split, onto_first}
use Rattle.std.proofs.lemmas.List.{take_more}
use Rattle.std.proofs.Math.Seq.{take-length}
use Rattle.elf_types.specs.declared.file.Symbol.{Symbol}
use Rattle.machine.specs.Below.{gather}
use Rattle.tests.specs.Elf.Layout.{names_bytes, symbol_names}
use Rattle.rv_asm.specs.Assembled.{line_at, symbol_at}

-- lines with their newlines
abbrev pub weight : List (List ℕ) → ℕ
weight [] = 0
weight (line ∷ lines) = length line + 1 + weight lines

weight-append : (ls ms : List (List ℕ)) → weight (ls ++ ms) ≡ weight ls + weight ms
weight-append [] ms = omega arith
weight-append (l ∷ ls) ms = omega (arith, weight-append ls ms)

onto_weight : (x : ℕ) (parts : List (List ℕ)) → 1 ≤ weight parts → weight (onto_first x parts) ≡ 1 + weight parts
onto_weight x [] h = absurd (omega (arith, h))
onto_weight x (part ∷ parts) h = omega arith

pub weight_of : (p : ℕ → Bool) (xs : List ℕ) → weight (slice_split p xs) ≡ length xs + 1
weight_of p [] = refl
weight_of p (x ∷ xs) =
    let rest = weight_of p xs in
    elim (p x) as (λ b. weight (cond b ([] ∷ slice_split p xs) (onto_first x (slice_split p xs))) ≡ length (x ∷ xs) + 1)
    [ true ↦ omega (arith, rest) | false ↦ omega (arith, rest, onto_weight x (slice_split p xs) (omega (arith, rest))) ]

-- a symbol and its name
abbrev pub cost : List Symbol → ℕ
cost [] = 0
cost (s ∷ symbols) = 25 + length s.name + cost symbols

cost-append : (ss ts : List Symbol) → cost (ss ++ ts) ≡ cost ss + cost ts
cost-append [] ts = omega arith
cost-append (s ∷ ss) ts = omega (arith, cost-append ss ts)

pub cost_is : (ss : List Symbol) → length (names_bytes (symbol_names ss)) + 24 * length ss ≡ cost ss
cost_is [] = refl
cost_is (s ∷ ss) = omega (arith, cost_is ss, length-append (s.name ++ 0 ∷ []) (names_bytes (symbol_names ss)), length-append s.name (0 ∷ []))

-- each label costs less than nine bytes for each of its line
pub record IsCheap (lines : List (List ℕ)) : Type 0 where
  pub each : (n : ℕ) → n < length lines → cost (symbol_at lines n) ≤ 9 * (length (line_at lines n) + 1)

pub cost_below : (lines : List (List ℕ)) (n : ℕ) → n ≤ length lines → IsCheap lines → cost (gather n (symbol_at lines)) ≤ 9 * weight (take n lines)
unfolding gather
cost_below lines zero h cheap = omega arith
cost_below lines (suc n) h cheap =
    let rest = cost_below lines n (omega arith) cheap in
    let one = cheap.each n (omega arith) in
    let taken = ap weight (take_more lines n [] (omega arith)) ∙ weight-append (take n lines) (line_at lines n ∷ []) in
    let one_on : suc n ≡ n + 1 = omega arith in
    let same = ap (λ k. weight (take k lines)) one_on in
    omega (arith, rest, one, taken, same, cost-append (gather n (symbol_at lines)) (symbol_at lines n))

pub cost_all : (text : List ℕ) (p : ℕ → Bool) → IsCheap (slice_split p text) → cost (gather (length (slice_split p text)) (symbol_at (slice_split p text))) ≤ 9 * (length text + 1)
cost_all text p cheap =
    let lines = slice_split p text in
    omega (arith, cost_below lines (length lines) (omega arith) cheap, ap weight (take-length lines), weight_of p text)
