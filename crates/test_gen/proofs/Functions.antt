-- The code, function by function.
use Rattle.std.proofs.Common.{◌≡◌, ℕ, zero, suc, ◌+◌, ◌*◌, List, [], ◌∷◌, ◌++◌, length, refl, sym, ap, ◌∙◌, append_assoc, arith, length-append}
use Rattle.std.proofs.lemmas.List.{append-nil}
use Rattle.rand_pcg.specs.Lcg.{Lcg}
use Rattle.rv_isa.specs.declared.ins.Ins.{Ins}
use Rattle.machine.specs.Below.{each, gather}
use Rattle.machine.proofs.Lemmas.{gather_none, gather_more, length-each}
use Rattle.test_gen.specs.Random.{seeded, drawn, after, random_word}
use Rattle.test_gen.specs.Code.{body_instruction, return, function, main, code}
use Rattle.test_gen.proofs.RandomWords.{after-more}

-- the function made of the words behind those of i functions
pub function_from : (seed i : ℕ) (g : Lcg) → g ≡ after (32 * i) (seeded seed) → each 32 (λ k. body_instruction (drawn (after k g))) ++ return ∷ [] ≡ function seed i
unfolding function random_word
function_from seed i g e =
    let word = λ (k : ℕ). ap (after k) e ∙ after-more k (32 * i) (seeded seed) in
    λ n. each 32 (λ k. body_instruction (drawn (word k n))) ++ return ∷ []

-- `main` before any function
pub none_yet : (seed n : ℕ) → main n ≡ main n ++ gather 0 (function seed)
none_yet seed n = sym (append-nil (main n)) ∙ ap (λ rest. main n ++ rest) (gather_none (function seed))

-- one more function
pub one_more : (seed i : ℕ) (front xs ys : List Ins) → ys ≡ xs ++ function seed i → xs ≡ front ++ gather i (function seed) → ys ≡ front ++ gather (i + 1) (function seed)
one_more seed i front xs ys e so_far =
    e ∙ ap (λ l. l ++ function seed i) so_far ∙ append_assoc front (gather i (function seed)) (function seed i)
    ∙ ap (λ l. front ++ l) (gather_more i (function seed) (gather i (function seed)) (gather i (function seed) ++ function seed i) refl refl)

-- ---- how long the code is
pub length-function : (seed i : ℕ) → length (function seed i) ≡ 33
unfolding function random_word
length-function seed i =
    let body : List Ins = each 32 (λ k. body_instruction (random_word seed (32 * i + k))) in
    omega (arith, length-append body (return ∷ []), length-each 32 (λ k. body_instruction (random_word seed (32 * i + k))))

pub length-main : (n : ℕ) → length (main n) ≡ 12
unfolding main
length-main n = refl

pub length-functions : (seed n : ℕ) → length (gather n (function seed)) ≡ 33 * n
unfolding gather
length-functions seed zero = refl
length-functions seed (suc n) = omega (arith, length-append (gather n (function seed)) (function seed n), length-functions seed n, length-function seed n)

pub length-code : (seed n : ℕ) → length (code seed n) ≡ 12 + 33 * n
unfolding code
length-code seed n = omega (arith, length-append (main n) (gather n (function seed)), length-main n, length-functions seed n)
