-- The place behind one line more.
use Rattle.std.proofs.Common.{◌≡◌, ℕ, ◌+◌, ◌≤◌, true, false, cond, List, [], ◌∷◌, ◌++◌, length, refl, arith}
use Rattle.std.specs.List.{count_by}
use Rattle.std.proofs.lemmas.List.Sums.{sum_by_push, count_by-le-length}
use Rattle.rv_asm.specs.declared.heads.Head.{Head}
use Rattle.rv_asm.specs.declared.heads.Head.TheVariants.{DataStart}
use Rattle.rv_asm.specs.Assembled.{head_in, is_data_start, gives_code, gives_data, has_data_start, code_count, data_count, place_behind}
use Rattle.rv_asm.specs.Steps.{one_if, code_step, data_step, next_place}

start_push : (ls : List (List ℕ)) (l : List ℕ) → has_data_start (ls ++ l ∷ []) ≡ cond (has_data_start ls) true (is_data_start (head_in l))
start_push [] l = elim (is_data_start (head_in l)) as (λ b. cond b true false ≡ b) [ true ↦ refl | false ↦ refl ]
start_push (x ∷ ls) l =
    elim (is_data_start (head_in x)) as (λ b. cond b true (has_data_start (ls ++ l ∷ [])) ≡ cond (cond b true (has_data_start ls)) true (is_data_start (head_in l)))
    [ true ↦ refl | false ↦ start_push ls l ]

first_code : (h : Head) → cond (is_data_start h) 0 (one_if (gives_code h) + 0) ≡ 0 + code_step false h
first_code DataStart = refl
first_code h = refl

code_push : (ls : List (List ℕ)) (l : List ℕ) → code_count (ls ++ l ∷ []) ≡ code_count ls + code_step (has_data_start ls) (head_in l)
code_push [] l = first_code (head_in l)
code_push (x ∷ ls) l =
    let rest = code_push ls l in
    elim (is_data_start (head_in x)) as (λ b. cond b 0 (one_if (gives_code (head_in x)) + code_count (ls ++ l ∷ [])) ≡ cond b 0 (one_if (gives_code (head_in x)) + code_count ls) + code_step (cond b true (has_data_start ls)) (head_in l))
    [ true ↦ refl | false ↦ omega arith ]

data_push : (ls : List (List ℕ)) (l : List ℕ) → data_count (ls ++ l ∷ []) ≡ data_count ls + data_step (has_data_start ls) (head_in l)
data_push [] l = let z : ℕ = 0 in elim (is_data_start (head_in l)) as (λ b. cond b z z ≡ z) [ true ↦ refl | false ↦ refl ]
data_push (x ∷ ls) l =
    let rest = data_push ls l in
    elim (is_data_start (head_in x)) as (λ b. cond b (count_by (λ k. gives_data (head_in k)) (ls ++ l ∷ [])) (data_count (ls ++ l ∷ [])) ≡ cond b (count_by (λ k. gives_data (head_in k)) ls) (data_count ls) + data_step (cond b true (has_data_start ls)) (head_in l))
    [ true ↦ sum_by_push (λ k. one_if (gives_data (head_in k))) ls l | false ↦ rest ]

pub place_push : (ls : List (List ℕ)) (l : List ℕ) → place_behind (ls ++ l ∷ []) ≡ next_place (place_behind ls) (head_in l)
unfolding place_behind
place_push ls l = let s = start_push ls l in let c = code_push ls l in let d = data_push ls l in λ i. record { in_data = s i; code_words = c i; data_words = d i }

code_le : (ls : List (List ℕ)) → code_count ls ≤ length ls
code_le [] = omega arith
code_le (x ∷ ls) =
    let rest = code_le ls in
    elim (is_data_start (head_in x)) as (λ b. cond b 0 (one_if (gives_code (head_in x)) + code_count ls) ≤ length (x ∷ ls))
    [ true ↦ omega arith | false ↦ elim (gives_code (head_in x)) as (λ b. one_if b + code_count ls ≤ length (x ∷ ls)) [ true ↦ omega arith | false ↦ omega arith ] ]

data_le : (ls : List (List ℕ)) → data_count ls ≤ length ls
data_le [] = omega arith
data_le (x ∷ ls) =
    let rest = data_le ls in
    elim (is_data_start (head_in x)) as (λ b. cond b (count_by (λ k. gives_data (head_in k)) ls) (data_count ls) ≤ length (x ∷ ls))
    [ true ↦ omega (arith, count_by-le-length (λ k. gives_data (head_in k)) ls) | false ↦ omega arith ]

pub code_within : (ls : List (List ℕ)) → (place_behind ls).code_words ≤ length ls
unfolding place_behind
code_within ls = code_le ls

pub data_within : (ls : List (List ℕ)) → (place_behind ls).data_words ≤ length ls
unfolding place_behind
data_within ls = data_le ls
