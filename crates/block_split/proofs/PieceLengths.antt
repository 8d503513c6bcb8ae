-- From runs to the lengths of pieces.
use Rattle.std.proofs.Common.{◌≡◌, ℕ, zero, suc, ◌+◌, ◌-◌, ◌<◌, ◌≤◌, true, false, List, [], ◌∷◌, ◌++◌, length, take, drop, map, refl, sym, ap, ◌∙◌, subst, arith, length-append, length-drop, ◌&&◌}
use Rattle.std.specs.Prelude.{flat_map, sum, ◌==◌}
use Rattle.std.proofs.lemmas.List.Sums.{sum_by-cons}
use Rattle.std.proofs.Math.Seq.{take-append_seam, drop-append_seam}
use Rattle.std.proofs.lemmas.List.{map-append, take-append-drop, append_assoc, drop-drop, length-take-le, drop_all, append-nil, take_rest}
use Rattle.rv_isa.specs.declared.ins.Ins.{Ins}
use Rattle.std.proofs.lemmas.Bool.{false≢true, eqb-true}
use Rattle.rv_isa.specs.declared.class.Class.{Class}
use Rattle.rv_isa.specs.Kind.{class_of}
use Rattle.rv_isa.specs.declared.class.Class.TheVariants as class
use Rattle.qed_model.specs.Weave.Pieces.{is_run, is_clean_as, Breaks, AreRuns, run_lengths, divided, run_pieces, whole, ArePieces}
use Rattle.qed_model.proofs.Lemmas.{total, total_lengths, pieces_whole}
use Rattle.block_split.specs.Lengths.{IsLongestRun, MakeUp, AreLengths}

-- ---- lengths
divided_lengths : (ns : List ℕ) (is : List Ins) → total ns ≡ length is → map length (divided ns is) ≡ ns
divided_lengths [] is e = refl
divided_lengths (n ∷ ns) is e =
    let first : length (take n is) ≡ n = length-take-le n is (omega (arith, e)) in
    let l = length-drop n is in
    let rest : map length (divided ns (drop n is)) ≡ ns = divided_lengths ns (drop n is) (omega (arith, e, l)) in
    ap (λ x. x ∷ map length (divided ns (drop n is))) first ∙ ap (λ xs. n ∷ xs) rest

run_pieces_lengths : (most : ℕ) (run : List Ins) → 1 ≤ most → 1 ≤ length run → map length (run_pieces most run) ≡ run_lengths most (length run)
run_pieces_lengths most run h k = divided_lengths (run_lengths most (length run)) run (total_lengths most (length run) h k)

lengths_of : (most : ℕ) (runs : List (List Ins)) → 1 ≤ most → AreRuns runs → map length (flat_map (run_pieces most) runs) ≡ flat_map (λ run. run_lengths most (length run)) runs
lengths_of most [] h r = refl
lengths_of most (run ∷ runs) h r =
    map-append length (run_pieces most run) (flat_map (run_pieces most) runs)
    ∙ ap (λ xs. xs ++ map length (flat_map (run_pieces most) runs)) (run_pieces_lengths most run h r.0)
    ∙ ap (λ xs. run_lengths most (length run) ++ xs) (lengths_of most runs h r.3)

-- ---- the body, divided
divided_pieces : (ps : List (List Ins)) → divided (map length ps) (whole ps) ≡ ps
divided_pieces [] = refl
divided_pieces (p ∷ ps) =
    let front : take (length p) (p ++ whole ps) ≡ p = take-append_seam p (whole ps) in
    let back : drop (length p) (p ++ whole ps) ≡ whole ps = drop-append_seam p (whole ps) in
    ap (λ x. x ∷ divided (map length ps) (drop (length p) (p ++ whole ps))) front ∙ ap (λ x. p ∷ divided (map length ps) x) back ∙ ap (λ x. p ∷ x) (divided_pieces ps)

total_lengths_of : (ps : List (List Ins)) → sum (map length ps) ≡ length (whole ps)
total_lengths_of [] = refl
total_lengths_of (p ∷ ps) = sum_by-cons (λ n. n) (length p) (map length ps) ∙ ap (λ n. length p + n) (total_lengths_of ps) ∙ sym (length-append p (whole ps))

-- pieces with these lengths
by_pieces : (most : ℕ) (body : List Ins) (lengths : List ℕ) (ps : List (List Ins)) → 1 ≤ most → ArePieces most body ps → lengths ≡ map length ps → AreLengths most body lengths
by_pieces most body lengths ps h p l =
    let e : divided lengths body ≡ ps = ap (λ ns. divided ns body) l ∙ ap (divided (map length ps)) (sym (pieces_whole most body ps h p)) ∙ divided_pieces ps in
    record {
      pieces = subst (ArePieces most body) (sym e) p;
      exact = l ∙ ap (map length) (sym e);
      total = ap sum l ∙ total_lengths_of ps ∙ ap length (pieces_whole most body ps h p);
    }

by_runs : (most : ℕ) (body : List Ins) (lengths : List ℕ) (runs : List (List Ins)) → 1 ≤ most → 1 ≤ length body → whole runs ≡ body → AreRuns runs → lengths ≡ flat_map (λ run. run_lengths most (length run)) runs → AreLengths most body lengths
by_runs most body lengths [] h k e r l = let z : 0 ≡ length body = ap length e in absurd (omega (arith, k, z))
by_runs most body lengths (run ∷ runs) h k e r l =
    by_pieces most body lengths (flat_map (run_pieces most) (run ∷ runs)) h
    (record { runs = run ∷ runs; body_is = e; longest = r; pieces_are = refl })
    (l ∙ sym (lengths_of most (run ∷ runs) h r))

-- runs of a body that is not empty give its lengths
pub made_lengths : (most : ℕ) (body : List Ins) (lengths : List ℕ) → 1 ≤ most → 1 ≤ length body → MakeUp most body lengths → AreLengths most body lengths
made_lengths most body lengths h k m = by_runs most body lengths m.runs h k m.body_is m.longest m.lengths_are

-- an empty body has one piece, which is empty
pub empty_lengths : (most : ℕ) (body : List Ins) (lengths : List ℕ) → 1 ≤ most → body ≡ [] → lengths ≡ 0 ∷ [] → AreLengths most body lengths
empty_lengths most body lengths h e l = by_pieces most body lengths ([] ∷ []) h (record { runs = []; body_is = sym e; longest = tt; pieces_are = refl }) l

-- ---- one more run
head_of : (xs : List Ins) (i : Ins) (is : List Ins) (n : ℕ) → i ∷ is ≡ drop n xs → take (suc n) xs ≡ take n xs ++ i ∷ []
head_of [] i is zero e = ap (λ l. take 1 l) (sym e)
head_of (x ∷ xs) i is zero e = ap (λ l. take 1 l) (sym e)
head_of [] i is (suc n) e = let z : suc (length is) ≡ 0 = ap length e in absurd (omega (arith, z))
head_of (x ∷ xs) i is (suc n) e = ap (λ l. x ∷ l) (head_of xs i is n e)

short_of : (xs : List Ins) (i : Ins) (is : List Ins) (n : ℕ) → i ∷ is ≡ drop n xs → n < length xs
short_of xs i is n e = let a : suc (length is) ≡ length (drop n xs) = ap length e in let l = length-drop n xs in omega (arith, a, l)

breaks : (xs : List Ins) (n : ℕ) (later : List (List Ins)) → IsLongestRun xs n → whole later ≡ drop n xs → AreRuns later → Breaks (take n xs) later
breaks xs n [] l e r = tt
breaks xs n ([] ∷ runs) l e r = omega (arith, r.0)
breaks xs n ((i ∷ is) ∷ runs) l e r = let next : suc n ≡ n + 1 = omega arith in ap is_run (sym (head_of xs i (is ++ whole runs) n e)) ∙ ap (λ m. is_run (take m xs)) next ∙ l.longest (short_of xs i (is ++ whole runs) n e)

-- a single instruction is a run
clean_none : (c : Class) (i : Ins) → is_clean_as c (λ r. false) i ≡ true
clean_none class.Load i = refl
clean_none class.Store i = refl
clean_none c i = refl

one_clean : (xs : List Ins) → 1 ≤ length xs → is_run (take 1 xs) ≡ true
one_clean [] h = absurd (omega (arith, h))
one_clean (x ∷ xs) h = ap (λ b. b && true) (clean_none (class_of x.kind) x)

pub some_run : (xs : List Ins) (n : ℕ) → 1 ≤ length xs → IsLongestRun xs n → 1 ≤ n
some_run xs zero h l = absurd (false≢true (sym (l.longest (omega (arith, h))) ∙ one_clean xs h))
some_run xs (suc n) h l = omega arith

pub is_nil : (body : List Ins) → true ≡ (length body == 0) → body ≡ []
is_nil [] e = refl
is_nil (x ∷ xs) e = let n : suc (length xs) ≡ 0 = eqb-true (suc (length xs)) 0 (sym e) in absurd (omega (arith, n))

pub is_some : (body : List Ins) → false ≡ (length body == 0) → 1 ≤ length body
is_some [] e = absurd (false≢true e)
is_some (x ∷ xs) e = omega arith

-- with nothing left, the runs make up the body
pub all_made : (most : ℕ) (body : List Ins) (at : ℕ) (done : List ℕ) → length body ≤ at → ((later : List (List Ins)) → whole later ≡ drop at body → AreRuns later → MakeUp most body (done ++ flat_map (λ run. run_lengths most (length run)) later)) → MakeUp most body done
all_made most body at done h made = subst (λ ls. MakeUp most body ls) (append-nil done) (made [] (sym (drop_all at body h)) tt)

pub within_body : (body : List Ins) (at n : ℕ) → at ≤ length body → IsLongestRun (take (length body - at) (drop at body)) n → at + n ≤ length body
within_body body at n h l =
    let r : length (take (length body - at) (drop at body)) ≡ length (drop at body) = ap length (take_rest body at) in
    let d = length-drop at body in
    let w = l.within in
    omega (arith, r, d, w, h)

pub rest_some : (body : List Ins) (at : ℕ) → at < length body → 1 ≤ length (take (length body - at) (drop at body))
rest_some body at h =
    let r : length (take (length body - at) (drop at body)) ≡ length (drop at body) = ap length (take_rest body at) in
    let d = length-drop at body in
    omega (arith, r, d, h)

-- with one more run, those so far make up the body
pub more_made : (most : ℕ) (body : List Ins) (at n : ℕ) (xs : List Ins) (done : List ℕ) → xs ≡ drop at body → 1 ≤ n → IsLongestRun xs n → ((later : List (List Ins)) → whole later ≡ drop at body → AreRuns later → MakeUp most body (done ++ flat_map (λ run. run_lengths most (length run)) later)) → (later : List (List Ins)) → whole later ≡ drop (at + n) body → AreRuns later → MakeUp most body ((done ++ run_lengths most n) ++ flat_map (λ run. run_lengths most (length run)) later)
more_made most body at n xs done x k l before later e r =
    let rest : whole later ≡ drop n xs = e ∙ sym (drop-drop n at body) ∙ ap (λ ys. drop n ys) (sym x) in
    let size : length (take n xs) ≡ n = length-take-le n xs l.within in
    let all : take n xs ++ whole later ≡ drop at body = ap (λ ys. take n xs ++ ys) rest ∙ take-append-drop n xs ∙ x in
    let made = before (take n xs ∷ later) all (omega (arith, size, k), l.run, breaks xs n later l rest r, r) in
    let tail = flat_map (λ (run : List Ins). run_lengths most (length run)) later in
    let lists : done ++ (run_lengths most (length (take n xs)) ++ tail) ≡ (done ++ run_lengths most n) ++ tail = ap (λ m. done ++ (run_lengths most m ++ tail)) size ∙ sym (append_assoc done (run_lengths most n) tail) in
    subst (λ ls. MakeUp most body ls) lists made

-- one more run, with an equal list of lengths
pub added : (most : ℕ) (body rest : List Ins) (xs ys : List ℕ) → ((later : List (List Ins)) → whole later ≡ rest → AreRuns later → MakeUp most body (xs ++ flat_map (λ run. run_lengths most (length run)) later)) → ys ≡ xs → (later : List (List Ins)) → whole later ≡ rest → AreRuns later → MakeUp most body (ys ++ flat_map (λ run. run_lengths most (length run)) later)
added most body rest xs ys made e later w r = subst (λ ls. MakeUp most body (ls ++ flat_map (λ run. run_lengths most (length run)) later)) (sym e) (made later w r)
