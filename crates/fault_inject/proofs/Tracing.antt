-- What the steps of a run touch: one more step, and steps that touch no byte of a word.
use Rattle.std.proofs.Common.{◌≡◌, ◌⊎◌, inl, inr, ℕ, zero, suc, ◌+◌, ◌<◌, ◌≤◌, [], ◌∷◌, ◌++◌, length, get_or, sym, ap, ◌∙◌, subst, arith, below_more}
use Rattle.std.proofs.lemmas.Bool.{cases_lt}
use Rattle.std.proofs.Math.Seq.{get_or-append_seam}
use Rattle.std.proofs.Math.ListN.{get_or-append}
use Rattle.std.proofs.lemmas.List.{length-append}
use Rattle.machine.specs.Below.{each}
use Rattle.machine.specs.Progress.{Progress, advanced}
use Rattle.machine.proofs.Lemmas.{each_none, length-each, push_each, run-last}
use Rattle.fault_inject.specs.declared.trace.Trace.{Trace}
use Rattle.fault_inject.specs.Touched.{touched, IsFar, IsLonger, IsTrace, Going, State, run, step}

-- ---- what a function gives at a number stands there
last_each : {A : Type 0} (n : ℕ) (f : ℕ → A) (k : ℕ) (d : A) → (k < n → get_or (each n f) k d ≡ f k) → k < n + 1 → (k < n) ⊎ (n ≤ k) → get_or (each n f ++ f n ∷ []) k d ≡ f k
last_each n f k d before l (inl x) = let size = length-each n f in get_or-append (each n f) (f n ∷ []) d k (omega (arith, x, size)) ∙ before x
last_each n f k d before l (inr x) =
    let size = length-each n f in
    let here : k ≡ length (each n f) = omega (arith, x, l, size) in
    let e : n ≡ k = omega (arith, x, l) in
    ap (λ i. get_or (each n f ++ f n ∷ []) i d) here ∙ get_or-append_seam (each n f) (f n) [] d ∙ ap f e

pub each_at : {A : Type 0} (n : ℕ) (f : ℕ → A) (k : ℕ) (d : A) → k < n → get_or (each n f) k d ≡ f k
unfolding each
each_at zero f k d l = absurd (omega arith)
each_at (suc n) f k d l = last_each n f k d (λ x. each_at n f k d x) (omega (arith, l)) (cases_lt k n)

-- ---- a trace
-- a trace of no step
pub trace_none : (s : State) (t : Trace) → t.places.items ≡ [] → IsTrace s t
trace_none s t e =
    let none : length t.places.items ≡ 0 = ap length e in
    record {
      places = e ∙ each_none (λ k. touched (run s k)) ∙ ap (λ n. each n (λ k. touched (run s k))) (sym none);
      going = λ k l. absurd (omega (arith, none, l));
      low = λ k l. absurd (omega (arith, none, l));
      high = λ k l. absurd (omega (arith, none, l));
    }

-- a trace of one more step
pub longer : (before after : Trace) (u : State) (n : ℕ) → length before.places.items ≡ n → IsLonger before u after → length after.places.items ≡ n + 1
longer before after u n count l = ap length l.places ∙ omega (arith, length-append before.places.items (touched u ∷ []), count)

pub trace_more :
    (s u : State) (before after : Trace) (n : ℕ) → IsTrace s before → length before.places.items ≡ n → u ≡ run s n → u.outcome ≡ Going → IsLonger before u after → IsTrace s after
trace_more s u before after n is count here going l =
    let f : ℕ → ℕ = λ k. touched (run s k) in
    let size : length after.places.items ≡ n + 1 = longer before after u n count l in
    let so_far : before.places.items ≡ each n f = is.places ∙ ap (λ k. each k f) count in
    let low = l.low in
    let high = l.high in
    record {
      places = push_each n f before.places.items after.places.items (touched u) l.places so_far (ap touched here) ∙ ap (λ k. each k f) (sym size);
      going = λ k x. below_more (λ j. (run s j).outcome ≡ Going) n (λ j y. is.going j (omega (arith, y, count))) (ap (λ t. t.outcome) (sym here) ∙ going) k (omega (arith, x, size));
      low = λ k x. below_more (λ j. after.low ≤ (run s j).pc) n (λ j y. let z = is.low j (omega (arith, y, count)) in omega (arith, z, low.0)) (subst (λ t. after.low ≤ t.pc) here low.1) k (omega (arith, x, size));
      high = λ k x. below_more (λ j. (run s j).pc ≤ after.high) n (λ j y. let z = is.high j (omega (arith, y, count)) in omega (arith, z, high.0)) (subst (λ t. t.pc ≤ after.high) here high.1) k (omega (arith, x, size));
    }

-- a machine goes one step on
pub steps_on : (s : State) (p q : Progress) (n : ℕ) → p.state ≡ run s n → q ≡ advanced p → q.state ≡ run s (n + 1)
unfolding advanced
steps_on s p q n here ran = ap (λ m. m.state) ran ∙ ap step here ∙ sym (run-last s n)

-- ---- steps that touch no byte of a word
-- the first n of these steps touch no byte of the word
abbrev pub AreFar : Trace → ℕ → ℕ → ℕ → Type 0
AreFar t a from n = (s : State) → IsTrace s t → (k : ℕ) → k < n → IsFar a (touched (run s (from + k))) 8

pub none_far : (t : Trace) (a from : ℕ) → AreFar t a from 0
none_far t a from s is k l = absurd (omega (arith, l))

-- one more step touches no byte of the word
pub more_far :
    (t : Trace) (a from n i p : ℕ) → AreFar t a from n → i ≡ from + n → i < length t.places.items → p ≡ get_or t.places.items i p → IsFar a p 8
    → AreFar t a from (n + 1)
more_far t a from n i p are at within got far s is k l =
    let here : p ≡ touched (run s i) = got ∙ ap (λ xs. get_or xs i p) is.places ∙ each_at (length t.places.items) (λ j. touched (run s j)) i p within in
    below_more (λ j. IsFar a (touched (run s (from + j))) 8) n (are s is) (subst (λ q. IsFar a q 8) (here ∙ ap (λ j. touched (run s j)) at) far) k l
