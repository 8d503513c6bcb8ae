-- Runs, one more instruction at a time.
use Rattle.std.proofs.Common.{◌≡◌, ℕ, ◌+◌, ◌<◌, Bool, true, false, not, ◌&&◌, ◌||◌, List, [], ◌∷◌, ◌++◌, length, take, refl, sym, ap, ◌∙◌, arith, zero, suc, get_or, replicate}
use Rattle.rv_isa.specs.declared.ins.Ins.{Ins}
use Rattle.rv_isa.specs.declared.class.Class.{Class}
use Rattle.rv_isa.specs.Kind.{class_of}
use Rattle.rv_isa.specs.declared.class.Class.TheVariants as class
use Rattle.qed_model.specs.Weave.Pieces.{is_clean_as, is_clean, and_written, is_run_after, is_run}
use Rattle.machine.specs.Numbers.{is_at}
use Rattle.rv_isa.specs.Ins.{writes}
use Rattle.std.proofs.Math.Bool.{and-true, and_assoc}
use Rattle.std.proofs.lemmas.List.{take_more}
use Rattle.block_split.specs.Lengths.{written_after, written_by, IsLongestRun}

written_push : (w : ℕ → Bool) (xs : List Ins) (i : Ins) (r : ℕ) → written_after w (xs ++ i ∷ []) r ≡ and_written i (written_after w xs) r
written_push w [] i r = refl
written_push w (x ∷ xs) i r = written_push (and_written x w) xs i r

run_push : (w : ℕ → Bool) (xs : List Ins) (i : Ins) → is_run_after w (xs ++ i ∷ []) ≡ (is_run_after w xs && is_clean (written_after w xs) i)
run_push w [] i = and-true (is_clean w i)
run_push w (x ∷ xs) i = ap (λ b. is_clean w x && b) (run_push (and_written x w) xs i) ∙ sym (and_assoc (is_clean w x) (is_run_after (and_written x w) xs) (is_clean (written_after (and_written x w) xs) i))

-- cleanness of an instruction depends only on the registers written
clean_as_equal : (c : Class) (a b : ℕ → Bool) (i : Ins) → ((r : ℕ) → a r ≡ b r) → is_clean_as c a i ≡ is_clean_as c b i
clean_as_equal class.Load a b i h = ap not (h i.rs1)
clean_as_equal class.Store a b i h = ap (λ x. not x && not (a i.rs2)) (h i.rs1) ∙ ap (λ x. not (b i.rs1) && not x) (h i.rs2)
clean_as_equal c a b i h = refl

clean_equal : (a b : ℕ → Bool) (i : Ins) → ((r : ℕ) → a r ≡ b r) → is_clean a i ≡ is_clean b i
clean_equal a b i h = clean_as_equal (class_of i.kind) a b i h

written_more : (xs : List Ins) (i : Ins) (w v : ℕ → Bool) → ((r : ℕ) → w r ≡ written_by xs r) → ((r : ℕ) → v r ≡ and_written i w r) → (r : ℕ) → v r ≡ written_by (xs ++ i ∷ []) r
written_more xs i w v h k r = k r ∙ ap (λ b. b || is_at (writes i) r) (h r) ∙ sym (written_push (λ q. false) xs i r)

-- with one more instruction a run stays a run exactly if that instruction is clean
run_more : (xs : List Ins) (i : Ins) (w : ℕ → Bool) (b : Bool) → ((r : ℕ) → w r ≡ written_by xs r) → is_run xs ≡ true → is_clean w i ≡ b → is_run (xs ++ i ∷ []) ≡ b
run_more xs i w b h run e = run_push (λ q. false) xs i ∙ ap (λ x. x && is_clean (written_by xs) i) run ∙ sym (clean_equal w (written_by xs) i h) ∙ e

-- ---- by places
next_taken : (body : List Ins) (k : ℕ) (i : Ins) → k < length body → i ≡ get_or body k i → take (k + 1) body ≡ take k body ++ i ∷ []
next_taken body k i lt is = take_more body k i lt ∙ ap (λ x. take k body ++ x ∷ []) (sym is)

-- an instruction that is not clean ends the run before it
pub stopped : (body : List Ins) (k n : ℕ) (i : Ins) (w : ℕ → Bool) → n ≡ k → k < length body → i ≡ get_or body k i → ((r : ℕ) → w r ≡ written_by (take k body) r) → is_run (take k body) ≡ true → is_clean w i ≡ false → IsLongestRun body n
stopped body k n i w e lt is h run clean = record {
  within = omega (arith, e, lt);
  run = ap (λ m. is_run (take m body)) e ∙ run;
  longest = λ _. ap (λ m. is_run (take (m + 1) body)) e ∙ ap is_run (next_taken body k i lt is) ∙ run_more (take k body) i w false h run clean;
}

pub noted : (body : List Ins) (k : ℕ) (i : Ins) (w v : ℕ → Bool) → k < length body → i ≡ get_or body k i → ((r : ℕ) → w r ≡ written_by (take k body) r) → ((r : ℕ) → v r ≡ and_written i w r) → (r : ℕ) → v r ≡ written_by (take (k + 1) body) r
noted body k i w v lt is h e r = written_more (take k body) i w v h e r ∙ ap (λ xs. written_by xs r) (sym (next_taken body k i lt is))

pub ran : (body : List Ins) (k : ℕ) (i : Ins) (w : ℕ → Bool) → k < length body → i ≡ get_or body k i → ((r : ℕ) → w r ≡ written_by (take k body) r) → is_run (take k body) ≡ true → is_clean w i ≡ true → is_run (take (k + 1) body) ≡ true
ran body k i w lt is h run clean = ap is_run (next_taken body k i lt is) ∙ run_more (take k body) i w true h run clean

-- no register was written before the first instruction
pub none_set : (n r : ℕ) → get_or (replicate n false) r false ≡ false
none_set zero r = refl
none_set (suc n) zero = refl
none_set (suc n) (suc r) = none_set n r
