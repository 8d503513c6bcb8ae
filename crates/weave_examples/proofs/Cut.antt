-- The cut keeps the instructions and gives only runs: at most `most` instructions are one piece of the leaner weave.
use Rattle.std.proofs.Common.{◌≡◌, Bool, true, false, cond, List, [], ◌∷◌, ◌++◌, refl, ap, ◌∙◌}
use Rattle.std.proofs.lemmas.Bool.{and_from, and_parts}
use Rattle.machine.specs.Step.{Ins, class_of}
use Rattle.qed_model.specs.Weave.Pieces.{is_run, whole}
use Rattle.weave_examples.specs.Joined.{all_runs, put_first, cut_runs}
use Rattle.weave_core.proofs.Lemmas.{clean_alone}

-- one instruction alone is a run
one_is_run : (i : Ins) → is_run (i ∷ []) ≡ true
one_is_run i = and_from _ _ (clean_alone (class_of i.kind) i) refl

put_list : (i : Ins) (rs : List (List Ins)) → whole (put_first i rs) ≡ i ∷ whole rs
put_list i [] = refl
put_list i (r ∷ rs) = by (is_run (i ∷ r)) where
  by : (b : Bool) → whole (cond b ((i ∷ r) ∷ rs) ((i ∷ []) ∷ r ∷ rs)) ≡ i ∷ (r ++ whole rs)
  by true = refl
  by false = refl

pub cut_whole : (is : List Ins) → whole (cut_runs is) ≡ is
cut_whole [] = refl
cut_whole (i ∷ is) = put_list i (cut_runs is) ∙ ap (λ l. i ∷ l) (cut_whole is)

put_runs : (i : Ins) (rs : List (List Ins)) → all_runs rs ≡ true → all_runs (put_first i rs) ≡ true
put_runs i [] h = and_from _ _ (one_is_run i) refl
put_runs i (r ∷ rs) h = by (is_run (i ∷ r)) refl where
  by : (b : Bool) → is_run (i ∷ r) ≡ b → all_runs (cond b ((i ∷ r) ∷ rs) ((i ∷ []) ∷ r ∷ rs)) ≡ true
  by true e = and_from _ _ e (and_parts _ _ h).1
  by false e = and_from _ _ (one_is_run i) h

pub cut_are_runs : (is : List Ins) → all_runs (cut_runs is) ≡ true
cut_are_runs [] = refl
cut_are_runs (i ∷ is) = put_runs i (cut_runs is) (cut_are_runs is)
