-- Branches and their opposites.
use Rattle.std.proofs.Common.{◌≡◌, ℕ, Bool, true, false, not, cond, refl, sym, ap, ◌∙◌}
use Rattle.std.specs.Prelude.{◌||◌, ◌==◌, nat_lt, int_lt}
use Rattle.std.proofs.lemmas.Bool.{false≢true}
use Rattle.rv_isa.specs.declared.class.Class.TheVariants as class
use Rattle.machine.specs.Step.{class_of, Kind, Beq, Bne, Blt, Bge, Bltu, Bgeu}
use Rattle.machine.specs.Values.{holds, s64}
use Rattle.qed_model.specs.Promise.Closed.{is_branch}
use Rattle.qed_model.specs.Weave.Lean.{opposite}
use Rattle.machine.proofs.Lemmas.{each_kind}
use Rattle.weave_core.specs.Kinds.{way}

-- the branch of a number
abbrev of_way : ℕ → Kind
of_way n = cond (n == 1) Beq (cond (n == 2) Bne (cond (n == 3) Blt (cond (n == 4) Bge (cond (n == 5) Bltu Bgeu))))

-- a branch is one of six
some_way : (k : Kind) → class_of k ≡ class.Branch → (way k == 0) ≡ false
some_way k e = second (is_branch (class_of k)) (way k == 0) (each_kind (λ j. not (is_branch (class_of j)) || not (way j == 0)) refl k) (ap is_branch e) where
  second : (b z : Bool) → (not b || not z) ≡ true → b ≡ true → z ≡ false
  second b false h e = refl
  second true true h e = absurd (false≢true h)
  second false true h e = absurd (false≢true e)

-- which its number tells
way_is : (k : Kind) → (way k == 0) ≡ false → k ≡ of_way (way k)
way_is Beq e = refl
way_is Bne e = refl
way_is Blt e = refl
way_is Bge e = refl
way_is Bltu e = refl
way_is Bgeu e = refl
way_is k e = absurd (false≢true (sym e))

-- what has the number of a branch is it
pub same_way : (j k : Kind) → class_of k ≡ class.Branch → way j ≡ way k → j ≡ k
same_way j k b e = way_is j (ap (λ n. n == 0) e ∙ some_way k b) ∙ ap of_way e ∙ sym (way_is k (some_way k b))

-- twice
not-not : (b : Bool) → b ≡ not (not b)
not-not true = refl
not-not false = refl

opposite_as : (k : Kind) → (way k == 0) ≡ false → (class_of (opposite k) ≡ class.Branch) × ((a b : ℕ) → holds (opposite k) a b ≡ not (holds k a b)) × (opposite (opposite k) ≡ k)
unfolding holds
opposite_as Beq e = (refl, λ a b. refl, refl)
opposite_as Bne e = (refl, λ a b. not-not (a == b), refl)
opposite_as Blt e = (refl, λ a b. refl, refl)
opposite_as Bge e = (refl, λ a b. not-not (int_lt (s64 a) (s64 b)), refl)
opposite_as Bltu e = (refl, λ a b. refl, refl)
opposite_as Bgeu e = (refl, λ a b. not-not (nat_lt a b), refl)
opposite_as k e = absurd (false≢true (sym e))

-- the opposite of a branch is a branch, which is taken where it is not
pub opposite_is : (k : Kind) → class_of k ≡ class.Branch → (class_of (opposite k) ≡ class.Branch) × ((a b : ℕ) → holds (opposite k) a b ≡ not (holds k a b)) × (opposite (opposite k) ≡ k)
opposite_is k e = opposite_as k (some_way k e)
