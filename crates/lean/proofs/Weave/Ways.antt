-- Items that stand behind others, in the code.
use Rattle.std.proofs.Common.{◌≡◌, ℕ, ◌+◌, Bool, List, [], ◌∷◌, ◌++◌, subst, arith}
use Rattle.qed_model.specs.declared.item.Item.{Item}
use Rattle.qed_model.specs.declared.item.Item.TheVariants.{Mark, Plain, Constant, Go}
use Rattle.machine.specs.Step.{Fetched}
use Rattle.qed_model.specs.Weave.Placed.{go_size, sum_of_sizes}
use Rattle.qed_model.specs.Weave.Sequences.{Reads}
pub use Rattle.weave_core.proofs.Ways.{opposite_is}

pub reads_behind : (far : Bool) (c : ℕ → Fetched) (e : ℕ → ℕ) (a : ℕ) (xs ys : List Item) → Reads far c e a (xs ++ ys) → Reads far c e (a + sum_of_sizes far xs) ys
reads_behind far c e a [] ys r = let s : a ≡ a + 0 = omega arith in subst (λ b. Reads far c e b ys) s r
reads_behind far c e a (Mark m ∷ xs) ys r = let s : a + sum_of_sizes far xs ≡ a + (0 + sum_of_sizes far xs) = omega arith in subst (λ b. Reads far c e b ys) s (reads_behind far c e a xs ys r.1)
reads_behind far c e a (Plain i ∷ xs) ys r = let s : a + 4 + sum_of_sizes far xs ≡ a + (4 + sum_of_sizes far xs) = omega arith in subst (λ b. Reads far c e b ys) s (reads_behind far c e (a + 4) xs ys r.1)
reads_behind far c e a (Constant k v ∷ xs) ys r = let s : a + 8 + sum_of_sizes far xs ≡ a + (8 + sum_of_sizes far xs) = omega arith in subst (λ b. Reads far c e b ys) s (reads_behind far c e (a + 8) xs ys r.2)
reads_behind far c e a (Go t ∷ xs) ys r = let s : a + go_size far + sum_of_sizes far xs ≡ a + (go_size far + sum_of_sizes far xs) = omega arith in subst (λ b. Reads far c e b ys) s (reads_behind far c e (a + go_size far) xs ys r.1)

-- items that stand one list behind the other
pub reads_join : (far : Bool) (c : ℕ → Fetched) (e : ℕ → ℕ) (a : ℕ) (xs ys : List Item) → Reads far c e a xs → Reads far c e (a + sum_of_sizes far xs) ys → Reads far c e a (xs ++ ys)
reads_join far c e a [] ys r q = let s : a + 0 ≡ a = omega arith in subst (λ b. Reads far c e b ys) s q
reads_join far c e a (Mark m ∷ xs) ys r q = let s : a + (0 + sum_of_sizes far xs) ≡ a + sum_of_sizes far xs = omega arith in (r.0, reads_join far c e a xs ys r.1 (subst (λ b. Reads far c e b ys) s q))
reads_join far c e a (Plain i ∷ xs) ys r q = let s : a + (4 + sum_of_sizes far xs) ≡ a + 4 + sum_of_sizes far xs = omega arith in (r.0, reads_join far c e (a + 4) xs ys r.1 (subst (λ b. Reads far c e b ys) s q))
reads_join far c e a (Constant k v ∷ xs) ys r q = let s : a + (8 + sum_of_sizes far xs) ≡ a + 8 + sum_of_sizes far xs = omega arith in (r.0, r.1, reads_join far c e (a + 8) xs ys r.2 (subst (λ b. Reads far c e b ys) s q))
reads_join far c e a (Go t ∷ xs) ys r q = let s : a + (go_size far + sum_of_sizes far xs) ≡ a + go_size far + sum_of_sizes far xs = omega arith in (r.0, reads_join far c e (a + go_size far) xs ys r.1 (subst (λ b. Reads far c e b ys) s q))
