-- The cells of bytes that stand one after the other, and of several segments.
use Rattle.std.proofs.Common.{◌≡◌, ℕ, true, false, cond, List, [], ◌∷◌, ◌++◌, Some, is_some, refl, sym, arith}
use Rattle.std.proofs.lemmas.Bool.{false≢true}
use Rattle.std.proofs.lemmas.Bool.Decides.{nat_tests}
use Rattle.std.specs.Prelude.{◌==◌}
use Rattle.std.specs.FinMap.{get, find, get-from_entries}
use Rattle.std.specs.Ordering.{nat_cmp, eq_by_cmp}
use Rattle.std.specs.Cmp.{nat_cmp_total}
use Rattle.machine.specs.Memory.{Cell, Memory, byte_in, byte_at}
use Rattle.machine.specs.Program.{LoadSegment, memory_of, cells_of}

-- keys are compared as numbers
pub eq_is : (q a : ℕ) → eq_by_cmp nat_cmp q a ≡ (q == a)
eq_is q a = grind (arith, nat_tests)

-- ---- cells that stand one after the other
-- what is found in the front of a list
pub find_front : (xs ys : List (ℕ × Cell)) (q : ℕ) → is_some (find nat_cmp q xs) ≡ true → find nat_cmp q (xs ++ ys) ≡ find nat_cmp q xs
find_front [] ys q e = absurd (false≢true e)
find_front (x ∷ xs) ys q e =
    elim (eq_by_cmp nat_cmp q x.0) as (λ t. is_some (cond t (Some x.1) (find nat_cmp q xs)) ≡ true → cond t (Some x.1) (find nat_cmp q (xs ++ ys)) ≡ cond t (Some x.1) (find nat_cmp q xs)) [
      | true ↦ λ h. refl
      | false ↦ λ h. find_front xs ys q h
    ] e

-- what is not found there is sought behind it
pub find_skip : (xs ys : List (ℕ × Cell)) (q : ℕ) → is_some (find nat_cmp q xs) ≡ false → find nat_cmp q (xs ++ ys) ≡ find nat_cmp q ys
find_skip [] ys q e = refl
find_skip (x ∷ xs) ys q e =
    elim (eq_by_cmp nat_cmp q x.0) as (λ t. is_some (cond t (Some x.1) (find nat_cmp q xs)) ≡ false → cond t (Some x.1) (find nat_cmp q (xs ++ ys)) ≡ find nat_cmp q ys) [
      | true ↦ λ h. absurd (false≢true (sym h))
      | false ↦ λ h. find_skip xs ys q h
    ] e

-- ---- the memory of segments
-- a cell of the memory is found among the cells of its segments
pub get_memory : (ss : List LoadSegment) (q : ℕ) → get (memory_of ss) q ≡ find nat_cmp q (cells_of ss)
unfolding memory_of
get_memory ss q = get-from_entries nat_cmp_total (cells_of ss) q

-- the byte of an address is that of its cell
pub byte_of_cell : (m : Memory) (q : ℕ) → byte_at m q ≡ byte_in (get m q)
unfolding byte_at
byte_of_cell m q = refl
