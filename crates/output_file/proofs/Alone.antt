-- A segment that begins a range and is alone in it.
use Rattle.std.proofs.Common.{◌≡◌, ℕ, ◌-◌, ◌≤◌, Bool, true, false, cond, List, [], ◌∷◌, ◌++◌, length, get_or, map, replicate, refl, ap, arith}
use Rattle.std.proofs.lemmas.Bool.{ltb-false}
use Rattle.std.proofs.lemmas.List.{append-nil}
use Rattle.elf_types.specs.declared.file.Segment.{Segment}
use Rattle.output_file.specs.Laid.{laid}
use Rattle.output_file.specs.Runs.{has_bytes, placed_bytes, run_bytes}

-- an element that is alone in a list
pub alone_in : {A : Type 0} (xs : List A) (x : A) → length xs ≡ 1 → x ≡ get_or xs 0 x → xs ≡ x ∷ []
alone_in [] x one e = absurd (omega (arith, one))
alone_in (y ∷ []) x one e = ap (λ z. z ∷ []) (cc)
alone_in (y ∷ z ∷ zs) x one e = absurd (omega (arith, one))

empty : (bytes : List ℕ) → length bytes ≤ 0 → [] ≡ bytes
empty [] h = refl
empty (b ∷ bytes) h = absurd (omega (arith, h))

-- no zeros stand before a segment that begins the range
laid_first : (start address : ℕ) (bytes : List ℕ) → address ≤ start → replicate (address - start - 0) 0 ++ (bytes ++ []) ≡ bytes
laid_first start address bytes h = let none : address - start - 0 ≡ 0 = omega arith in rw none (append-nil bytes)

-- if the segment has no bytes in the file, the range has none
laid_alone : (start : ℕ) (s : Segment) (some : Bool) → has_bytes s ≡ some → s.address ≤ start → laid start 0 (map placed_bytes (cond some (s ∷ []) [])) ≡ s.bytes
laid_alone start s true e h = laid_first start s.address s.bytes h
laid_alone start s false e h = empty s.bytes (ltb-false _ _ e)

-- the bytes of the segment are those of the range
pub bytes_alone : (start : ℕ) (s : Segment) → s.address ≤ start → run_bytes start (s ∷ []) ≡ s.bytes
bytes_alone start s h = laid_alone start s (has_bytes s) refl h
