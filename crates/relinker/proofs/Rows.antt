-- Entries whose input addresses ascend.
use Rattle.std.proofs.Common.{◌≡◌, ℕ, zero, suc, ◌<◌, Bool, true, false, List, [], ◌∷◌, length, drop, Some, None, refl, sym, ◌∙◌, arith}
use Rattle.std.specs.Prelude.{◌==◌, if◌then◌else◌, slice_index_or}
use Rattle.std.proofs.lemmas.Bool.Decides.{nat_tests}
use Rattle.qed_model.specs.declared.plan.EntryRow.{EntryRow}
use Rattle.qed_model.specs.Weave.Placed.{entry_at, EntriesAscend}

-- an entry of another address is skipped
passed : (r : EntryRow) (rs : List EntryRow) (a : ℕ) → (r.input ≡ a → ⊥) → entry_at (r ∷ rs) a ≡ entry_at rs a
passed r rs a other = by (r.input == a) refl where
  by : (b : Bool) → (r.input == a) ≡ b → (if b then Some r.output else entry_at rs a) ≡ entry_at rs a
  by false e = refl
  by true e = absurd (other (grind (arith, nat_tests, e)))

-- all entries but the first ascend too
rest : (r : EntryRow) (rs : List EntryRow) → EntriesAscend (r ∷ rs) → EntriesAscend rs
rest r rs up i j d l m = up (suc i) (suc j) d (omega (arith, l)) (omega (arith, m))

-- an entry further on has a greater address
further : (r : EntryRow) (rs : List EntryRow) (k : ℕ) (d : EntryRow) → EntriesAscend (r ∷ rs) → k < length rs → r.input < (slice_index_or rs k d).input
further r rs k d up h = up 0 (suc k) d (omega arith) (omega (arith, h))

-- entries up to one below the address can be skipped
pub skipped : (rows : List EntryRow) (a k : ℕ) (d : EntryRow) → EntriesAscend rows → k < length rows → (slice_index_or rows k d).input < a → entry_at (drop (suc k) rows) a ≡ entry_at rows a
skipped [] a k d up h less = absurd (omega (arith, h))
skipped (r ∷ rs) a zero d up h less = sym (passed r rs a (λ e. omega (arith, e, less)))
skipped (r ∷ rs) a (suc k) d up h less =
    skipped rs a k d (rest r rs up) (omega (arith, h)) less
    ∙ sym (passed r rs a (λ e. omega (arith, e, less, further r rs k d up (omega (arith, h)))))

-- from an entry above the address on, none is found
above_all : (r : EntryRow) (rs : List EntryRow) (a : ℕ) → a < r.input → EntriesAscend (r ∷ rs) → entry_at (r ∷ rs) a ≡ None
above_all r [] a more up = passed r [] a (λ e. omega (arith, e, more))
above_all r (s ∷ rs) a more up =
    passed r (s ∷ rs) a (λ e. omega (arith, e, more))
    ∙ above_all s rs a (omega (arith, more, further r (s ∷ rs) 0 r up (omega arith))) (rest r (s ∷ rs) up)

-- from a place on, the entry there is found by its address
pub found : (rows : List EntryRow) (k : ℕ) (d : EntryRow) → k < length rows → entry_at (drop k rows) (slice_index_or rows k d).input ≡ Some (slice_index_or rows k d).output
found [] k d h = absurd (omega (arith, h))
found (r ∷ rs) zero d h = by (r.input == r.input) refl where
  by : (b : Bool) → (r.input == r.input) ≡ b → (if b then Some r.output else entry_at rs r.input) ≡ Some r.output
  by true e = refl
  by false e = absurd (grind (arith, nat_tests, e))
found (r ∷ rs) (suc k) d h = found rs k d (omega (arith, h))

-- the entry at any place is that of its address
pub found_at : (rows : List EntryRow) (k : ℕ) (d : EntryRow) → EntriesAscend rows → k < length rows → entry_at rows (slice_index_or rows k d).input ≡ Some (slice_index_or rows k d).output
found_at [] k d up h = absurd (omega (arith, h))
found_at (r ∷ rs) zero d up h = found (r ∷ rs) zero d h
found_at (r ∷ rs) (suc k) d up h =
    passed r rs (slice_index_or rs k d).input (λ e. omega (arith, e, further r rs k d up (omega (arith, h))))
    ∙ found_at rs k d (rest r rs up) (omega (arith, h))

-- from a place on, none is found if the entry there is above the address
pub missed : (rows : List EntryRow) (a k : ℕ) (d : EntryRow) → EntriesAscend rows → k < length rows → a < (slice_index_or rows k d).input → entry_at (drop k rows) a ≡ None
missed [] a k d up h more = absurd (omega (arith, h))
missed (r ∷ rs) a zero d up h more = above_all r rs a more up
missed (r ∷ rs) a (suc k) d up h more = missed rs a k d (rest r rs up) (omega (arith, h)) more
