-- Segments that fit into memory and share no byte: one alone has an address, and each of them fits.
use Rattle.std.proofs.Common.{◌≡◌, ⊎_elim, ℕ, true, List, [], ◌∷◌, sym, ap, ◌∙◌, subst, arith}
use Rattle.std.specs.Prelude.{slice_get}
use Rattle.std.proofs.lemmas.Bool.{cases_lt}
use Rattle.std.proofs.lemmas.Bool.Decides.{nat_tests}
use Rattle.std.proofs.lemmas.Option.{same_Some}
use Rattle.machine.specs.Apart.{FitsMemory, AllFitMemory, AreApart, share}
use Rattle.machine.specs.Cells.{has}
use Rattle.machine.specs.Program.{LoadSegment}
use Rattle.machine.specs.Members.{Among}
use Rattle.machine.proofs.Among.{PlaceOf, place_of}

-- two that have one address share a byte
pub shared : (l m : LoadSegment) (q : ℕ) → has l q ≡ true → has m q ≡ true → share l m ≡ true
shared l m q h g = grind (arith, nat_tests)

pub alone : (ls : List LoadSegment) → AreApart ls → (l m : LoadSegment) (q : ℕ) → Among l ls → Among m ls → has l q ≡ true → has m q ≡ true → l ≡ m
alone ls apart l m q i j h g = by (place_of l ls i) (place_of m ls j) where
  by : PlaceOf ls l → PlaceOf ls m → l ≡ m
  by a b =
      ⊎_elim
      (λ lt. absurd (apart a.place b.place (record { order = lt; first = l; second = m; first_at = a.stands; second_at = b.stands; share = shared l m q h g })))
      (λ le. ⊎_elim
      (λ lt. absurd (apart b.place a.place (record { order = lt; first = m; second = l; first_at = b.stands; second_at = a.stands; share = shared m l q g h })))
      (λ ge. let e : a.place ≡ b.place = omega (arith, le, ge) in same_Some l m (sym a.stands ∙ ap (slice_get ls) e ∙ b.stands))
      (cases_lt b.place a.place))
      (cases_lt a.place b.place)

pub fit_among : (l : LoadSegment) (ls : List LoadSegment) → AllFitMemory ls → Among l ls → FitsMemory l
fit_among l [] h m = absurd m
fit_among l (k ∷ ls) h m = ⊎_elim (λ e. subst FitsMemory (sym e) h.0) (λ r. fit_among l ls h.1 r) m
