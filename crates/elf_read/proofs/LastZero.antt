-- A name has an end where a zero byte stands at or after its place.
use Rattle.std.proofs.Common.{◌≡◌, ◌≢◌, ℕ, ◌+◌, ◌-◌, ◌<◌, ◌≤◌, true, false, leb, eqb, List, length, get_or, Option, Some, None, refl, sym, ap, ◌∙◌, inl, inr, arith}
use Rattle.std.specs.Option.{is_some}
use Rattle.std.proofs.lemmas.Bool.{cases_lt, ne_eqb, false≢true}
use Rattle.std.proofs.lemmas.Bool.Decides.{nat_tests}
use Rattle.tests.specs.Files.Rules.{name_length, is_unended}
use Rattle.elf_read.specs.Strings.{IsLastZero}
use Rattle.machine.proofs.Lemmas.{first_none, each_fails}

some_or : (o : Option ℕ) → (o ≡ None → ⊥) → is_some o ≡ true
some_or None h = absurd (h refl)
some_or (Some i) h = refl

has_end : (strings : List ℕ) (end place : ℕ) → IsLastZero strings end → place < end → is_some (name_length strings place) ≡ true
unfolding name_length
has_end strings end place z lt =
    some_or _ (λ none.
    let p = λ (k : ℕ). eqb (get_or strings (place + k) 0) 0 in
    let wrong : p (end - 1 - place) ≡ false = each_fails (length strings - place) p none (end - 1 - place) (omega (arith, z.within)) in
    let same : place + (end - 1 - place) ≡ end - 1 = omega arith in
    let zero_at : get_or strings (place + (end - 1 - place)) 0 ≡ 0 = ap (λ (k : ℕ). get_or strings k 0) same ∙ z.last (omega arith) in
    let right : p (end - 1 - place) ≡ true = ap (λ (x : ℕ). eqb x 0) zero_at in
    false≢true (sym wrong ∙ right))

has_none : (strings : List ℕ) (end place : ℕ) → IsLastZero strings end → end ≤ place → is_some (name_length strings place) ≡ false
unfolding name_length
has_none strings end place z le =
    ap is_some (first_none (length strings - place) (λ k. eqb (get_or strings (place + k) 0) 0) (λ j lt. ne_eqb _ 0 (z.after (place + j) (omega arith) (omega arith))))

pub unended_past : (strings : List ℕ) (end place : ℕ) → place ≢ 0 → IsLastZero strings end → leb end place ≡ is_unended strings place
unended_past strings end place some z =
    let named = ne_eqb place 0 some in
    elim (cases_lt place end) [
      | inl lt ↦ let e : leb end place ≡ false = grind (arith, nat_tests) in rw (e, named, has_end strings end place z lt) refl
      | inr le ↦ let e : leb end place ≡ true = grind (arith, nat_tests) in rw (e, named, has_none strings end place z le) refl
    ]
