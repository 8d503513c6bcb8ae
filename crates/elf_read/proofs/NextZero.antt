-- A name, by the next zero byte of its string table.
use Rattle.std.proofs.Common.{◌≡◌, ◌≢◌, ℕ, ◌+◌, ◌-◌, ◌<◌, ◌≤◌, eqb, List, [], length, take, drop, get_or, refl, ap, ◌∙◌, arith, eq-eqb}
use Rattle.std.proofs.lemmas.Bool.{ne_eqb}
use Rattle.tests.specs.Files.Rules.{name_length, name_at}
use Rattle.machine.proofs.Lemmas.{first_found, first_none}
use Rattle.elf_read.specs.Strings.{IsNextZero}

pub name_zero : (strings : List ℕ) (place : ℕ) → place ≡ 0 → [] ≡ name_at strings place
unfolding name_at
name_zero strings place e = rw e refl

pub name_found : (strings : List ℕ) (place end : ℕ) → place ≢ 0 → IsNextZero strings place (length strings) end → end < length strings → take (end - place) (drop place strings) ≡ name_at strings place
unfolding name_length name_at
name_found strings place end some z lt =
    let same : place + (end - place) ≡ end = omega (arith, z.behind) in
    let found = first_found (length strings - place) (λ k. eqb (get_or strings (place + k) 0) 0) (end - place) (omega (arith, z.behind))
    (eq-eqb _ 0 (ap (λ (k : ℕ). get_or strings k 0) same ∙ z.zero lt)) (λ k below. ne_eqb _ 0 (z.before (place + k) (omega arith) (omega arith))) in
    rw (ne_eqb place 0 some, found) refl

pub name_none : (strings : List ℕ) (place end : ℕ) → place ≢ 0 → IsNextZero strings place (length strings) end → end ≡ length strings → [] ≡ name_at strings place
unfolding name_length name_at
name_none strings place end some z at_end =
    let none = first_none (length strings - place) (λ k. eqb (get_or strings (place + k) 0) 0) (λ k below. ne_eqb _ 0 (z.before (place + k) (omega arith) (omega arith))) in
    rw (ne_eqb place 0 some, none) refl

pub name_past : (strings : List ℕ) (place : ℕ) → place ≢ 0 → length strings ≤ place → [] ≡ name_at strings place
unfolding name_length name_at
name_past strings place some past =
    let none = first_none (length strings - place) (λ k. eqb (get_or strings (place + k) 0) 0) (λ k below. absurd (omega arith)) in
    rw (ne_eqb place 0 some, none) refl
