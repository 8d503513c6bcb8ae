-- The addresses that were collected are the reached ones.
use Rattle.std.proofs.Common.{◌≡◌, ℕ, Bool, true, List, [], ◌∷◌, map, inl, inr, refl, ap, ◌∙◌, subst}
use Rattle.std.specs.Prelude.{◌==◌, ◌||◌}
use Rattle.std.specs.List.{list_any}
use Rattle.std.specs.BTreeSet.{BTreeSet}
use Rattle.machine.specs.Sets.{has_address}
use Rattle.machine.specs.Members.{Among}
use Rattle.machine.proofs.Lemmas.{among-map}
use Rattle.elf_types.specs.declared.file.Rela.{Rela}
use Rattle.elf_types.specs.declared.file.Symbol.{Symbol}
use Rattle.tests.specs.declared.test.CodeWord.{CodeWord}
use Rattle.tests.specs.declared.test.Test.{Test}
use Rattle.tests.specs.Admission.Terms.{is_named, is_named_in, is_relocated, ElfFile, Segment}
use Rattle.flow_recovery.specs.Sets.{lists, has_word_at, Adds, AddsAt}
use Rattle.tests.specs.Admission.Reached.{links_to, is_in_data, is_made, is_reached}
use Rattle.flow_recovery.proofs.SetLaws.{adds_then}
use Rattle.flow_recovery.proofs.OrderLaws.{listed}

-- one step behind another, with the lists of the test and of the file
pub reached_found :
    (f : ElfFile) (t : Test) (words : List CodeWord) (symbols : List Symbol) (relas : List Rela) (segments : List Segment) (made : List ℕ) (s u v w x y z : List ℕ)
    → words ≡ t.code → symbols ≡ f.symbols → relas ≡ f.relas → segments ≡ t.segments
    → Adds s u (λ a. t.entry == a) → Adds u v (λ a. list_any (λ c. links_to c a) words)
    → Adds v w (is_named symbols) → Adds w x (is_relocated symbols relas)
    → Adds x y (λ a. list_any (is_in_data t.base a) segments)
    → ((a : ℕ) → has_word_at t.code a ≡ true → lists made a ≡ is_made t a t.code) → Adds y z (lists made)
    → AddsAt t.code s z (is_reached f t)
reached_found f t words symbols relas segments made s u v w x y z code by_symbols by_relas image entry links named relocated held is_made_by last =
    let of_links : Adds u v (λ a. list_any (λ c. links_to c a) t.code) = subst (λ ws. Adds u v (λ a. list_any (λ c. links_to c a) ws)) code links in
    let of_symbols : Adds v w (is_named f.symbols) = subst (λ ss. Adds v w (is_named ss)) by_symbols named in
    let of_relas : Adds w x (is_relocated f.symbols f.relas) =
    subst (λ rs. Adds w x (is_relocated f.symbols rs)) by_relas (subst (λ ss. Adds w x (is_relocated ss relas)) by_symbols relocated) in
    let of_data : Adds x y (λ a. list_any (is_in_data t.base a) t.segments) = subst (λ ss. Adds x y (λ a. list_any (is_in_data t.base a) ss)) image held in
    let all : Adds s z (λ a. (t.entry == a) || (list_any (λ c. links_to c a) t.code || (is_named_in f a || (list_any (is_in_data t.base a) t.segments || lists made a)))) =
    adds_then s u z _ _ entry
    (adds_then u v z _ _ of_links
    (adds_then v x z _ _ (adds_then v w x _ _ of_symbols of_relas)
    (adds_then x y z _ _ of_data last))) in
    record {
      each = λ a at.
          all.each a
          ∙ ap (λ m. lists s a || ((t.entry == a) || (list_any (λ c. links_to c a) t.code || (is_named_in f a || (list_any (is_in_data t.base a) t.segments || m))))) (is_made_by a at);
    }

-- for each word of the code, whether it is reached
marked_by : (words all : List CodeWord) (p q : ℕ → Bool) → ((c : CodeWord) → Among c words → Among c all) → ((a : ℕ) → has_word_at all a ≡ true → p a ≡ q a) → map (λ (c : CodeWord). p c.at) words ≡ map (λ c. q c.at) words
marked_by [] all p q within same = refl
marked_by (c ∷ cs) all p q within same =
    ap (λ b. b ∷ map (λ (d : CodeWord). p d.at) cs) (same c.at (listed (map (λ (d : CodeWord). d.at) all) c.at (among-map (λ (d : CodeWord). d.at) c all (within c (inl refl)))))
    ∙ ap (λ bs. q c.at ∷ bs) (marked_by cs all p q (λ d m. within d (inr m)) same)

pub marked : (f : ElfFile) (t : Test) (words : List CodeWord) (set : BTreeSet ℕ) (list : List ℕ) (marks : List Bool) → words ≡ t.code → ((a : ℕ) → has_address set a ≡ lists list a) → ((a : ℕ) → has_word_at t.code a ≡ true → lists list a ≡ is_reached f t a) → marks ≡ map (λ c. has_address set c.at) words → marks ≡ map (λ c. is_reached f t c.at) t.code
marked f t words set list marks code set_is list_is is =
    is
    ∙ ap (λ ws. map (λ (c : CodeWord). has_address set c.at) ws) code
    ∙ marked_by t.code t.code (has_address set) (is_reached f t) (λ c m. m) (λ a at. set_is a ∙ list_is a at)
