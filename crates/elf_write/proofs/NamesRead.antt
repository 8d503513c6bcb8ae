-- Names of a string table that was written, read.
use Rattle.std.proofs.Common.{◌≡◌, ℕ, ◌+◌, ◌-◌, ◌<◌, false, eqb, List, [], ◌∷◌, ◌++◌, length, get_or, Some, refl, ◌∙◌, arith, length-append}
use Rattle.std.proofs.lemmas.Bool.Decides.{nat_tests}
use Rattle.std.proofs.lemmas.List.{get_or_append_left, get_or_at}
use Rattle.std.proofs.lemmas.Bool.{ne_eqb}
use Rattle.tests.specs.Files.Rules.{name_length, name_at, is_unended}
use Rattle.tests.specs.Elf.Layout.{IsName, names_bytes, string_table}
use Rattle.machine.proofs.Lemmas.{first_found}
use Rattle.elf_write.proofs.Stands.{Stands, stands_whole, stands_left, stands_right, stands_within, stands_slice, stands_item}

-- what is read at an offset of a string table
pub record NameRead (table : List ℕ) (at : ℕ) (name : List ℕ) : Type 0 where
  pub is : name_at table at ≡ name
  pub ended : is_unended table at ≡ false

length_read : (table : List ℕ) (at : ℕ) (name : List ℕ) → IsName name → Stands table at (name ++ 0 ∷ []) → name_length table at ≡ Some (length name)
unfolding name_length
length_read table at name is s =
    let within = stands_within (name ++ 0 ∷ []) s in
    let long = length-append name (0 ∷ []) in
    let last : get_or table (at + length name) 0 ≡ 0 = stands_item (name ++ 0 ∷ []) (length name) 0 (omega (arith, long)) s ∙ get_or_at name 0 [] 0 (length name) refl in
    first_found (length table - at) (λ k. eqb (get_or table (at + k) 0) 0) (length name) (omega (arith, within, long)) (rw last refl)
    (λ k lt.
    let e : get_or table (at + k) 0 ≡ get_or name k 0 = stands_item (name ++ 0 ∷ []) k 0 (omega (arith, long)) s ∙ get_or_append_left name (0 ∷ []) 0 k lt in
    rw e (ne_eqb (get_or name k 0) 0 (is k 0 lt)))

-- a name with its zero byte behind the first byte of the table
pub name_read : (table : List ℕ) (at : ℕ) (name : List ℕ) → 0 < at → IsName name → Stands table at (name ++ 0 ∷ []) → NameRead table at name
unfolding name_at
name_read table at name above is s =
    let n = length_read table at name is s in
    let some : eqb at 0 ≡ false = grind (arith, nat_tests) in
    record {
      is = rw (some, n) (stands_slice name (stands_left name (0 ∷ []) s));
      ended = rw (some, n) refl;
    }

-- the offset 0 has the empty name
pub empty_read : (table : List ℕ) → NameRead table 0 []
unfolding name_at
empty_read table = record { is = refl; ended = refl }

-- ---- names one after the other
-- the first of them
pub first_name : (table : List ℕ) (at : ℕ) (name : List ℕ) (names : List (List ℕ)) → 0 < at → IsName name → Stands table at (names_bytes (name ∷ names)) → NameRead table at name
first_name table at name names above is s = name_read table at name above is (stands_left (name ++ 0 ∷ []) (names_bytes names) s)

-- the others
pub other_names : (table : List ℕ) (at : ℕ) (name : List ℕ) (names : List (List ℕ)) → Stands table at (names_bytes (name ∷ names)) → Stands table (at + length name + 1) (names_bytes names)
other_names table at name names s = stands_right (at + length name + 1) (name ++ 0 ∷ []) (names_bytes names) (omega (arith, length-append name (0 ∷ []))) s

-- the names of a table stand behind its first byte
pub names_stand : (names : List (List ℕ)) → Stands (string_table names) 1 (names_bytes names)
names_stand names =
    let zero_byte : List ℕ = 0 ∷ [] in
    stands_right 1 zero_byte (names_bytes names) refl (stands_whole (zero_byte ++ names_bytes names))
