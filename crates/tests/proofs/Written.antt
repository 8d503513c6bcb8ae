-- What is written as one file: segments that share no byte, and names.
use Rattle.std.proofs.Common.{◌≡◌, ◌≢◌, ℕ, ◌+◌, ◌≤◌, Bool, true, false, ◌&&◌, List, [], ◌∷◌, ap, ◌∙◌, arith}
use Rattle.std.specs.Prelude.{nat_lt}
use Rattle.std.specs.List.{list_all}
use Rattle.std.proofs.Math.Bool.{and-false}
use Rattle.std.proofs.lemmas.Bool.{and_parts, ltb-true, le-ltb}
use Rattle.std.proofs.lemmas.List.Elements.{All-nil, All-cons}
use Rattle.elf_types.specs.declared.file.Segment.{Segment}
use Rattle.tests.specs.Elf.Layout.{do_share, IsName}

-- a segment that ends where another begins, or before, shares no byte with it
apart_by : (a b e : Bool) (x y : ℕ) → y ≤ x → (a && b && e && nat_lt x y) ≡ false
apart_by a b e x y h = ap (λ t. a && b && e && t) (le-ltb x y h) ∙ and-false (a && b && e)

pub not_shared : (s t : Segment) → s.address + s.memory ≤ t.address → do_share s t ≡ false
not_shared s t h = apart_by (nat_lt 0 s.memory) (nat_lt 0 t.memory) (nat_lt s.address (t.address + t.memory)) t.address (s.address + s.memory) h

-- a text without a zero byte
pub name_test : (xs : List ℕ) → list_all (λ x. nat_lt 0 x) xs ≡ true → IsName xs
name_test [] e = All-nil (λ byte. byte ≢ 0)
name_test (x ∷ xs) e =
    let p = and_parts (nat_lt 0 x) (list_all (λ x. nat_lt 0 x) xs) e in
    All-cons (λ byte. byte ≢ 0) x xs (λ z. let h = ltb-true 0 x p.0 in absurd (omega arith)) (name_test xs p.1)
