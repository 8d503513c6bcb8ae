-- Bytes that stand at an offset of others.
use Rattle.std.proofs.Common.{◌≡◌, ℕ, ◌+◌, ◌^◌, ◌<◌, ◌≤◌, List, [], ◌∷◌, ◌++◌, length, take, drop, get_or, refl, sym, ap, subst, ◌∙◌, append_assoc, arith, length-append}
use Rattle.std.proofs.lemmas.List.{take_at, drop_at, get_or-drop, get_or_append_left, append-nil}
use Rattle.machine.specs.Numbers.{field, number_bytes}
use Rattle.tests.specs.Elf.Written.{fields_bytes}
use Rattle.tests.proofs.Lemmas.{field-number_bytes, length-number_bytes}

-- the bytes xs stand in the file at an offset
pub record Stands (file : List ℕ) (at : ℕ) (xs : List ℕ) : Type 0 where
  pub front : List ℕ
  pub back : List ℕ
  pub parts : file ≡ front ++ (xs ++ back)
  pub before : length front ≡ at

pub stands_whole : (xs : List ℕ) → Stands xs 0 xs
stands_whole xs = record { front = []; back = []; parts = sym (append-nil xs); before = refl }

pub stands_left : {file : List ℕ} {at : ℕ} (xs ys : List ℕ) → Stands file at (xs ++ ys) → Stands file at xs
stands_left xs ys s = record {
  front = s.front;
  back = ys ++ s.back;
  parts = s.parts ∙ ap (λ (t : List ℕ). s.front ++ t) (append_assoc xs ys s.back);
  before = s.before;
}

pub stands_right : {file : List ℕ} {at : ℕ} (next : ℕ) (xs ys : List ℕ) → at + length xs ≡ next → Stands file at (xs ++ ys) → Stands file next ys
stands_right {at = at} next xs ys e s = record {
  front = s.front ++ xs;
  back = s.back;
  parts = s.parts ∙ ap (λ (t : List ℕ). s.front ++ t) (append_assoc xs ys s.back) ∙ sym (append_assoc s.front xs (ys ++ s.back));
  before = omega (arith, length-append s.front xs, s.before, e);
}

-- the bytes xs are the end of the file, from an offset on
pub record Ends (file : List ℕ) (at : ℕ) (xs : List ℕ) : Type 0 where
  pub front : List ℕ
  pub parts : file ≡ front ++ xs
  pub before : length front ≡ at

pub ends_left : {file : List ℕ} {at : ℕ} (xs ys : List ℕ) → Ends file at (xs ++ ys) → Stands file at xs
ends_left xs ys s = record { front = s.front; back = ys; parts = s.parts; before = s.before }

pub ends_right : {file : List ℕ} {at : ℕ} (next : ℕ) (xs ys : List ℕ) → at + length xs ≡ next → Ends file at (xs ++ ys) → Ends file next ys
ends_right next xs ys e s = record { front = s.front ++ xs; parts = s.parts ∙ sym (append_assoc s.front xs ys); before = omega (arith, length-append s.front xs, s.before, e) }

pub ends_whole : {file : List ℕ} {at : ℕ} (xs : List ℕ) → Ends file at xs → Stands file at xs
ends_whole xs s = record { front = s.front; back = []; parts = rw append-nil s.parts; before = s.before }

pub stands_at : {file : List ℕ} {at : ℕ} (next : ℕ) (xs : List ℕ) → at ≡ next → Stands file at xs → Stands file next xs
stands_at {file} next xs e s = subst (λ (place : ℕ). Stands file place xs) e s

pub stands_within : {file : List ℕ} {at : ℕ} (xs : List ℕ) → Stands file at xs → at + length xs ≤ length file
stands_within xs s = omega (arith, ap length s.parts, length-append s.front (xs ++ s.back), length-append xs s.back, s.before)

tail_is : {file : List ℕ} {at : ℕ} (xs : List ℕ) (s : Stands file at xs) → drop at file ≡ xs ++ s.back
tail_is {file} {at} xs s = ap (drop at) s.parts ∙ drop_at s.front (xs ++ s.back) at s.before

-- the bytes that stand there, cut out
pub stands_slice : {file : List ℕ} {at : ℕ} (xs : List ℕ) → Stands file at xs → take (length xs) (drop at file) ≡ xs
stands_slice xs s = ap (take (length xs)) (tail_is xs s) ∙ take_at xs s.back (length xs) refl

-- one of the bytes that stand there
pub stands_item : {file : List ℕ} {at : ℕ} (xs : List ℕ) (k d : ℕ) → k < length xs → Stands file at xs → get_or file (at + k) d ≡ get_or xs k d
stands_item {file} {at} xs k d lt s =
    sym (get_or-drop at file k d) ∙ ap (λ (t : List ℕ). get_or t k d) (tail_is xs s) ∙ get_or_append_left xs s.back d k lt

-- a number that stands there, read
pub stands_number : {file : List ℕ} {at : ℕ} (size value : ℕ) → value < 256 ^ size → Stands file at (number_bytes size value) → field at size file ≡ value
stands_number {file} {at} size value lt s = ap (field at size) s.parts ∙ field-number_bytes size value at s.front s.back s.before lt

-- ---- fields one after the other
abbrev pub AllFit : List (ℕ × ℕ) → Type 0
AllFit [] = Unit {0}
AllFit (f ∷ fs) = (f.1 < 256 ^ f.0) × AllFit fs

-- each field is read, at the offset k behind another
abbrev pub AllRead : List ℕ → ℕ → ℕ → List (ℕ × ℕ) → Type 0
AllRead file at k [] = Unit {0}
AllRead file at k (f ∷ fs) = (field (at + k) f.0 file ≡ f.1) × AllRead file at (k + f.0) fs

pub stands_fields : {file : List ℕ} (at k place : ℕ) (fs : List (ℕ × ℕ)) → place ≡ at + k → AllFit fs → Stands file place (fields_bytes fs) → AllRead file at k fs
stands_fields at k place [] e fits s = tt
stands_fields at k place (f ∷ fs) e fits s =
    let first = stands_number f.0 f.1 fits.0 (stands_left (number_bytes f.0 f.1) (fields_bytes fs) s) in (
      rw (← e) first,
      stands_fields at (k + f.0) (place + f.0) fs (omega (arith, e)) fits.1
          (stands_right (place + f.0) (number_bytes f.0 f.1) (fields_bytes fs) (ap (λ n. place + n) (length-number_bytes f.0 f.1)) s),
    )
