-- The rows at the place of a word decide its instruction. Both ways go by a test that computes over the whole table.
use Rattle.std.proofs.Common.{◌≡◌, ℕ, ◌+◌, ◌*◌, ◌/◌, ◌%◌, ◌<◌, zero, suc, Bool, true, false, cond, not, ◌&&◌, ◌||◌, List, [], ◌∷◌, length, get_or, Some, None, refl, sym, ap, ◌∙◌, arith}
use Rattle.std.specs.Prelude.{Option, bit_and, ◌==◌}
use Rattle.std.specs.List.{list_all, list_any}
use Rattle.std.proofs.lemmas.Bool.{and_parts, false≢true, eqb-true, eq-eqb}
use Rattle.std.proofs.lemmas.Nat.{and_assoc, and_comm, and_block, and_mask, shr_split, mod_below}
use Rattle.std.proofs.lemmas.Nat.Bits.{and_high}
use Rattle.rv_isa.specs.Field.{bits}
use Rattle.machine.specs.Table.{Format, R, I, H, G, S, B, U, J, N, mask_of, row_of, fits, kinds, ins_of, decode_of, Kind, Ins}
use Rattle.machine.proofs.Lemmas.{each_kind, decode-fits, fits-decode}
use Rattle.rv_decode.specs.declared.table.Row.{Row}
use Rattle.rv_decode.specs.Formats.{format_of}
use Rattle.rv_decode.specs.Rows.{matches, first_fit, row_places, listed_at}
use Rattle.rv_decode.proofs.Places.{first_bound, second_bound}

-- ---- each row of the code is the row of its kind
-- a number for each format
abbrev number : Format → ℕ
number R = 0
number I = 1
number H = 2
number G = 3
number S = 4
number B = 5
number U = 6
number J = 7
number N = 8

abbrev numbered : ℕ → Format
numbered n = get_or (R ∷ I ∷ H ∷ G ∷ S ∷ B ∷ U ∷ J ∷ N ∷ []) n N

numbers : (f : Format) → numbered (number f) ≡ f
numbers R = refl
numbers o = refl

-- a row of the code has the bits of the row of a kind
abbrev stands : Kind → Row → Bool
stands k r = (r.mask == mask_of (row_of k).format) && (r.fixed == (row_of k).match)

abbrev right : Row → Bool
right r = stands r.kind r && (number (format_of r.format) == number (row_of r.kind).format)

rows_right : list_all (list_all (list_all right)) row_places ≡ true
unfolding row_places
rows_right = refl

-- ---- a row stands at each place where a word can fit it
-- whether the words of a place may fit the row of a kind
abbrev may : Kind → ℕ → ℕ → Bool
may k i j = bit_and (j * 4096 + i * 4) (mask_of (row_of k).format) == bit_and (row_of k).match 0x707c

abbrev full : ℕ → ℕ → List Row → Bool
full i j rs = list_all (λ k. not (may k i j) || list_any (stands k) rs) kinds

abbrev line : ℕ → ℕ → List (List Row) → Bool
line i j [] = true
line i j (rs ∷ t) = full i j rs && line i (suc j) t

abbrev lines : ℕ → List (List (List Row)) → Bool
lines i [] = true
lines i (t ∷ ts) = line i 0 t && lines (suc i) ts

table_full : lines 0 row_places ≡ true
unfolding row_places
table_full = refl

full_in : (i j n : ℕ) (t : List (List Row)) (b : ℕ) → line i j t ≡ true → b < length t → n ≡ j + b → full i n (get_or t b []) ≡ true
full_in i j n [] b e h p = absurd (omega arith)
full_in i j n (rs ∷ t) zero e h p = let q : j ≡ n = omega arith in ap (λ m. full i m rs) (sym q) ∙ (and_parts _ _ e).0
full_in i j n (rs ∷ t) (suc b) e h p = full_in i (suc j) n t b (and_parts _ _ e).1 (omega arith) (omega arith)

line_in : (i n : ℕ) (ts : List (List (List Row))) (a : ℕ) → lines i ts ≡ true → a < length ts → n ≡ i + a → line n 0 (get_or ts a []) ≡ true
line_in i n [] a e h p = absurd (omega arith)
line_in i n (t ∷ ts) zero e h p = let q : i ≡ n = omega arith in ap (λ m. line m 0 t) (sym q) ∙ (and_parts _ _ e).0
line_in i n (t ∷ ts) (suc a) e h p = line_in (suc i) n ts a (and_parts _ _ e).1 (omega arith) (omega arith)

word_full : (w : ℕ) → full (bits w 2 5) (bits w 12 3) (listed_at row_places w) ≡ true
word_full w =
    let l = line_in 0 (bits w 2 5) row_places (bits w 2 5) table_full (first_bound w) (omega arith) in
    full_in (bits w 2 5) 0 (bits w 12 3) (get_or row_places (bits w 2 5) []) (bits w 12 3) l (second_bound w) (omega arith)

-- the bits of a word that say its place
place_bits : (w : ℕ) → bit_and w 0x707c ≡ bits w 12 3 * 4096 + bits w 2 5 * 4
place_bits w =
    ap (λ n. bit_and n 0x707c) (sym (shr_split w 12)) ∙ and_block 12 (w / 4096) 7 (w % 4096) 0x7c (mod_below w 4096 (omega arith)) (omega arith)
    ∙ ap (λ n. n * 4096 + bit_and (w % 4096) 0x7c) (and_mask (w / 4096) 3) ∙ ap (λ n. w / 4096 % 8 * 4096 + n) (and_high (w % 4096) 5 2 ∙ omega arith)

fits-may : (k : Kind) (w : ℕ) → fits (row_of k) w ≡ true → may k (bits w 2 5) (bits w 12 3) ≡ true
fits-may k w f =
    let m = mask_of (row_of k).format in
    eq-eqb _ _ (ap (λ n. bit_and n m) (sym (place_bits w)) ∙ and_assoc m w 0x707c ∙ ap (bit_and w) (and_comm 0x707c m) ∙ sym (and_assoc 0x707c w m) ∙ ap (λ n. bit_and n 0x707c) (eqb-true _ _ f))

implied : (a b : Bool) → (not a || b) ≡ true → a ≡ true → b ≡ true
implied true b e h = e
implied false b e h = absurd (false≢true h)

-- a kind whose row a word fits has its row at the word's place
has_row : (k : Kind) (w : ℕ) → fits (row_of k) w ≡ true → list_any (stands k) (listed_at row_places w) ≡ true
has_row k w f = implied _ _ (each_kind (λ k. not (may k (bits w 2 5) (bits w 12 3)) || list_any (stands k) (listed_at row_places w)) (word_full w) k) (fits-may k w f)

-- ---- the first row that fits
stands-fits : (k : Kind) (r : Row) (w : ℕ) → stands k r ≡ true → matches r w ≡ fits (row_of k) w
stands-fits k r w e =
    let p = and_parts _ _ e in
    ap (λ n. bit_and w n == r.fixed) (eqb-true _ _ p.0) ∙ ap (λ n. bit_and w (mask_of (row_of k).format) == n) (eqb-true _ _ p.1)

none_fits : (k : Kind) (w : ℕ) (rs : List Row) → fits (row_of k) w ≡ true → list_any (stands k) rs ≡ true → first_fit rs w ≡ None → ⊥
none_fits k w [] f e n = false≢true e
none_fits k w (r ∷ rs) f e n =
    elim (matches r w) as (λ b. matches r w ≡ b → cond b (Some r) (first_fit rs w) ≡ None → ⊥) [
      | true ↦ λ m h. absurd (cc)
      | false ↦ λ m h.
          elim (stands k r) as (λ b. stands k r ≡ b → (b || list_any (stands k) rs) ≡ true → ⊥) [
            | true ↦ λ s g. false≢true (sym m ∙ (stands-fits k r w s ∙ f))
            | false ↦ λ s g. none_fits k w rs f g h
          ] refl e
    ] refl n

some_fits : (w : ℕ) (rs : List Row) (r : Row) → list_all right rs ≡ true → first_fit rs w ≡ Some r → (right r ≡ true) × (matches r w ≡ true)
some_fits w [] r e h = absurd (cc)
some_fits w (s ∷ rs) r e h =
    elim (matches s w) as (λ b. matches s w ≡ b → cond b (Some s) (first_fit rs w) ≡ Some r → (right r ≡ true) × (matches r w ≡ true)) [
      | true ↦ λ m g. let p : s ≡ r = cc in (ap right (sym p) ∙ (and_parts _ _ e).0, ap (λ r. matches r w) (sym p) ∙ m)
      | false ↦ λ m g. some_fits w rs r (and_parts _ _ e).1 g
    ] refl h

all_at : {X : Type 0} (p : X → Bool) (xs : List X) (i : ℕ) (d : X) → list_all p xs ≡ true → i < length xs → p (get_or xs i d) ≡ true
all_at p [] i d e h = absurd (omega arith)
all_at p (x ∷ xs) zero d e h = (and_parts _ _ e).0
all_at p (x ∷ xs) (suc i) d e h = all_at p xs i d (and_parts _ _ e).1 (omega arith)

word_right : (w : ℕ) → list_all right (listed_at row_places w) ≡ true
word_right w =
    let l = all_at (list_all (list_all right)) row_places (bits w 2 5) [] rows_right (first_bound w) in
    all_at (list_all right) (get_or row_places (bits w 2 5) []) (bits w 12 3) [] l (second_bound w)

-- ---- the instruction of a word
-- if no row at its place fits, the word is not an instruction
pub no_row : (w : ℕ) (rs : List Row) (o : Option Row) → rs ≡ listed_at row_places w → o ≡ first_fit rs w → o ≡ None → None ≡ decode_of w
no_row w rs o p q n =
    let e : first_fit (listed_at row_places w) w ≡ None = ap (λ rs. first_fit rs w) (sym p) ∙ sym q ∙ n in
    elim (decode_of w) as (λ o. decode_of w ≡ o → None ≡ o) [
      | None ↦ λ d. refl
      | Some i ↦ λ d. let f = fits-decode w i d in absurd (none_fits i.kind w (listed_at row_places w) f (has_row i.kind w f) e)
    ] refl

-- the first row that fits gives the kind and the format
pub some_row : (w : ℕ) (rs : List Row) (o : Option Row) (r : Row) (i : Ins) → rs ≡ listed_at row_places w → o ≡ first_fit rs w → o ≡ Some r → i ≡ ins_of (format_of r.format) r.kind w → Some i ≡ decode_of w
some_row w rs o r i p q s h =
    let e : first_fit (listed_at row_places w) w ≡ Some r = ap (λ rs. first_fit rs w) (sym p) ∙ sym q ∙ s in
    let p = some_fits w (listed_at row_places w) r (word_right w) e in
    let q = and_parts _ _ p.0 in
    let f : format_of r.format ≡ (row_of r.kind).format = sym (numbers (format_of r.format)) ∙ ap numbered (eqb-true _ _ q.1) ∙ numbers (row_of r.kind).format in
    ap Some (h ∙ ap (λ f. ins_of f r.kind w) f) ∙ sym (decode-fits r.kind w (sym (stands-fits r.kind r w q.0) ∙ p.1))
