-- The table as a whole: no word is in two rows, and decoding and encoding are inverse.
use Rattle.std.proofs.Common.{◌≡◌, ℕ, ◌^◌, ◌<◌, Bool, true, false, cond, not, ◌&&◌, List, [], ◌∷◌, Some, inl, inr, refl, sym, ap, ◌∙◌}
use Rattle.std.specs.Prelude.{bit_and, ◌==◌, nat_lt}
use Rattle.std.specs.List.{list_all}
use Rattle.std.proofs.lemmas.Bool.{and_parts, false≢true, eqb-true, eq-eqb, ltb-true}
use Rattle.std.proofs.lemmas.Nat.{and_assoc, and_comm}
use Rattle.machine.specs.Kinds.{IsAmong}
use Rattle.machine.specs.Table.{Ins, Kind, Format, R, Row, mask_of, kinds, ins_of, fits, scan, decode_of, word_of, row_of, encode_of}
use Rattle.machine.proofs.Formats.{joined}
use Rattle.machine.proofs.EachKind.{has_kind, each_in, each_kind}

-- ---- tests that compute over the table
-- the match lies within the mask, and in a word
abbrev sound : Row → Bool
sound r = (bit_and r.match (mask_of r.format) == r.match) && nat_lt r.match (2 ^ 32)

-- no word fits both rows
abbrev apart : Row → Row → Bool
apart r s = not (bit_and r.match (mask_of s.format) == bit_and s.match (mask_of r.format))

-- no word fits two of these kinds
abbrev distinct : List Kind → Bool
distinct [] = true
distinct (k ∷ ks) = list_all (λ j. apart (row_of k) (row_of j)) ks && distinct ks

kinds_sound : list_all (λ k. sound (row_of k)) kinds ≡ true
kinds_sound = refl

kinds_distinct : distinct kinds ≡ true
kinds_distinct = refl

-- a word that fits both rows has the fixed bits of both
overlap : (r s : Row) (w : ℕ) → fits r w ≡ true → fits s w ≡ true → bit_and r.match (mask_of s.format) ≡ bit_and s.match (mask_of r.format)
overlap r s w p q =
    let a = eqb-true _ _ p in
    let b = eqb-true _ _ q in
    ap (λ n. bit_and n (mask_of s.format)) (sym a) ∙ and_assoc (mask_of s.format) w (mask_of r.format)
    ∙ ap (bit_and w) (and_comm (mask_of r.format) (mask_of s.format)) ∙ sym (and_assoc (mask_of r.format) w (mask_of s.format)) ∙ ap (λ n. bit_and n (mask_of r.format)) b

-- a word does not fit two rows that are apart
not_both : (r s : Row) (w : ℕ) → apart s r ≡ true → fits r w ≡ true → fits s w ≡ true → ⊥
not_both r s w a p q = false≢true (sym (ap not (eq-eqb _ _ (overlap s r w q p))) ∙ a)

-- ---- the row that a word fits
-- a scan finds the kind whose row the word fits
scan_found : (k : Kind) (ks : List Kind) (w : ℕ) → distinct ks ≡ true → IsAmong k ks → fits (row_of k) w ≡ true → scan ks w ≡ Some (ins_of (row_of k).format k w)
scan_found k [] w d h f = absurd h
scan_found k (j ∷ js) w d (inl p) f = let g : fits (row_of j) w ≡ true = rw (← p) f in rw (g, p)
scan_found k (j ∷ js) w d (inr h) f =
    let e = and_parts _ _ d in
    elim (fits (row_of j) w) as (λ b. fits (row_of j) w ≡ b → cond b (Some (ins_of (row_of j).format j w)) (scan js w) ≡ Some (ins_of (row_of k).format k w)) [
      | true ↦ λ g. absurd (not_both (row_of k) (row_of j) w (each_in (λ k. apart (row_of j) (row_of k)) js k e.0 h) f g)
      | false ↦ λ g. scan_found k js w e.1 h f
    ] refl

-- a kind whose row the word fits, with its instruction
record Found (w : ℕ) (i : Ins) : Type 0 where
  kind : Kind
  fit : fits (row_of kind) w ≡ true
  is : ins_of (row_of kind).format kind w ≡ i

scan_gives : (ks : List Kind) (w : ℕ) (i : Ins) → scan ks w ≡ Some i → Found w i
scan_gives [] w i e = absurd (cc)
scan_gives (k ∷ ks) w i e =
    elim (fits (row_of k) w) as (λ b. fits (row_of k) w ≡ b → cond b (Some (ins_of (row_of k).format k w)) (scan ks w) ≡ Some i → Found w i) [
      | true ↦ λ g h. record { kind = k; fit = g; is = cc }
      | false ↦ λ g h. scan_gives ks w i h
    ] refl e

-- the instruction of a word under a format is of the kind that was asked for
pub kind-ins_of : (f : Format) (k : Kind) (w : ℕ) → (ins_of f k w).kind ≡ k
unfolding ins_of
kind-ins_of R k w = refl
kind-ins_of o k w = refl

-- ---- the laws
-- the instruction of a word is encoded as the word
pub encode_decode : (w : ℕ) (i : Ins) → w < 2 ^ 32 → decode_of w ≡ Some i → encode_of i ≡ Some w
unfolding decode_of encode_of
encode_decode w i h e =
    let f = scan_gives kinds w i e in
    let k : i.kind ≡ f.kind = sym (ap (λ j. j.kind) f.is) ∙ kind-ins_of (row_of f.kind).format f.kind w in
    ap (λ k. word_of (row_of k).format (row_of k).match i) k ∙ ap (word_of (row_of f.kind).format (row_of f.kind).match) (sym f.is) ∙ (joined (row_of f.kind).format).encoded f.kind w (row_of f.kind).match h (eqb-true _ _ f.fit)

-- the word of an instruction has 32 bits, and is decoded as the instruction
pub decode_encode : (w : ℕ) (i : Ins) → encode_of i ≡ Some w → (w < 2 ^ 32) × (decode_of w ≡ Some i)
unfolding decode_of encode_of
decode_encode w i e =
    let r = row_of i.kind in
    let s = and_parts _ _ (each_kind (λ k. sound (row_of k)) kinds_sound i.kind) in
    let m = ltb-true _ _ s.1 in
    let b = eqb-true _ _ s.0 in
    let j = joined r.format in
    let fit : fits (row_of i.kind) w ≡ true = eq-eqb _ _ (j.masked i r.match w m b e) in
    (j.bounded i r.match w m b e, scan_found i.kind kinds w kinds_distinct (has_kind i.kind) fit ∙ ap Some (j.decoded i r.match w m b e))

-- a word that fits the row of a kind is an instruction of that kind
pub decode-fits : (k : Kind) (w : ℕ) → fits (row_of k) w ≡ true → decode_of w ≡ Some (ins_of (row_of k).format k w)
unfolding decode_of
decode-fits k w f = scan_found k kinds w kinds_distinct (has_kind k) f

-- the instruction of a word is of a kind whose row the word fits
pub fits-decode : (w : ℕ) (i : Ins) → decode_of w ≡ Some i → fits (row_of i.kind) w ≡ true
unfolding decode_of
fits-decode w i e =
    let f = scan_gives kinds w i e in
    let k : f.kind ≡ i.kind = sym (kind-ins_of (row_of f.kind).format f.kind w) ∙ ap (λ j. j.kind) f.is in
    ap (λ k. fits (row_of k) w) (sym k) ∙ f.fit
