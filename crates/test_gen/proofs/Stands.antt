-- The instructions of a generated test stand in its code range, one behind another.
use Rattle.std.proofs.Common.{◌≡◌, ℕ, zero, suc, ◌+◌, ◌-◌, ◌*◌, ◌%◌, ◌<◌, ◌≤◌, Bool, true, false, cond, not, ◌&&◌, ◌||◌, List, [], ◌∷◌, ◌++◌, drop, length, map, Option, Some, None, refl, sym, ap, ◌∙◌, subst, append_assoc, length-append, arith}
use Rattle.std.specs.Prelude.{is_none, is_some, nat_lt, nat_le, ◌==◌, slice_index, unwrap_or, if◌then◌else◌}
use Rattle.std.proofs.lemmas.Bool.{and_from, or_left, eq-eqb, lt-ltb, le-leb, false≢true}
use Rattle.std.proofs.lemmas.List.{get_or-drop, length-map}
use Rattle.byteorder.specs.Endian.{little_from}
use Rattle.machine.specs.Numbers.{field, number_bytes, bytes_of}
use Rattle.machine.specs.Table.{decode_of, encode_of, Ins}
use Rattle.machine.specs.Memory.{byte_in}
use Rattle.machine.specs.Program.{LoadSegment}
use Rattle.machine.specs.Cells.{has, cell_at, cell_among, byte_among, number_among}
use Rattle.tests.specs.Admission.Terms.{is_code_address, high_register, ElfFile}
use Rattle.tests.specs.Admission.CodeWords.{ranges_of, is_code, word_at}
use Rattle.tests.specs.Admission.Rules.{is_ebreak}
use Rattle.machine.specs.Operands.{is_auipc}
use Rattle.machine.proofs.Lemmas.{has_from, decode_encode}
use Rattle.qed_model.proofs.Lemmas.{StandFrom, IsCodeOf, each_at, is_fine, has_word}
use Rattle.tests.proofs.Lemmas.{length-number_bytes, length-bytes_of, field-number_bytes}
use Rattle.machine.specs.Members.{Every}
use Rattle.test_gen.specs.Generated.{generated_word}
use Rattle.test_gen.proofs.Plain.{IsPlain}

-- ---- numbers in the first segment
-- the numbers from a place on stand at that place
from_place : (k i n : ℕ) (xs : List ℕ) → little_from i n (drop k xs) ≡ little_from (k + i) n xs
from_place k i zero xs = refl
from_place k i (suc n) xs =
    let next : k + suc i ≡ suc (k + i) = omega arith in
    let rest : little_from (suc i) n (drop k xs) ≡ little_from (suc (k + i)) n xs = from_place k (suc i) n xs ∙ ap (λ j. little_from j n xs) next in
    ap (λ b. b + 256 * little_from (suc i) n (drop k xs)) (get_or-drop k xs i 0) ∙ ap (λ x. slice_index xs (k + i) + 256 * x) rest

number_first : (s : LoadSegment) (ss : List LoadSegment) (k n : ℕ) → k + n ≤ s.size → number_among (s ∷ ss) (s.address + k) n ≡ little_from k n s.bytes
unfolding number_among
number_first s ss k zero h = refl
number_first s ss k (suc n) h =
    let at = s.address + k in
    let here : has s (s.address + k) ≡ true = has_from s (s.address + k) (omega arith) (omega (arith, h)) in
    let place : s.address + k - s.address ≡ k = omega arith in
    let byte : byte_among (s ∷ ss) (s.address + k) ≡ slice_index s.bytes k = ap (λ b. byte_in (cond b (Some (cell_at s at)) (cell_among ss at))) here ∙ ap (slice_index s.bytes) place in
    let next : s.address + k + 1 ≡ s.address + suc k = omega arith in
    let rest : number_among (s ∷ ss) (s.address + k + 1) n ≡ little_from (suc k) n s.bytes = ap (λ a. number_among (s ∷ ss) a n) next ∙ number_first s ss (suc k) n (omega (arith, h)) in
    ap (λ b. b + 256 * number_among (s ∷ ss) (s.address + k + 1) n) byte ∙ ap (λ x. slice_index s.bytes k + 256 * x) rest

pub field_first : (s : LoadSegment) (ss : List LoadSegment) (k n : ℕ) → k + n ≤ s.size → number_among (s ∷ ss) (s.address + k) n ≡ field k n s.bytes
unfolding field
field_first s ss k n h = let same : k + 0 ≡ k = omega arith in number_first s ss k n h ∙ sym (from_place k 0 n s.bytes ∙ ap (λ j. little_from j n s.bytes) same)

-- ---- words
encoded : (i : Ins) → has_word i ≡ true → encode_of i ≡ Some (generated_word i)
unfolding generated_word
encoded i h = by (encode_of i) h where
  by : (o : Option ℕ) → is_some o ≡ true → o ≡ Some (unwrap_or o 0)
  by None e = absurd (false≢true e)
  by (Some w) e = refl

-- the bytes are the one code range of the file
pub record IsImage (f : ElfFile) (from : ℕ) (bytes : List ℕ) : Type 0 where
  pub range : ranges_of f ≡ (from, from + length bytes) ∷ []
  pub grain : from % 4 ≡ 0
  pub words : (k : ℕ) → k + 4 ≤ length bytes → word_at f (from + k) ≡ field k 4 bytes

module _ (f : ElfFile) (from : ℕ) (bytes : List ℕ) (image : IsImage f from bytes) where
  -- each word of the range is at a code address
  pub code_here : (k : ℕ) → k % 4 ≡ 0 → k < length bytes → is_code f (from + k) ≡ true
  code_here k g l =
      let grain = image.grain in
      let there : is_code_address ((from, from + length bytes) ∷ []) (from + k) ≡ true =
      and_from ((from + k) % 4 == 0) _ (eq-eqb ((from + k) % 4) 0 (omega (arith, g, grain)))
      (or_left (nat_le from (from + k) && nat_lt (from + k) (from + length bytes)) false
      (and_from (nat_le from (from + k)) (nat_lt (from + k) (from + length bytes)) (le-leb from (from + k) (omega arith)) (lt-ltb (from + k) (from + length bytes) (omega (arith, l))))) in
      subst (λ rs. is_code_address rs (from + k) ≡ true) (sym image.range) there

  stand :
      (front : List ℕ) (code : List Ins) (k a : ℕ) → Every IsPlain code → bytes ≡ front ++ bytes_of (map generated_word code) → length front ≡ k → k % 4 ≡ 0
      → a ≡ from + k → StandFrom f a code
  stand front [] k a p e l g at = tt
  stand front (i ∷ is) k a p e l g at =
      let w = generated_word i in
      let first = p.0 in
      let rest = bytes_of (map generated_word is) in
      let decoded = decode_encode w i (encoded i first.word) in
      let small = decoded.0 in
      let long : k + 4 ≤ length bytes = omega (arith, l, ap length e, length-append front (number_bytes 4 w ++ rest), length-append (number_bytes 4 w) rest, length-number_bytes 4 w) in
      let word : word_at f a ≡ w = ap (word_at f) at ∙ image.words k long ∙ ap (field k 4) e ∙ field-number_bytes 4 w k front rest l (omega (arith, small)) in
      let here : is_code f a ≡ true = ap (is_code f) at ∙ code_here k g (omega (arith, long)) in (
        ap (λ b. if b then decode_of (word_at f a) else None) here ∙ ap decode_of word ∙ decoded.1,
        stand (front ++ number_bytes 4 w) is (k + 4) (a + 4) p.1 (e ∙ sym (append_assoc front (number_bytes 4 w) rest))
            (omega (arith, l, length-append front (number_bytes 4 w), length-number_bytes 4 w)) (omega (arith, g)) (omega (arith, at)),
      )

  -- the instructions are all of the file's code
  pub known : (code : List Ins) → Every IsPlain code → bytes ≡ bytes_of (map generated_word code) → IsCodeOf f from code
  known code p e =
      let size : length bytes ≡ 4 * length code = ap length e ∙ length-bytes_of (map generated_word code) ∙ ap (λ n. 4 * n) (length-map code generated_word) in
      record { range = image.range ∙ ap (λ n. (from, from + n) ∷ []) size; grain = image.grain; stand = stand [] code 0 from p e refl refl (omega arith) }

-- ---- none is refused
passes : (e u far : Bool) → (e || u) ≡ false → not (e || u && far) ≡ true
passes true u far h = absurd (false≢true (sym h))
passes false true far h = absurd (false≢true (sym h))
passes false false far h = refl

pub all_fine : (f : ElfFile) (from : ℕ) (all : List Ins) (known : IsCodeOf f from all) (a : ℕ) (code : List Ins) → Every IsPlain code → each_at (is_fine f from all known) a code ≡ true
all_fine f from all known a [] p = refl
all_fine f from all known a (i ∷ is) p =
    let first = p.0 in
    and_from (is_fine f from all known a i) (each_at (is_fine f from all known) (a + 4) is)
    (and_from (is_none (high_register i)) _ first.low (passes (is_ebreak i.kind) (is_auipc i.kind) _ first.kind))
    (all_fine f from all known (a + 4) is p.1)
