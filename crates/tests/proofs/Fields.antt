-- Numbers that were written as bytes read back.
use Rattle.std.proofs.Common.{◌≡◌, ℕ, zero, suc, ◌+◌, ◌*◌, ◌^◌, ◌<◌, Bool, true, ◌&&◌, List, [], ◌∷◌, ◌++◌, length, drop, refl, ap, ◌∙◌, arith, length-append}
use Rattle.std.specs.Prelude.{slice_index, nat_lt}
use Rattle.std.proofs.lemmas.Bool.{and_parts, ltb-true}
use Rattle.std.proofs.lemmas.List.{drop_at, get_or-drop}
use Rattle.byteorder.specs.Numbers.{little_number-reads_back, length-bytes_low_first}
use Rattle.byteorder.specs.Endian.{little_number}
use Rattle.std.specs.Int.{byte_at, bytes_low_first}
use Rattle.machine.specs.Numbers.{field, number_bytes, words_of, bytes_of}
use Rattle.tests.specs.Elf.Written.{fields_bytes}
use Rattle.machine.specs.Program.{AreStartRegs, zeros}

-- ---- one number
-- a number has as many bytes as it is written in
pub length-number_bytes : (n v : ℕ) → length (number_bytes n v) ≡ n
unfolding number_bytes
length-number_bytes n v = length-bytes_low_first 0 n v

-- a number that stands behind a front
pub field-number_bytes : (n v at : ℕ) (front rest : List ℕ) → length front ≡ at → v < 256 ^ n → field at n (front ++ (number_bytes n v ++ rest)) ≡ v
unfolding number_bytes field
field-number_bytes n v at front rest e h = ap (little_number n) (drop_at front (number_bytes n v ++ rest) at e) ∙ little_number-reads_back n v rest h

-- a byte is a field of size 1
pub slice_index-field : (at : ℕ) (file : List ℕ) → slice_index file at ≡ field at 1 file
unfolding field
slice_index-field at file =
    let same : at + 0 ≡ at = omega arith in
    let byte : slice_index (drop at file) 0 ≡ slice_index file at = get_or-drop at file 0 0 ∙ ap (slice_index file) same in
    omega (arith, byte)

-- each byte of a number is one
pub number_bytes_fit : (n i v k : ℕ) → slice_index (bytes_low_first i n v) k < 256
number_bytes_fit zero i v k = omega arith
number_bytes_fit (suc n) i v zero = by i where
  by : (i : ℕ) → byte_at i v < 256
  by zero = omega arith
  by (suc i) = omega arith
number_bytes_fit (suc n) i v (suc k) = number_bytes_fit n (suc i) v k

-- bytes before bytes
pub append_fit : (xs ys : List ℕ) → ((k : ℕ) → slice_index xs k < 256) → ((k : ℕ) → slice_index ys k < 256) → (k : ℕ) → slice_index (xs ++ ys) k < 256
append_fit [] ys h l k = l k
append_fit (x ∷ xs) ys h l zero = h 0
append_fit (x ∷ xs) ys h l (suc k) = append_fit xs ys (λ j. h (suc j)) l k

-- the bytes of words are bytes
pub bytes_of_fit : (words : List ℕ) (k : ℕ) → slice_index (bytes_of words) k < 256
unfolding number_bytes
bytes_of_fit [] k = omega arith
bytes_of_fit (w ∷ ws) k = append_fit (number_bytes 4 w) (bytes_of ws) (λ j. number_bytes_fit 4 0 w j) (λ j. bytes_of_fit ws j) k

-- ---- words
-- a word has four bytes
pub length-bytes_of : (words : List ℕ) → length (bytes_of words) ≡ 4 * length words
length-bytes_of [] = refl
length-bytes_of (w ∷ words) = simp length-append (omega (arith, length-number_bytes 4 w, length-bytes_of words))

-- words below 2^32 read back
pub words_of-bytes_of : (words : List ℕ) → ((k : ℕ) → slice_index words k < 2 ^ 32) → words_of (bytes_of words) ≡ words
unfolding number_bytes
words_of-bytes_of [] h = refl
words_of-bytes_of (w ∷ words) h =
    let word = little_number-reads_back 4 w [] (h 0) in
    let rest = words_of-bytes_of words (λ k. h (suc k)) in
    cc

-- ---- fields
-- the bytes of all fields
abbrev pub size_of : List (ℕ × ℕ) → ℕ
size_of [] = 0
size_of (f ∷ fs) = f.0 + size_of fs

-- fields have the bytes of their sizes
pub length-fields_bytes : (fs : List (ℕ × ℕ)) → length (fields_bytes fs) ≡ size_of fs
length-fields_bytes [] = refl
length-fields_bytes (f ∷ fs) = length-append (number_bytes f.0 f.1) (fields_bytes fs) ∙ rw (length-number_bytes f.0 f.1, length-fields_bytes fs) refl

-- ---- lists that are known
-- all of the numbers are bytes
abbrev pub all_small : List ℕ → Bool
all_small [] = true
all_small (x ∷ xs) = nat_lt x 256 && all_small xs

pub are_bytes : (xs : List ℕ) → all_small xs ≡ true → (k : ℕ) → slice_index xs k < 256
are_bytes [] e k = omega arith
are_bytes (x ∷ xs) e zero = ltb-true x 256 (and_parts (nat_lt x 256) (all_small xs) e).0
are_bytes (x ∷ xs) e (suc k) = are_bytes xs (and_parts (nat_lt x 256) (all_small xs) e).1 k

-- registers that are all 0 may be those at a start
pub zeros_start : AreStartRegs zeros
zeros_start = record { count = refl; fit = λ r. let b = are_bytes zeros refl r in omega (arith, b) }
