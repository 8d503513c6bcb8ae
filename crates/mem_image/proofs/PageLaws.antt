-- The bytes of a page that begins with those of a segment.
use Rattle.std.proofs.Common.{◌≡◌, ℕ, zero, suc, ◌+◌, ◌-◌, ◌<◌, ◌≤◌, List, [], ◌∷◌, length, take, refl, sym, ap, ◌∙◌, arith, add-one, replicate, get_or-set_same, get_or-set_other, length-set, ⊎_elim}
use Rattle.std.specs.Prelude.{slice_index, slice_set}
use Rattle.machine.specs.Memory.{byte_of}
use Rattle.std.proofs.lemmas.Bool.{cases_lt}
use Rattle.std.proofs.lemmas.List.{length-replicate, get_or-take, get_or_past}
use Rattle.machine.proofs.Lemmas.{index_zeros}
use Rattle.machine.specs.Program.{LoadSegment}
use Rattle.mem_image.specs.Segments.{number_in, bytes_put, with_byte_at, with_bytes_at}

-- ---- the first bytes
pub set-take : (k : ℕ) (bs : List ℕ) (i v : ℕ) → take k (slice_set bs i v) ≡ slice_set (take k bs) i v
set-take zero bs i v = refl
set-take (suc k) [] i v = refl
set-take (suc k) (b ∷ bs) zero v = refl
set-take (suc k) (b ∷ bs) (suc i) v = ap (λ xs. b ∷ xs) (set-take k bs i v)

pub number-take : (k : ℕ) (bs : List ℕ) (i n : ℕ) → i + n ≤ k → number_in (take k bs) i n ≡ number_in bs i n
unfolding number_in
number-take k bs i zero h = refl
number-take k bs i (suc n) h = rw (get_or-take k bs i 0 (omega arith), number-take k bs (i + 1) n (omega arith)) refl

pub put-take : (k : ℕ) (bs : List ℕ) (i n v : ℕ) → take k (bytes_put bs i n v) ≡ bytes_put (take k bs) i n v
unfolding bytes_put
put-take k bs i zero v = refl
put-take k bs i (suc n) v = set-take k (bytes_put bs i n v) (i + n) (byte_of v n) ∙ ap (λ xs. slice_set xs (i + n) (byte_of v n)) (put-take k bs i n v)

-- ---- bytes are put
pub bytes_put-none : (bs : List ℕ) (i v : ℕ) → bytes_put bs i 0 v ≡ bs
unfolding bytes_put
bytes_put-none bs i v = refl

pub bytes_put-more : (bs : List ℕ) (i n v : ℕ) → slice_set (bytes_put bs i n v) (i + n) (byte_of v n) ≡ bytes_put bs i (n + 1) v
unfolding bytes_put
bytes_put-more bs i n v = rw add-one refl

-- in a segment
abbrev pub put_in : LoadSegment → ℕ → ℕ → ℕ → LoadSegment
put_in s i n v = record { address = s.address; size = s.size; flags = s.flags; bytes = bytes_put s.bytes i n v }

pub put_with : (s : LoadSegment) (a n v : ℕ) → s.address ≤ a → put_in s (a - s.address) n v ≡ with_bytes_at s a n v
unfolding bytes_put with_bytes_at
put_with s a zero v h = refl
put_with s a (suc n) v h =
    let e : a - s.address + n ≡ a + n - s.address = omega arith in
    ap (λ i. record { address = s.address; size = s.size; flags = s.flags; bytes = slice_set (bytes_put s.bytes (a - s.address) n v) i (byte_of v n) }) e
    ∙ ap (λ t. with_byte_at t (a + n) (byte_of v n)) (put_with s a n v h)

-- one byte
pub one_byte : (s : LoadSegment) (a v : ℕ) → v < 256 → with_bytes_at s a 1 v ≡ with_byte_at s a v
unfolding with_bytes_at
one_byte s a v h = let b : byte_of v 0 ≡ v = omega arith in let e : a + 0 ≡ a = omega arith in rw (b, e) refl

-- ---- a page is filled
-- the first i bytes of a slice, and zeros
pub record Filled (bs page : List ℕ) (i : ℕ) : Type 0 where
  pub count : length page ≡ 4096
  pub done : (j : ℕ) → j < i → slice_index page j ≡ slice_index bs j
  pub rest : (j : ℕ) → i ≤ j → slice_index page j ≡ 0

pub filled_none : (bs : List ℕ) → Filled bs (replicate 4096 0) 0
filled_none bs = record { count = length-replicate {A = ℕ} 4096 0; done = λ j h. absurd (omega arith); rest = λ j h. index_zeros [] 4096 j }

pub filled_more : (bs page : List ℕ) (i b : ℕ) → Filled bs page i → i < 4096 → b ≡ slice_index bs i → Filled bs (slice_set page i b) (i + 1)
filled_more bs page i b f m e = let l : i < length page = let k = f.count in omega (arith, k, m) in record {
  count = length-set _ _ _ ∙ f.count;
  done = λ j h. ⊎_elim (λ m. get_or-set_other page i j b 0 (λ s. absurd (omega arith)) ∙ f.done j m) (λ m. let s : j ≡ i = omega arith in rw s (get_or-set_same page i b 0 l ∙ e)) (cases_lt j i);
  rest = λ j h. get_or-set_other page i j b 0 (λ s. absurd (omega arith)) ∙ f.rest j (omega arith);
}

-- as many as the slice has, or as the page has
pub filled_all : (bs page : List ℕ) (i j : ℕ) → Filled bs page i → ((i < 4096) → (length bs ≤ i)) → j < 4096 → slice_index page j ≡ slice_index bs j
filled_all bs page i j f h l = ⊎_elim (λ m. f.done j m) (λ m. f.rest j m ∙ sym (get_or_past bs j 0 (let k = h (omega arith) in omega arith))) (cases_lt j i)
