-- The bytes of words, as the writer of words makes them, and batch by batch.
use Rattle.std.proofs.Common.{◌≡◌, ℕ, List, [], ◌∷◌, ◌++◌, take, drop, refl, ap, ◌∙◌, append_assoc, sym}
use Rattle.std.proofs.lemmas.List.{take-append-drop}
use Rattle.std.specs.List.{flat_map}
use Rattle.byteorder.specs.Endian.{little_bytes}
use Rattle.machine.specs.Numbers.{number_bytes, bytes_of}

-- the bytes of each word, joined
pub bytes_joined : (words : List ℕ) → flat_map (λ w. little_bytes 4 w) words ≡ bytes_of words
unfolding number_bytes
bytes_joined [] = refl
bytes_joined (w ∷ words) = ap (λ (rest : List ℕ). little_bytes 4 w ++ rest) (bytes_joined words)

-- the bytes of words behind others
bytes_behind : (words more : List ℕ) → bytes_of (words ++ more) ≡ bytes_of words ++ bytes_of more
bytes_behind [] more = refl
bytes_behind (w ∷ words) more = ap (λ (rest : List ℕ). number_bytes 4 w ++ rest) (bytes_behind words more) ∙ sym (append_assoc (number_bytes 4 w) (bytes_of words) (bytes_of more))

-- with the bytes of the first n words, the bytes so far and those of the rest are still all
pub next_batch : (n : ℕ) (old new words whole : List ℕ) → old ++ bytes_of words ≡ whole → new ≡ old ++ bytes_of (take n words) → new ++ bytes_of (drop n words) ≡ whole
next_batch n old new words whole so_far next =
    ap (λ (bytes : List ℕ). bytes ++ bytes_of (drop n words)) next
    ∙ append_assoc old (bytes_of (take n words)) (bytes_of (drop n words))
    ∙ ap (λ (bytes : List ℕ). old ++ bytes) (sym (bytes_behind (take n words) (drop n words)) ∙ ap bytes_of (take-append-drop n words))
    ∙ so_far
