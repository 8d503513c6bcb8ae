-- Segments as lists of cells: those that take no room add nothing, and each begins with its bytes and ends with zeros.
use Rattle.std.proofs.Common.{◌≡◌, ℕ, ◌+◌, ◌-◌, ◌≤◌, List, [], ◌∷◌, ◌++◌, length, refl, sym, ap, ◌∙◌, arith, length-append}
use Rattle.std.proofs.lemmas.List.{append_assoc, length-replicate}
use Rattle.std.specs.Prelude.{replicate}
use Rattle.machine.specs.Memory.{cells_from}
use Rattle.machine.specs.Program.{LoadSegment, cells_of}

-- ---- one segment
-- its bytes in memory: those of the file, then zeros up to its size
abbrev pub image : LoadSegment → List ℕ
image s = s.bytes ++ replicate (s.size - length s.bytes) 0

-- they are as many as its size, where the file has no more
pub length-image : (s : LoadSegment) → length s.bytes ≤ s.size → length (image s) ≡ s.size
length-image s h = length-append s.bytes (replicate (s.size - length s.bytes) 0) ∙ ap (λ n. length s.bytes + n) (length-replicate (s.size - length s.bytes) 0) ∙ omega (arith, h)

-- ---- several segments
-- one list behind the other
pub cells_of-append : (ss ts : List LoadSegment) → cells_of (ss ++ ts) ≡ cells_of ss ++ cells_of ts
cells_of-append [] ts = refl
cells_of-append (s ∷ ss) ts = ap (λ cs. cells_from s.address s.flags (image s) ++ cs) (cells_of-append ss ts) ∙ sym (append_assoc (cells_from s.address s.flags (image s)) (cells_of ss) (cells_of ts))

-- no file has more bytes of a segment than its size
abbrev pub AllSized : List LoadSegment → Type 0
AllSized [] = Unit {0}
AllSized (s ∷ ss) = (length s.bytes ≤ s.size) × AllSized ss
