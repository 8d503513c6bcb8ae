-- Words in bytes of a file.
use Rattle.std.specs.Prelude.{ℕ, ◌+◌, ◌*◌, List, slice_index}

-- the word from a byte on, where zeros follow the bytes
abbrev pub word_in : List ℕ → ℕ → ℕ
word_in bs k = slice_index bs k + 256 * (slice_index bs (k + 1) + 256 * (slice_index bs (k + 2) + 256 * slice_index bs (k + 3)))
