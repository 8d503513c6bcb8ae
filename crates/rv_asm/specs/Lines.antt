-- Lines of assembler text and their parts. A text is its bytes.
use Rattle.std.specs.Prelude.{ℕ, ◌+◌, ◌-◌, ◌==◌, ◌&&◌, ◌||◌, Bool, false, if◌then◌else◌, Option, Some, None, option_map, List, [], ◌∷◌, length, take, drop}
use Rattle.std.specs.List.{slice_split, prefix_len, suffix_len, list_all}
use Rattle.std.specs.Char.{is_ascii_alphabetic, is_ascii_alphanumeric}
use Rattle.texts.specs.Read.{colon, parted}

-- ---- bytes
abbrev pub newline : ℕ
newline = 10

-- a space or a tab
abbrev pub is_blank : ℕ → Bool
is_blank c = c == 32 || c == 9

-- `#`
abbrev pub hash : ℕ
hash = 35

-- `,`
abbrev pub comma : ℕ
comma = 44

-- `(`
abbrev pub opening : ℕ
opening = 40

-- `)`
abbrev pub closing : ℕ
closing = 41

-- ---- blanks
unfoldable pub trim_start : List ℕ → List ℕ
trim_start text = drop (prefix_len is_blank text) text

unfoldable pub trim_end : List ℕ → List ℕ
trim_end text = take (length text - suffix_len is_blank text) text

-- without the blanks around it
unfoldable pub trim : List ℕ → List ℕ
trim text = trim_end (trim_start text)

-- ---- lines
-- a line ends at a newline, or at the text's end
unfoldable pub lines_of : List ℕ → List (List ℕ)
lines_of text = slice_split (λ b. b == newline) text

-- the text before the first `#`
abbrev pub front_of : List ℕ → Option (List ℕ × List ℕ) → List ℕ
front_of text None = text
front_of text (Some parts) = parts.0

-- what a line says, without its comment and the blanks around it
unfoldable pub statement : List ℕ → List ℕ
statement line = trim (front_of line (parted hash line))

-- where the first word ends: before the first blank or behind the first `:`, whichever comes first
abbrev pub word_end : List ℕ → ℕ
word_end [] = 0
word_end (c ∷ cs) = if is_blank c then 0 else if c == colon then 1 else 1 + word_end cs

-- the first word of a line
unfoldable pub leading_word : List ℕ → List ℕ
leading_word line = take (word_end (statement line)) (statement line)

-- what follows it
unfoldable pub rest_in : List ℕ → List ℕ
rest_in line = trim (drop (word_end (statement line)) (statement line))

-- ---- labels
-- a letter or `_`
abbrev pub begins_name : ℕ → Bool
begins_name c = is_ascii_alphabetic c || c == 95

-- a letter, a digit or `_`
abbrev pub continues_name : ℕ → Bool
continues_name c = is_ascii_alphanumeric c || c == 95

unfoldable pub is_name : List ℕ → Bool
is_name [] = false
is_name (c ∷ cs) = begins_name c && list_all continues_name cs

abbrev pub name_before : Option (List ℕ × List ℕ) → Option (List ℕ)
name_before None = None
name_before (Some parts) = if is_name parts.0 && length parts.1 == 0 then Some parts.0 else None

-- the name of the label that a first word defines: `NAME:`
unfoldable pub label_in : List ℕ → Option (List ℕ)
label_in word = name_before (parted colon word)

-- ---- parts between commas
-- the parts before and behind the first comma
abbrev pub trimmed_halves : List ℕ × List ℕ → List ℕ × List ℕ
trimmed_halves parts = (trim parts.0, trim parts.1)

unfoldable pub pair_in : List ℕ → Option (List ℕ × List ℕ)
pair_in text = option_map trimmed_halves (parted comma text)

abbrev pub triple_with : List ℕ → Option (List ℕ × List ℕ) → Option (List ℕ × List ℕ × List ℕ)
triple_with first None = None
triple_with first (Some parts) = Some (first, parts.0, parts.1)

abbrev pub triple_from : Option (List ℕ × List ℕ) → Option (List ℕ × List ℕ × List ℕ)
triple_from None = None
triple_from (Some parts) = triple_with (trim parts.0) (pair_in parts.1)

-- three parts, around the first two commas
unfoldable pub triple_in : List ℕ → Option (List ℕ × List ℕ × List ℕ)
triple_in text = triple_from (parted comma text)

abbrev pub bracketed_with : List ℕ → Option (List ℕ × List ℕ) → Option (List ℕ × List ℕ)
bracketed_with front None = None
bracketed_with front (Some parts) = if length parts.1 == 0 then Some (front, trim parts.0) else None

abbrev pub bracketed_from : Option (List ℕ × List ℕ) → Option (List ℕ × List ℕ)
bracketed_from None = None
bracketed_from (Some parts) = bracketed_with (trim parts.0) (parted closing parts.1)

-- the part before `(`, and that between it and a `)` at the end
unfoldable pub bracketed_in : List ℕ → Option (List ℕ × List ℕ)
bracketed_in text = bracketed_from (parted opening text)
