-- The words of new code with their roles: a line for each word, as in a listing, with its role instead of the word.
use Rattle.std.specs.Prelude.{ℕ, ◌+◌, ◌-◌, ◌/◌, ◌==◌, ◌&&◌, ◌||◌, nat_lt, nat_le, not, Bool, false, if◌then◌else◌, Option, Some, None, List, [], ◌∷◌, ◌++◌}
use Rattle.std.specs.Prelude.{codes, take, drop}
use Rattle.std.specs.Fmt.{decimal}
use Rattle.rv_isa.specs.Operation.{pair}
use Rattle.elf_types.specs.declared.file.Symbol.{Symbol}
use Rattle.elf_types.specs.Symbol.{is_code_symbol}
use Rattle.qed_model.specs.declared.role.Role.{Role}
use Rattle.qed_model.specs.declared.role.Role.TheVariants.{Start, Entry, Original, Mirror, Guard, Compare, Visit, Leave, LeaveGuard, Sweep, End, Stub, Tick}
use Rattle.qed_model.specs.declared.role.Role.TheVariants.{Check, CheckCompare, CheckVisit, LookUp, Sign}
use Rattle.qed_model.specs.declared.role.RoleRow.{RoleRow}
use Rattle.listing.specs.declared.found.Found.{Found}
use Rattle.listing.specs.declared.found.Found.TheVariants.{Differ, Signature, Ways, Caller, LookUps, Word}
use Rattle.rv_text.specs.Text.{text_of}
use Rattle.texts.specs.Printed.{hex_digits, hex_text}
use Rattle.texts.specs.Names.{printable}
use Rattle.texts.specs.declared.names.TheConstants.{MOST_OF_NAME}
use Rattle.std.specs.Str.{is_utf8}

abbrev pub role_text : Role → List ℕ
role_text Start = codes "start"
role_text (Entry at) = codes "entry " ++ hex_text at
role_text (Original at) = codes "original " ++ hex_text at
role_text (Mirror at) = codes "mirror " ++ hex_text at
role_text (Guard r at) = codes "guard x" ++ (decimal r ++ (codes " " ++ hex_text at))
role_text (Compare r first last) = codes "compare x" ++ (decimal r ++ (codes " " ++ (hex_text first ++ (codes ".." ++ hex_text last))))
role_text (Visit first last) = codes "visit " ++ (hex_text first ++ (codes ".." ++ hex_text last))
role_text (Leave at) = codes "leave " ++ hex_text at
role_text (LeaveGuard r at) = codes "leave guard x" ++ (decimal r ++ (codes " " ++ hex_text at))
role_text Sweep = codes "sweep"
role_text (End r) = codes "compare x" ++ (decimal r ++ codes " end")
role_text Stub = codes "stub"
role_text (Tick at) = codes "tick " ++ hex_text at
role_text Check = codes "check"
role_text (CheckCompare r) = codes "compare x" ++ (decimal r ++ codes " check")
role_text CheckVisit = codes "visit check"
role_text LookUp = codes "look-up"
role_text (Sign at) = codes "signature " ++ hex_text at

-- the line of a word at an address
unfoldable pub role_line : Role → ℕ → ℕ → List ℕ
role_line role a w = text_of w ++ (codes " # " ++ (hex_text a ++ (codes " " ++ (role_text role ++ codes "\n"))))

-- words of one role, from an address on
abbrev pub words_lines : Role → List ℕ → ℕ → List ℕ
words_lines role [] a = []
words_lines role (w ∷ ws) a = role_line role a w ++ words_lines role ws (a + 4)

-- words in rows of one role each, from an address on
abbrev pub role_lines : List RoleRow → List ℕ → ℕ → List ℕ
role_lines [] words a = []
role_lines (row ∷ rows) words a = words_lines row.role (take (row.bytes / 4) words) a ++ role_lines rows (drop (row.bytes / 4) words) (a + row.bytes)

-- how many bytes rows have
abbrev pub rows_bytes : List RoleRow → ℕ
rows_bytes [] = 0
rows_bytes (row ∷ rows) = row.bytes + rows_bytes rows

-- ---- one word
-- the role of the byte at an offset into rows
abbrev pub role_at : List RoleRow → ℕ → Option Role
role_at [] offset = None
role_at (row ∷ rows) offset = if nat_lt offset row.bytes then Some row.role else role_at rows (offset - row.bytes)

-- the input address that a role names; of a piece its first
abbrev pub input_address : Role → Option ℕ
input_address (Entry at) = Some at
input_address (Original at) = Some at
input_address (Mirror at) = Some at
input_address (Guard r at) = Some at
input_address (Compare r first last) = Some first
input_address (Visit first last) = Some first
input_address (Leave at) = Some at
input_address (LeaveGuard r at) = Some at
input_address (Tick at) = Some at
input_address (Sign at) = Some at
input_address _ = None

-- a useful name: not empty, and not of a mapping symbol, which begins with `$` (RISC-V ELF psABI, mapping symbols)
abbrev pub is_telling : List ℕ → Bool
is_telling [] = false
is_telling (c ∷ cs) = not (c == 36)

-- a symbol names code, has a useful name, and stands at an address or before it
abbrev pub is_before : ℕ → Symbol → Bool
is_before a s = (is_code_symbol s && nat_le s.value a) && is_telling s.name

-- a symbol is nearer than another, or at the same address and only the other's name is not UTF-8
abbrev pub is_nearer : Symbol → Symbol → Bool
is_nearer t s = nat_lt t.value s.value || (t.value == s.value && (not (is_utf8 t.name) && is_utf8 s.name))

-- the nearer of the nearest so far and another symbol; the first if both are
abbrev pub nearer : ℕ → Option Symbol → Symbol → Option Symbol
nearer a None s = if is_before a s then Some s else None
nearer a (Some t) s = if is_before a s && is_nearer t s then Some s else Some t

-- the nearest of symbols, or `found` if none is nearer
abbrev pub nearest : ℕ → Option Symbol → List Symbol → Option Symbol
nearest a found [] = found
nearest a found (s ∷ ss) = nearest a (nearer a found s) ss

abbrev pub symbol_line : ℕ → Option Symbol → List ℕ
symbol_line a None = []
symbol_line a (Some s) = codes "symbol " ++ (printable MOST_OF_NAME s.name ++ (codes "+0x" ++ (hex_digits 1 (a - s.value) ++ codes "\n")))

-- the symbol at the input address of a role or before it, if there is one
abbrev pub symbol_text : Option ℕ → List Symbol → List ℕ
symbol_text None symbols = []
symbol_text (Some a) symbols = symbol_line a (nearest a None symbols)

-- what a check of a role has found if it fires
abbrev pub pair_found : ℕ → Found
pair_found r = Differ r (pair r)

abbrev pub found_by : Role → Option Found
found_by (Entry at) = Some (Signature at)
found_by (Guard r at) = Some (pair_found r)
found_by (Compare r first last) = Some (pair_found r)
found_by (Visit first last) = Some Word
found_by (Leave at) = Some Ways
found_by (LeaveGuard r at) = Some (pair_found r)
found_by Sweep = Some Word
found_by (End r) = Some (pair_found r)
found_by Check = Some Caller
found_by (CheckCompare r) = Some (pair_found r)
found_by CheckVisit = Some Word
found_by LookUp = Some LookUps
found_by (Sign at) = Some (Signature at)
found_by _ = None

abbrev pub found_text : Found → List ℕ
found_text (Differ r s) = codes "x" ++ (decimal r ++ (codes " and x" ++ (decimal s ++ codes " differ")))
found_text (Signature at) = codes "the signature is not that of " ++ hex_text at
found_text Ways = codes "the originals and the pairs lead to different places"
found_text Caller = codes "the check was called from another block than that of the signature"
found_text LookUps = codes "two look-ups of the entry of the signature differ"
found_text Word = codes "a data word and its duplicate differ, its address is in x15"

abbrev pub found_line : Option Found → List ℕ
found_line None = []
found_line (Some found) = codes "fired: " ++ (found_text found ++ codes "\n")

-- EBREAK: a check that fires runs it (RISC-V unprivileged ISA, 2.8)
abbrev pub ebreak_word : ℕ
ebreak_word = 1048691

abbrev pub fired_text : Role → ℕ → List ℕ
fired_text role w = if w == ebreak_word then found_line (found_by role) else []

-- the line of a word, with its symbol, and for a check with what differed
abbrev pub word_line : Role → ℕ → ℕ → List Symbol → List ℕ
word_line role a w symbols = role_line role a w ++ (symbol_text (input_address role) symbols ++ fired_text role w)
