-- Names as they are printed: no control character reaches a terminal, and no name begins a line.
use Rattle.std.specs.Prelude.{ℕ, zero, suc, nat_le, ◌||◌, ◌&&◌, ◌==◌, Bool, if◌then◌else◌, Option, Some, None, List, [], ◌∷◌, ◌++◌, take, drop, codes}
use Rattle.std.specs.Prelude.{encode_utf8}
use Rattle.bstr.specs.Utf8.{decoded}
use Rattle.texts.specs.Printed.{hex_digits}

abbrev pub is_from_to : ℕ → ℕ → ℕ → Bool
is_from_to first last c = nat_le first c && nat_le c last

-- a control character (category Cc), a line or paragraph separator (Zl, Zp), or one of Bidi_Control (PropList.txt)
unfoldable pub is_hidden : ℕ → Bool
is_hidden c =
    is_from_to 0 0x1F c || (is_from_to 0x7F 0x9F c || (c == 0x61C
    || (is_from_to 0x200E 0x200F c || (is_from_to 0x2028 0x202E c || is_from_to 0x2066 0x2069 c))))

-- each byte as `\x` and two digits
abbrev pub escaped : List ℕ → List ℕ
escaped [] = []
escaped (b ∷ bs) = codes "\\x" ++ (hex_digits 2 b ++ escaped bs)

-- a character that may be printed, or else its bytes
abbrev pub character_text : Option ℕ → List ℕ → List ℕ
character_text None bytes = escaped bytes
character_text (Some c) bytes = if is_hidden c then escaped bytes else encode_utf8 c

-- the first n characters of a name, sized by `decoded` (The Unicode Standard, Table 3-7), and `...` if it has more
abbrev pub printable : ℕ → List ℕ → List ℕ
printable n [] = []
printable zero (b ∷ bs) = codes "..."
printable (suc n) (b ∷ bs) =
    let front = decoded (b ∷ bs) in
    character_text front.char (take front.size (b ∷ bs)) ++ printable n (drop front.size (b ∷ bs))
