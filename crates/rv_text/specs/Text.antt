-- The text of a word: the name of its instruction and the operands.
use Rattle.std.specs.Prelude.{ℕ, ◌++◌, List, codes, ℤ, Option, Some, None}
use Rattle.std.specs.Fmt.{decimal, signed_decimal}
use Rattle.rv_isa.specs.Field.{bits}
use Rattle.machine.specs.Table.{decode_of, Ins}
use Rattle.texts.specs.Printed.{hex_digits, word_text}
use Rattle.rv_text.specs.declared.forms.Form.{Form}
use Rattle.rv_text.specs.declared.forms.Form.TheVariants.{Registers, Immediate, Load, Store, Branch, Upper, Jump, Bare}
use Rattle.rv_text.specs.Names.{name_of}
use Rattle.rv_text.specs.Forms.{text_form}

abbrev pub register_text : ℕ → List ℕ
register_text r = codes "x" ++ decimal r

-- two operands
abbrev pub pair_text : List ℕ → List ℕ → List ℕ
pair_text a b = a ++ (codes ", " ++ b)

-- a number of bytes and a register: an address
abbrev pub place_text : ℤ → ℕ → List ℕ
place_text offset r = signed_decimal offset ++ (codes "(" ++ (register_text r ++ codes ")"))

-- `0x` and 5 digits
abbrev pub upper_text : ℕ → List ℕ
upper_text n = codes "0x" ++ hex_digits 5 n

-- the operands of an instruction and its word, behind a space
unfoldable pub operands_text : Form → Ins → ℕ → List ℕ
operands_text Registers i w = codes " " ++ pair_text (register_text i.rd) (pair_text (register_text i.rs1) (register_text i.rs2))
operands_text Immediate i w = codes " " ++ pair_text (register_text i.rd) (pair_text (register_text i.rs1) (signed_decimal i.imm))
operands_text Load i w = codes " " ++ pair_text (register_text i.rd) (place_text i.imm i.rs1)
operands_text Store i w = codes " " ++ pair_text (register_text i.rs2) (place_text i.imm i.rs1)
operands_text Branch i w = codes " " ++ pair_text (register_text i.rs1) (pair_text (register_text i.rs2) (signed_decimal i.imm))
operands_text Upper i w = codes " " ++ pair_text (register_text i.rd) (upper_text (bits w 12 20))
operands_text Jump i w = codes " " ++ pair_text (register_text i.rd) (signed_decimal i.imm)
operands_text Bare i w = codes ""

-- of a word and its instruction, if it has one
abbrev pub text_with : ℕ → Option Ins → List ℕ
text_with w None = codes "word " ++ word_text w
text_with w (Some i) = name_of i.kind ++ operands_text (text_form i.kind) i w

unfoldable pub text_of : ℕ → List ℕ
text_of w = text_with w (decode_of w)
