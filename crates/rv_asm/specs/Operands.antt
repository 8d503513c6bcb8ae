-- The operands of instructions, and the word of an instruction that is written.
use Rattle.std.specs.Prelude.{ℕ, ◌*◌, ◌^◌, ◌==◌, ◌&&◌, nat_lt, if◌then◌else◌, Option, Some, None, option_map, Result, Ok, Err, List, [], ◌∷◌, length, codes}
use Rattle.std.specs.Prelude.{ℤ, pos, negsuc, ◌-ℤ◌, neg_ℤ}
use Rattle.std.specs.Option.{ok_or}
use Rattle.std.specs.Str.{bytes_eq}
use Rattle.machine.specs.Table.{ins, signed, encode_of, Kind}
use Rattle.texts.specs.Read.{dash, digit_zero, letter_x, digits, parsed_number, register}
use Rattle.rv_text.specs.declared.forms.Form.{Form}
use Rattle.rv_text.specs.declared.forms.Form.TheVariants.{Registers, Immediate, Load, Store, Branch, Upper, Jump, Bare}
use Rattle.rv_text.specs.Forms.{text_form}
use Rattle.rv_asm.specs.declared.error.Fault.{Fault}
use Rattle.rv_asm.specs.declared.error.Fault.TheVariants.{IllegalOperands, OutOfRange, UndefinedLabel}
use Rattle.rv_asm.specs.declared.labels.Label.{Label}
use Rattle.rv_asm.specs.declared.operands.Operands.{Operands}
use Rattle.rv_asm.specs.Lines.{is_name, pair_in, triple_in, bracketed_in}

-- ---- registers and numbers
-- `x` and a number from 0 to 31, in decimal without leading zeros
unfoldable pub register_in : List ℕ → Option ℕ
register_in [] = None
register_in (c ∷ cs) = if c == letter_x then (if bytes_eq cs (codes "0") then Some 0 else register cs) else None

-- a number, with `-` in front or without
unfoldable pub immediate_in : List ℕ → Option ℤ
immediate_in [] = None
immediate_in (c ∷ cs) = if c == dash then option_map (λ n. neg_ℤ (pos n)) (parsed_number cs) else option_map pos (parsed_number (c ∷ cs))

-- `0x` and 8 hexadecimal digits
unfoldable pub raw_word_in : List ℕ → Option ℕ
raw_word_in (a ∷ b ∷ cs) = if a == digit_zero && (b == letter_x && length cs == 8) then digits 16 8 cs else None
raw_word_in text = None

-- ---- operands without a label
abbrev pub operands_with : Option ℕ → Option ℕ → Option ℕ → Option ℤ → Option Operands
operands_with (Some d) (Some a) (Some b) (Some i) = Some (record { rd = d; rs1 = a; rs2 = b; imm = i })
operands_with _ _ _ _ = None

abbrev pub registers_from : Option (List ℕ × List ℕ × List ℕ) → Option Operands
registers_from None = None
registers_from (Some p) = operands_with (register_in p.0) (register_in p.1) (register_in p.2) (Some (pos 0))

abbrev pub immediate_from : Option (List ℕ × List ℕ × List ℕ) → Option Operands
immediate_from None = None
immediate_from (Some p) = operands_with (register_in p.0) (register_in p.1) (Some 0) (immediate_in p.2)

abbrev pub load_with : Option ℕ → Option (List ℕ × List ℕ) → Option Operands
load_with d None = None
load_with d (Some p) = operands_with d (register_in p.1) (Some 0) (immediate_in p.0)

abbrev pub load_from : Option (List ℕ × List ℕ) → Option Operands
load_from None = None
load_from (Some p) = load_with (register_in p.0) (bracketed_in p.1)

abbrev pub store_with : Option ℕ → Option (List ℕ × List ℕ) → Option Operands
store_with b None = None
store_with b (Some p) = operands_with (Some 0) (register_in p.1) b (immediate_in p.0)

abbrev pub store_from : Option (List ℕ × List ℕ) → Option Operands
store_from None = None
store_from (Some p) = store_with (register_in p.0) (bracketed_in p.1)

abbrev pub upper_from : Option (List ℕ × List ℕ) → Option Operands
upper_from None = None
upper_from (Some p) = operands_with (register_in p.0) (Some 0) (Some 0) (immediate_in p.1)

-- no operands
abbrev pub none_in : List ℕ → Option Operands
none_in text = if length text == 0 then operands_with (Some 0) (Some 0) (Some 0) (Some (pos 0)) else None

-- ---- branches and jumps
-- how far a label is from an address
abbrev pub distance : ℕ → Option Label → Result ℤ Fault
distance at None = Err UndefinedLabel
distance at (Some label) = Ok (pos label.address -ℤ pos at)

abbrev pub target_with : (List ℕ → Option Label) → ℕ → List ℕ → Option ℤ → Result ℤ Fault
target_with labels at text (Some imm) = Ok imm
target_with labels at text None = if is_name text then distance at (labels text) else Err IllegalOperands

-- an immediate, or the distance to a label
unfoldable pub target_in : (List ℕ → Option Label) → ℕ → List ℕ → Result ℤ Fault
target_in labels at text = target_with labels at text (immediate_in text)

-- the registers come first
abbrev pub with_target : Option Operands → Result ℤ Fault → Result Operands Fault
with_target None target = Err IllegalOperands
with_target (Some o) (Err fault) = Err fault
with_target (Some o) (Ok imm) = Ok (record { rd = o.rd; rs1 = o.rs1; rs2 = o.rs2; imm = imm })

abbrev pub branch_from : (List ℕ → Option Label) → ℕ → Option (List ℕ × List ℕ × List ℕ) → Result Operands Fault
branch_from labels at None = Err IllegalOperands
branch_from labels at (Some p) =
    with_target (operands_with (Some 0) (register_in p.0) (register_in p.1) (Some (pos 0))) (target_in labels at p.2)

abbrev pub jump_from : (List ℕ → Option Label) → ℕ → Option (List ℕ × List ℕ) → Result Operands Fault
jump_from labels at None = Err IllegalOperands
jump_from labels at (Some p) = with_target (operands_with (register_in p.0) (Some 0) (Some 0) (Some (pos 0))) (target_in labels at p.1)

-- ---- instructions
-- the operands of an instruction at an address, by the form in which they are written
unfoldable pub operands_in : (List ℕ → Option Label) → ℕ → Form → List ℕ → Result Operands Fault
operands_in labels at Registers text = ok_or (registers_from (triple_in text)) IllegalOperands
operands_in labels at Immediate text = ok_or (immediate_from (triple_in text)) IllegalOperands
operands_in labels at Load text = ok_or (load_from (pair_in text)) IllegalOperands
operands_in labels at Store text = ok_or (store_from (pair_in text)) IllegalOperands
operands_in labels at Branch text = branch_from labels at (triple_in text)
operands_in labels at Upper text = ok_or (upper_from (pair_in text)) IllegalOperands
operands_in labels at Jump text = jump_from labels at (pair_in text)
operands_in labels at Bare text = ok_or (none_in text) IllegalOperands

-- the immediate that is encoded: where the upper 20 bits are written, these from 0 to 1,048,575
abbrev pub upper_imm : ℤ → Option ℤ
upper_imm (pos n) = if nat_lt n (2 ^ 20) then Some (signed 32 (n * 2 ^ 12)) else None
upper_imm (negsuc n) = None

abbrev pub imm_in : Form → ℤ → Option ℤ
imm_in Upper imm = upper_imm imm
imm_in _ imm = Some imm

abbrev pub encoded_with : Kind → Operands → Option ℤ → Option ℕ
encoded_with kind o None = None
encoded_with kind o (Some imm) = encode_of (ins kind o.rd o.rs1 o.rs2 imm)

-- the word of an instruction with these operands, None where the immediate is out of its range or off its grain
unfoldable pub encoded : Kind → Operands → Option ℕ
encoded kind o = encoded_with kind o (imm_in (text_form kind) o.imm)

abbrev pub word_with : Kind → Result Operands Fault → Result ℕ Fault
word_with kind (Err fault) = Err fault
word_with kind (Ok o) = ok_or (encoded kind o) OutOfRange

-- the word of an instruction at an address
unfoldable pub assembled_word : (List ℕ → Option Label) → ℕ → Kind → List ℕ → Result ℕ Fault
assembled_word labels at kind text = word_with kind (operands_in labels at (text_form kind) text)
