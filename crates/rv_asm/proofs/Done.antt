-- An assembled program can be written.
use Rattle.std.proofs.Common.{◌≡◌, ℕ, ◌+◌, ◌*◌, ◌<◌, ◌≤◌, ◌==◌, Bool, true, false, List, [], length, sym, ap, ◌∙◌, subst, arith}
use Rattle.std.specs.Prelude.{All}
use Rattle.std.proofs.lemmas.Bool.{eqb-true, eqb-false}
use Rattle.std.proofs.lemmas.List.{nil_from_length}
use Rattle.elf_types.specs.declared.file.Symbol.{Symbol}
use Rattle.tests.specs.Elf.Layout.{IsWritable}
use Rattle.rv_asm.specs.declared.program.Program.{Program}
use Rattle.rv_asm.specs.Lines.{newline, lines_of}
use Rattle.rv_asm.specs.Assembled.{code_of_lines, data_of, symbols_of, file_of_given, file_of_lines}
use Rattle.rv_asm.specs.Program.{IsTextProgram}
use Rattle.rv_asm.proofs.Room.{cost, cost_all}
use Rattle.rv_asm.proofs.Sound.{IsLabelSymbol, few_code, few_data, are_cheap, symbols_sound}
use Rattle.rv_asm.proofs.Writable.{writable}

symbols_are : (text : List ℕ) → All IsLabelSymbol (symbols_of (lines_of text) (length (lines_of text)))
unfolding symbols_of
symbols_are text = symbols_sound (lines_of text) (length (lines_of text))

symbols_room : (text : List ℕ) → cost (symbols_of (lines_of text) (length (lines_of text))) ≤ 9 * (length text + 1)
unfolding symbols_of lines_of
symbols_room text = cost_all text (λ b. b == newline) (are_cheap (lines_of text))

pub assembled_writable : (text : List ℕ) (p : Program) → length text ≤ 67108864 → IsTextProgram (lines_of text) p → IsWritable (file_of_given p.code.items p.values.items p.symbols.items)
assembled_writable text p h is =
    let lines = lines_of text in
    let code = ap length is.code in
    let values = ap length is.words in
    let room = ap cost is.symbols in
    writable p.code.items p.values.items p.symbols.items (omega (arith, few_code lines, code)) (omega (arith, few_data lines, values)) (subst (All IsLabelSymbol) (sym is.symbols) (symbols_are text)) (omega (arith, symbols_room text, room))

pub file_same : (text : List ℕ) (p : Program) → IsTextProgram (lines_of text) p → file_of_given p.code.items p.values.items p.symbols.items ≡ file_of_lines (lines_of text)
unfolding file_of_lines
file_same text p is =
    let lines = lines_of text in
    let n = length lines in
    ap (λ x. file_of_given x p.values.items p.symbols.items) is.code ∙ (ap (λ x. file_of_given (code_of_lines lines n) x p.symbols.items) is.words ∙ ap (λ (x : List Symbol). file_of_given (code_of_lines lines n) (data_of lines n) x) is.symbols)

-- of a list and its number: the number is 0
pub none_left : (xs ys : List ℕ) (n : ℕ) (b : Bool) → xs ≡ ys → length xs ≡ n → b ≡ (n == 0) → b ≡ true → ys ≡ []
none_left xs ys n b e size test is =
    let zero_left = eqb-true n 0 (sym test ∙ is) in
    let same = ap length e in
    nil_from_length ys (omega (arith, zero_left, size, same))

-- the number is not 0
pub some_left : (xs ys : List ℕ) (n : ℕ) (b : Bool) → xs ≡ ys → length xs ≡ n → b ≡ (n == 0) → b ≡ false → 0 < length ys
some_left xs ys n b e size test is =
    let apart = eqb-false n 0 (sym test ∙ is) in
    let same = ap length e in
    omega (arith, apart, size, same)
