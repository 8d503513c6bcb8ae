-- What is printed about a text that is assembled. Each line ends with a newline.
use Rattle.std.specs.Prelude.{ℕ, List, ◌++◌, codes}
use Rattle.std.specs.Fmt.{decimal}
use Rattle.rv_asm.specs.declared.error.AsmError.{AsmError}
use Rattle.rv_asm.specs.declared.error.AsmError.TheVariants as error
use Rattle.rv_asm.specs.declared.error.Fault.{Fault}
use Rattle.rv_asm.specs.declared.error.Fault.TheVariants.{Unrecognized, IllegalOperands, OutOfRange, UndefinedLabel, RedefinedLabel, SectionFull}

-- the number of a fault's rule
abbrev pub fault_number : Fault → ℕ
fault_number Unrecognized = 1
fault_number IllegalOperands = 2
fault_number OutOfRange = 3
fault_number UndefinedLabel = 4
fault_number RedefinedLabel = 5
fault_number SectionFull = 6

-- the first fault on the first faulty line
abbrev pub fault_line : Fault → ℕ → List ℕ
fault_line fault n = codes "refused S" ++ (decimal (fault_number fault) ++ (codes ": line " ++ (decimal n ++ codes "\n")))

-- want of memory prints nothing
abbrev pub asm_error_line : AsmError → List ℕ
asm_error_line (error.Line fault n) = fault_line fault n
asm_error_line error.NoCode = codes "refused S7: no instruction\n"
asm_error_line error.Memory = codes ""

-- how many words of code and of data
abbrev pub assembly_line : ℕ → ℕ → List ℕ
assembly_line code words = codes "code " ++ (decimal code ++ (codes " words, data " ++ (decimal words ++ codes " words\n")))
