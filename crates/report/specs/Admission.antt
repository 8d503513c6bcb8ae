-- What is printed if a test is not admitted. Each line ends with a newline.
use Rattle.std.specs.Prelude.{ℕ, List, ◌++◌, codes}
use Rattle.tests.specs.declared.admit.AdmitError.{AdmitError}
use Rattle.tests.specs.declared.admit.AdmitError.TheVariants as error
use Rattle.machine.specs.declared.limits.Limit.TheVariants as limit
use Rattle.texts.specs.Printed.{hex_text, word_text}
use Rattle.qed_words.specs.Text.Errors.{numbered, limit_line, high_register_line}

-- a line with one address in it
abbrev pub addressed : List ℕ → ℕ → List ℕ
addressed front a = front ++ (hex_text a ++ codes "\n")

-- no word of new code stands at an address
abbrev pub no_word_line : ℕ → List ℕ
no_word_line a = addressed (codes "refused N1: address ") a

-- an image ends behind its half
abbrev pub outside_line : ℕ → ℕ → List ℕ
outside_line high end = codes "refused A11: image end " ++ (hex_text high ++ (codes ", half end " ++ (hex_text end ++ codes "\n")))

-- want of memory prints nothing
abbrev pub admit_line : AdmitError → List ℕ
admit_line error.Compressed = codes "refused A1: compressed\n"
admit_line error.Dynamic = codes "refused A2: dynamic\n"
admit_line (error.WritableCode i) = numbered (codes "refused A3: segment ") i
admit_line (error.NoCode entry) = addressed (codes "refused A4: entry ") entry
admit_line (error.CodeShape i) = numbered (codes "refused A5: part ") i
admit_line (error.UnknownWord a word) = codes "refused A6: address " ++ (hex_text a ++ (codes ", word " ++ (word_text word ++ codes "\n")))
admit_line (error.RegisterHalf a register) = high_register_line a register
admit_line (error.Breakpoint a) = addressed (codes "refused A8: address ") a
admit_line (error.FarConstant a) = addressed (codes "refused A9: address ") a
admit_line (error.DataMixed i) = numbered (codes "refused A10: segment ") i
admit_line (error.OutsideHalf high end) = outside_line high end
admit_line (error.ImageSpan n) = limit_line limit.ImageSpan n
admit_line (error.CodeWords n) = limit_line limit.CodeWords n
admit_line (error.TopAddress n) = limit_line limit.TopAddress n
admit_line error.Memory = codes ""
