-- What is printed if the words of the command line ask for nothing. Each line ends with a newline.
use Rattle.std.specs.Prelude.{ℕ, List, ◌++◌, codes}
use Rattle.qed_words.specs.declared.orders.Key.{Key}
use Rattle.qed_words.specs.declared.orders.Reason.{Reason}
use Rattle.qed_words.specs.declared.orders.Reason.TheVariants as reason
use Rattle.qed_words.specs.Text.Errors.{numbered}
use Rattle.qed_words.specs.Tables.{option_of}

-- a line with the name of an option, without its dashes
abbrev pub keyed : List ℕ → Key → List ℕ
keyed front key = front ++ ((option_of key).name ++ codes "\n")

abbrev pub reason_line : Reason → List ℕ
reason_line reason.NoCommand = codes "usage: no command\n"
reason_line reason.UnknownCommand = codes "usage: unknown command\n"
reason_line (reason.EmptyWord i) = numbered (codes "usage: empty word ") i
reason_line (reason.UnknownOption i) = numbered (codes "usage: unknown option at ") i
reason_line (reason.Repeated i) = numbered (codes "usage: repeated option at ") i
reason_line (reason.MissingValue i) = numbered (codes "usage: missing value at ") i
reason_line (reason.ExtraWord i) = numbered (codes "usage: extra word ") i
reason_line reason.MissingFile = codes "usage: missing file\n"
reason_line (reason.MissingOption key) = keyed (codes "usage: missing option ") key
reason_line (reason.BadNumber key) = keyed (codes "usage: bad number ") key
reason_line (reason.BadShape key) = keyed (codes "usage: bad shape ") key
reason_line (reason.OutOfRange key) = keyed (codes "usage: out of range ") key
reason_line reason.Split = codes "usage: split\n"
reason_line reason.AllEntries = codes "usage: all entries\n"
reason_line reason.SlipAndReached = codes "usage: slip and reached\n"
reason_line (reason.FewSteps steps) = numbered (codes "usage: few steps ") steps
