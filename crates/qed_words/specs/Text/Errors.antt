-- What is printed if a file is refused or exceeds a limit. Each line ends with a newline.
use Rattle.std.specs.Prelude.{ℕ, List, ◌++◌, codes, if◌then◌else◌}
use Rattle.std.specs.Fmt.{decimal}
use Rattle.machine.specs.declared.limits.Limit.{Limit}
use Rattle.machine.specs.declared.limits.Limit.TheVariants as limit
use Rattle.machine.specs.Limits.{limit_of, limit_number, is_counted}
use Rattle.texts.specs.Printed.{hex_text}
use Rattle.elf_types.specs.declared.error.ElfError.{ElfError}
use Rattle.elf_types.specs.declared.error.ElfError.TheVariants as error
use Rattle.elf_types.specs.declared.error.Part.{Part}
use Rattle.elf_types.specs.declared.error.Part.TheVariants as part

-- a line with one number in it
abbrev pub numbered : List ℕ → ℕ → List ℕ
numbered front n = front ++ (decimal n ++ codes "\n")

-- a limit by its name and number, the counted number if it is printed, and the greatest allowed
abbrev pub limit_line : Limit → ℕ → List ℕ
limit_line l n =
    if is_counted l
    then codes "limit L" ++ (decimal (limit_number l) ++ (codes ": " ++ (decimal n ++ (codes " over " ++ (decimal (limit_of l) ++ codes "\n")))))
    else codes "limit L" ++ (decimal (limit_number l) ++ (codes ": over " ++ (decimal (limit_of l) ++ codes "\n")))

abbrev pub part_line : Part → List ℕ
part_line part.Header = codes "refused E8: header\n"
part_line part.ProgramTable = codes "refused E8: program table\n"
part_line part.SectionTable = codes "refused E8: section table\n"
part_line (part.Segment i) = numbered (codes "refused E8: segment ") i
part_line (part.Section i) = numbered (codes "refused E8: section ") i

-- want of memory prints nothing
abbrev pub error_line : ElfError → List ℕ
error_line error.Magic = codes "refused E1: magic\n"
error_line (error.Class n) = numbered (codes "refused E2: class ") n
error_line (error.Encoding n) = numbered (codes "refused E3: encoding ") n
error_line (error.Version n) = numbered (codes "refused E4: version ") n
error_line (error.FileType n) = numbered (codes "refused E5: type ") n
error_line (error.Machine n) = numbered (codes "refused E6: machine ") n
error_line error.HeaderShape = codes "refused E7: header shape\n"
error_line (error.OutOfFile p) = part_line p
error_line (error.SegmentShape i) = numbered (codes "refused E9: segment ") i
error_line (error.SegmentOverlap i j) = codes "refused E10: segments " ++ (decimal i ++ (codes " and " ++ (decimal j ++ codes "\n")))
error_line (error.SectionShape i) = numbered (codes "refused E11: section ") i
error_line (error.SymbolShape j) = numbered (codes "refused E12: symbol ") j
error_line (error.RelaShape i j) = codes "refused E13: section " ++ (decimal i ++ (codes ", entry " ++ (decimal j ++ codes "\n")))
error_line (error.TooManySections n) = limit_line limit.Sections n
error_line (error.TooManyBytes n) = limit_line limit.CountedBytes n
error_line error.Memory = codes ""

-- the first register above x13, and the address of its instruction
abbrev pub high_register_line : ℕ → ℕ → List ℕ
high_register_line at register = codes "refused A7: address " ++ (hex_text at ++ (codes ", register " ++ (decimal register ++ codes "\n")))
