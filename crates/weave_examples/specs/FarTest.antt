-- A known test with a JALR and its table, and two data ranges, one of them read only; woven in the far form, with the
-- sweep and other mirror parts. All promises hold of it, with the numbers that `reference/qed plan` prints.
use Rattle.std.specs.Prelude.{◌≡◌, ℕ, ◌++◌, true, false, List, [], ◌∷◌, None, Some, pos}
use Rattle.tests.specs.declared.options.Options.{Options}
use Rattle.tests.specs.declared.options.Entries.TheVariants as entries
use Rattle.qed_model.specs.declared.plan.Plan.{Plan}
use Rattle.tests.specs.Files.File.{File}
use Rattle.tests.specs.Elf.FileRead.{file_read}
use Rattle.tests.specs.Elf.Written.{fields_bytes, program_fields}
use Rattle.machine.specs.Loading.{Segment, ElfFile, loaded_file}
use Rattle.machine.specs.Program.{Program}
use Rattle.machine.specs.Table.{Lui, Jal, Ld, Sd, Mul, Sub, Ecall, Add, Jalr, Ins, ins}
use Rattle.qed_model.specs.Promise.InStep.{CaughtInStep, CleanInStep, LandedInStep}
use Rattle.qed_model.specs.Promise.OwnSteps.{KeptInStep}
use Rattle.qed_model.specs.Promise.Kept.{any_address}
use Rattle.qed_model.specs.Weave.OutputFile.{has_table, piece_rows}
use Rattle.qed_model.specs.Weave.Sequences.{Block, Stops}
use Rattle.qed_model.specs.Weave.Woven.{is_far_code, new_entries, compared, woven_file, IsPlanOf}
use Rattle.weave_core.specs.Tests.{IsWovenTest}

-- ---- its bytes
-- the header
abbrev header : List ℕ
header =
    0x7f ∷ 0x45 ∷ 0x4c ∷ 0x46 ∷ 2 ∷ 1 ∷ 1 ∷ 0 ∷ 0 ∷ 0 ∷ 0 ∷ 0 ∷ 0 ∷ 0 ∷ 0 ∷ 0 ∷
    2 ∷ 0 ∷ 0xf3 ∷ 0 ∷ 1 ∷ 0 ∷ 0 ∷ 0 ∷ 0 ∷ 0 ∷ 1 ∷ 0 ∷ 0 ∷ 0 ∷ 0 ∷ 0 ∷
    0x40 ∷ 0 ∷ 0 ∷ 0 ∷ 0 ∷ 0 ∷ 0 ∷ 0 ∷ 0 ∷ 0 ∷ 0 ∷ 0 ∷ 0 ∷ 0 ∷ 0 ∷ 0 ∷
    0 ∷ 0 ∷ 0 ∷ 0 ∷ 0x40 ∷ 0 ∷ 0x38 ∷ 0 ∷ 3 ∷ 0 ∷ 0 ∷ 0 ∷ 0 ∷ 0 ∷ 0 ∷ 0 ∷ []

-- the code, at 232
abbrev code_bytes : List ℕ
code_bytes =
    0x37 ∷ 4 ∷ 2 ∷ 0 ∷ 0x6f ∷ 0 ∷ 0x40 ∷ 0 ∷ 0x83 ∷ 0x32 ∷ 4 ∷ 0 ∷ 0x6f ∷ 0 ∷ 0x40 ∷ 0 ∷
    0xb7 ∷ 0x14 ∷ 2 ∷ 0 ∷ 0x6f ∷ 0 ∷ 0x40 ∷ 0 ∷ 0x23 ∷ 0xb0 ∷ 0x54 ∷ 0 ∷ 0x6f ∷ 0 ∷ 0x40 ∷ 0 ∷
    3 ∷ 0xb3 ∷ 4 ∷ 0 ∷ 0x6f ∷ 0 ∷ 0x40 ∷ 0 ∷ 0xb3 ∷ 3 ∷ 0x53 ∷ 2 ∷ 0x6f ∷ 0 ∷ 0x40 ∷ 0 ∷
    0x33 ∷ 0x85 ∷ 0x63 ∷ 0x40 ∷ 0x6f ∷ 0 ∷ 0x40 ∷ 0 ∷ 0xef ∷ 0 ∷ 0x80 ∷ 0 ∷ 0x73 ∷ 0 ∷ 0 ∷ 0 ∷
    0xb3 ∷ 5 ∷ 0x75 ∷ 0 ∷ 0x67 ∷ 0x80 ∷ 0 ∷ 0 ∷ []

-- the segments of the file: the code, a word that is read only, and one that is written
abbrev text : Segment
text = record { kind = 1; flags = 5; address = 0x10000; memory = 72; bytes = code_bytes }

abbrev constant : Segment
constant = record { kind = 1; flags = 4; address = 0x20000; memory = 8; bytes = 7 ∷ 0 ∷ 0 ∷ 0 ∷ 0 ∷ 0 ∷ 0 ∷ 0 ∷ [] }

abbrev variable : Segment
variable = record { kind = 1; flags = 6; address = 0x21000; memory = 8; bytes = 0 ∷ 0 ∷ 0 ∷ 0 ∷ 0 ∷ 0 ∷ 0 ∷ 0 ∷ [] }

unfoldable pub far_bytes : List ℕ
far_bytes = header
    ++ (fields_bytes (program_fields text 0xe8 ++ (program_fields constant 0x130 ++ program_fields variable 0x138))
    ++ (code_bytes ++ (constant.bytes ++ variable.bytes)))

-- the file with these bytes
abbrev pub far_test : ElfFile
far_test = record { entry = 0x10000; flags = 0; segments = text ∷ constant ∷ variable ∷ []; sections = []; symbols = []; relas = [] }

-- a round of 1,024 visits, the sweep, and mirror parts of other kinds
abbrev pub far_options : Options
far_options = record { inst_min = 4; inst_max = 16; round = 1024; half = None; sweep = true; diverse = true; entries = entries.All; lean = None; land = false }

-- ---- its instructions and blocks
-- a jump to the next address, so that an entry stands there
abbrev pub next_jump : Ins
next_jump = ins Jal 0 0 0 (pos 4)

abbrev pub lui_8 : Ins
lui_8 = ins Lui 8 0 0 (pos 0x20000)

abbrev pub ld_5 : Ins
ld_5 = ins Ld 5 8 0 (pos 0)

abbrev pub lui_9 : Ins
lui_9 = ins Lui 9 0 0 (pos 0x21000)

abbrev pub sd_5 : Ins
sd_5 = ins Sd 0 9 5 (pos 0)

abbrev pub ld_6 : Ins
ld_6 = ins Ld 6 9 0 (pos 0)

abbrev pub mul : Ins
mul = ins Mul 7 6 5 (pos 0)

abbrev pub sub : Ins
sub = ins Sub 10 7 6 (pos 0)

abbrev pub call : Ins
call = ins Jal 1 0 0 (pos 8)

abbrev pub ecall : Ins
ecall = ins Ecall 0 0 0 (pos 0)

abbrev pub add : Ins
add = ins Add 11 10 7 (pos 0)

abbrev pub jalr : Ins
jalr = ins Jalr 0 1 0 (pos 0)

abbrev pub far_code : List Ins
far_code =
    lui_8 ∷ next_jump ∷ ld_5 ∷ next_jump ∷ lui_9 ∷ next_jump ∷ sd_5 ∷ next_jump
    ∷ ld_6 ∷ next_jump ∷ mul ∷ next_jump ∷ sub ∷ next_jump ∷ call ∷ ecall ∷ add ∷ jalr ∷ []

-- a block of one instruction and the jump behind it, and one of an end alone
abbrev one : ℕ → Ins → Ins → Block
one a i e = record { start = a; body = (i ∷ []) ∷ []; end = Stops e; reached = false }

abbrev bare : ℕ → Ins → Block
bare a e = record { start = a; body = [] ∷ []; end = Stops e; reached = false }

abbrev pub far_blocks : List Block
far_blocks =
    one 0x10000 lui_8 next_jump ∷ bare 0x10004 next_jump ∷ one 0x10008 ld_5 next_jump ∷ bare 0x1000c next_jump
    ∷ one 0x10010 lui_9 next_jump ∷ bare 0x10014 next_jump
    ∷ one 0x10018 sd_5 next_jump ∷ bare 0x1001c next_jump ∷ one 0x10020 ld_6 next_jump ∷ bare 0x10024 next_jump
    ∷ one 0x10028 mul next_jump ∷ bare 0x1002c next_jump
    ∷ one 0x10030 sub next_jump ∷ bare 0x10034 next_jump ∷ bare 0x10038 call ∷ bare 0x1003c ecall ∷ one 0x10040 add jalr ∷ bare 0x10044 jalr ∷ []

-- ---- the plan of its output
abbrev pub far_plan : Plan
far_plan = record {
  base = 0x10000;
  distance = 0x12000;
  words = 2;
  code_bytes = 1182628;
  entries = new_entries far_test far_options far_blocks;
  pieces = piece_rows far_blocks;
  span = record { start = 0x20000; end = 0x20008 } ∷ record { start = 0x21000; end = 0x21008 } ∷ [];
  bounds = record { piece = 13470; register = 27007; word = Some 40477; start = 67; early_register = None; early_word = None };
}

-- ---- what is promised of it
abbrev pub far_ranges : List (ℕ × ℕ)
far_ranges = (0x20000, 0x20008) ∷ (0x21000, 0x21008) ∷ []

abbrev pub far_output : List ℕ → Program
far_output words = loaded_file (file_read (woven_file far_test far_options far_blocks words))

pub record FarPromised : Type 0 where
  pub read : File far_bytes far_test
  pub words : List ℕ
  pub woven : IsWovenTest far_test far_options far_blocks words
  pub far : is_far_code far_test far_options far_blocks ≡ true
  pub table : has_table far_blocks ≡ true
  pub told : IsPlanOf (compared far_test far_options far_blocks) far_test far_options far_blocks far_plan
  pub kept : KeptInStep (loaded_file far_test) (far_output words) any_address far_plan.distance 67 13470
  pub landed : LandedInStep 4 (loaded_file far_test) (far_output words) any_address far_plan.entries 67 13470
  pub caught : CaughtInStep (loaded_file far_test) (far_output words) any_address far_ranges far_plan.bounds 67 13470
  pub clean : CleanInStep (loaded_file far_test) (far_output words) any_address far_ranges 34 67 13470
