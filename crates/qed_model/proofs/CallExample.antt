-- A known test without sections, a call and a return, is admitted, and has the blocks that `reference/qed plan` prints:
-- jal x1, +12; addi x5, x0, 9; ecall; jalr x1, 0(x1). The ECALL at 0x10008 is not a leader, and has a block of its own.
use Rattle.std.proofs.Common.{◌≡◌, inl, inr, true, false, List, [], ◌∷◌, refl, arith}
use Rattle.std.specs.Prelude.{pos}
use Rattle.machine.specs.Numbers.{number_bytes, bytes_of}
use Rattle.machine.specs.Table.{Jal, Addi, Ecall, Jalr, Ins, ins, ins_of, decode_of}
use Rattle.machine.specs.Cells.{number_among}
use Rattle.tests.specs.Admission.Refusals.{IsAdmitted}
use Rattle.qed_model.specs.Weave.Sequences.{Block, Stops}
use Rattle.qed_model.specs.Weave.Blocks.{ElfFile, AreBlocks}
use Rattle.qed_model.specs.Weave.OutputFile.{has_table, table_word}
use Rattle.qed_model.specs.Weave.Woven.{code_size, new_entries, is_far_code}
use Rattle.qed_model.proofs.ExampleCode as code
use Rattle.qed_model.proofs.ExampleBlocks as made
use Rattle.qed_model.proofs.ExampleCode.{IsCodeOf, defaults}

abbrev test : ElfFile
test = record { entry = 0x10000; flags = 0; segments = record { kind = 1; flags = 5; address = 0x10000; memory = 16; bytes = bytes_of (0x00c000ef ∷ 0x00900293 ∷ 0x00000073 ∷ 0x000080e7 ∷ []) } ∷ []; sections = []; symbols = []; relas = [] }

abbrev jal : Ins
jal = ins Jal 1 0 0 (pos 12)

abbrev addi : Ins
addi = ins Addi 5 0 0 (pos 9)

abbrev ecall : Ins
ecall = ins Ecall 0 0 0 (pos 0)

abbrev jalr : Ins
jalr = ins Jalr 1 1 0 (pos 0)

abbrev all : List Ins
all = jal ∷ addi ∷ ecall ∷ jalr ∷ []

known : IsCodeOf test 0x10000 all
unfolding number_among number_bytes decode_of ins_of
known = record { range = refl; grain = refl; stand = (refl, (refl, (refl, (refl, tt)))) }

admitted : IsAdmitted test defaults
admitted = code.admitted test 0x10000 all known refl defaults refl refl (omega arith) (omega arith) (omega arith) (omega arith)

abbrev blocks : List Block
blocks =
    record { start = 0x10000; body = [] ∷ []; end = Stops jal; reached = false }
    ∷ record { start = 0x10004; body = (addi ∷ []) ∷ []; end = Stops ecall; reached = false }
    ∷ record { start = 0x10008; body = [] ∷ []; end = Stops ecall; reached = false }
    ∷ record { start = 0x1000c; body = [] ∷ []; end = Stops jalr; reached = false }
    ∷ []

are_blocks : AreBlocks test defaults blocks
are_blocks =
    made.are_blocks test 0x10000 all known defaults refl refl blocks refl refl refl (
      inl (made.stopping test 0x10000 all known defaults refl refl [] [] jal (addi ∷ ecall ∷ jalr ∷ []) refl refl refl),
      (
        inl (made.stopping test 0x10000 all known defaults refl refl (jal ∷ []) ((addi ∷ []) ∷ []) ecall (jalr ∷ []) refl refl refl),
        (
          inr (made.other test 0x10000 all known defaults refl refl (jal ∷ addi ∷ []) ecall (jalr ∷ []) refl refl),
          (inl (made.stopping test 0x10000 all known defaults refl refl (jal ∷ addi ∷ ecall ∷ []) [] jalr [] refl refl refl), tt),
        ),
      ),
    )

-- ---- its numbers; the output has a table, with its word of the second entry at 0x12004
told :
    (code_size test defaults blocks ≡ 708)
    × (is_far_code test defaults blocks ≡ false)
    × (new_entries test defaults blocks ≡ record { input = 0x10000; output = 0x13078 } ∷ record { input = 0x10004; output = 0x1310c } ∷ record { input = 0x10008; output = 0x13190 } ∷ record { input = 0x1000c; output = 0x1320c } ∷ [])
    × (has_table blocks ≡ true)
    × (table_word 0x1000 (new_entries test defaults blocks) 0x10004 ≡ 0x1108)
told = (refl, refl, refl, refl, refl)
