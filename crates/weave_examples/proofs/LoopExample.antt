-- A known test with a loop is admitted, and has the blocks, entries and bounds that `reference/qed plan` prints: addi
-- x5, x0, 2; addi x5, x5, -1; bne x5, x0, -4; ecall.
use Rattle.std.proofs.Common.{inl, Bool, List, [], ◌∷◌, None, refl, arith, false}
use Rattle.std.specs.Prelude.{pos, neg_ℤ}
use Rattle.qed_model.specs.declared.plan.Plan.{Plan}
use Rattle.machine.specs.Table.{Addi, Bne, Ecall, Ins, ins, ins_of, decode_of}
use Rattle.machine.specs.Cells.{number_among}
use Rattle.tests.specs.Admission.Refusals.{IsAdmitted}
use Rattle.qed_model.specs.Weave.Sequences.{Block, Falls, Stops}
use Rattle.machine.specs.Members.{Every}
use Rattle.qed_model.specs.Weave.Blocks.{AreBlocks, IsBlockOf}
use Rattle.qed_model.specs.Weave.Woven.{compared, IsPlanOf}
use Rattle.qed_model.proofs.ExampleCode as code
use Rattle.qed_model.proofs.ExampleBlocks as made
use Rattle.qed_model.proofs.Lemmas.{IsCodeOf, options, defaults, swept}
use Rattle.weave_examples.proofs.KnownFiles.{loop}

-- ---- its instructions
abbrev two : Ins
two = ins Addi 5 0 0 (pos 2)

abbrev less : Ins
less = ins Addi 5 5 0 (neg_ℤ (pos 1))

abbrev bne : Ins
bne = ins Bne 0 5 0 (neg_ℤ (pos 4))

abbrev ecall : Ins
ecall = ins Ecall 0 0 0 (pos 0)

abbrev pub loop_code : List Ins
loop_code = two ∷ less ∷ bne ∷ ecall ∷ []

pub loop_known : IsCodeOf loop 0x10000 loop_code
unfolding number_among decode_of ins_of
loop_known = record { range = refl; grain = refl; stand = (refl, (refl, (refl, (refl, tt)))) }

pub loop_admitted : IsAdmitted loop defaults
loop_admitted = code.admitted loop 0x10000 loop_code loop_known refl defaults refl refl (omega arith) (omega arith) (omega arith) (omega arith)

-- the test is admitted with the sweep too
pub loop_swept_admitted : IsAdmitted loop swept
loop_swept_admitted = code.admitted loop 0x10000 loop_code loop_known refl swept refl refl (omega arith) (omega arith) (omega arith) (omega arith)

-- ---- its blocks: the first falls through to the target of the branch, and an ECALL stands behind the branch
abbrev pub loop_blocks : List Block
loop_blocks =
    record { start = 0x10000; body = (two ∷ []) ∷ []; end = Falls; reached = false }
    ∷ record { start = 0x10004; body = (less ∷ []) ∷ []; end = Stops bne; reached = false }
    ∷ record { start = 0x1000c; body = [] ∷ []; end = Stops ecall; reached = false }
    ∷ []

pub loop_each : (sweep : Bool) → Every (IsBlockOf loop (options sweep)) loop_blocks
loop_each sweep = (
  inl (made.falling loop 0x10000 loop_code loop_known (options sweep) refl refl [] ((two ∷ []) ∷ []) less (bne ∷ ecall ∷ []) refl refl refl),
  (
    inl (made.stopping loop 0x10000 loop_code loop_known (options sweep) refl refl (two ∷ []) ((less ∷ []) ∷ []) bne (ecall ∷ []) refl refl refl),
    (inl (made.stopping loop 0x10000 loop_code loop_known (options sweep) refl refl (two ∷ less ∷ bne ∷ []) [] ecall [] refl refl refl), tt),
  ),
)

pub loop_are : (sweep : Bool) → AreBlocks loop (options sweep) loop_blocks
loop_are sweep = made.are_blocks loop 0x10000 loop_code loop_known (options sweep) refl refl loop_blocks refl refl refl (loop_each sweep)

-- ---- its plan
abbrev pub loop_plan : Plan
loop_plan = record {
  base = 0x10000;
  distance = 0x1000;
  words = 0;
  code_bytes = 560;
  entries = record { input = 0x10000; output = 0x13078 } ∷ record { input = 0x10004; output = 0x13104 } ∷ record { input = 0x1000c; output = 0x131b0 } ∷ [];
  pieces = record { entry = 0x10000; first = 0x10000; length = 1 } ∷ record { entry = 0x10004; first = 0x10004; length = 1 } ∷ record { entry = 0x1000c; first = 0x1000c; length = 0 } ∷ [];
  span = [];
  bounds = record { piece = 120; register = 272; word = None; start = 32; early_register = None; early_word = None };
}

pub loop_told : IsPlanOf (compared loop defaults loop_blocks) loop defaults loop_blocks loop_plan
loop_told = record { base = refl; distance = refl; words = refl; code_bytes = refl; entries = refl; pieces = refl; span = refl; bounds = refl }
