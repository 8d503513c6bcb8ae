-- A known test with a data word is admitted, and has the block, entry and bounds that `reference/qed plan` prints: lui
-- x8, 0x20; ld x9, 0(x8); add x10, x9, x9; sd x10, 0(x8); ecall.
use Rattle.std.proofs.Common.{inl, Bool, List, [], ◌∷◌, None, Some, refl, arith, false}
use Rattle.std.specs.Prelude.{pos}
use Rattle.qed_model.specs.declared.plan.Plan.{Plan}
use Rattle.machine.specs.Table.{Lui, Ld, Add, Sd, Ecall, Ins, ins, ins_of, decode_of}
use Rattle.machine.specs.Cells.{number_among}
use Rattle.machine.specs.Members.{Every}
use Rattle.tests.specs.Admission.Refusals.{IsAdmitted}
use Rattle.qed_model.specs.Weave.Sequences.{Block, Stops}
use Rattle.qed_model.specs.Weave.Blocks.{AreBlocks, IsBlockOf}
use Rattle.qed_model.specs.Weave.Woven.{compared, IsPlanOf}
use Rattle.qed_model.proofs.ExampleCode as code
use Rattle.qed_model.proofs.ExampleBlocks as made
use Rattle.qed_model.proofs.Lemmas.{IsCodeOf, options, defaults, swept}
use Rattle.weave_examples.proofs.KnownFiles.{store}

-- ---- its instructions
abbrev pub lui : Ins
lui = ins Lui 8 0 0 (pos 0x20000)

abbrev pub ld : Ins
ld = ins Ld 9 8 0 (pos 0)

abbrev pub add : Ins
add = ins Add 10 9 9 (pos 0)

abbrev pub sd : Ins
sd = ins Sd 0 8 10 (pos 0)

abbrev pub ecall : Ins
ecall = ins Ecall 0 0 0 (pos 0)

abbrev pub store_code : List Ins
store_code = lui ∷ ld ∷ add ∷ sd ∷ ecall ∷ []

pub store_known : IsCodeOf store 0x10000 store_code
unfolding number_among decode_of ins_of
store_known = record { range = refl; grain = refl; stand = (refl, (refl, (refl, (refl, (refl, tt))))) }

pub store_admitted : IsAdmitted store defaults
store_admitted = code.admitted store 0x10000 store_code store_known refl defaults refl refl (omega arith) (omega arith) (omega arith) (omega arith)

-- the test is admitted with the sweep too
pub store_swept_admitted : IsAdmitted store swept
store_swept_admitted = code.admitted store 0x10000 store_code store_known refl swept refl refl (omega arith) (omega arith) (omega arith) (omega arith)

-- ---- its block: runs of 1, 2 and 1 instructions
abbrev pub store_blocks : List Block
store_blocks = record { start = 0x10000; body = (lui ∷ []) ∷ (ld ∷ add ∷ []) ∷ (sd ∷ []) ∷ []; end = Stops ecall; reached = false } ∷ []

pub store_each : (sweep : Bool) → Every (IsBlockOf store (options sweep)) store_blocks
store_each sweep = (inl (made.stopping store 0x10000 store_code store_known (options sweep) refl refl [] ((lui ∷ []) ∷ (ld ∷ add ∷ []) ∷ (sd ∷ []) ∷ []) ecall [] refl refl refl), tt)

pub store_are : (sweep : Bool) → AreBlocks store (options sweep) store_blocks
store_are sweep = made.are_blocks store 0x10000 store_code store_known (options sweep) refl refl store_blocks refl refl refl (store_each sweep)

-- ---- its plan
abbrev pub store_plan : Plan
store_plan = record {
  base = 0x10000;
  distance = 0x11000;
  words = 1;
  code_bytes = 660;
  entries = record { input = 0x10000; output = 0x43080 } ∷ [];
  pieces = record { entry = 0x10000; first = 0x10000; length = 1 } ∷ record { entry = 0x10000; first = 0x10004; length = 2 } ∷ record { entry = 0x10000; first = 0x1000c; length = 1 } ∷ [];
  span = record { start = 0x20000; end = 0x20008 } ∷ [];
  bounds = record { piece = 120; register = 272; word = Some 392; start = 32; early_register = None; early_word = None };
}

pub store_told : IsPlanOf (compared store defaults store_blocks) store defaults store_blocks store_plan
store_told = record { base = refl; distance = refl; words = refl; code_bytes = refl; entries = refl; pieces = refl; span = refl; bounds = refl }
