-- The entry and the leave of a block, as passes: what a leave is for, needs, and leads to, by the kind of end.
use Rattle.std.specs.Prelude.{◌≡◌, ℕ, ◌+◌, ◌*◌, ◌%◌, ◌^◌, ◌<◌, ◌≤◌, Bool, true, false, List, [], ◌∷◌, ◌++◌, length, pos}
use Rattle.qed_model.specs.declared.steps.TheConstants.{INSTRUCTION_STEPS}
use Rattle.rv_isa.specs.Ins.{nop}
use Rattle.rv_isa.specs.declared.class.Class.TheVariants as class
use Rattle.qed_model.specs.Promise.Kept.{NotTrapped, LeadsToReached}
use Rattle.tests.specs.Admission.DataRanges.{word_count}
use Rattle.qed_model.specs.Weave.Lean.{look_up}
use Rattle.qed_model.specs.Weave.Sequences.{Form, leave_as, go_on, mirrored, sweep, compare, class_of, Class, Ins, LAST_ORIGINAL, CURSOR, SIGNATURE, TEMPORARY}
use Rattle.weave_core.specs.World.{Item, Plain, Ended, World, Twice, State, reg, Known, step, ins, Jalr}
use Rattle.weave_core.specs.Rows.{Sourced}
use Rattle.weave_core.specs.Blocks.{IsEntryOf, Goes, Leaves}
use Rattle.weave_core.specs.Pass.{Views}
use Rattle.weave_core.specs.WeaveLaws.{Swept, BothEnded, Onward}

-- ---- the entry
-- both halves are those of one state of the input, whose pc has its entry here, and the signature is that pc
pub record Enters (w : World) (at : ℕ) (v : Views) : Type 0 where
  pub same : v.original ≡ v.shadow
  pub sign : reg v.now SIGNATURE ≡ v.original.pc
  pub here : v.original.pc ≡ at
  pub low : at < 2 ^ 64

-- ---- the items of a leave
-- the form of the code with jumps of one or of two words; the leave looks at no more of it
abbrev pub leave_form : Bool → Form
leave_form far = record { spans = []; round = 0; far = far; sweep = false; mirror = mirrored; cost = INSTRUCTION_STEPS }

-- the items by the class of the end; a computing class does not end, and the block falls to `next`
abbrev pub left_as : Class → ℕ → Bool → Ins → ℕ → List Item
left_as class.Compute next far i at = go_on next
left_as c next far i at = leave_as (leave_form far) c i at

abbrev pub left : ℕ → Bool → Ins → ℕ → List Item
left next far i at = left_as (class_of i.kind) next far i at

-- a JALR looks the entry of the address in x30 up, and goes there
abbrev pub look_and_go : List Item
look_and_go = look_up TEMPORARY ++ (Plain (ins Jalr 0 TEMPORARY 0 (pos 0)) ∷ [])

-- the ends that it is for; of a branch `next` is the address behind it
abbrev pub IsLeft : Class → ℕ → Ins → ℕ → Type 0
IsLeft class.Compute next i at = i ≡ nop
IsLeft class.Branch next i at = (i.rs1 ≤ LAST_ORIGINAL) × (i.rs2 ≤ LAST_ORIGINAL) × (next ≡ (at + 4) % 2 ^ 64)
IsLeft class.Jump next i at = i.rd ≤ LAST_ORIGINAL
IsLeft class.JumpReg next i at = (i.rd ≤ LAST_ORIGINAL) × (i.rs1 ≤ LAST_ORIGINAL)
IsLeft class.End next i at = Unit {0}
IsLeft class.Illegal next i at = Unit {0}
IsLeft _ next i at = ⊥

-- ---- what it needs
-- where the input goes on from the end, that it may, and that a JALR leads to an address that is reached
abbrev pub GoesFrom : Class → World → (ℕ → Bool) → ℕ → Ins → ℕ → State → Type 0
GoesFrom class.Compute w leader next i at s = Goes w leader next × (s.pc ≡ next)
GoesFrom c w leader next i at s = (w.source at ≡ Known i) × (s.pc ≡ at) × Leaves c w leader i at × NotTrapped (step s) × LeadsToReached w.reached s

-- both halves are those of one state of the input at the end of a block, from which it goes on to entries or to no code
pub record Leaving (w : World) (next : ℕ) (i : Ins) (at : ℕ) (v : Views) : Type 0 where
  pub same : v.original ≡ v.shadow
  pub sourced : Sourced w v.original
  pub entries : (a : ℕ) → v.leads a ≡ true → IsEntryOf w a
  pub goes : GoesFrom (class_of i.kind) w v.leads next i at v.original

-- ---- where it leads
-- the input's state behind the end
abbrev pub ended_as : Class → State → State
ended_as class.Compute s = s
ended_as _ s = step s

-- with the signature
abbrev pub Signs : State → ℕ → Type 0
Signs u a = reg u SIGNATURE ≡ a

-- an ECALL ends; a fall leads to the entry where the input is, if there is code; so does any other end, in at least one
-- step, to where the input is behind it
abbrev pub LeftAs : Class → World → Views → ℕ → Views → Type 0
LeftAs class.End w v n z = BothEnded w (step v.original) z.now × Twice w z.now v.original v.original × (1 ≤ n)
LeftAs class.Compute w v n z = Onward w v.leads Signs v.original z.now
LeftAs _ w v n z = Onward w v.leads Signs (step v.original) z.now × (1 ≤ n)

-- the views there are those of the input behind the end, and the cursor stays
pub record LeadsOn (t : State) (v z : Views) (Is : Type 0) : Type 0 where
  pub original : z.original ≡ t
  pub shadow : z.shadow ≡ t
  pub cursor : reg z.now CURSOR ≡ reg v.now CURSOR
  pub left : Is

abbrev pub LeavesOn : Class → World → Views → ℕ → Views → Type 0
LeavesOn c w v n z = LeadsOn (ended_as c v.original) v z (LeftAs c w v n z)

-- ---- the end with the sweep
-- the sweep over some ranges, the comparison of all registers, and the end
abbrev pub swept_end : List (ℕ × ℕ) → Ins → List Item
swept_end spans i = (sweep spans ++ compare) ++ (Plain i ∷ [])

-- the steps of the sweep
abbrev pub sweep_cost : List (ℕ × ℕ) → ℕ
sweep_cost spans = 2 * length spans + 8 * word_count spans

-- both halves are those of one state of the input, and the ranges are those of the form
pub record Sweeps (w : World) (spans : List (ℕ × ℕ)) (v : Views) : Type 0 where
  pub same : v.original ≡ v.shadow
  pub spans_are : w.form.spans ≡ spans

-- n steps from v on the test has ended, with the same memory and originals; on the way each data word was visited by
-- the sweep, and then all registers were compared
pub record SweptTo (w : World) (spans : List (ℕ × ℕ)) (v : Views) (n : ℕ) (z : Views) : Type 0 where
  pub ended : z.now.outcome ≡ Ended
  pub original : z.original ≡ v.original
  pub shadow : z.shadow ≡ v.original
  pub memory : z.now.memory ≡ v.now.memory
  pub originals : (q : ℕ) → q ≤ LAST_ORIGINAL → reg z.now q ≡ reg v.now q
  pub halved : Twice w z.now v.original v.original
  pub swept : Swept w (sweep_cost spans) v.now n
