-- The parts of leaves, and the addresses to which the signature turns.
use Rattle.std.specs.Prelude.{ℕ, ◌+◌, ◌-◌, ◌%◌, ◌^◌, Bool, false, cond, Option, Some, None, List, [], ◌∷◌, ◌++◌, pos, ◌≤ℤ◌}
use Rattle.rv_isa.specs.declared.class.Class.TheVariants as class
use Rattle.qed_model.specs.declared.item.Item.{Item}
use Rattle.qed_model.specs.declared.item.Item.TheVariants.{Plain}
use Rattle.machine.specs.Step.{target, Ins, Class, class_of, ins}
use Rattle.machine.specs.Offsets.{distance_between}
use Rattle.qed_model.specs.declared.role.Role.{Role}
use Rattle.qed_model.specs.declared.role.Role.TheVariants as role
use Rattle.weave.specs.Leaves.{is_ecall_end}
use Rattle.qed_model.specs.Weave.Placed.{sum_of_sizes}
use Rattle.qed_model.specs.Weave.Sequences.{Form, End, Falls, Stops, sweep, compare, before_end, guard, links, check_sign, TEMPORARY}
use Rattle.qed_model.specs.Weave.Lean.{turn, opposite, taken, take_target, called, check_distance, look_up, look_again, leave_as}

-- ---- parts
-- what stands before an ECALL besides, with the sweep
abbrev pub before : Bool → List (ℕ × ℕ) → List Item
before sweeps spans = cond sweeps (sweep spans ++ compare) []

-- a turn, and what leads behind a block
abbrev pub falls : (ℕ → List Item) → ℕ → ℕ → List Item
falls fall a t = turn a t ++ fall t

-- the branch over the way that is taken, and that way
abbrev pub over : Ins → ℕ → ℕ → List Item
over i a t = Plain (ins (opposite i.kind) 0 i.rs1 i.rs2 (pos (4 + sum_of_sizes false (taken i a t)))) ∷ taken i a t

-- the jump of a JALR to the target in x30, which has to be the signature
abbrev pub leap : ℕ → Ins → ℕ → List Item
leap d i at = called ++ (links i at ++ (look_up TEMPORARY ++ look_again d))

-- the target by the original, and the jump there
abbrev pub aim : ℕ → Ins → ℕ → List Item
aim d i at = take_target i i.rs1 ++ leap d i at

-- a JALR from the test of the distance on: the guard of the original
abbrev pub guarded_leap : ℕ → Ins → ℕ → List Item
guarded_leap d i at = check_distance d ++ (guard i.rs1 ++ aim d i at)

-- ---- the leave in two: what stands before an ECALL, and the rest
abbrev pub ecall_parts : Form → ℕ → ℕ → ℕ → List (Role × List Item)
ecall_parts form d a at = (role.Sweep, compare) ∷ (role.Leave at, check_distance d) ∷ (role.Sign a, check_sign a) ∷ (role.Sweep, before_end form) ∷ []

abbrev pub lean_before_parts : Form → ℕ → Option Ins → ℕ → ℕ → List (Role × List Item)
lean_before_parts form d end a at = cond (is_ecall_end end) (ecall_parts form d a at) []

abbrev pub lean_last_as : ℕ → (ℕ → List Item) → Class → Ins → ℕ → ℕ → List Item
lean_last_as d fall class.End i a at = Plain i ∷ []
lean_last_as d fall c i a at = leave_as d [] fall c i a at

abbrev pub lean_last_items : ℕ → (ℕ → List Item) → Option Ins → ℕ → ℕ → List Item
lean_last_items d fall None a at = falls fall a at
lean_last_items d fall (Some i) a at = lean_last_as d fall (class_of i.kind) i a at

-- ---- where the signature turns
-- the sum with 2048 is below 2^63
abbrev pub IsNear : ℕ → ℕ → Type 0
IsNear a t = distance_between a t ≤ℤ pos (2 ^ 63 - 2049)

abbrev pub TurnsAs : Class → Ins → ℕ → ℕ → Type 0
TurnsAs class.Jump i a at = IsNear a (target i at)
TurnsAs class.Branch i a at = IsNear a (target i at) × IsNear a ((at + 4) % 2 ^ 64)
TurnsAs _ i a at = Unit {0}

-- at the leave of a block that begins at a and has its end at `at`
abbrev pub Turns : End → ℕ → ℕ → Type 0
Turns Falls a at = IsNear a at
Turns (Stops i) a at = TurnsAs (class_of i.kind) i a at
