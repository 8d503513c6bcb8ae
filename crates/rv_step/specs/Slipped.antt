-- One instruction that goes wrong once.
use Rattle.std.specs.Prelude.{ℕ, Bool, true, false, cond, ◌&&◌, nat_lt, Option, None, Some}
use Rattle.rv_isa.specs.declared.class.Class.{Class}
use Rattle.rv_isa.specs.declared.class.Class.TheVariants as class
use Rattle.machine.specs.Memory.{grants, put}
use Rattle.machine.specs.Progress.{Progress, steps_after}
use Rattle.machine.specs.Step.{State, Ins, class_of, execute, jumped, moved, next_pc, place, reg, set_reg, step, stored, target, trapped}
use Rattle.machine.specs.Values.{holds, width_of}
use Rattle.machine.specs.declared.outcome.Cause.TheVariants as cause
use Rattle.rv_step.specs.Known.{does_step, known_at}
use Rattle.rv_step.specs.declared.slip.Slip.{Slip}
use Rattle.rv_step.specs.declared.slip.Slip.TheVariants.{Skip, Result, Branch, Store, Place}

-- ---- which slips an instruction has
-- it writes rd
abbrev pub writes : Class → Bool
writes class.Compute = true
writes class.Load = true
writes class.Jump = true
writes class.JumpReg = true
writes _ = false

abbrev pub is_branch : Class → Bool
is_branch class.Branch = true
is_branch _ = false

abbrev pub is_store : Class → Bool
is_store class.Store = true
is_store _ = false

-- each can be skipped; a result is a number in a register other than x0
abbrev pub has_slip : Slip → Ins → Bool
has_slip Skip i = true
has_slip (Result x) i = writes (class_of i.kind) && nat_lt 0 i.rd
has_slip Branch i = is_branch (class_of i.kind)
has_slip (Store x) i = is_store (class_of i.kind)
has_slip (Place a) i = is_store (class_of i.kind)

abbrev pub known_has : Slip → Option Ins → Bool
known_has how None = false
known_has how (Some i) = has_slip how i

-- the state goes on, at an instruction that has the slip
abbrev pub can_slip : Slip → State → Bool
can_slip how s = does_step s.outcome && known_has how (known_at s s.pc)

-- ---- what it does then
-- a state with another number in the instruction's rd, unless its step stopped
abbrev pub gives : Ins → ℕ → State → State
gives i x t = cond (does_step t.outcome) (moved (set_reg i.rd x t.regs) t.pc t) t

-- the state behind a store of a number at an address
abbrev pub stores : Ins → ℕ → ℕ → State → State
stores i a x s =
    cond (grants (λ f. f.write) s.memory a (width_of i.kind)) (stored (put s.memory a (width_of i.kind) x) (next_pc s) s) (trapped (cause.Store a) s)

-- the state behind an instruction that goes wrong so: skipped, with a number, the other way, or with another store
unfoldable pub slipped_as : Slip → Ins → State → State
slipped_as Skip i s = moved s.regs (next_pc s) s
slipped_as (Result x) i s = gives i x (execute (class_of i.kind) i s)
slipped_as Branch i s = cond (holds i.kind (reg s i.rs1) (reg s i.rs2)) (moved s.regs (next_pc s) s) (jumped s.regs (target i s.pc) s)
slipped_as (Store x) i s = stores i (place i s) x s
slipped_as (Place a) i s = stores i a (reg s i.rs2) s

abbrev pub slipped_known : Slip → Option Ins → State → State
slipped_known how None s = step s
slipped_known how (Some i) s = cond (has_slip how i) (slipped_as how i s) (step s)

-- the state behind a step with a slip; without such a slip it is the step, and a state that does not go on stays
unfoldable pub slipped_step : Slip → State → State
slipped_step how s = cond (does_step s.outcome) (slipped_known how (known_at s s.pc) s) s

-- it counts as a step
unfoldable pub slipped : Slip → Progress → Progress
slipped how p = record { state = slipped_step how p.state; steps = steps_after p.state.outcome p.steps }
