-- Indirect jumps that lead astray: to an address outside a set.
use Rattle.std.specs.Prelude.{ℕ, Bool, false, ◌&&◌, not, List, Option, None, Some, if◌then◌else◌}
use Rattle.std.specs.Option.{option_map}
use Rattle.qed_model.specs.declared.change.Change.{Change}
use Rattle.tests.specs.Admission.Leaders.{is_indirect}
use Rattle.machine.specs.Below.{first_below}
use Rattle.machine.specs.Step.{State, step, Ins, class_of}
pub use Rattle.qed_model.specs.Promise.Changed.{changed_run}
pub use Rattle.rv_step.specs.Known.{known_at, does_step, instruction_of}

-- the instruction, if there is one, is a JALR
abbrev pub is_jalr : Option Ins → Bool
is_jalr None = false
is_jalr (Some i) = is_indirect (class_of i.kind)

-- the next step is a JALR, and the state goes on behind it, at an address that is not reached; false if the state has
-- stopped, or if the target is not a multiple of 4
unfoldable pub is_astray : (ℕ → Bool) → State → Bool
is_astray reached s = is_jalr (known_at s s.pc) && (does_step (step s).outcome && not (reached (step s).pc))

-- the address of the next instruction, and the address that its step leads to
abbrev pub jump_of : State → ℕ × ℕ
jump_of s = (s.pc, (step s).pc)

-- the jump of a state, if it leads astray
abbrev pub astray_of : (ℕ → Bool) → State → Option (ℕ × ℕ)
astray_of reached s = if is_astray reached s then Some (jump_of s) else None

-- the first jump that leads astray, among those of n states
unfoldable pub first_jump : (ℕ → Bool) → (ℕ → State) → ℕ → Option (ℕ × ℕ)
first_jump reached states n = option_map (λ k. jump_of (states k)) (first_below n (λ k. is_astray reached (states k)))

-- the first jump astray in n steps with changes
abbrev pub first_astray : (ℕ → Bool) → State → List Change → ℕ → Option (ℕ × ℕ)
first_astray reached s cs n = first_jump reached (changed_run s cs) n
