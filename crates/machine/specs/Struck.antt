-- States with one change.
use Rattle.std.specs.Prelude.{ℕ}
use Rattle.machine.specs.declared.place.Place.{Place}
use Rattle.machine.specs.declared.place.Place.TheVariants.{Reg, Word}
use Rattle.machine.specs.Memory.{put}
use Rattle.machine.specs.Step.{set_reg, State}

-- a register other than x0 gets the number; of a word each byte that is mapped gets its byte of the number, little
-- endian, whatever its permission; all else stays
unfoldable pub struck : Place → ℕ → State → State
struck (Reg r) x s = record { regs = set_reg r x s.regs; pc = s.pc; memory = s.memory; ranges = s.ranges; outcome = s.outcome }
struck (Word a) x s = record { regs = s.regs; pc = s.pc; memory = put s.memory a 8 x; ranges = s.ranges; outcome = s.outcome }
