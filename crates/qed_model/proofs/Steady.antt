-- If every address is reached, a run is steady exactly if it does not trap; then the promises have no other premise.
use Rattle.std.proofs.Common.{ℕ, ◌↔◌, List, refl}
use Rattle.machine.specs.Program.{Program, AreStartRegs}
use Rattle.qed_model.specs.Promise.Kept.{after_input, NotTrapped, Steady, any_address, Preserved, NoFalseAlarm, Kept}

-- a run is steady exactly if it does not trap
pub steady_any : (f : Program) (n : ℕ) → Steady f any_address n ↔ NotTrapped (after_input f n)
steady_any f n = (λ s. s.no_trap, λ h. record { no_trap = h; leads = λ k l i going at jumps. refl })

-- the values are kept, and no false alarm comes, while the input does not trap
pub kept_any :
    (f g : Program) (first bound : ℕ) → Kept f g any_address first bound → (regs : List ℕ) (n : ℕ) → AreStartRegs regs → NotTrapped (after_input f n)
    → Preserved f g first bound n regs × NoFalseAlarm f g n regs
kept_any f g first bound k regs n are h = let s = (steady_any f n).1 h in (k.values regs n are s, k.quiet regs n are s)
