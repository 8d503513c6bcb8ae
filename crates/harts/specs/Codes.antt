-- The code of a world: different worlds have different codes.
use Rattle.std.specs.Prelude.{ℕ, List, refl}
use Rattle.std.specs.Coded.{Coded, code_by, coded×, coded_ℕ, coded_list}
use Rattle.machine.specs.Memory.{Memory, memory_code}
use Rattle.machine.specs.declared.outcome.Outcome.{Outcome}
use Rattle.machine.specs.contracts.outcome.Outcome as outcome
use Rattle.harts.specs.Harts.{Hart, HartsWorld}
use Rattle.harts.specs.HartSteps.{Counted}

-- a hart as its parts
abbrev pub hart_code : Coded Hart
hart_code = code_by (List ℕ × (ℕ × (List (ℕ × ℕ) × Outcome)))
    (coded× (coded_list coded_ℕ) (coded× coded_ℕ (coded× (coded_list (coded× coded_ℕ coded_ℕ)) (outcome.the_row).coded)))
    (λ h. (h.regs, (h.pc, (h.ranges, h.outcome)))) (λ p. record { regs = p.0; pc = p.1.0; ranges = p.1.1.0; outcome = p.1.1.1 }) (λ _. refl)

-- a world as its harts and its memory
abbrev pub world_code : Coded HartsWorld
world_code = code_by (List Hart × Memory) (coded× (coded_list hart_code) memory_code)
    (λ w. (w.harts, w.memory)) (λ p. record { harts = p.0; memory = p.1 }) (λ _. refl)

-- a world as its harts, its memory and the steps of each hart
abbrev pub counted_code : Coded Counted
counted_code = code_by (HartsWorld × List ℕ) (coded× world_code (coded_list coded_ℕ))
    (λ c. (c.world, c.steps)) (λ p. record { world = p.0; steps = p.1 }) (λ _. refl)
