-- The most steps of the two parts of an instruction in a piece (this project's profile).
use Rattle.std.specs.Prelude.{ℕ, ◌+◌, ◌==◌, cond, List, [], ◌∷◌, length}
use Rattle.rv_isa.specs.declared.class.Class.TheVariants as class
use Rattle.qed_model.specs.Weave.Sequences.{class_of, Class, Ins}
use Rattle.machine.specs.Operands.{is_auipc}

-- ---- of the original part
-- registers that are used unseen by any comparison behind: the base of an access, and a stored register
abbrev pub used_as : Class → Ins → List ℕ
used_as class.Load i = i.rs1 ∷ []
used_as class.Store i = i.rs1 ∷ cond (i.rs2 == i.rs1) [] (i.rs2 ∷ [])
used_as _ i = []

abbrev pub used : Ins → List ℕ
used i = used_as (class_of i.kind) i

-- the most steps of the original part, without and with the guards
abbrev pub bare_cost : Ins → ℕ
bare_cost i = cond (is_auipc i.kind) 2 1

abbrev pub original_cost : Ins → ℕ
original_cost i = length (used i) + bare_cost i

-- ---- of what a form counts
-- the most steps of an original part: 1 of a computing instruction other than AUIPC, 3 of any other
abbrev pub spent_as : Class → ℕ
spent_as class.Compute = 1
spent_as _ = 3

abbrev pub spent : Ins → ℕ
spent i = cond (is_auipc i.kind) 3 (spent_as (class_of i.kind))

-- the most steps of a mirror part of the same kind
abbrev pub mirror_steps_as : Class → ℕ
mirror_steps_as class.Compute = 1
mirror_steps_as class.Load = 2
mirror_steps_as class.Store = 2
mirror_steps_as _ = 0

abbrev pub mirror_steps : Ins → ℕ
mirror_steps i = cond (is_auipc i.kind) 2 (mirror_steps_as (class_of i.kind))

-- ---- of several instructions
abbrev pub cost_each : (Ins → ℕ) → List Ins → ℕ
cost_each cost [] = 0
cost_each cost (i ∷ is) = cost i + cost_each cost is
