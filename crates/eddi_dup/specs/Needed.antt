-- What the law refuses: an original part alone.
use Rattle.std.specs.Prelude.{[], pos}
use Rattle.machine.specs.Table.{Ins, Ld, ins}
use Rattle.passes.specs.Pass.{Lockstep}
use Rattle.eddi_dup.specs.Parts.{unguarded}
use Rattle.eddi_dup.specs.Laws.{any}

-- ld x1, 0(x2)
abbrev pub some_load : Ins
some_load = ins Ld 1 2 0 (pos 0)

-- without a comparison of the load's base, lockstep is lost
abbrev pub GuardsNeeded : Type 0
GuardsNeeded = Lockstep any [] (unguarded some_load 0) → ⊥
