-- An original part alone does not keep lockstep.
use Rattle.std.proofs.Common.{◌≡◌, false, [], ◌∷◌, refl, sym, ◌∙◌}
use Rattle.std.specs.Prelude.{pos}
use Rattle.std.proofs.lemmas.Bool.{false≢true}
use Rattle.machine.specs.Table.{Illegal, ins}
use Rattle.qed_model.specs.Promise.Closed.{uses, guards_other, is_checked}
use Rattle.weave_core.specs.Kinds.{opens}
use Rattle.weave_core.proofs.Lemmas.{stub_opens}
use Rattle.eddi_dup.specs.Needed.{some_load, GuardsNeeded}

-- x2 is closed before it
closed : opens (some_load ∷ ins Illegal 0 0 0 (pos 0) ∷ []) ≡ false
unfolding uses guards_other is_checked
closed = refl

pub guards_needed : GuardsNeeded
guards_needed l = let w = l.locks false tt (λ t. 0) 0 in false≢true (sym closed ∙ w.front (ins Illegal 0 0 0 (pos 0) ∷ []) stub_opens)
