-- The laws of guards before a pass.
use Rattle.std.proofs.Common.{ℕ, Bool, List, ◌++◌}
use Rattle.qed_model.specs.declared.item.Item.{Item}
use Rattle.qed_model.specs.Weave.Sequences.{guards}
use Rattle.passes.specs.Pass.{AllLow, Honest}
use Rattle.passes.specs.Compose.{honest_items_then}
use Rattle.passes.proofs.Guards.{honest_guards}
pub use Rattle.weave_core.proofs.Lemmas.{quiet_guarded}
pub use Rattle.weave_core.proofs.Lemmas.{lockstep_guarded}

pub honest_guarded : (s : Bool → Type 0) (qs : List ℕ) (xs : List Item) → AllLow qs → Honest s xs → Honest s (guards qs ++ xs)
honest_guarded s qs xs low a =
    let g = honest_guards s qs low in
    record { honest = λ far suits. honest_items_then far (guards qs) xs (g.honest far suits) (a.honest far suits) }
