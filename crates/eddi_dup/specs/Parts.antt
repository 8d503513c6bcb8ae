-- The two parts of an instruction, and the comparison, as passes.
pub use Rattle.weave_core.specs.Parts.{unguarded, StandsBefore, Compares}
pub use Rattle.qed_model.specs.Weave.Costs.{bare_cost}
