-- The end of a test with the sweep, as a pass.
pub use Rattle.weave_core.specs.Leaving.{swept_end, Sweeps, SweptTo}
