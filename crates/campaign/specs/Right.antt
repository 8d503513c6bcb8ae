-- Whether a test that a strike did not stop ended right: with the values that its input has at its own end.
use Rattle.std.specs.Prelude.{ℕ, zero, suc, ◌+◌, ◌-◌, ◌==◌, Bool, true, false, ◌&&◌, List, map}
use Rattle.std.specs.List.{list_all}
use Rattle.rv_isa.specs.declared.profile.TheConstants.{ORIGINALS}
use Rattle.qed_model.specs.declared.change.Change.{Change}
use Rattle.qed_model.specs.declared.verdict.Struck.{Struck}
use Rattle.qed_model.specs.declared.verdict.Verdict.{Verdict}
use Rattle.qed_model.specs.declared.verdict.Verdict.TheVariants.{Ended}
pub use Rattle.machine.specs.Memory.{Memory, byte_at}
use Rattle.machine.specs.Step.{State, reg, run}
use Rattle.qed_model.specs.Promise.Changed.{changed_run, last_step}
use Rattle.qed_model.specs.Promise.OwnSteps.{has_ended}
use Rattle.campaign.specs.Kept.{Pair}

-- ---- two states
-- two functions agree at each of n numbers from a on
unfoldable pub same_from : (ℕ → ℕ) → (ℕ → ℕ) → ℕ → ℕ → Bool
same_from f g a zero = true
same_from f g a (suc n) = (f a == g a) && same_from f g (a + 1) n

-- x1 to x13 agree
abbrev pub same_regs : State → State → Bool
same_regs u v = same_from (reg u) (reg v) 1 ORIGINALS

-- the bytes of a range agree
unfoldable pub same_bytes : Memory → Memory → ℕ × ℕ → Bool
same_bytes m k r = same_from (byte_at m) (byte_at k) r.0 (r.1 - r.0)

-- x1 to x13 and the data words agree
abbrev pub same_values : State → State → List (ℕ × ℕ) → Bool
same_values u v spans = same_regs u v && list_all (same_bytes u.memory v.memory) spans

-- ---- the end
-- the changed output ended k steps behind the last change; the input has ended by then, with equal values
unfoldable pub ends_right : State → State → List (ℕ × ℕ) → List Change → ℕ → Bool
ends_right input output spans cs k =
    has_ended (run input (last_step cs + k)).outcome && same_values (changed_run output cs (last_step cs + k)) (run input (last_step cs + k)) spans

-- whether a strike with this verdict ended right; false if it did not end
abbrev pub right_by : Pair → List (ℕ × ℕ) → List Change → Verdict → Bool
right_by p spans cs (Ended k) = ends_right p.input p.output spans cs k
right_by p spans cs _ = false

abbrev pub is_right : Pair → List (ℕ × ℕ) → Struck → Bool
is_right p spans s = right_by p spans s.changes s.verdict

-- whether each strike ended right, in their order
abbrev pub rights : Pair → List (ℕ × ℕ) → List Struck → List Bool
rights p spans struck = map (is_right p spans) struck
