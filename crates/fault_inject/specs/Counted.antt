-- Runs with changes: their step counts, and parts of them.
use Rattle.std.specs.Prelude.{◌≡◌, ℕ, zero, suc, ◌≤◌, List, take, drop, All}
use Rattle.qed_model.specs.declared.change.Change.{Change}
use Rattle.machine.specs.Progress.{Progress, steps_after}
use Rattle.qed_model.specs.Promise.Changed.{changed_run}

-- how many steps are counted after n more: a step counts if the machine goes on; changes do not count
unfoldable pub changed_steps : Progress → List Change → ℕ → ℕ
changed_steps m cs zero = m.steps
changed_steps m cs (suc n) = steps_after (changed_run m.state cs n).outcome (changed_steps m cs n)

-- part of a run of n steps, with all changes of the list that come before its end, and none that comes after
pub record IsPartOf (m : Progress) (cs : List Change) (n : ℕ) (after : Progress) : Type 0 where
  pub count : ℕ
  pub most : count ≤ n
  pub made : ℕ
  pub before : All (λ c. c.step ≤ count) (take made cs)
  pub behind : All (λ c. count ≤ c.step) (drop made cs)
  pub state : after.state ≡ changed_run m.state (take made cs) count
  pub steps : after.steps ≡ changed_steps m (take made cs) count
