use Rattle.std.proofs.Common.{◌≡◌, ◌-◌}
use Rattle.machine.specs.Memory.{Memory}
use Rattle.qed_words.specs.Text.Run.{register_lines}
use Rattle.rv_step.specs.Harts.{with_memory}
use Rattle.report.proofs.run.registers_text.Given as goal

-- the lines so far
abbrev pub invariant-loop-number : goal.invariant-loop-number
invariant-loop-number l = (m : Memory) → l.text.items ≡ register_lines (with_memory l.hart m).state (l.number - 1)
