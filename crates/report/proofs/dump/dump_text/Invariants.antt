use Rattle.std.proofs.Common.{◌≡◌}
use Rattle.qed_words.specs.Text.Run.{dump_lines}
use Rattle.report.proofs.dump.dump_text.Given as goal

-- the lines so far
abbrev pub invariant-loop-k : goal.invariant-loop-k
invariant-loop-k l = l.text.items ≡ dump_lines l.machine.state.memory l.address l.length l.k
