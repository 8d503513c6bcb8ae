use Rattle.std.proofs.Common.{◌≡◌}
use Rattle.qed_words.specs.Text.Run.{byte_texts}
use Rattle.report.proofs.dump.byte_texts.Given as goal

-- the bytes so far
abbrev pub invariant-loop-i : goal.invariant-loop-i
invariant-loop-i l = l.text.items ≡ byte_texts l.machine.state.memory l.address l.i
