use Rattle.std.proofs.Common.{◌≡◌, ◌++◌, replicate}
use Rattle.elf_write.proofs.numbers.push_zeros.Given as goal

-- as many zeros as turns so far
abbrev pub invariant-loop : goal.invariant-loop
invariant-loop l = l.file.items ≡ l.initial.file.items ++ replicate l.counter 0
