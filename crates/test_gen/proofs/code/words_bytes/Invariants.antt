use Rattle.std.proofs.Common.{◌≡◌, ◌++◌, drop, map}
use Rattle.machine.specs.Numbers.{bytes_of}
use Rattle.test_gen.specs.Generated.{generated_word}
use Rattle.test_gen.proofs.code.words_bytes.Given as goal

-- the bytes so far and those of the rest are those of all
abbrev pub invariant-loop-ins : goal.invariant-loop-ins
invariant-loop-ins l = l.bytes.items ++ bytes_of (map generated_word (drop l.ins-index l.code)) ≡ bytes_of (map generated_word l.code)
