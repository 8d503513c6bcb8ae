use Rattle.std.proofs.Common.{◌≡◌, ◌++◌, drop}
use Rattle.machine.specs.Numbers.{bytes_of}
use Rattle.rv_asm.proofs.file.code_bytes.Given as goal

-- the bytes so far and those of the rest are those of all
abbrev pub invariant-loop-word : goal.invariant-loop-word
invariant-loop-word l = l.bytes.items ++ bytes_of (drop l.word-index l.code) ≡ bytes_of l.code
