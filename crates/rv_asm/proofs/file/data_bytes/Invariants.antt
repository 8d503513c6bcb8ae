use Rattle.std.proofs.Common.{◌≡◌, ◌++◌, drop}
use Rattle.rv_asm.specs.Assembled.{values_bytes}
use Rattle.rv_asm.proofs.file.data_bytes.Given as goal

-- the bytes so far and those of the rest are those of all
abbrev pub invariant-loop-value : goal.invariant-loop-value
invariant-loop-value l = l.bytes.items ++ values_bytes (drop l.value-index l.values) ≡ values_bytes l.values
