use Rattle.std.proofs.Common.{◌≡◌, ◌++◌, drop}
use Rattle.std.specs.String.{string_bytes}
use Rattle.texts.specs.Names.{escaped}
use Rattle.texts.proofs.names.push_escaped.Given as goal

-- the text so far, and the bytes that are left
abbrev pub invariant-loop-byte : goal.invariant-loop-byte
invariant-loop-byte l = string_bytes l.text ++ escaped (drop l.byte-index l.bytes) ≡ string_bytes l.initial.text ++ escaped l.bytes
