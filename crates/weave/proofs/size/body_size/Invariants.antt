use Rattle.std.proofs.Common.{◌≡◌, ◌+◌, ◌^◌, ◌<◌, drop}
use Rattle.relinker.specs.Counted.{capped}
use Rattle.weave.specs.Sizes.{body_bytes}
use Rattle.weave.proofs.size.body_size.Given as goal

-- the bytes so far and those of the rest are those of all
abbrev pub invariant-loop-ins : goal.invariant-loop-ins
invariant-loop-ins l = record {
  sum : capped (l.total + body_bytes l.diverse (drop l.ins-index l.body)) ≡ capped (body_bytes l.diverse l.body);
  small : l.total < 2 ^ 64;
}
