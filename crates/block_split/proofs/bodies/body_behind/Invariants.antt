use Rattle.std.proofs.Common.{◌≡◌, ◌+◌, drop}
use Rattle.machine.specs.Numbers.{is_at}
use Rattle.block_split.specs.Bodies.{size_behind, end_behind}
use Rattle.block_split.proofs.bodies.body_behind.Given as goal

-- the words so far belong to the body, and the rest decides
abbrev pub invariant-loop-word : goal.invariant-loop-word
invariant-loop-word l = record {
  counted : l.size ≡ l.word-index;
  size : l.size + size_behind (is_at l.next) l.previous (drop l.word-index l.words) ≡ size_behind (is_at l.next) l.start l.words;
  end : end_behind (is_at l.next) l.previous (drop l.word-index l.words) ≡ end_behind (is_at l.next) l.start l.words;
}
