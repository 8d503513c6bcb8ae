use Rattle.std.proofs.Common.{◌≡◌, ◌+◌, ◌*◌, ◌^◌, ◌<◌, ◌++◌, length, drop}
use Rattle.listing.specs.Roles.{words_lines}
use Rattle.listing.proofs.roles.push_role_words.Given as goal

-- the lines so far, and those of the other words
abbrev pub invariant-loop-word : goal.invariant-loop-word
invariant-loop-word l = record {
  same : l.text.items ++ words_lines l.role (drop l.word-index l.words) l.at ≡ l.initial.text.items ++ words_lines l.role l.words l.first;
  low : l.at + 4 * length (drop l.word-index l.words) < 2 ^ 64;
}
