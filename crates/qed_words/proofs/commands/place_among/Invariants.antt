use Rattle.std.proofs.Common.{◌≡◌, map, drop}
use Rattle.std.specs.List.{position_from}
use Rattle.std.specs.Str.{bytes_eq}
use Rattle.qed_words.specs.Tables.{place_among}
use Rattle.qed_words.proofs.commands.place_among.Given as goal

-- the place is the first in the rest
abbrev pub invariant-loop-place : goal.invariant-loop-place
invariant-loop-place l =
    position_from (λ word. bytes_eq word l.text) l.place (map (λ word. word.now) (drop l.place l.words)) ≡ place_among (map (λ word. word.now) l.words) l.text
