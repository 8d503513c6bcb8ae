use Rattle.std.proofs.Common.{◌≡◌}
use Rattle.diagnose.proofs.answers.first_unread.Given as goal

-- the shelf still has its files
abbrev pub invariant-loop-name : goal.invariant-loop-name
invariant-loop-name g l = let shelf = g.S.Shelf in shelf.files l.shelf ≡ shelf.files l.fn.shelf
