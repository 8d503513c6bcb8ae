use Rattle.std.proofs.Common.{◌≡◌, ◌++◌, drop, map}
use Rattle.harts.specs.Played.{started}
use Rattle.harts.proofs.parts.start_harts.Given as goal

-- the harts so far and those of the rest are those of all
abbrev pub invariant-loop-file : goal.invariant-loop-file
invariant-loop-file l = l.harts.items ++ map started (drop l.file-index l.files) ≡ map started l.files
