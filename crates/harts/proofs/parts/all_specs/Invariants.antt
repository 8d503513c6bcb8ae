use Rattle.std.proofs.Common.{◌≡◌, ◌++◌, drop}
use Rattle.mem_image.specs.Overlap.{segments_of}
use Rattle.harts.specs.Harts.{all_segments}
use Rattle.harts.specs.Played.{programs}
use Rattle.harts.proofs.parts.all_specs.Given as goal

-- the segments so far and those of the rest are those of all
abbrev pub invariant-loop-file : goal.invariant-loop-file
invariant-loop-file l = segments_of l.specs.items ++ all_segments (programs (drop l.file-index l.files)) ≡ all_segments (programs l.files)
