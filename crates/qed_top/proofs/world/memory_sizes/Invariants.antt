use Rattle.std.proofs.Common.{◌≡◌, ◌+◌, ◌*◌, ◌^◌, ◌≤◌, drop}
use Rattle.qed_top.specs.World.{bytes_of_files}
use Rattle.qed_top.proofs.world.memory_sizes.Given as goal

-- the sizes so far and those of the rest are those of all
abbrev pub invariant-loop-file : goal.invariant-loop-file
invariant-loop-file l = record {
  rest : l.size + bytes_of_files (drop l.file-index l.files) ≡ bytes_of_files l.files;
  small : l.size ≤ 2 ^ 124 * l.file-index;
}
