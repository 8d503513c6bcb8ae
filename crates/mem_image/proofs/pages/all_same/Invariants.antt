use Rattle.std.proofs.Common.{◌≡◌, take}
use Rattle.mem_image.proofs.pages.all_same.Given as goal

-- those so far are the same
abbrev pub invariant-loop-i : goal.invariant-loop-i
invariant-loop-i l = take l.i l.pages ≡ take l.i l.others
