use Rattle.std.proofs.Common.{◌≡◌, take, true}
use Rattle.mem_image.proofs.page.Page.is_same.Given as goal

-- those so far are the same
abbrev pub invariant-loop-i : goal.invariant-loop-i
invariant-loop-i l = l.same ≡ true → take l.i l.self.bytes ≡ take l.i l.other.bytes
