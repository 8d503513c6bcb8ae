use Rattle.std.proofs.Common.{◌+◌, sym, ap, ◌∙◌}
use Rattle.std.specs.Prelude.{slice_set}
use Rattle.machine.specs.Memory.{byte_of}
use Rattle.mem_image.proofs.NumberLaws.{low_byte}
use Rattle.mem_image.proofs.PageLaws.{bytes_put-none, bytes_put-more}
use Rattle.mem_image.proofs.page.Page.scatter.Goals as goal

pub loop-i-init : goal.loop-i-init
loop-i-init c = sym (bytes_put-none _ _ _)

pub loop-i-preserved : goal.loop-i-preserved
loop-i-preserved c =
    ap (λ b. slice_set c.loop-i.self.bytes (c.args.at + c.loop-i.i) b) (low_byte c.args.value c.loop-i.i)
    ∙ ap (λ xs. slice_set xs (c.args.at + c.loop-i.i) (byte_of c.args.value c.loop-i.i)) c.loop-i.invariant
    ∙ bytes_put-more c.args.self.now.bytes c.args.at c.loop-i.i c.args.value
