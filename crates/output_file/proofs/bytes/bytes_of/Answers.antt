use Rattle.std.proofs.Common.{◌++◌, List, ℕ, ap, ◌∙◌}
use Rattle.machine.specs.Numbers.{bytes_of}
use Rattle.output_file.proofs.WordBytes.{next_batch}
use Rattle.output_file.proofs.bytes.bytes_of.Goals as goal

pub loop-left-preserved : goal.loop-left-preserved
loop-left-preserved c =
    let so_far = c.loop-left.bytes.items in
    let new = c.push_batch.new.bytes.items in
    let left = c.loop-left.left.now in
    let batch = c.in_ok-push_batch.ensures ∙ ap (λ (words : List ℕ). so_far ++ bytes_of words) c.split_at.ensures.front in
    ap (λ (words : List ℕ). new ++ bytes_of words) c.split_at.ensures.back ∙ next_batch 64 so_far new left (bytes_of c.args.words.now) c.loop-left.invariant batch
