use Rattle.std.proofs.Common.{List, ℕ, ◌++◌, ap, ◌∙◌}
use Rattle.output_file.proofs.WordBytes.{bytes_joined}
use Rattle.output_file.proofs.bytes.push_batch.Goals as goal

pub returns : goal.returns
returns c = c.in_ok-extend_from_slice.ensures.items ∙ ap (λ (more : List ℕ). c.args.bytes.now.items ++ more) (c.write_u32_into.ensures ∙ bytes_joined c.args.words.now)
