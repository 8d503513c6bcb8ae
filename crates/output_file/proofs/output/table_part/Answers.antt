use Rattle.std.proofs.Common.{ap, Some}
use Rattle.output_file.proofs.output.table_part.Goals as goal

pub returns : goal.returns
returns c = λ high are room. rw c.if-not-table.false (ap Some (c.in_ok-segment.ensures high are room))
