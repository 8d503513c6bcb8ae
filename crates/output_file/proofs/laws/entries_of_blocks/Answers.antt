use Rattle.output_file.proofs.BlockEntries.{entries_are}
use Rattle.output_file.proofs.laws.entries_of_blocks.Goals as goal

pub returns : goal.returns
returns c = entries_are
