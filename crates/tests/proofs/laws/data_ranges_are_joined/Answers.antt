use Rattle.tests.proofs.ImageLaws.{joined_data}
use Rattle.tests.proofs.laws.data_ranges_are_joined.Goals as goal

pub returns : goal.returns
returns c = joined_data
