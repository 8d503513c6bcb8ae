use Rattle.weave_examples.proofs.Cut as cut
use Rattle.weave_examples.proofs.Joined as law
use Rattle.weave_examples.specs.Joined.{cut_runs}
use Rattle.weave_examples.proofs.joined_pieces.Goals as goal

pub returns-clause-cut : goal.returns-clause-cut
returns-clause-cut c = λ is. (cut.cut_whole is, cut.cut_are_runs is)

pub returns-clause-kept : goal.returns-clause-kept
returns-clause-kept c = law.kept cut_runs cut.cut_whole

pub returns-clause-landed : goal.returns-clause-landed
returns-clause-landed c = law.landed cut_runs cut.cut_whole

pub returns-clause-caught : goal.returns-clause-caught
returns-clause-caught c = law.caught cut_runs cut.cut_whole

pub returns-clause-clean : goal.returns-clause-clean
returns-clause-clean c = law.clean cut_runs cut.cut_whole
