use Rattle.lean.proofs.Weave.Tests as tests
use Rattle.lean.proofs.promises.lean_tests_no_wrong_end.Goals as goal

pub returns : goal.returns
returns c = tests.tests_no_wrong_end
