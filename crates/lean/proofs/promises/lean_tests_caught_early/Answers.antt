use Rattle.lean.proofs.Weave.Tests as tests
use Rattle.lean.proofs.promises.lean_tests_caught_early.Goals as goal

pub returns : goal.returns
returns c = tests.tests_caught_early
