use Rattle.lean.proofs.Weave.Tests as tests
use Rattle.lean.proofs.promises.lean_tests_places.Goals as goal

pub returns : goal.returns
returns c = tests.tests_places
