use Rattle.lean.proofs.Weave.Tests as tests
use Rattle.lean.proofs.promises.lean_tests_faults_clean.Goals as goal

pub returns : goal.returns
returns c = tests.tests_faults_clean
