use Rattle.lockstep.proofs.InstructionFaults as faults
use Rattle.lockstep.proofs.tests_faults_clean.Goals as goal

pub returns : goal.returns
returns c = faults.tests_faults_clean
