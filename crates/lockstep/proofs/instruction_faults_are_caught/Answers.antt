use Rattle.lockstep.proofs.InstructionFaults as faults
use Rattle.lockstep.proofs.instruction_faults_are_caught.Goals as goal

pub returns : goal.returns
returns c = faults.instruction_faults_are_caught
