use Rattle.request_frames.proofs.Fronts.{begins, goes_on, front_fault, fault_front}
use Rattle.request_frames.proofs.reading.fronts_are_batches.Goals as goal

pub returns-clause-begins : goal.returns-clause-begins
returns-clause-begins c = begins

pub returns-clause-goes_on : goal.returns-clause-goes_on
returns-clause-goes_on c = goes_on

pub returns-clause-faults : goal.returns-clause-faults
returns-clause-faults c = front_fault

pub returns-clause-no_other : goal.returns-clause-no_other
returns-clause-no_other c = fault_front
