use Rattle.std.proofs.Common.{sym}
use Rattle.context_books.proofs.EntryNumbers.{steps_are, number_due}
use Rattle.context_books.proofs.entries.fitting_entries_are_a_run.Goals as goal

pub returns-clause-steps : goal.returns-clause-steps
returns-clause-steps c = steps_are

pub returns-clause-due : goal.returns-clause-due
returns-clause-due c = λ batch context cipher entries fits. sym (number_due batch context cipher entries fits)
