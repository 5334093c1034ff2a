use Rattle.hpke_context.proofs.Runs.{run-append, due-append}
use Rattle.hpke_context.proofs.laws.answers_go_on.Goals as goal

pub returns-clause-answers : goal.returns-clause-answers
returns-clause-answers c = run-append

pub returns-clause-number : goal.returns-clause-number
returns-clause-number c = due-append
