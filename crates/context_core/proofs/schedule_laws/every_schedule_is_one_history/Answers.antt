use Rattle.context_core.proofs.Schedules.{one_history, legal_together}
use Rattle.context_core.proofs.schedule_laws.every_schedule_is_one_history.Goals as goal

pub returns-clause-history : goal.returns-clause-history
returns-clause-history c = one_history

pub returns-clause-legal : goal.returns-clause-legal
returns-clause-legal c = legal_together
