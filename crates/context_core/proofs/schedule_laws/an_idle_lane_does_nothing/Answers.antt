use Rattle.context_core.proofs.Idle.{at_end, not_there}
use Rattle.context_core.proofs.schedule_laws.an_idle_lane_does_nothing.Goals as goal

pub returns-clause-at_end : goal.returns-clause-at_end
returns-clause-at_end c = at_end

pub returns-clause-not_there : goal.returns-clause-not_there
returns-clause-not_there c = not_there
