use Rattle.context_core.proofs.Schedules.{openings_in_turn}
use Rattle.context_core.proofs.schedule_laws.every_schedule_opens_in_turn.Goals as goal

pub returns : goal.returns
returns c = openings_in_turn
