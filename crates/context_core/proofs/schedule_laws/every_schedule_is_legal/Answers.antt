use Rattle.context_core.proofs.Schedules.{journals_legal, lane_count, all_ended, all_guessed}
use Rattle.context_core.proofs.schedule_laws.every_schedule_is_legal.Goals as goal

pub returns-clause-legal : goal.returns-clause-legal
returns-clause-legal c = journals_legal

pub returns-clause-lanes : goal.returns-clause-lanes
returns-clause-lanes c = lane_count

pub returns-clause-ended : goal.returns-clause-ended
returns-clause-ended c = all_ended

pub returns-clause-guessed : goal.returns-clause-guessed
returns-clause-guessed c = all_guessed
