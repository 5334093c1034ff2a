use Rattle.lane_workers.proofs.Gathering.{guessed, missed_is}
use Rattle.lane_workers.proofs.showing_laws.shown_guesses_may_have_been_made.Goals as goal

pub returns-clause-guessed : goal.returns-clause-guessed
returns-clause-guessed c = guessed

pub returns-clause-missed : goal.returns-clause-missed
returns-clause-missed c = missed_is
