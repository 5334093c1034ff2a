use Rattle.lane_workers.proofs.Gathering.{fits, replies_are}
use Rattle.lane_workers.proofs.showing_laws.shown_lanes_are_answered.Goals as goal

pub returns-clause-steps : goal.returns-clause-steps
returns-clause-steps c = fits

pub returns-clause-replies : goal.returns-clause-replies
returns-clause-replies c = replies_are
