use Rattle.context_books.proofs.OneLane.{sealed, opened}
use Rattle.context_books.proofs.journals.one_lane_is_answered_in_order.Goals as goal

pub returns-clause-sealed : goal.returns-clause-sealed
returns-clause-sealed c = sealed

pub returns-clause-opened : goal.returns-clause-opened
returns-clause-opened c = opened
