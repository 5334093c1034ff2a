use Rattle.std.proofs.Common.{◌≡◌, drop}
use Rattle.context_books.specs.Batches.{own_places}
use Rattle.context_books.specs.Histories.{places}
use Rattle.journal_check.proofs.lane_walks.own_from.Given as goal

abbrev pub invariant-marks : goal.invariant-marks
invariant-marks l = own_places l.lane (places (drop l.at l.marks)) ≡ own_places l.lane (places (drop l.from l.marks))
