use Rattle.std.proofs.Common.{◌≡◌, drop}
use Rattle.std.specs.Prelude.{nat_lt}
use Rattle.std.specs.List.{list_all}
use Rattle.context_books.specs.Histories.{places}
use Rattle.journal_check.proofs.journals.are_of_lanes.Given as goal

abbrev pub invariant-marks : goal.invariant-marks
invariant-marks l =
    list_all (λ p. nat_lt p.lane l.lanes) (places (drop l.mark-index l.marks)) ≡ list_all (λ p. nat_lt p.lane l.lanes) (places l.marks)
