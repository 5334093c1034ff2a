use Rattle.std.proofs.Common.{sym, ◌∙◌}
use Rattle.context_books.specs.Histories.{places}
use Rattle.journal_check.proofs.Dealt.{has_lanes_by}
use Rattle.journal_check.proofs.journals.has_lanes.Goals as goal

pub returns-then-are_of_lanes : goal.returns-then-are_of_lanes
returns-then-are_of_lanes c = λ batch context many asked_is.
    c.are_same.ensures
    ∙ has_lanes_by batch context c.args.lanes (places c.args.marks.now) c.args.by_lane.told.now c.args.by_lane.asked.now many c.requires asked_is (sym c.are_of_lanes.ensures ∙ c.if-are_of_lanes.true)
