use Rattle.std.proofs.Common.{ℕ, ◌+◌, List, sym, subst}
use Rattle.context_books.specs.Batches.{block}
use Rattle.result_lines.proofs.RunTexts.{length-block}
use Rattle.journal_check.specs.Asks.{places_from}
use Rattle.journal_check.specs.Walks.{Holds}
use Rattle.journal_check.proofs.ServedCalls.{stands_on, left_here, points_behind, lines_here, on_ok}
use Rattle.journal_check.proofs.replies.take_served.Goals as goal

pub take_items-requires-clause-stands : goal.take_items-requires-clause-stands
take_items-requires-clause-stands c = stands_on c.args.walk.now c.requires.run c.args.call.now c.in-Some.context c.in-Some.count (sym c.in-Some.ensures)

pub returns-in-Some-clause-lines : goal.returns-in-Some-clause-lines
returns-in-Some-clause-lines c = λ number more points.
    let walk = c.args.walk.now in
    let n = c.in-Some.count in
    subst (λ (lines : List (List ℕ)). Holds c.args.replies.now c.take_items.new.replies lines c.take_items.result) (lines_here c.args.walk.now c.requires.run c.args.call.now c.in-Some.context c.in-Some.count (sym c.in-Some.ensures) number)
    (c.take_items.ensures.lines (block walk.lane number 0 n) (places_from walk.checked.contexts.now c.in-Some.context walk.lane (number + 1) more) (length-block walk.lane number 0 n)
    (left_here c.args.walk.now c.requires.run c.args.call.now c.in-Some.context c.in-Some.count (sym c.in-Some.ensures) c.args.cursors.now number more points))

pub returns-in-Some-clause-points : goal.returns-in-Some-clause-points
returns-in-Some-clause-points c =
    on_ok c.take_items.result
    (λ passed number more points. points_behind c.args.walk.now c.requires.run c.args.call.now c.in-Some.context c.in-Some.count (sym c.in-Some.ensures) c.args.cursors.now c.take_items.new.cursors number more points passed c.take_items.ensures.others)
    c.take_items.ensures.left
