use Rattle.std.proofs.Common.{ℕ, ◌-◌, sym, ap, ◌∙◌, arith}
use Rattle.context_books.specs.Standing.{call_refusal}
use Rattle.result_lines.specs.Guesses.{is_right}
use Rattle.journal_check.specs.Asks.{items_asked}
use Rattle.journal_check.specs.Walks.{run_in}
use Rattle.journal_check.proofs.ServedCalls.{asked_some, stands_on, points_behind, on_ok}
use Rattle.journal_check.proofs.Openings.{judged, same_opening, if_ok_both}
use Rattle.journal_check.proofs.guesses.pass_call.Goals as goal

pub pass_items-requires-clause-stands : goal.pass_items-requires-clause-stands
pass_items-requires-clause-stands c = stands_on c.args.walk.now c.requires.run c.args.call.now c.in-Some.context c.in-Some.count (sym c.in-Some.ensures)

pub returns-in-Some-clause-points : goal.returns-in-Some-clause-points
returns-in-Some-clause-points c =
    on_ok c.pass_items.result
    (λ passed number more points. points_behind c.args.walk.now c.requires.run c.args.call.now c.in-Some.context c.in-Some.count (sym c.in-Some.ensures) c.args.cursors.now c.pass_items.new.cursors number more points passed c.pass_items.ensures.others)
    c.pass_items.ensures.left

pub returns-in-Some-clause-right : goal.returns-in-Some-clause-right
returns-in-Some-clause-right c =
    let walk = c.args.walk.now in
    let call = c.args.call.now in
    let at = c.in-Some.context in
    let n = c.in-Some.count in
    let asked = asked_some (call_refusal walk.checked.contexts.now call) (items_asked call) (at, n) (sym c.in-Some.ensures) in
    if_ok_both c.pass_items.result _ _ _
    (λ passed least numbers number more told context first count opening free some points reach.
    let same = same_opening call at n context first count asked.1 opening in
    judged c.args.walk.now c.requires.run c.args.call.now c.in-Some.context c.in-Some.count (sym c.in-Some.ensures) number more c.args.cursors.now points reach
    (n - 1) (let is = same.1 in omega arith) told passed.least passed.numbers.items least numbers
    ∙ ap (λ (k : ℕ). is_right (run_in walk.checked) k walk.lane number n told) (sym same.0)
    ∙ ap (λ (k : ℕ). is_right (run_in walk.checked) context walk.lane number k told) (sym same.1))
    c.pass_items.ensures.least c.pass_items.ensures.numbers
