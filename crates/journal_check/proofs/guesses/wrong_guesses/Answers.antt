use Rattle.std.proofs.Common.{sym, ◌∙◌, arith}
use Rattle.std.proofs.lemmas.List.{length-map}
use Rattle.journal_check.specs.Walks.{run_in}
use Rattle.journal_check.proofs.GuessSteps.{lane_right, lane_wrong}
use Rattle.journal_check.proofs.guesses.wrong_guesses.Goals as goal

pub wrong_guess-requires-clause-there : goal.wrong_guess-requires-clause-there
wrong_guess-requires-clause-there c =
    let size = sym (length-map c.args.checked.now.guesses.now _) ∙ c.requires.lanes_size in
    omega (arith, c.lanes-test.true, size)

pub returns-then-is_some : goal.returns-then-is_some
returns-then-is_some c =
    let checked = c.args.checked.now in
    lane_wrong (run_in checked) checked.guesses.now c.lanes.lane c.guesses-item.result c.as_slice.result.now c.in_ok-wrong.wrong _ c.lanes-test.true
    (c.as_slice.ensures.items ∙ c.guesses-item.is) c.in_ok-wrong.ensures c.lanes.invariant (sym c.is_some.ensures ∙ c.if-is_some.true)

pub lanes-preserved : goal.lanes-preserved
lanes-preserved c =
    let checked = c.args.checked.now in
    lane_right (run_in checked) checked.guesses.now c.lanes.lane c.guesses-item.result c.as_slice.result.now c.in_ok-wrong.wrong _ c.lanes-test.true
    (c.as_slice.ensures.items ∙ c.guesses-item.is) c.in_ok-wrong.ensures c.lanes.invariant (sym c.is_some.ensures ∙ c.if-is_some.false)
