use Rattle.std.proofs.Common.{◌+◌, ◌++◌, List, drop, sym, ap, append_assoc, ◌∙◌, arith}
use Rattle.std.proofs.lemmas.Grind.{common_steps}
use Rattle.journal_check.specs.declared.asks.Asked.{Asked}
use Rattle.journal_check.specs.Histories.{spots_from}
use Rattle.journal_check.proofs.Walks.{drop_next}
use Rattle.journal_check.proofs.spots.spots_on.Goals as goal

pub calls-preserved : goal.calls-preserved
calls-preserved c =
    let calls = c.args.calls.now in
    let i = c.calls.number in
    let so_far = c.calls.spots.items in
    rw c.in_ok-push_spots.ensures
    (append_assoc so_far _ (spots_from c.args.lane (i + 1) (drop (i + 1) calls))
    ∙ ap (λ (calls : List Asked). so_far ++ spots_from c.args.lane i calls) (sym (drop_next calls i _ c.calls-test.true))
    ∙ c.calls.invariant)

pub returns : goal.returns
returns c = grind (arith, common_steps)
