use Rattle.std.proofs.Common.{List, subst, sym}
use Rattle.call_places.specs.declared.entries.Mark.{Mark}
use Rattle.context_books.specs.Asks.{batch_of}
use Rattle.journal_check.specs.Piles.{IsKept}
use Rattle.journal_check.proofs.checking.Judge.verdict_on.Goals as goal

pub verdict_along-requires-clause-kept : goal.verdict_along-requires-clause-kept
verdict_along-requires-clause-kept c =
    let batch = batch_of c.args.plan.now c.args.contexts.now in
    subst (λ (js : List (List Mark)). IsKept batch js c.as_slice.result.now) c.journals.ensures
    (subst (IsKept batch c.journals.result.now) (sym c.as_slice.ensures.value) c.in_ok-kept.ensures)
