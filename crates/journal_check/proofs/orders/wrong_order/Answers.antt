use Rattle.std.proofs.Common.{sym, ◌∙◌, arith}
use Rattle.context_books.specs.Asks.{batch_of}
use Rattle.journal_check.proofs.LiveSound.{broken_low}
use Rattle.journal_check.proofs.orders.wrong_order.Goals as goal

pub named-context-requires-clause-few : goal.named-context-requires-clause-few
named-context-requires-clause-few c =
    let low = broken_low c.has_stamps-stamps.result (batch_of c.args.plan.now c.args.contexts.now) 0 c.args.journals.now c.in-Some.at (sym c.in_ok-broken.ensures ∙ c.in-Some.is) in
    omega (arith, low, c.requires.few)
