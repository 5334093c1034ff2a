use Rattle.std.proofs.Common.{◌≡◌, drop}
use Rattle.context_books.specs.Checks.{is_unbroken}
use Rattle.journal_check.specs.Asks.{batch_from}
use Rattle.journal_check.proofs.journals.is_unbroken.Given as goal

abbrev pub invariant-places : goal.invariant-places
invariant-places l =
    is_unbroken (batch_from l.asks) (drop l.i l.places) ≡ is_unbroken (batch_from l.asks) l.places
