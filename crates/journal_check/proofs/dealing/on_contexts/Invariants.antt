use Rattle.std.proofs.Common.{◌≡◌, [], drop}
use Rattle.std.specs.Prelude.{replicate}
use Rattle.journal_check.specs.Piles.{by_context, joined}
use Rattle.journal_check.proofs.dealing.on_contexts.Given as goal

abbrev pub invariant-lists : goal.invariant-lists
invariant-lists l =
    by_context l.piles.items (joined (drop l.list-index l.lists)) ≡ by_context (replicate l.count []) (joined l.lists)
