use Rattle.std.proofs.Common.{◌≡◌, take, map}
use Rattle.context_books.specs.ContextLines.{limit_of}
use Rattle.context_table.proofs.setups.export_limits.Given as goal

abbrev pub invariant-contexts : goal.invariant-contexts
invariant-contexts l = l.limits.items ≡ map limit_of (take l.context-index l.standing)
