use Rattle.std.proofs.Common.{◌≡◌, ◌++◌, map, drop}
use Rattle.journal_check.specs.Asks.{size_in}
use Rattle.journal_check.proofs.asks.sizes_in.Given as goal

abbrev pub invariant-calls : goal.invariant-calls
invariant-calls l =
    l.sizes.items ++ map (size_in l.contexts) (drop l.call-index l.calls) ≡ map (size_in l.contexts) l.calls
