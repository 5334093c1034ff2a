use Rattle.std.proofs.Common.{◌≡◌, List, take, map}
use Rattle.batch_plans.specs.declared.plan.ContextLine.{ContextLine}
use Rattle.context_books.specs.ContextLines.{AreOfLines}
use Rattle.context_books.specs.Quotas.{counts_of}
use Rattle.context_books.proofs.counting.all_counts.Given as goal

abbrev pub invariant-lanes : goal.invariant-lanes
invariant-lanes l =
    (lines : List ContextLine) → AreOfLines lines l.contexts
    → l.rows.items ≡ map (counts_of lines l.contexts) (take l.calls-index l.calls-items)
