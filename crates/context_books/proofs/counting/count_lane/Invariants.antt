use Rattle.std.proofs.Common.{◌≡◌, ◌<◌, ◌+◌, ℕ, List, length, take, get_or}
use Rattle.std.specs.List.{sum_by}
use Rattle.batch_plans.specs.declared.plan.ContextLine.{ContextLine}
use Rattle.batch_plans.specs.Room.{items_on}
use Rattle.context_books.specs.ContextLines.{AreOfLines, export_limits}
use Rattle.context_books.proofs.counting.count_lane.Given as goal

abbrev pub invariant-calls : goal.invariant-calls
invariant-calls l =
    let calls = take l.call-index l.calls in
    (lines : List ContextLine) → AreOfLines lines l.contexts → (k : ℕ) → k < length l.counts
    → get_or l.counts k 0
    ≡ get_or l.initial.counts k 0 + sum_by (items_on lines (export_limits l.contexts) k) calls
