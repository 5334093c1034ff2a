use Rattle.std.proofs.Common.{◌≡◌, ◌++◌, drop}
use Rattle.std.specs.Vec.Iter.{into_iter_items}
use Rattle.capsule_frames.specs.Orders.{merged}
use Rattle.capsule_frames.proofs.merging.merged.Given as goal

abbrev pub invariant-lines : goal.invariant-lines
invariant-lines l =
    l.replies.items ++ merged (drop l.line-index l.lines) (into_iter_items l.asks_left)
    (into_iter_items l.answers_left) (into_iter_items l.takes_left)
    ≡ merged l.lines l.fn.asks.items l.fn.answers.items l.fn.takes.items
