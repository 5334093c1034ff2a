-- Replies whose spans name bytes of a pool.
use Rattle.std.specs.Prelude.{ℕ, length}
use Rattle.std.specs.List.{All}
use Rattle.call_places.specs.Spans.{IsInPool}
use Rattle.batch_plans.specs.declared.replies.Reply.{Reply}
use Rattle.batch_plans.specs.declared.replies.Reply.TheVariants.{Sealed, Opened, Exported}
use Rattle.batch_plans.specs.declared.replies.LaneAnswers.{LaneAnswers}

-- the span of a reply lies in a pool of so many bytes
abbrev pub IsInRange : ℕ → Reply → Type 0
IsInRange size (Sealed number text) = IsInPool size text
IsInRange size (Opened number text) = IsInPool size text
IsInRange size (Exported text) = IsInPool size text
IsInRange size reply = Unit {0}

-- each reply's span lies in the pool of its lane
abbrev pub IsPrintable : LaneAnswers → Type 0
IsPrintable lane = All (IsInRange (length lane.pool)) lane.replies
