-- How far the calls of a lane are answered, and the room for those that are still to come. Sizes
-- are in bytes.
use Rattle.std.specs.Prelude.{ℕ, ◌≡◌, ◌+◌, ◌≤◌, ◌<◌, ◌^◌, List, length, take, drop, sum_by}
use Rattle.std.specs.List.{All}
use Rattle.batch_plans.specs.declared.plan.Plan.{Plan}
use Rattle.batch_plans.specs.declared.plan.CallLine.{CallLine}
use Rattle.batch_plans.specs.Replies.{IsInRange}
use Rattle.batch_plans.specs.Room.{call_room, call_replies, call_batches}
use Rattle.batch_plans.specs.Progress.{Progress}
use Rattle.batch_plans.specs.AnswersText.{calls_lines, UsesUp}
use Rattle.context_books.specs.ContextLines.{export_limits}
use Rattle.context_books.specs.Runs.{Run}
use Rattle.context_books.specs.Lanes.{calls_of, done_lines}

-- these calls are answered by these lines: the replies and guesses that were put are theirs, and
-- no more
pub record HasAnswered (calls : List CallLine) (lines : List (List ℕ)) (p : Progress) : Type 0 where
  pub lines_are : calls_lines p.pool calls p.replies p.batches ≡ lines
  pub uses : UsesUp calls p.replies p.batches
  pub range : All (IsInRange p.taken) p.replies

-- there is room for the answers of these calls of a plan, which are still to come, and for no more
pub record HasRoomFor (plan : Plan) (export_limits : List ℕ) (calls : List CallLine) (p : Progress)
    : Type 0 where
  pub room : p.taken + sum_by (call_room plan export_limits) calls ≤ length p.pool
  pub left : p.left ≡ sum_by (call_replies plan export_limits) calls
  pub batches : p.batches_left ≡ sum_by (call_batches plan export_limits) calls
  pub few : length p.pool < 2 ^ 32

-- the answers of a lane keep up with a run: its first calls are answered by the lines that they are
-- due there, and there is room for the calls behind them
pub record KeepsUp (run : Run) (lane number : ℕ) (p : Progress) : Type 0 where
  pub answered : HasAnswered (take number (calls_of run lane)) (done_lines run lane number) p
  pub room : HasRoomFor run.plan (export_limits run.contexts) (drop number (calls_of run lane)) p
