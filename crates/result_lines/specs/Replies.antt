-- The replies that are due along the journals of a run, without what openings guessed.
use Rattle.std.specs.Prelude.{ℕ, List, [], ◌∷◌, Option, Some, None, if◌then◌else◌}
use Rattle.std.specs.Str.{bytes_eq}
use Rattle.batch_plans.specs.declared.plan.CallLine.{CallLine}
use Rattle.batch_plans.specs.ReplyText.{all_lines, numbered}
use Rattle.context_books.specs.Standing.{call_refusal}
use Rattle.context_books.specs.Runs.{Run, item_lines, lines_unless}
use Rattle.result_lines.specs.Places.{with_feed}
use Rattle.result_lines.specs.Told.{ReplyView}

-- those to a call
abbrev pub reply_lines : Run → ℕ → ℕ → CallLine → List (List ℕ)
reply_lines run lane number call =
    lines_unless (call_refusal run.contexts call) (item_lines run lane number call)

-- those of a lane
abbrev pub lane_replies : Run → ℕ → List CallLine → List (List ℕ)
lane_replies run lane calls = all_lines (numbered (reply_lines run lane) 0 calls)

-- those of all lanes
abbrev pub all_replies : Run → List (List ℕ)
all_replies run = all_lines (numbered (lane_replies run) 0 run.plan.lanes)

-- the number of the first line that isn't the one that is due; one for which none is due is wrong
abbrev pub wrong_reply : List ReplyView → List (List ℕ) → Option ℕ
wrong_reply [] due = None
wrong_reply (reply ∷ more) [] = Some reply.number
wrong_reply (reply ∷ more) (line ∷ due) =
    if bytes_eq (with_feed reply.line) line then wrong_reply more due else Some reply.number
