-- The reply that answers to a plan make up: the lines of the replies and guesses that its lanes were
-- given, in the text that ReplyText and LiveText make of such lines.
use Rattle.std.specs.Prelude.{ℕ, List, [], codes, ◌≡◌, ◌+◌, ◌<◌, Bool, true, false, if◌then◌else◌, ◌∷◌, ◌++◌, length, take, drop, map, slice_get, Option, Some, filter}
use Rattle.call_places.specs.Spans.{span_bytes}
use Rattle.batch_plans.specs.declared.replies.Reply.{Reply}
use Rattle.batch_plans.specs.declared.replies.Reply.TheVariants.{Blank, Sealed, Opened, Failed, Limit, Exported, Refused, Added, Retired}
use Rattle.batch_plans.specs.Lines.{added_line, exported_line, failed_line, limit_line, refused_line, retired_line, served_line, batch_line}
use Rattle.std.specs.List.{All, concat}
use Rattle.batch_plans.specs.declared.replies.Batch.{Batch}
use Rattle.batch_plans.specs.declared.replies.LaneAnswers.{LaneAnswers}
use Rattle.batch_plans.specs.declared.replies.Answers.{Answers}
use Rattle.batch_plans.specs.Replies.{IsPrintable}
use Rattle.batch_plans.specs.declared.plan.CallLine.{CallLine}
use Rattle.batch_plans.specs.declared.plan.Plan.{Plan}
use Rattle.batch_plans.specs.Calls.{items_of}
use Rattle.batch_plans.specs.Room.{served_batches}
use Rattle.batch_plans.specs.ReplyText.{reply_lines}
use Rattle.batch_plans.specs.Names.{line_count}
use Rattle.batch_plans.specs.LiveText.{live_lines}

-- ---- the replies of a call

-- the line of a reply, whose spans name bytes of the pool; a reply that was not given has none
abbrev pub reply_line : List ℕ → Reply → List ℕ
reply_line pool Blank = []
reply_line pool (Sealed number text) = served_line (codes "sealed ") number (span_bytes pool text)
reply_line pool (Opened number text) = served_line (codes "opened ") number (span_bytes pool text)
reply_line pool (Failed number) = failed_line number
reply_line pool Limit = limit_line
reply_line pool (Exported text) = exported_line (span_bytes pool text)
reply_line pool (Refused refusal) = refused_line refusal
reply_line pool Added = added_line
reply_line pool Retired = retired_line

abbrev pub is_refused : Option Reply → Bool
is_refused (Some (Refused refusal)) = true
is_refused next = false

-- how many of a lane's next replies are a call's: one for each item, and one where it is a refusal
abbrev pub reply_count : CallLine → Option Reply → ℕ
reply_count call next = if is_refused next then 1 else items_of call

-- how many of a lane's next guesses are a call's
abbrev pub batch_count : CallLine → Option Reply → ℕ
batch_count call next = if is_refused next then 0 else served_batches call

-- ---- lanes

-- the line of a guess
abbrev pub guess_line : Batch → List ℕ
guess_line batch = batch_line batch.guess batch.missed

-- the lines of a lane's calls: those of the replies of each, and behind them that of its guess
abbrev pub calls_lines : List ℕ → List CallLine → List Reply → List Batch → List (List ℕ)
calls_lines pool [] replies batches = []
calls_lines pool (call ∷ calls) replies batches =
    let count = reply_count call (slice_get replies 0) in
    let kept = batch_count call (slice_get replies 0) in
    map (reply_line pool) (take count replies)
    ++ (map guess_line (take kept batches)
    ++ calls_lines pool calls (drop count replies) (drop kept batches))

abbrev pub answered_lines : List CallLine → LaneAnswers → List (List ℕ)
answered_lines calls lane = calls_lines lane.pool calls lane.replies lane.batches

-- those of each lane
abbrev pub lanes_lines : List (List CallLine) → List LaneAnswers → List (List (List ℕ))
lanes_lines [] answers = []
lanes_lines (calls ∷ lanes) [] = []
lanes_lines (calls ∷ lanes) (lane ∷ answers) =
    answered_lines calls lane ∷ lanes_lines lanes answers

-- ---- lanes that add and retire contexts

-- a reply that was given
abbrev pub is_given : Reply → Bool
is_given Blank = false
is_given reply = true

-- The lines of a lane's calls, by the replies that were given. Where an opening of several messages
-- is refused, so many replies are left over, and a guess at the end of all.
abbrev pub given_lines : List CallLine → LaneAnswers → List (List ℕ)
given_lines calls lane =
    answered_lines calls (record lane { replies = filter is_given lane.replies })

-- those of each lane
abbrev pub lanes_given : List (List CallLine) → List LaneAnswers → List (List (List ℕ))
lanes_given [] answers = []
lanes_given (calls ∷ lanes) [] = []
lanes_given (calls ∷ lanes) (lane ∷ answers) = given_lines calls lane ∷ lanes_given lanes answers

-- ---- the whole text

-- the reply that these answers to a plan make up
abbrev pub answers_text : Plan → Answers → List ℕ
answers_text plan answers =
    concat (reply_lines plan.version answers.keys answers.contexts
    (lanes_lines plan.lanes answers.lanes) answers.journals)

-- the reply that these answers to a plan make up, whose notes are the table
abbrev pub live_text : Plan → Answers → List ℕ
live_text plan answers =
    concat (live_lines (line_count plan) answers.keys answers.contexts
    (lanes_given plan.lanes answers.lanes) answers.journals answers.notes)

-- ---- what can be printed

-- the answers have one reply for each key line and each context line, a lane for each lane, a
-- journal for each context, and the spans of their replies name bytes of their lanes' pools
pub record IsAnswered (plan : Plan) (answers : Answers) : Type 0 where
  pub keys : length answers.keys ≡ length plan.keys
  pub contexts : length answers.contexts ≡ length plan.contexts
  pub lanes : length answers.lanes ≡ length plan.lanes
  pub journals : length answers.journals ≡ length plan.contexts
  pub printable : All IsPrintable answers.lanes

-- ---- for the proofs

-- a call has just these replies and guesses, one reply at least
pub record HasReplies (call : CallLine) (replies : List Reply) (batches : List Batch)
    : Type 0 where
  pub some : 0 < length replies
  pub count : length replies ≡ reply_count call (slice_get replies 0)
  pub guesses : length batches ≡ batch_count call (slice_get replies 0)

-- the calls have just these replies and guesses, those of each call behind those of the call before
pub data UsesUp : List CallLine → List Reply → List Batch → Type 0 where
  none : UsesUp [] [] []
  call_and_more : {call : CallLine} {replies : List Reply} {batches : List Batch}
      {calls : List CallLine} {more : List Reply} {guesses : List Batch}
      → HasReplies call replies batches → UsesUp calls more guesses
      → UsesUp (call ∷ calls) (replies ++ more) (batches ++ guesses)
