-- What a caller is told of the bytes that it lends: whether they are a batch, and whether they reply to one.
use Rattle.std.specs.Prelude.{◌≡◌, ◌<◌, ℕ, List, length}
use Rattle.field_text.specs.declared.reasons.Reason.{Reason}
use Rattle.batch_plans.specs.declared.plan.Plan.{Plan}
use Rattle.batch_plans.specs.ReplyText.{bad_text}
use Rattle.request_frames.specs.Batch.{BadAt, Spells}
use Rattle.context_table.specs.ReplyTo.{IsReply}

-- the text is a batch
unfoldable pub IsBatch : List ℕ → Type 0
IsBatch text = (plan : Plan) × Spells text plan

-- the text is no batch
unfoldable pub IsNoBatch : List ℕ → Type 0
IsNoBatch text = (line : ℕ) × (reason : Reason) × BadAt text line reason

-- the text is no batch, and what is said is its first bad line, with that line's first reason
unfoldable pub TellsBad : List ℕ → List ℕ → Type 0
TellsBad text said = (line : ℕ) × (reason : Reason) × BadAt text line reason
    × (said ≡ bad_text (record { line = line; reason = reason }))

-- the text is no batch, and the line of that has more than so many bytes
unfoldable pub HasLongerLine : List ℕ → ℕ → Type 0
HasLongerLine text room = (line : ℕ) × (reason : Reason) × BadAt text line reason
    × (room < length (bad_text (record { line = line; reason = reason })))

-- the text is a batch, and `run` may give this reply for it
unfoldable pub IsReplyTo : List ℕ → List ℕ → Type 0
IsReplyTo text reply = (plan : Plan) × Spells text plan × IsReply plan reply

-- the text is a batch, and `run` can't give this reply for it
unfoldable pub IsNoReplyTo : List ℕ → List ℕ → Type 0
IsNoReplyTo text reply = (plan : Plan) × Spells text plan × ¬ IsReply plan reply
