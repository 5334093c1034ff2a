-- The replies and what is done, by the places of lines.
use Rattle.std.proofs.Common.{◌≡◌, ℕ, zero, suc, List, [], ◌∷◌, take, Some, None, ap}
use Rattle.std.specs.Prelude.{slice_get}
use Rattle.batch_plans.specs.declared.plan.Plan.{Plan}
use Rattle.batch_plans.specs.declared.replies.KeyReply.{KeyReply}
use Rattle.context_table.proofs.Lists.{same_some}
use Rattle.capsule_frames.specs.declared.lines.CapsuleLine.{CapsuleLine}
use Rattle.capsule_frames.specs.Replies.{Done, reply_to, done_with, replies_after}

-- what is done after lines
abbrev pub done_from : Plan → List KeyReply → Done → List CapsuleLine → Done
done_from plan keys d [] = d
done_from plan keys d (line ∷ lines) = done_from plan keys (done_with plan keys d line) lines

pub reply_at : (plan : Plan) (keys : List KeyReply) (lines : List CapsuleLine) (d : Done) (i : ℕ)
    (line : CapsuleLine) → slice_get lines i ≡ Some line
    → slice_get (replies_after plan keys d lines) i
    ≡ Some (reply_to plan keys (done_from plan keys d (take i lines)) line)
reply_at plan keys [] d i line e = absurd (let none : None ≡ Some line = e in cc)
reply_at plan keys (l ∷ lines) d zero line e =
    ap (λ (x : CapsuleLine). Some (reply_to plan keys d x)) (same_some e)
reply_at plan keys (l ∷ lines) d (suc i) line e =
    reply_at plan keys lines (done_with plan keys d l) i line e
