-- Replies that open T.
use Rattle.std.proofs.Common.{◌≡◌, ℕ, ◌+◌, ◌<◌, List, length, get_or, sym, subst, ap, ◌∙◌, arith}
use Rattle.std.specs.List.{range_with_len}
use Rattle.std.proofs.lemmas.List.FromFn.{length-range_with_len, get_or-range_with_len}
use Rattle.batch_plans.specs.declared.replies.Reply.{Reply}
use Rattle.batch_plans.specs.declared.replies.Reply.TheVariants.{Blank}
use Rattle.batch_plans.specs.declared.replies.LaneAnswers.{LaneAnswers}
use Rattle.batch_plans.specs.AnswersText.{reply_line}
use Rattle.demo_runs.specs.Steps.{opened_line, IsOpenedLane}
use Rattle.demo_runs.proofs.Puts.{line_at}

pub opened_within : (messages : ℕ) (lane : LaneAnswers) (replies : List Reply) (i : ℕ) → IsOpenedLane messages lane
    → replies ≡ lane.replies → i < messages → i < length replies
opened_within messages lane replies i s same low =
    let at = line_at (reply_line lane.pool) opened_line lane.replies (range_with_len 0 messages) messages i Blank 0 s.lines
    (length-range_with_len 0 messages) low in
    subst (λ (rs : List Reply). i < length rs) (sym same) at.0

pub opened_line_at : (messages : ℕ) (lane : LaneAnswers) (pool : List ℕ) (replies : List Reply) (i : ℕ) → IsOpenedLane messages lane
    → pool ≡ lane.pool → replies ≡ lane.replies → i < messages → reply_line pool (get_or replies i Blank) ≡ opened_line i
opened_line_at messages lane pool replies i s same_pool same_replies low =
    let at = line_at (reply_line lane.pool) opened_line lane.replies (range_with_len 0 messages) messages i Blank 0 s.lines
    (length-range_with_len 0 messages) low in
    (λ j. reply_line (same_pool j) (get_or (same_replies j) i Blank)) ∙ at.1
    ∙ ap opened_line (get_or-range_with_len 0 messages i 0 low ∙ (let e : 0 + i ≡ i = omega arith in e))
