-- What is written for a call that is served: its replies, and their bytes in room that is taken for
-- them. Sizes are in bytes.
use Rattle.std.specs.Prelude.{ℕ, ◌≡◌, ◌+◌, false, List, ◌++◌, length, take, map, Some}
use Rattle.std.specs.List.{All}
use Rattle.context_books.specs.declared.book.Draw.{Draw}
use Rattle.context_books.specs.declared.book.Draw.TheVariants.{Number, Limit}
use Rattle.batch_plans.specs.declared.replies.Reply.{Reply}
use Rattle.batch_plans.specs.Replies.{IsInRange}
use Rattle.batch_plans.specs.Progress.{Progress}
use Rattle.batch_plans.specs.AnswersText.{reply_line, is_refused}

-- the number that was due at a draw: where all numbers below LIMIT are used it is LIMIT
abbrev pub due_at : ℕ → Draw → ℕ
due_at limit (Number n) = n
due_at limit Limit = limit

-- puts replies with these lines behind those before
pub record PutsReplies (old new : Progress) (size : ℕ) (lines : List (List ℕ)) : Type 0 where
  pub more : List Reply
  pub replies : new.replies ≡ old.replies ++ more
  pub left : new.left + length lines ≡ old.left
  pub lines_are : map (reply_line new.pool) more ≡ lines
  pub served : All (λ reply. is_refused (Some reply) ≡ false) more
  -- their bytes lie in room that is taken behind the room before, which stays as it was
  pub taken : new.taken ≡ old.taken + size
  pub range : All (IsInRange new.taken) more
  pub pool : length new.pool ≡ length old.pool
  pub kept : take old.taken new.pool ≡ take old.taken old.pool
  pub batches : new.batches ≡ old.batches
  pub batches_left : new.batches_left ≡ old.batches_left

-- ---- for the proofs

-- takes room, and writes the bytes of a reply with this line there, which isn't put yet
pub record WritesReply (old new : Progress) (size : ℕ) (reply : Reply) (line : List ℕ)
    : Type 0 where
  pub line_is : reply_line new.pool reply ≡ line
  pub served : is_refused (Some reply) ≡ false
  pub taken : new.taken ≡ old.taken + size
  pub range : IsInRange new.taken reply
  pub pool : length new.pool ≡ length old.pool
  pub kept : take old.taken new.pool ≡ take old.taken old.pool
  pub replies : new.replies ≡ old.replies
  pub left : new.left ≡ old.left
  pub batches : new.batches ≡ old.batches
  pub batches_left : new.batches_left ≡ old.batches_left
