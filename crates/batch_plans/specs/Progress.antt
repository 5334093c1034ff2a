-- How far the answers of a lane have come, as contracts see it. Sizes are in bytes.
use Rattle.std.specs.Prelude.{ℕ, ◌+◌, ◌-◌, List, [], ◌∷◌, ◌++◌, length}
use Rattle.std.specs.List.{refill}
use Rattle.batch_plans.specs.declared.replies.Reply.{Reply}
use Rattle.batch_plans.specs.declared.replies.Batch.{Batch}
use Rattle.batch_plans.specs.declared.replies.LaneAnswers.{LaneAnswers}

-- the lane's pool, how many of its first bytes are taken, the replies and the guesses that were
-- put, and how many of each are still to come
pub record Progress : Type 0 where
  pub pool : List ℕ
  pub taken : ℕ
  pub replies : List Reply
  pub left : ℕ
  pub batches : List Batch
  pub batches_left : ℕ

-- before the first call
abbrev pub begun : LaneAnswers → Progress
begun answers =
    record {
      pool = answers.pool;
      taken = 0;
      replies = [];
      left = length answers.replies;
      batches = [];
      batches_left = length answers.batches;
    }

-- some bytes of the room more
abbrev pub with_room : Progress → ℕ → Progress
with_room p size = record p { taken = p.taken + size }

-- the pool written over
abbrev pub with_pool : Progress → List ℕ → Progress
with_pool p bytes = record p { pool = refill (length p.pool) p.pool bytes }

-- one reply more
abbrev pub with_reply : Progress → Reply → Progress
with_reply p reply = record p { replies = p.replies ++ reply ∷ []; left = p.left - 1 }

-- one guess more
abbrev pub with_batch : Progress → Batch → Progress
with_batch p batch =
    record p { batches = p.batches ++ batch ∷ []; batches_left = p.batches_left - 1 }
