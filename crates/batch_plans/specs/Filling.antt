-- ---- for the proofs: the answers of a lane as the code holds them
use Rattle.std.specs.Prelude.{◌-◌, ◌≤◌, ◌<◌, ◌^◌, take, vec_len}
use Rattle.std.specs.List.{All}
use Rattle.batch_plans.specs.declared.progress.LaneProgress.TheInside.{Inside}
use Rattle.batch_plans.specs.Replies.{IsInRange}
use Rattle.batch_plans.specs.Progress.{Progress}

abbrev pub progress_of : Inside → Progress
progress_of p =
    record {
      pool = p.pool.items;
      taken = p.taken;
      replies = take p.replied p.replies.items;
      left = vec_len p.replies - p.replied;
      batches = take p.guessed p.batches.items;
      batches_left = vec_len p.batches - p.guessed;
    }

-- what is taken lies within the pool, and the span of each reply within what is taken
pub record IsProgress (p : Inside) : Type 0 where
  pub taken : p.taken ≤ vec_len p.pool
  pub few : vec_len p.pool < 2 ^ 32
  pub replied : p.replied ≤ vec_len p.replies
  pub guessed : p.guessed ≤ vec_len p.batches
  pub range : All (IsInRange p.taken) (take p.replied p.replies.items)
