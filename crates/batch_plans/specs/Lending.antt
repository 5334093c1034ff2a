-- What becomes of the answers of a lane whose pool is lent.
use Rattle.std.specs.Prelude.{ℕ, List}
use Rattle.std.specs.Borrow.{MutBor, Fml, Lends, Array, u8}
use Rattle.batch_plans.specs.Progress.{Progress, with_pool}
use Rattle.batch_plans.specs.contracts.progress.LaneProgress.{the_row}

-- they end with the last bytes behind r for their pool
abbrev pub LendsPool : MutBor Progress → MutBor (List ℕ) → Fml
LendsPool s r = Lends the_row (Array u8 0) s r (with_pool s.now)
