-- For callers, who serve the lanes: what was set up and served is what the next step takes.
use Rattle.std.proofs.Common.{◌≡◌, ℕ, ◌≤◌, List, Option, Some, None, refl, subst}
use Rattle.std.specs.Prelude.{MatchOption}
use Rattle.demo_runs.specs.declared.batches.DemoBatch.{DemoBatch}
use Rattle.demo_runs.specs.declared.batches.ServedBatch.{ServedBatch}
use Rattle.demo_runs.specs.declared.sealing.Sealing.{Sealing}
use Rattle.demo_runs.specs.Batches.{IsServed, IsSealed, IsSealing, HasSealed, IsOpening, HasOpened}

pub has_sealed : (seed messages : ℕ) (found : Option Sealing) (first : Sealing) (served : ServedBatch)
    → found ≡ Some first → MatchOption found (IsSealed seed messages None) (IsSealing seed messages)
    → IsServed first.batch served → HasSealed seed messages served first.room
has_sealed seed messages found first served is may served_is = record {
  sealing = first;
  is = subst (λ f. MatchOption f (IsSealed seed messages None) (IsSealing seed messages)) is may;
  served_is = served_is;
  room_is = refl;
}

pub has_opened : (seed messages : ℕ) (cts : List (List ℕ)) (batch : DemoBatch) (served : ServedBatch)
    → IsOpening seed cts batch → IsServed batch served → IsSealed seed messages (Some cts) → messages ≤ 65536
    → HasOpened seed messages cts served
has_opened seed messages cts batch served is served_is sealed few =
    record { batch = batch; is = is; served_is = served_is; sealed = sealed; few = few }
