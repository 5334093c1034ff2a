-- ---- for the proofs: contexts that lanes share, with the table of the names that they add and retire.
use Rattle.std.specs.Prelude.{ℕ, ◌≡◌, ◌↔◌, ◌+◌, ◌-◌, ◌<◌, List, length, sum, Option, Some, None, IsSome}
use Rattle.std.specs.List.{All}
use Rattle.std.specs.Borrow.{Bor}
use Rattle.hpke_context.specs.Contexts.{ContextView}
use Rattle.turn_lock.specs.Passes.{fresh_from}
use Rattle.stamp_counter.specs.Seats.{CounterView}
use Rattle.batch_plans.specs.declared.plan.Plan.{Plan}
use Rattle.batch_plans.specs.Within.{IsWithinLimits}
use Rattle.batch_plans.specs.Names.{line_count, all_live}
use Rattle.context_books.specs.Standing.{standing_at}
use Rattle.lane_workers.specs.declared.live_lane.LiveLane.{LiveLane}
use Rattle.lane_workers.specs.LiveLanes.{LiveView, lives, AddsOneOf, AreSharedLive, add_refusal}
use Rattle.lane_workers.specs.LiveReturned.{IsFreshLive, IsDoneLive}
use Rattle.lane_workers.specs.Turns.{views}
use Rattle.shared_runs.specs.Tables.{IsTable, HasStamps, HasGiven}
use Rattle.shared_runs.specs.declared.live_contexts.LiveContexts.{LiveContexts}
use Rattle.shared_runs.specs.declared.live_contexts.LiveLeft.{LiveLeft}
use Rattle.shared_runs.specs.Noting.{note_quotas}

-- an added context stands just where its psk inputs are in order
abbrev pub AddsStand : Plan → List (Option ContextView) → Type 0
AddsStand plan contexts = (name : ℕ) → name < plan.added
    → (add_refusal plan name ≡ None) ↔ IsSome (standing_at contexts (line_count plan + name))

-- The contexts are shared for the case that each one that is named may be called. The table has a name
-- for each that is added and a quota for each lane, the counter a stamp for each note.
pub record AreLive (t : LiveContexts) : Type 0 where
  pub within : IsWithinLimits t.shared.plan.now
  pub named : All (All (AddsOneOf t.shared.plan.now.added)) t.shared.plan.now.lanes
  pub stands : AddsStand t.shared.plan.now (views t.shared.contexts)
  pub lanes : t.shared.lanes.now ≡ (all_live t.shared.plan.now).lanes
  pub shared : IsTable t.shared
  pub stamps : HasStamps (sum (note_quotas t.shared.plan.now (views t.shared.contexts))) t.shared
  pub names : t.names.names ≡ t.shared.plan.now.added
  pub terms : t.names.lock.terms ≡ record {
    limit = 1;
    quotas = note_quotas t.shared.plan.now (views t.shared.contexts);
    counter = t.shared.counter.id;
  }
  pub passes : t.names.passes ≡ length t.shared.plan.now.lanes

-- the lanes before this one have got their passes
pub record HasGivenLive (t : LiveContexts) (lane : ℕ) (l : LiveLeft) : Type 0 where
  pub shared : HasGiven t.shared lane l.shared
  pub names : l.passes ≡ record {
    passes = fresh_from t.names.lock lane (length t.shared.plan.now.lanes - lane);
    made = length t.shared.plan.now.lanes;
  }

-- ---- lanes

abbrev pub seen_by_lanes : LiveContexts → Option (Bor CounterView) → LiveView
seen_by_lanes t counter = lives t.shared.plan.now t.shared.contexts t.names counter

-- the lane of this number before its first call
pub record IsReadyLive (t : LiveContexts) (lane : ℕ) (l : LiveLane) : Type 0 where
  pub number : l.work.lane ≡ lane
  pub fresh : (stamps : Bor CounterView) → stamps.now.id ≡ t.shared.counter.id
      → IsFreshLive (seen_by_lanes t (Some stamps)) l

-- and after its last
pub record IsDoneLiveLane (t : LiveContexts) (lane : ℕ) (l : LiveLane) : Type 0 where
  pub counter : Option (Bor CounterView)
  pub shared : AreSharedLive (seen_by_lanes t counter)
  pub number : l.work.lane ≡ lane
  pub done : IsDoneLive (seen_by_lanes t counter) l
