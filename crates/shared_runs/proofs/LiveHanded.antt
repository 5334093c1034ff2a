-- A lane that gets its passes.
use Rattle.std.proofs.Common.{◌≡◌, ℕ, suc, ◌+◌, ◌-◌, ◌<◌, ◌≤◌, List, [], length, map, Option, Some, sym, ap, ◌∙◌, subst, arith}
use Rattle.std.specs.Prelude.{◌↔◌, IsNone, IfSome, slice_get, remove, All}
use Rattle.std.proofs.lemmas.List.{length-map}
use Rattle.turn_lock.specs.Passes.{PassView, PassListView, fresh_pass, fresh_from}
use Rattle.stamp_counter.specs.Seats.{SeatView}
use Rattle.batch_plans.specs.declared.plan.Plan.{Plan}
use Rattle.batch_plans.specs.declared.replies.LaneAnswers.{LaneAnswers}
use Rattle.batch_plans.specs.Names.{at_position, all_live}
use Rattle.batch_plans.specs.Room.{lane_room}
use Rattle.context_books.specs.ContextLines.{export_limits}
use Rattle.context_books.specs.LaneCalls.{lane_calls}
use Rattle.lane_workers.specs.declared.works.LaneWork.{LaneWork}
use Rattle.lane_workers.specs.declared.live_lane.LiveLane.{LiveLane}
use Rattle.lane_workers.specs.LiveLanes.{LiveView}
use Rattle.lane_workers.specs.LiveReturned.{IsPrepared, IsGivenLive, IsFreshLive}
use Rattle.lane_workers.specs.Returned.{IsGiven}
use Rattle.lane_workers.specs.Turns.{views}
use Rattle.lane_workers.proofs.Handing.{take_first}
use Rattle.shared_runs.specs.Tables.{planned, IsHanded}
use Rattle.shared_runs.proofs.Handed.{is_given}
use Rattle.shared_runs.specs.declared.live_contexts.LiveContexts.{LiveContexts}
use Rattle.shared_runs.specs.declared.live_contexts.LiveLeft.{LiveLeft}
use Rattle.shared_runs.specs.LiveContexts.{AreLive, HasGivenLive, IsReadyLive, seen_by_lanes}
use Rattle.shared_runs.proofs.LiveShared.{planned_live, lanes_count, are_shared_live}
use Rattle.lane_workers.proofs.Found.{one_of}

-- calls that have the places of their contexts are as many
pub own_lane : (t : LiveContexts) (lane : ℕ) → lane < length (all_live t.shared.plan.now).lanes
    → lane < length t.shared.plan.now.lanes
own_lane t lane low =
    let plan = t.shared.plan.now in
    omega (arith, length-map plan.lanes (map (at_position plan)), low)

module _ (t : LiveContexts) (lane : ℕ) (low : lane < length t.shared.plan.now.lanes)
    (left : LiveLeft) (given : HasGivenLive t lane left) where
  abbrev n : ℕ
  n = length t.shared.plan.now.lanes

  fresh_left : left.passes.passes ≡ fresh_from t.names.lock lane (suc (n - (lane + 1)))
  fresh_left =
      let one_more : n - lane ≡ suc (n - (lane + 1)) = omega arith in
      ap (λ (l : PassListView). l.passes) given.names ∙ ap (fresh_from t.names.lock lane) one_more

  -- the table's lowest pass is the lane's
  pub name_pass : (new : PassListView) (r : Option PassView) → (IsNone r ↔ (left.passes.passes ≡ []))
      → IfSome r (λ p. (i : ℕ) × (slice_get left.passes.passes i ≡ Some p)
      × (new.passes ≡ remove left.passes.passes i))
      → IfSome r (λ p. All (λ (q : PassView). p.number ≤ q.number) left.passes.passes)
      → new.made ≡ left.passes.made
      → (r ≡ Some (fresh_pass t.names.lock lane))
      × (new ≡ record { passes = fresh_from t.names.lock (lane + 1) (n - (lane + 1)); made = n })
  name_pass new r none taken lowest made =
      let first = take_first left.passes new r none taken lowest made t.names.lock lane
      (n - (lane + 1)) fresh_left in (
        first.0,
        one_of new _ first.1
            ∙ ap (λ m. record { passes = fresh_from t.names.lock (lane + 1) (n - (lane + 1)); made = m })
            (ap (λ (l : PassListView). l.made) given.names),
      )

module _ (t : LiveContexts) (live : AreLive t) (lane : ℕ) where
  pub below : lane < length t.shared.plan.now.lanes → lane < length t.shared.lanes.now
  below low = let count = lanes_count t live in omega arith

  pub placed_room : (answers : LaneAnswers)
      → answers ≡ lane_room (all_live t.shared.plan.now) (export_limits (views t.shared.contexts))
      (lane_calls (all_live t.shared.plan.now) lane)
      → answers ≡ lane_room (planned t.shared) (export_limits (views t.shared.contexts))
      (lane_calls (planned t.shared) lane)
  placed_room answers room = room
      ∙ ap (λ (plan : Plan). lane_room plan (export_limits (views t.shared.contexts))
      (lane_calls plan lane)) (sym (planned_live t live))

  -- the lane is ready once it has its room
  pub is_ready : lane < length t.shared.plan.now.lanes → (passes : List (Option PassView))
      (seat : SeatView) → IsHanded t.shared lane passes seat → (answers : LaneAnswers)
      → answers ≡ lane_room (all_live t.shared.plan.now) (export_limits (views t.shared.contexts))
      (lane_calls (all_live t.shared.plan.now) lane)
      → (w : LaneWork) → IsPrepared t.shared.plan.now lane passes (Some seat) answers w
      → (pass : PassView) → pass ≡ fresh_pass t.names.lock lane → (l : LiveLane) → l.work ≡ w
      → ((v : LiveView) → IsGivenLive v w pass → IsFreshLive v l) → IsReadyLive t lane l
  is_ready low passes seat handed answers room w prepared pass pass_is l work fresh = record {
    number = ap (λ (x : LaneWork). x.lane) work ∙ prepared.lane_is;
    fresh = λ stamps same. fresh (seen_by_lanes t (Some stamps)) (record {
      shared = are_shared_live t live stamps same;
      passes = passes;
      seat = Some seat;
      answers = answers;
      prepared = subst (λ k. IsPrepared t.shared.plan.now k passes (Some seat) answers w)
          (sym prepared.lane_is) prepared;
      given = subst (λ k. IsGiven (all_live t.shared.plan.now) t.shared.contexts (Some stamps) k
          passes (Some seat) answers) (sym prepared.lane_is)
          (subst (λ plan. IsGiven plan t.shared.contexts (Some stamps) lane passes (Some seat) answers)
          (planned_live t live)
          (is_given t.shared live.shared lane (below low) passes seat handed answers
          (placed_room answers room) stamps same));
      pass_is = pass_is ∙ ap (fresh_pass t.names.lock) (sym prepared.lane_is);
    });
  }
