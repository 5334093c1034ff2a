-- What lanes share, as they need it, and lists of lanes.
use Rattle.std.proofs.Common.{◌≡◌, ℕ, List, [], length, map, Option, Some, sym, refl, ap, ◌∙◌, subst, arith, Bor}
use Rattle.std.specs.Prelude.{slice_index}
use Rattle.std.proofs.lemmas.List.{get_or-map, length-map}
use Rattle.call_places.specs.declared.listed.Terms.{Terms}
use Rattle.stamp_counter.specs.Seats.{CounterView}
use Rattle.batch_plans.specs.Names.{at_position, all_live}
use Rattle.context_books.specs.LaneCalls.{lane_calls}
use Rattle.lane_workers.specs.declared.live_lane.LiveLane.{LiveLane}
use Rattle.lane_workers.specs.Lanes.{AreShared}
use Rattle.lane_workers.specs.LiveLanes.{AreSharedLive}
use Rattle.lane_workers.specs.LiveReturned.{IsFreshLive, IsServedLive, AllFreshLive, AllServedLive}
use Rattle.lane_workers.specs.Turns.{views}
use Rattle.shared_runs.specs.Serving.{InOrder}
use Rattle.shared_runs.specs.Tables.{planned}
use Rattle.shared_runs.proofs.Served.{are_shared, each_of, served_count, served_at}
use Rattle.shared_runs.specs.declared.live_contexts.LiveContexts.{LiveContexts}
use Rattle.shared_runs.specs.Noting.{note_quota}
use Rattle.shared_runs.specs.LiveContexts.{AreLive, IsReadyLive, IsDoneLiveLane, seen_by_lanes}
use Rattle.shared_runs.proofs.Noted.{noted_count}

module _ (t : LiveContexts) (live : AreLive t) where
  -- the lanes that share the contexts are those of the case that each name is live
  pub planned_live : planned t.shared ≡ all_live t.shared.plan.now
  planned_live = ap (λ lanes. record t.shared.plan.now { lanes = lanes }) live.lanes

  pub lanes_count : length t.shared.lanes.now ≡ length t.shared.plan.now.lanes
  lanes_count = ap length live.lanes
      ∙ length-map t.shared.plan.now.lanes (map (at_position t.shared.plan.now))

  pub are_shared_live : (stamps : Bor CounterView) → stamps.now.id ≡ t.shared.counter.id
      → AreSharedLive (seen_by_lanes t (Some stamps))
  are_shared_live stamps same =
      let plan = t.shared.plan.now in
      let contexts = views t.shared.contexts in
      let quotas = ap (λ (x : Terms). x.quotas) live.terms in
      record {
        within = live.within;
        named = live.named;
        shared = subst (λ p. AreShared p t.shared.contexts (Some stamps)) planned_live
            (are_shared t.shared stamps live.shared same);
        stands = live.stands;
        names = live.names;
        counted = (stamps, refl, ap (λ (x : Terms). x.counter) live.terms ∙ sym same);
        lanes = ap length quotas ∙ length-map plan.lanes (note_quota plan contexts);
        quotas = λ lane low.
            let here = ap (λ qs. slice_index qs lane) quotas
            ∙ get_or-map (note_quota plan contexts) plan.lanes lane [] 0 low in
            let count = noted_count plan contexts lane 0 (lane_calls plan lane) in
            omega arith;
      }

  pub all_fresh_live : (stamps : Bor CounterView) → stamps.now.id ≡ t.shared.counter.id
      → (n : ℕ) (lanes : List LiveLane) → InOrder (IsReadyLive t) n lanes
      → AllFreshLive (seen_by_lanes t (Some stamps)) lanes
  all_fresh_live stamps same n lanes ready =
      each_of (IsFreshLive (seen_by_lanes t (Some stamps))) lanes
      (λ k l at. (ready.each k l at).fresh stamps same)

-- lanes that were ready and are served are done
pub are_done_live : (t : LiveContexts) (counter : Option (Bor CounterView)) (n : ℕ)
    (olds news : List LiveLane) → AreSharedLive (seen_by_lanes t counter)
    → InOrder (IsReadyLive t) n olds → AllServedLive (seen_by_lanes t counter) olds news
    → InOrder (IsDoneLiveLane t) n news
are_done_live t counter n olds news shared ready served =
    let P = IsServedLive (seen_by_lanes t counter) in
    record {
      count_is = served_count P olds news served ∙ ready.count_is;
      each = λ lane l at.
          let s = served_at P olds news served lane l at in
          record {
            counter = counter;
            shared = shared;
            number = s.2.lane ∙ (ready.each lane s.0 s.1).number;
            done = s.2.done;
          };
    }
