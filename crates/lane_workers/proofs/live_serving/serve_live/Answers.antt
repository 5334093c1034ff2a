use Rattle.std.proofs.Common.{◌≡◌, List, Option, Some, sym, ap, subst}
use Rattle.shared_context.specs.Calls.{SharedView}
use Rattle.lane_workers.specs.LiveLanes.{lives, AreSharedLive}
use Rattle.lane_workers.specs.LiveReturned.{IsFreshLive, AllServedLive}
use Rattle.lane_workers.proofs.Joined.{Each-weaker}
use Rattle.lane_workers.proofs.live_serving.serve_live.Goals as goal

pub serve_by-requires-clause-may : goal.serve_by-requires-clause-may
serve_by-requires-clause-may g c κs within =
    let v = λ (contexts : List (Option SharedView)).
    lives c.args.plan.now contexts c.args.table.now (Some c.args.counter) in
    let same : v c.args.contexts.now ≡ v c.as_slice.result.now = ap v (sym c.as_slice.ensures.items) in
    Each-weaker (IsFreshLive (v c.args.contexts.now)) _
    (λ l fresh. (
      record { shared = c.type_bounds.sync-R.shared },
      subst AreSharedLive same c.requires.shared,
      subst (λ x. IsFreshLive x l) same fresh,
    )) c.args.lanes.now c.requires.fresh

pub returns : goal.returns
returns g c =
    subst (λ (contexts : List (Option SharedView)). AllServedLive
    (lives c.args.plan.now contexts c.args.table.now (Some c.args.counter)) c.args.lanes.now
    c.serve_by.new.lanes) c.as_slice.ensures.items c.serve_by.ensures
