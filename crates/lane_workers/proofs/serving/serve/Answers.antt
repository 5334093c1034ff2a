use Rattle.std.proofs.Common.{List, Option, sym, subst}
use Rattle.shared_context.specs.Calls.{SharedView}
use Rattle.lane_workers.specs.Groups.{IsFresh, AllServed}
use Rattle.lane_workers.specs.Lanes.{AreShared}
use Rattle.lane_workers.proofs.Joined.{Each-weaker}
use Rattle.lane_workers.proofs.serving.serve.Goals as goal

pub serve_by-requires-clause-may : goal.serve_by-requires-clause-may
serve_by-requires-clause-may g c κs within =
    let plan = c.args.plan.now in
    let counter = c.args.counter in
    let same = sym c.as_slice.ensures.items in
    Each-weaker (IsFresh plan c.args.contexts.now counter) _
    (λ w fresh. (
      record { shared = c.type_bounds.sync-R.shared },
      subst (λ (contexts : List (Option SharedView)). AreShared plan contexts counter) same
          c.requires.shared,
      subst (λ (contexts : List (Option SharedView)). IsFresh plan contexts counter w) same fresh,
    )) c.args.lanes.now c.requires.fresh

pub returns : goal.returns
returns g c =
    subst (λ (contexts : List (Option SharedView)). AllServed c.args.plan.now contexts c.args.counter
    c.args.lanes.now c.serve_by.new.lanes) c.as_slice.ensures.items c.serve_by.ensures
