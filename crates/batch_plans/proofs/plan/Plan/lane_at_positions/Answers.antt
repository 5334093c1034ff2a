use Rattle.std.proofs.Common.{sym}
use Rattle.std.proofs.lemmas.List.{map_more}
use Rattle.batch_plans.specs.Names.{at_position}
use Rattle.batch_plans.proofs.plan.Plan.lane_at_positions.Goals as goal

pub calls-preserved : goal.calls-preserved
calls-preserved c =
    rw (c.in_ok-push.ensures.items, c.at_position.ensures, c.calls.invariant)
    (sym (map_more (at_position c.args.self.now) c.args.calls.now c.calls.call-index _ c.calls-test.true))
