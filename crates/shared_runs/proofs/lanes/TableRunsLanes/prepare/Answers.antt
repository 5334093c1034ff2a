use Rattle.std.proofs.Common.{◌+◌, ◌<◌, Some, length, sym, ap, ◌∙◌, subst, arith}
use Rattle.batch_plans.specs.declared.plan.Plan.{Plan}
use Rattle.batch_plans.specs.Room.{lane_room}
use Rattle.context_books.specs.ContextLines.{export_limits}
use Rattle.context_books.specs.LaneCalls.{lane_calls}
use Rattle.lane_workers.specs.Returned.{IsGiven}
use Rattle.lane_workers.specs.Turns.{views}
use Rattle.shared_runs.specs.Tables.{HasGiven, IsReady}
use Rattle.shared_runs.proofs.Handed.{IfOk-both, OnOk-holds, is_given, room_is_small}
use Rattle.shared_runs.proofs.Served.{own_planned}
use Rattle.shared_runs.proofs.lanes.TableRunsLanes.prepare.Goals as goal

pub hand_out-requires : goal.hand_out-requires
hand_out-requires g c = record { given = (c.args.lane, c.requires.given) }

pub prepare-requires-sync-R : goal.prepare-requires-sync-R
prepare-requires-sync-R g c κs within = record { shared = c.requires.sync.shared }

pub prepare-requires-clause-room : goal.prepare-requires-clause-room
prepare-requires-clause-room g c κs within =
    let table = c.args.self.now in
    let lane = c.args.lane in
    let kept = c.requires.kept in
    let low : lane < length table.lanes.now =
    (let own = ap length kept.own in let there = c.requires.lane in omega arith) in
    room_is_small table kept.table lane low c.args.answers
    (c.requires.room ∙ ap (λ (plan : Plan). lane_room plan (export_limits (views table.contexts))
    (lane_calls plan lane)) (sym (own_planned table kept.own)))

pub returns-clause-ready : goal.returns-clause-ready
returns-clause-ready g c =
    let table = c.args.self.now in
    let lane = c.args.lane in
    let kept = c.requires.kept in
    let own = own_planned table kept.own in
    let low : lane < length table.lanes.now =
    (let same = ap length kept.own in let there = c.requires.lane in omega arith) in
    let handed = c.in_ok-passes.ensures.handed lane low c.requires.given in
    let room = c.requires.room
    ∙ ap (λ (plan : Plan). lane_room plan (export_limits (views table.contexts))
    (lane_calls plan lane)) (sym own) in
    IfOk-both c.prepare.result _ _ (IsReady table lane)
    (λ w number fresh. record {
      number = number;
      fresh = λ stamps same. fresh table.contexts (Some stamps)
          (subst (λ plan. IsGiven plan table.contexts (Some stamps) lane c.in_ok-passes.passes
          (Some c.in_ok-passes.seat) c.args.answers) own
          (is_given table kept.table lane low c.in_ok-passes.passes c.in_ok-passes.seat handed
          c.args.answers room stamps same));
    }) c.prepare.ensures.lane c.prepare.ensures.fresh

pub returns-clause-given : goal.returns-clause-given
returns-clause-given g c =
    let table = c.args.self.now in
    let lane = c.args.lane in
    let low : lane < length table.lanes.now =
    (let same = ap length c.requires.kept.own in let there = c.requires.lane in omega arith) in
    OnOk-holds c.prepare.result (HasGiven table (lane + 1) c.hand_out.new.left)
    (c.in_ok-passes.ensures.given lane low c.requires.given)
