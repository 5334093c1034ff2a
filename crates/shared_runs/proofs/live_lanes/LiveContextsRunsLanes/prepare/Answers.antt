use Rattle.std.proofs.Common.{sym, ◌∙◌}
use Rattle.turn_lock.specs.Passes.{fresh_pass}
use Rattle.shared_runs.proofs.Handed.{room_is_small}
use Rattle.shared_runs.proofs.LiveHanded.{name_pass, below, placed_room, is_ready, own_lane}
use Rattle.lane_workers.proofs.Found.{one_of, none_some}
use Rattle.shared_runs.proofs.live_lanes.LiveContextsRunsLanes.prepare.Goals as goal

pub hand_out-requires : goal.hand_out-requires
hand_out-requires g c = record { given = (c.args.lane, c.requires.given.shared) }

pub prepare-requires-sync-R : goal.prepare-requires-sync-R
prepare-requires-sync-R g c κs within = record { shared = c.requires.sync.shared }

pub prepare-requires-clause-there : goal.prepare-requires-clause-there
prepare-requires-clause-there g c κs within = own_lane c.args.self.now c.args.lane c.requires.lane

pub prepare-requires-clause-room : goal.prepare-requires-clause-room
prepare-requires-clause-room g c κs within =
    let t = c.args.self.now in
    let live = c.requires.kept in
    let lane = c.args.lane in
    room_is_small t.shared live.shared lane (below t live lane (own_lane t lane c.requires.lane))
    c.args.answers (placed_room t live lane c.args.answers c.requires.room)

pub unreachable-requires : goal.unreachable-requires
unreachable-requires g c =
    let t = c.args.self.now in
    let lane = c.args.lane in
    let e = c.take.ensures in
    let first = (name_pass t lane (own_lane t lane c.requires.lane) c.args.left.now c.requires.given
    c.take.new.self c.take.result e.none e.taken e.lowest e.made).0 in
    none_some (fresh_pass t.names.lock c.args.lane) (sym c.in_default.is ∙ first)

pub returns-clause-ready : goal.returns-clause-ready
returns-clause-ready g c =
    let t = c.args.self.now in
    let lane = c.args.lane in
    let own = own_lane t lane c.requires.lane in
    let e = c.take.ensures in
    let first = (name_pass t lane own c.args.left.now c.requires.given c.take.new.self c.take.result
    e.none e.taken e.lowest e.made).0 in
    is_ready t c.requires.kept lane own c.in_ok-passes.passes c.in_ok-passes.seat
    (c.in_ok-passes.ensures.handed lane (below t c.requires.kept lane own) c.requires.given.shared)
    c.args.answers c.requires.room
    c.in_ok-work.work c.in_ok-work.ensures.prepared c.in-Some.pass
    (one_of c.in-Some.pass (fresh_pass t.names.lock lane) (sym c.in-Some.is ∙ first))
    c.new.result c.new.ensures.lane c.new.ensures.fresh

pub returns-clause-given : goal.returns-clause-given
returns-clause-given g c =
    let t = c.args.self.now in
    let lane = c.args.lane in
    let own = own_lane t lane c.requires.lane in
    let e = c.take.ensures in
    record {
      shared = c.in_ok-passes.ensures.given lane (below t c.requires.kept lane own)
          c.requires.given.shared;
      names = (name_pass t lane own c.args.left.now c.requires.given c.take.new.self c.take.result
          e.none e.taken e.lowest e.made).1;
    }
