use Rattle.std.proofs.Common.{length, sym, ◌∙◌, subst, arith}
use Rattle.lane_workers.specs.LiveServed.{LiveLaneIsServed}
use Rattle.lane_workers.specs.Turns.{views}
use Rattle.shared_runs.specs.LiveContexts.{seen_by_lanes}
use Rattle.shared_runs.proofs.LiveHanded.{below, own_lane}
use Rattle.shared_runs.proofs.LiveReturning.{passes_of_lane, one_collected}
use Rattle.shared_runs.proofs.live_lanes.LiveContextsRunsLanes.take_back.Goals as goal

pub finish-work-requires : goal.finish-work-requires
finish-work-requires c =
    let done = c.requires.back.3 in
    (seen_by_lanes c.args.self.now done.counter, done.done)

pub finish-passes-requires : goal.finish-passes-requires
finish-passes-requires c =
    let done = c.requires.back.3 in
    (c.finish-work.ensures (seen_by_lanes c.args.self.now done.counter) done.shared done.done).all

pub put_back-requires : goal.put_back-requires
put_back-requires c =
    let t = c.args.self.now in
    let b = c.requires.back in
    let done = b.3 in
    let r = (c.finish-work.ensures (seen_by_lanes t done.counter) done.shared done.done).returns
    c.finish-passes.result.0 c.finish-passes.result.1 c.finish-passes.result.2
    c.finish-passes.ensures.parts in (
      b.1.passes,
      b.1.back,
      (let low = below t c.requires.kept (length b.0) (own_lane t (length b.0) b.2) in
          let few = b.1.few in omega arith),
      passes_of_lane t done.counter c.args.lane.work.lane (length b.1.passes)
          (done.number ∙ sym b.1.few) c.finish-work.result.1 c.finish-passes.result.0
          c.finish-passes.result.1 c.finish-passes.result.2 r,
    )

pub put-requires : goal.put-requires
put-requires c =
    let b = c.requires.back in
    let there = own_lane c.args.self.now (length b.0) b.2 in
    omega (arith, b.1.names.count, b.1.few, b.1.names.made, there)

pub returns : goal.returns
returns c = λ answers collected low done.
    let t = c.args.self.now in
    let passes = c.finish-passes.result.0 in
    let pass = c.finish-work.result.1 in
    let answer = c.finish-passes.result.2 in
    let r = (c.finish-work.ensures (seen_by_lanes t done.counter) done.shared done.done).returns passes
    c.finish-passes.result.1 answer c.finish-passes.ensures.parts in
    one_collected t c.args.left.now _ answers collected passes pass answer
    (λ replies adds. subst (λ k. LiveLaneIsServed t.shared.plan.now replies (views t.shared.contexts)
    k pass.seen passes answer) done.number (r.served replies adds))
    r.of (r.number ∙ done.number) c.put.ensures.passes c.put.ensures.made
    (c.put_back.ensures collected.passes collected.back
    (let here = below t c.requires.kept (length answers) (own_lane t (length answers) low) in
    let few = collected.few in omega arith)
    (passes_of_lane t done.counter c.args.lane.work.lane (length collected.passes)
    (done.number ∙ sym collected.few) pass passes c.finish-passes.result.1 answer r))
