use Rattle.std.proofs.Common.{length, sym, ap, ◌∙◌, subst, arith}
use Rattle.lane_workers.proofs.Ended.{all_answers}
use Rattle.lane_workers.specs.Served.{LaneIsServed}
use Rattle.lane_workers.specs.Turns.{views}
use Rattle.shared_runs.proofs.Returning.{passes_of_lane, one_collected}
use Rattle.shared_runs.proofs.lanes.TableRunsLanes.take_back.Goals as goal

pub finish-passes-requires : goal.finish-passes-requires
finish-passes-requires c =
    let table = c.args.self.now in
    let done = c.requires.back.3 in
    all_answers table.plan.now table.contexts done.counter c.args.lane.lane c.args.lane done.done

pub put_back-requires : goal.put_back-requires
put_back-requires c =
    let table = c.args.self.now in
    let b = c.requires.back in
    let done = b.3 in
    let r = c.finish-passes.ensures.served table.plan.now table.contexts done.counter done.done in (
      b.1.passes,
      b.1.back,
      (let low = b.2 in let own = ap length c.requires.kept.own in let few = b.1.few in omega arith),
      passes_of_lane table done.counter c.args.lane.lane (length b.1.passes)
          (done.number ∙ sym b.1.few) c.finish-passes.result.0 c.finish-passes.result.1
          c.finish-passes.result.2 r,
    )

pub returns : goal.returns
returns c = λ answers collected low done.
    let table = c.args.self.now in
    let passes = c.finish-passes.result.0 in
    let answer = c.finish-passes.result.2 in
    let r = c.finish-passes.ensures.served table.plan.now table.contexts done.counter done.done in
    one_collected table c.args.left.now c.put_back.new.left answers collected passes answer
    (subst (λ k. LaneIsServed table.plan.now (views table.contexts) k passes answer) done.number
    r.served)
    (c.put_back.ensures collected.passes collected.back
    (let own = ap length c.requires.kept.own in let few = collected.few in omega arith)
    (passes_of_lane table done.counter c.args.lane.lane (length collected.passes)
    (done.number ∙ sym collected.few) passes c.finish-passes.result.1 answer r))
