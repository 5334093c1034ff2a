use Rattle.std.proofs.Common.{List, Option, sym, subst}
use Rattle.turn_lock.specs.Passes.{PassView}
use Rattle.lane_workers.specs.Returned.{IsReturned}
use Rattle.lane_workers.proofs.Ended.{ends}
use Rattle.lane_workers.proofs.works.LaneWork.finish.Goals as goal

pub returns-clause-served : goal.returns-clause-served
returns-clause-served c = λ plan contexts counter done.
    let w = c.args.self in
    let e = c.finish.ensures in
    subst (λ (ps : List (Option PassView)). IsReturned plan contexts counter w.lane ps w.seat
    c.finish.result) (sym c.from_vec.ensures.items)
    (ends plan contexts counter w.lane w done c.finish.result
    (λ i. record { pool = e.pool i; replies = e.replies i; batches = e.batches i }))
