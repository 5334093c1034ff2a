use Rattle.lane_workers.proofs.LiveEnded.{returns as ended}
use Rattle.lane_workers.proofs.live_lane.LiveLane.finish.Goals as goal

pub returns : goal.returns
returns c = λ v shared done.
    let l = c.args.self in
    rw done.holds (ended v shared l done c.put_blanks.new.progress c.put_blanks.ensures)
