use Rattle.demo_runs.proofs.SecondBatch.{opened_lane, lane_there}
use Rattle.demo_runs.proofs.opening.opened_messages.Goals as goal

pub bounds-as_slice-0 : goal.bounds-as_slice-0
bounds-as_slice-0 c =
    lane_there c.requires.0 c.args.messages c.requires.1 c.args.served c.ends_match.ensures c.requires.2
    c.as_slice.result.now c.as_slice.ensures.items

pub count_opened-opened-requires : goal.count_opened-opened-requires
count_opened-opened-requires c =
    opened_lane c.requires.0 c.args.messages c.requires.1 c.args.served c.ends_match.ensures c.requires.2
    c.index-as_slice-0.result c.as_slice.result.now c.as_slice.ensures.items c.index-as_slice-0.is
