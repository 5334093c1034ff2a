use Rattle.std.proofs.Common.{List, ap, arith}
use Rattle.std.specs.List.{concat}
use Rattle.batch_plans.specs.declared.plan.CallLine.{CallLine}
use Rattle.field_text.proofs.Held.{Puts-same}
use Rattle.batch_plans.specs.ReplyText.{lane_lines}
use Rattle.batch_plans.proofs.Lanes.{IsLane}
use Rattle.reply_frames.specs.LineParts.{lines_by}
use Rattle.reply_frames.proofs.Leaves.{Leaves-whole, Leaves-next, Leaves-nothing}
use Rattle.reply_frames.proofs.LanesLeft.{lanes-next, lanes-end}
use Rattle.reply_frames.proofs.printing.put_lanes.Goals as goal

pub lanes-init : goal.lanes-init
lanes-init g c = Leaves-whole

pub lanes-preserved : goal.lanes-preserved
lanes-preserved g c =
    let given = c.args.given in
    let number = c.lanes.number in
    let calls = c.index-lanes-number.result in
    let lane = c.index-answers-number.result in
    let here : IsLane c.args.lanes.now c.args.answers.now number calls lane = record {
      one_of_lanes = omega arith;
      one_of_answers = omega arith;
      calls_are = c.index-lanes-number.is;
      lane_is = c.index-answers-number.is;
    } in
    let next = lanes-next given c.args.lanes.now c.args.answers.now number calls lane here in
    let lines = λ (calls : List CallLine). concat (lane_lines number (lines_by given calls lane)) in
    Leaves-next next c.lanes.invariant
    (Puts-same (ap lines c.as_slice.ensures.items) c.put_lane.ensures)

pub returns : goal.returns
returns g c =
    let end = lanes-end c.args.given c.args.lanes.now c.args.answers.now c.lanes.number (omega arith) in
    Leaves-nothing end c.lanes.invariant
