use Rattle.std.proofs.Common.{sym, ap, ◌∙◌, subst}
use Rattle.batch_plans.specs.declared.plan.CallLine.{CallLine}
use Rattle.batch_plans.specs.declared.replies.CallRefusal.TheVariants.{NoContext}
use Rattle.batch_plans.specs.declared.replies.Reply.TheVariants.{Refused}
use Rattle.batch_plans.specs.Progress.{Progress}
use Rattle.lane_workers.specs.LiveLanes.{lives}
use Rattle.lane_workers.specs.Readings.{Reading, MayAnswerAs, IsOneOn}
use Rattle.lane_workers.specs.Turns.{with_progress}
use Rattle.lane_workers.proofs.LiveAnswering.{found_placed, lost_own, may_placed, has_left, answers_itself, answers_placed}
use Rattle.lane_workers.proofs.live_calls.LiveService.call.Goals as goal

pub finds-requires-clause-may : goal.finds-requires-clause-may
finds-requires-clause-may g c κs within = c.requires.may

pub finds-requires-clause-call : goal.finds-requires-clause-call
finds-requires-clause-call g c κs within = c.requires.call

pub reply-requires-after_bounds : goal.reply-requires-after_bounds
reply-requires-after_bounds g c κs within =
    let s = c.args.self.now in
    let v = lives s.service.plan.now s.service.contexts.now s.table.now s.service.counter in
    let lane = c.args.lane.now.work.lane in
    let line = c.args.line.now in
    let l = c.finds.new.lane in
    let may = c.requires.may in
    let t = c.finds.ensures.0.is_at in
    let found = found_placed v.plan t.pass.seen lane c.args.call line c.requires.call
    (c.finds.ensures.1 ∙ c.if-finds.true) in
    subst (λ (placed : CallLine). (r : Reading)
    × MayAnswerAs r v.plan v.contexts v.counter c.args.call placed l.work)
    (sym c.at_position-placed.ensures)
    (may_placed v may.shared lane c.args.call line may.there may.at l t found)

pub refuse-requires : goal.refuse-requires
refuse-requires g c =
    let s = c.args.self.now in
    let v = lives s.service.plan.now s.service.contexts.now s.table.now s.service.counter in
    let may = c.requires.may in
    has_left v may.shared c.args.lane.now.work.lane c.args.call c.args.line.now may.there may.at
    c.finds.new.lane c.finds.ensures.0.is_at

pub returns-then-finds : goal.returns-then-finds
returns-then-finds g c =
    let s = c.args.self.now in
    let v = lives s.service.plan.now s.service.contexts.now s.table.now s.service.counter in
    let lane = c.args.lane.now.work.lane in
    let line = c.args.line.now in
    let l = c.finds.new.lane in
    let may = c.requires.may in
    let t = c.finds.ensures.0.is_at in
    let found = found_placed v.plan t.pass.seen lane c.args.call line c.requires.call
    (c.finds.ensures.1 ∙ c.if-finds.true) in
    let ones = subst (λ (placed : CallLine). (r : Reading)
    → MayAnswerAs r v.plan v.contexts v.counter c.args.call placed l.work
    → IsOneOn r v.contexts v.counter c.args.call placed l.work c.reply.new.work)
    c.at_position-placed.ensures c.reply.ensures in
    let on = answers_placed v may.shared lane c.args.call line may.there may.at l t found
    c.reply.new.work ones in
    record { lane = on.lane_is; is_at = on }

pub returns-else-finds : goal.returns-else-finds
returns-else-finds g c =
    let s = c.args.self.now in
    let v = lives s.service.plan.now s.service.contexts.now s.table.now s.service.counter in
    let lane = c.args.lane.now.work.lane in
    let line = c.args.line.now in
    let l = c.finds.new.lane in
    let may = c.requires.may in
    let t = c.finds.ensures.0.is_at in
    let lost = lost_own v.plan t.pass.seen lane c.args.call line c.requires.call
    (c.finds.ensures.1 ∙ c.if-finds.false) in
    let on = answers_itself v may.shared lane c.args.call line may.there may.at l t
    (Refused NoContext) lost (record l { work = with_progress l.work c.refuse.new.progress })
    (ap (λ (p : Progress). record l { work = with_progress l.work p }) c.refuse.ensures) in
    record { lane = on.lane_is; is_at = on }
