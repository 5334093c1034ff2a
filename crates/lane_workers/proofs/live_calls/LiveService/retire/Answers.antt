use Rattle.std.proofs.Common.{Some, refl, ap, ◌∙◌}
use Rattle.batch_plans.specs.declared.plan.CallLine.TheVariants as calls
use Rattle.batch_plans.specs.declared.replies.CallRefusal.TheVariants.{NoContext}
use Rattle.batch_plans.specs.declared.replies.Reply.TheVariants.{Retired, Refused}
use Rattle.lane_workers.specs.LiveLanes.{lives, retire_reply}
use Rattle.lane_workers.proofs.LiveCalls.{told_left, told_itself}
use Rattle.lane_workers.proofs.live_calls.LiveService.retire.Goals as goal

pub finds_live-requires-after_bounds : goal.finds_live-requires-after_bounds
finds_live-requires-after_bounds g c κs within = (calls.Retire c.args.name, c.requires.may, refl)

pub put-requires-clause-left : goal.put-requires-clause-left
put-requires-clause-left g c =
    let a = c.args.self.now in
    let v = lives a.service.plan.now a.service.contexts.now a.table.now a.service.counter in
    told_left v c.args.call (calls.Retire c.args.name) c.args.lane.now c.requires.may
    c.finds_live.result c.finds_live.new.lane c.finds_live.ensures

pub refuse-requires : goal.refuse-requires
refuse-requires g c =
    let a = c.args.self.now in
    let v = lives a.service.plan.now a.service.contexts.now a.table.now a.service.counter in
    told_left v c.args.call (calls.Retire c.args.name) c.args.lane.now c.requires.may
    c.finds_live.result c.finds_live.new.lane c.finds_live.ensures

pub returns-then-finds_live : goal.returns-then-finds_live
returns-then-finds_live g c =
    let a = c.args.self.now in
    let v = lives a.service.plan.now a.service.contexts.now a.table.now a.service.counter in
    let told = c.finds_live.ensures in
    told_itself v c.args.call (calls.Retire c.args.name) c.args.lane.now c.requires.may
    c.finds_live.result c.finds_live.new.lane told Retired
    (ap (λ b. Some (retire_reply b)) (told.tells ∙ c.if-finds_live.true)) c.put.new.self
    c.put.ensures

pub returns-else-finds_live : goal.returns-else-finds_live
returns-else-finds_live g c =
    let a = c.args.self.now in
    let v = lives a.service.plan.now a.service.contexts.now a.table.now a.service.counter in
    let told = c.finds_live.ensures in
    told_itself v c.args.call (calls.Retire c.args.name) c.args.lane.now c.requires.may
    c.finds_live.result c.finds_live.new.lane told (Refused NoContext)
    (ap (λ b. Some (retire_reply b)) (told.tells ∙ c.if-finds_live.false)) c.refuse.new.progress
    c.refuse.ensures
