use Rattle.std.proofs.Common.{subst}
use Rattle.batch_plans.specs.declared.plan.CallLine.{CallLine}
use Rattle.lane_workers.specs.LiveLanes.{lives, MayAnswerLive}
use Rattle.lane_workers.proofs.live_calls.LiveService.answer.Goals as goal

pub add-requires-clause-may : goal.add-requires-clause-may
add-requires-clause-may g c κs within =
    let s = c.args.self.now in
    let v = lives s.service.plan.now s.service.contexts.now s.table.now s.service.counter in
    subst (λ (line : CallLine). MayAnswerLive v c.args.call line c.args.lane.now) c.in-Add.is
    c.requires.may

pub retire-requires-clause-may : goal.retire-requires-clause-may
retire-requires-clause-may g c κs within =
    let s = c.args.self.now in
    let v = lives s.service.plan.now s.service.contexts.now s.table.now s.service.counter in
    subst (λ (line : CallLine). MayAnswerLive v c.args.call line c.args.lane.now) c.in-Retire.is
    c.requires.may

pub call-requires-clause-may : goal.call-requires-clause-may
call-requires-clause-may g c κs within = c.requires.may
