use Rattle.std.proofs.Common.{false, Some, ap, sym, ◌∙◌}
use Rattle.batch_plans.specs.declared.plan.CallLine.TheVariants as calls
use Rattle.batch_plans.specs.declared.replies.Reply.TheVariants.{Added, Refused}
use Rattle.lane_workers.specs.LiveLanes.{lives, add_reply}
use Rattle.lane_workers.proofs.LiveCalls.{named_here, told_nothing, told_left, told_itself}
use Rattle.lane_workers.proofs.LiveNoting.{add_noted, add_unnoted}
use Rattle.lane_workers.proofs.live_calls.LiveService.add.Goals as goal

pub psk_refusal-requires-clause-within : goal.psk_refusal-requires-clause-within
psk_refusal-requires-clause-within g c = c.requires.may.shared.within

pub psk_refusal-requires-clause-name : goal.psk_refusal-requires-clause-name
psk_refusal-requires-clause-name g c =
    let a = c.args.self.now in
    named_here (lives a.service.plan.now a.service.contexts.now a.table.now a.service.counter)
    c.args.call c.args.name c.args.lane.now c.requires.may

pub refuse-requires : goal.refuse-requires
refuse-requires g c =
    let a = c.args.self.now in
    let v = lives a.service.plan.now a.service.contexts.now a.table.now a.service.counter in
    let lane = c.args.lane.now in
    let may = c.requires.may in
    let line = calls.Add c.args.name in
    let told = told_nothing v c.args.call line lane may
    (add_unnoted v may.shared c.args.name (named_here v c.args.call c.args.name lane may)
    c.in-Some.refusal (sym c.psk_refusal.ensures ∙ c.in-Some.is)) in
    told_left v c.args.call line lane may false lane told

pub returns-in-Some : goal.returns-in-Some
returns-in-Some g c =
    let a = c.args.self.now in
    let v = lives a.service.plan.now a.service.contexts.now a.table.now a.service.counter in
    let lane = c.args.lane.now in
    let may = c.requires.may in
    let line = calls.Add c.args.name in
    let refused = sym c.psk_refusal.ensures ∙ c.in-Some.is in
    let told = told_nothing v c.args.call line lane may
    (add_unnoted v may.shared c.args.name (named_here v c.args.call c.args.name lane may)
    c.in-Some.refusal refused) in
    told_itself v c.args.call line lane may false lane told (Refused c.in-Some.refusal)
    (ap (λ r. Some (add_reply r)) refused) c.refuse.new.progress c.refuse.ensures

pub note-requires-after_bounds : goal.note-requires-after_bounds
note-requires-after_bounds g c κs within =
    let a = c.args.self.now in
    let v = lives a.service.plan.now a.service.contexts.now a.table.now a.service.counter in
    let lane = c.args.lane.now in
    let may = c.requires.may in (
      calls.Add c.args.name,
      may,
      add_noted v may.shared c.args.name (named_here v c.args.call c.args.name lane may)
          (sym c.psk_refusal.ensures ∙ c.in_default.is),
    )

pub put-requires-clause-left : goal.put-requires-clause-left
put-requires-clause-left g c =
    let a = c.args.self.now in
    let v = lives a.service.plan.now a.service.contexts.now a.table.now a.service.counter in
    let lane = c.args.lane.now in
    let may = c.requires.may in
    told_left v c.args.call (calls.Add c.args.name) lane may c.note.result c.note.new.lane
    c.note.ensures

pub returns : goal.returns
returns g c =
    let a = c.args.self.now in
    let v = lives a.service.plan.now a.service.contexts.now a.table.now a.service.counter in
    let lane = c.args.lane.now in
    let may = c.requires.may in
    told_itself v c.args.call (calls.Add c.args.name) lane may c.note.result c.note.new.lane
    c.note.ensures Added (ap (λ r. Some (add_reply r)) (sym c.psk_refusal.ensures ∙ c.in_default.is))
    c.put.new.self c.put.ensures
