use Rattle.std.proofs.Common.{sym, ◌∙◌, subst}
use Rattle.std.proofs.lemmas.Bool.{le-ltb}
use Rattle.lane_workers.specs.LiveLanes.{lives, standing, IsToldLive}
use Rattle.lane_workers.proofs.LiveCalls.{told_nothing}
use Rattle.lane_workers.proofs.LiveNoting.{name_noted, name_unnoted}
use Rattle.lane_workers.proofs.live_calls.LiveService.finds_live.Goals as goal

pub note-requires-after_bounds : goal.note-requires-after_bounds
note-requires-after_bounds g c κs within =
    let a = c.args.self.now in
    let v = lives a.service.plan.now a.service.contexts.now a.table.now a.service.counter in
    let t = c.requires in (
      t.0,
      t.1,
      t.2 ∙ name_noted v.plan (standing v) c.args.act c.args.name c.if-name-self.true,
    )

pub returns-then-name-self : goal.returns-then-name-self
returns-then-name-self g c = c.note.ensures

pub returns-else-name-self : goal.returns-else-name-self
returns-else-name-self g c =
    let a = c.args.self.now in
    let v = lives a.service.plan.now a.service.contexts.now a.table.now a.service.counter in
    let lane = c.args.lane.now in
    let t = c.requires in
    subst (λ live. IsToldLive v c.args.call live lane lane)
    (sym (le-ltb c.args.name v.plan.added c.if-name-self.false))
    (told_nothing v c.args.call t.0 lane t.1
    (t.2 ∙ name_unnoted v.plan (standing v) c.args.act c.args.name c.if-name-self.false))
