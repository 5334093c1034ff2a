use Rattle.std.proofs.Common.{◌||◌, ◌<◌, ◌≤◌, ◌-◌, ap, sym, ◌∙◌, arith}
use Rattle.std.proofs.lemmas.Bool.{lt-ltb, le-ltb}
use Rattle.call_places.specs.declared.entries.Act.TheVariants as acts
use Rattle.context_books.specs.Batches.{place}
use Rattle.batch_plans.specs.Calls.{context_of}
use Rattle.batch_plans.specs.Limits.{first_name}
use Rattle.context_books.specs.Live.{noting_of, was_live}
use Rattle.lane_workers.specs.LiveLanes.{lives, standing}
use Rattle.lane_workers.proofs.LiveCalls.{told_nothing}
use Rattle.lane_workers.proofs.LiveNoting.{line_unnoted, name_noting}
use Rattle.lane_workers.proofs.live_calls.LiveService.finds.Goals as goal

pub returns-then-number-lt-FIRST_NAME : goal.returns-then-number-lt-FIRST_NAME
returns-then-number-lt-FIRST_NAME g c =
    let a = c.args.self.now in
    let v = lives a.service.plan.now a.service.contexts.now a.table.now a.service.counter in
    let lane = c.args.lane.now in
    let may = c.requires.may in
    let line = c.args.line.now in
    let low : context_of line < first_name = omega arith in
    let told = told_nothing v c.args.call line lane may
    (line_unnoted v.plan (standing v) line c.requires.call low) in (
      told.noted,
      ap (λ b. b || was_live told.noted.is_at.pass.seen (place lane.work.lane c.args.call 0))
          (lt-ltb (context_of line) first_name low),
    )

pub finds_live-requires-after_bounds : goal.finds_live-requires-after_bounds
finds_live-requires-after_bounds g c κs within =
    let a = c.args.self.now in
    let v = lives a.service.plan.now a.service.contexts.now a.table.now a.service.counter in
    let line = c.args.line.now in
    let high : first_name ≤ context_of line = omega arith in (
      line,
      c.requires.may,
      name_noting v.plan (standing v) line c.requires.call high
          ∙ ap (λ n. noting_of v.plan acts.Look (n - first_name)) (sym c.context_of-number.ensures),
    )

pub returns : goal.returns
returns g c =
    let line = c.args.line.now in
    let high : first_name ≤ context_of line = omega arith in
    let told = c.finds_live.ensures in (
      told.noted,
      ap (λ b. b || was_live told.noted.is_at.pass.seen (place c.args.lane.now.work.lane c.args.call 0))
          (le-ltb (context_of line) first_name high) ∙ told.tells,
    )
