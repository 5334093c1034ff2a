use Rattle.std.proofs.Common.{◌<◌, length, get_or, sym, ◌∙◌, subst, arith}
use Rattle.std.proofs.lemmas.Option.{slice_get_within, slice_get-get_or, get_or_from_slice_get}
use Rattle.context_core.specs.declared.lanes.Lane.{Lane}
use Rattle.context_core.specs.Following.{AllDone, LaneIsAnswered}
use Rattle.context_core.proofs.Events.{read_at}
use Rattle.context_core.proofs.answerers.ByThreadsAnswerer.answer_lanes.Goals as goal

pub for_each_mut-requires-clause-accepts : goal.for_each_mut-requires-clause-accepts
for_each_mut-requires-clause-accepts g c κs within = λ i p low is. (
  c.requires.within,
  c.requires.standing,
  omega (arith, low, c.requires.count),
  (
    c.requires.done.0,
    c.requires.done.1 i p.now (read_at c.args.lanes.now i p.now low is),
  ),
)

pub returns : goal.returns
returns g c = λ w done l lane at.
    let new = c.for_each_mut.new.s in
    let old = c.args.lanes.now in
    let low : l < length old = omega (arith, slice_get_within new l lane at, c.for_each_mut.auto.s) in
    let fact = (c.for_each_mut.ensures l lane low).1 in
    let before : AllDone c.args.plan.now c.args.contexts.now w l fact.argument.now =
    subst (λ (x : Lane). AllDone c.args.plan.now c.args.contexts.now w l x) (sym fact.argument_is)
    (done l (get_or old l lane) (slice_get-get_or old l lane low)) in
    let after : LaneIsAnswered c.args.plan.now c.args.contexts.now w l fact.after_call.now.progress =
    fact.call w before in
    subst (λ (x : Lane). LaneIsAnswered c.args.plan.now c.args.contexts.now w l x.progress)
    (fact.left ∙ get_or_from_slice_get new l lane lane at) after
