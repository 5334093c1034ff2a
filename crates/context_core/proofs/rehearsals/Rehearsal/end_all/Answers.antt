use Rattle.std.proofs.Common.{◌<◌, List, take, length, sym, ap, subst, arith}
use Rattle.std.proofs.lemmas.List.{take_all}
use Rattle.batch_plans.specs.declared.plan.CallLine.{CallLine}
use Rattle.context_core.specs.Core.{Core, all_happen}
use Rattle.context_books.specs.Asks.{batch_of, cipher_at}
use Rattle.context_core.specs.Following.{long_ends, IsRehearsal}
use Rattle.context_core.proofs.Events.{one_lane_more}
use Rattle.context_core.proofs.rehearsals.Rehearsal.end_all.Goals as goal

pub end-requires-clause-follows : goal.end-requires-clause-follows
end-requires-clause-follows g c =
    let plan = c.args.plan.now in
    let follows = c.requires.follows in (
      all_happen (batch_of plan c.args.contexts.now) (cipher_at c.args.contexts.now) follows.0
          (long_ends 0 (take c.lanes.number plan.lanes)),
      c.lanes.invariant follows.0 follows.1,
    )

pub lanes-preserved : goal.lanes-preserved
lanes-preserved g c = λ w t.
    let plan = c.args.plan.now in
    let contexts = c.args.contexts.now in
    let i = c.lanes.number in
    let last = c.end.new.self in
    let low : i < length plan.lanes =
    omega (arith, c.lanes-test.true, ap length c.as_slice-number-end.ensures.items) in
    subst (λ (v : Core). IsRehearsal plan contexts v last.lanes.items last.books)
    (sym (one_lane_more plan contexts w i low))
    (c.end.ensures (all_happen (batch_of plan contexts) (cipher_at contexts) w
    (long_ends 0 (take i plan.lanes))) (c.lanes.invariant w t))

pub returns : goal.returns
returns g c = λ w t.
    let plan = c.args.plan.now in
    let contexts = c.args.contexts.now in
    subst (λ (lanes : List (List CallLine)). IsRehearsal plan contexts
    (all_happen (batch_of plan contexts) (cipher_at contexts) w (long_ends 0 lanes))
    c.lanes.self.lanes.items c.lanes.self.books)
    (take_all c.lanes.number plan.lanes
    (omega (arith, c.lanes-test.false, ap length c.as_slice-number-end.ensures.items)))
    (c.lanes.invariant w t)
