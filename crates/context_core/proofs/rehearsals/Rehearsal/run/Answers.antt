use Rattle.context_core.specs.Core.{start, all_happen}
use Rattle.context_books.specs.Asks.{batch_of, cipher_at}
use Rattle.context_core.proofs.Ended.{last_follows}
use Rattle.context_core.proofs.rehearsals.Rehearsal.run.Goals as goal

pub follow-requires-clause-follows : goal.follow-requires-clause-follows
follow-requires-clause-follows g c =
    (start (batch_of c.args.plan.now c.args.contexts.now), c.requires.begun)

pub end_all-requires-clause-follows : goal.end_all-requires-clause-follows
end_all-requires-clause-follows g c =
    let plan = c.args.plan.now in
    let contexts = c.args.contexts.now in
    let first = start (batch_of plan contexts) in (
      all_happen (batch_of plan contexts) (cipher_at contexts) first c.args.schedule.now,
      c.follow.ensures first c.requires.begun,
    )

pub returns : goal.returns
returns g c =
    let plan = c.args.plan.now in
    let contexts = c.args.contexts.now in
    let first = start (batch_of plan contexts) in
    let last = c.end_all.new.self in
    last_follows plan contexts c.args.schedule.now last.lanes.items last.books
    (c.end_all.ensures
    (all_happen (batch_of plan contexts) (cipher_at contexts) first c.args.schedule.now)
    (c.follow.ensures first c.requires.begun))
