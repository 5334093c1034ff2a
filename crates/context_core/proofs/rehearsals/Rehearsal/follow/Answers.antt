use Rattle.std.proofs.Common.{ℕ, List, take, get_or, sym, subst, arith}
use Rattle.std.proofs.lemmas.List.{take_all}
use Rattle.std.proofs.lemmas.Option.{slice_get-get_or}
use Rattle.context_core.specs.Core.{Core, all_happen}
use Rattle.context_books.specs.Asks.{batch_of, cipher_at}
use Rattle.context_core.specs.Following.{IsRehearsal}
use Rattle.context_core.proofs.Events.{one_more}
use Rattle.context_core.proofs.rehearsals.Rehearsal.follow.Goals as goal

pub event-requires-clause-follows : goal.event-requires-clause-follows
event-requires-clause-follows g c =
    let follows = c.requires.follows in (
      all_happen (batch_of c.args.plan.now c.args.contexts.now) (cipher_at c.args.contexts.now)
          follows.0 (take c.events.number-index c.args.schedule.now),
      c.events.invariant follows.0 follows.1,
    )

pub events-preserved : goal.events-preserved
events-preserved g c = λ w t.
    let plan = c.args.plan.now in
    let contexts = c.args.contexts.now in
    let schedule = c.args.schedule.now in
    let i = c.events.number-index in
    let at = slice_get-get_or schedule i 0 c.events-test.true in
    subst (λ (v : Core). IsRehearsal plan contexts v c.event.new.self.lanes.items c.event.new.self.books)
    (sym (one_more plan contexts w schedule i (get_or schedule i 0) at))
    (c.event.ensures (all_happen (batch_of plan contexts) (cipher_at contexts) w (take i schedule))
    (c.events.invariant w t))

pub returns : goal.returns
returns g c = λ w t.
    let plan = c.args.plan.now in
    let contexts = c.args.contexts.now in
    let schedule = c.args.schedule.now in
    subst (λ (events : List ℕ). IsRehearsal plan contexts
    (all_happen (batch_of plan contexts) (cipher_at contexts) w events)
    c.events.self.lanes.items c.events.self.books)
    (take_all c.events.number-index schedule (omega (arith, c.events-test.false)))
    (c.events.invariant w t)
