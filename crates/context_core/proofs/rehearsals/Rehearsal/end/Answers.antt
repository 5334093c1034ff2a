use Rattle.std.proofs.Common.{◌≡◌, ◌*◌, length, ap, sym, subst, arith}
use Rattle.std.specs.Prelude.{replicate}
use Rattle.context_core.specs.Core.{Core, all_happen}
use Rattle.context_books.specs.LaneCalls.{lane_calls}
use Rattle.context_books.specs.Asks.{batch_of, cipher_at}
use Rattle.context_core.specs.Following.{IsRehearsal}
use Rattle.context_core.proofs.Events.{four_more}
use Rattle.context_core.proofs.rehearsals.Rehearsal.end.Goals as goal

pub follow-requires-clause-follows : goal.follow-requires-clause-follows
follow-requires-clause-follows g c =
    let batch = batch_of c.args.plan.now c.args.contexts.now in
    let w = c.requires.follows.0 in (
      all_happen batch (cipher_at c.args.contexts.now) w
          (replicate (4 * c.calls._call) c.args.number),
      c.calls.invariant w c.requires.follows.1,
    )

pub calls-preserved : goal.calls-preserved
calls-preserved g c = λ w t.
    let plan = c.args.plan.now in
    let contexts = c.args.contexts.now in
    let i = c.calls._call in
    let n = c.args.number in
    let w0 = all_happen (batch_of plan contexts) (cipher_at contexts) w (replicate (4 * i) n) in
    let last = c.follow.new.self in
    subst (λ (v : Core). IsRehearsal plan contexts v last.lanes.items last.books)
    (sym (four_more plan contexts w i n)) (c.follow.ensures w0 (c.calls.invariant w t))

pub returns : goal.returns
returns g c = λ w t.
    let plan = c.args.plan.now in
    let contexts = c.args.contexts.now in
    let n = c.args.number in
    let size = ap length c.calls_of-calls.ensures in
    let all : c.calls._call ≡ length (lane_calls plan n) = omega (arith, size) in
    subst (λ i. IsRehearsal plan contexts
    (all_happen (batch_of plan contexts) (cipher_at contexts) w (replicate (4 * i) n))
    c.calls.self.lanes.items c.calls.self.books) all (c.calls.invariant w t)
