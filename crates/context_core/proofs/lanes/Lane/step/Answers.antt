use Rattle.std.proofs.Common.{arith, inl, inr}
use Rattle.std.proofs.lemmas.Option.{slice_get_within}
use Rattle.context_books.specs.LaneCalls.{lane_calls}
use Rattle.context_core.proofs.Served.{done_drawn, done_settled}
use Rattle.context_core.proofs.lanes.Lane.step.Goals as goal

pub finish-requires : goal.finish-requires
finish-requires g c =
    let m = c.requires.may in
    let low = slice_get_within (lane_calls c.args.plan.now c.args.lane) c.args.self.now.call
    c.args.call.now m.call_is in
    omega (arith, low, m.follows.lane_follows.notes)

pub returns-in-Guessed : goal.returns-in-Guessed
returns-in-Guessed g c = c.test.ensures c.args.lane c.args.books.now

pub returns-in-Drawn : goal.returns-in-Drawn
returns-in-Drawn g c = λ w at there t.
    let m = c.requires.may in
    let plan = c.args.plan.now in
    let contexts = c.args.contexts.now in
    let lane = c.args.self.now in
    let books = c.args.books.now in
    let call = c.args.call.now in
    let new = c.finish.new.self in
    elim c.in-Drawn.is [
      | inl e ↦ done_drawn plan contexts m.within m.standing c.args.lane lane books call at there w t
          new e.0 e.1 c.finish.ensures
      | inr e ↦ done_settled plan contexts m.within m.standing c.args.lane lane books call at there
          w t new e.0 e.1 e.2 e.3 e.4 c.finish.ensures
    ]
