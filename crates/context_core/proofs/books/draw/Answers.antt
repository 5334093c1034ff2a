use Rattle.std.proofs.Common.{arith}
use Rattle.context_core.proofs.Adding.{may_add_read}
use Rattle.context_core.proofs.books.draw.Goals as goal

pub draw-drawn-requires-clause-lane : goal.draw-drawn-requires-clause-lane
draw-drawn-requires-clause-lane c =
    (may_add_read c.args.books.now c.args.number c.args.place.lane 1 c.in-Some.book
    c.index_mut.result.now c.requires c.index_mut.ensures.value c.in-Some.is).lane_there

pub draw-drawn-requires-clause-room : goal.draw-drawn-requires-clause-room
draw-drawn-requires-clause-room c =
    let may = may_add_read c.args.books.now c.args.number c.args.place.lane 1 c.in-Some.book
    c.index_mut.result.now c.requires c.index_mut.ensures.value c.in-Some.is in
    omega (arith, may.room)

pub draw-drawn-requires-clause-stamp : goal.draw-drawn-requires-clause-stamp
draw-drawn-requires-clause-stamp c =
    (may_add_read c.args.books.now c.args.number c.args.place.lane 1 c.in-Some.book
    c.index_mut.result.now c.requires c.index_mut.ensures.value c.in-Some.is).stamps
