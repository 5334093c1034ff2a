use Rattle.std.proofs.Common.{All, length, sym, ap, ◌∙◌, subst, arith}
use Rattle.std.proofs.lemmas.List.Elements.{All-push}
use Rattle.stamp_counter.specs.Seats.{SeatView}
use Rattle.stamp_counter.specs.Stamps.{IsNote}
use Rattle.serving_tests.specs.Passes.{MayDraw}
use Rattle.serving_tests.proofs.Passes.{All-removed, All-at, length-removed}
use Rattle.serving_tests.proofs.shared_context_tests.hand_out.Goals as goal

pub loop-pass-preserved : goal.loop-pass-preserved
loop-pass-preserved c =
    let i = c.loop-pass.invariant in
    let t = c.in-Some.ensures.taken in
    let lock = c.args.context.now.lock in
    let id = c.args.counter.now.id in
    let noted = c.note.ensures.noted in
    let left = ap length t.2 in
    let one = length-removed c.loop-pass.passes.passes t.0 c.in-Some.pass t.1 in
    let counter = i.seat.counter_is in
    record {
      waiting = subst (All (MayDraw lock 0 1000)) (sym t.2) (All-removed (MayDraw lock 0 1000) c.loop-pass.passes.passes t.0 i.waiting);
      ready = subst (All (λ m. MayDraw lock 0 1000 m.0 × IsNote id m.1)) (sym c.in_ok-push.ensures.items)
          (All-push (λ m. MayDraw lock 0 1000 m.0 × IsNote id m.1) c.loop-pass.lanes.items (c.in-Some.pass, c.note.result) i.ready (
            All-at (MayDraw lock 0 1000) c.loop-pass.passes.passes t.0 c.in-Some.pass i.waiting t.1,
            record { counter_is = ap (λ (s : SeatView). s.counter) noted; drawn = ap (λ (s : SeatView). s.drawn) noted; left = ap (λ (s : SeatView). s.left) noted },
          ));
      count = omega (arith, c.in_ok-push.ensures.len, i.count, left, one);
      made = c.in-Some.ensures.made ∙ i.made;
      seat = subst (IsNote id) (sym c.note.ensures.seat) i.seat;
    }
